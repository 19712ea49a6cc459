-- `model::rows::ready_nacc` meets its contract: by the moduli. Made by tools/table from calls.toml: edit that, not this file.
use Rattle.model.proofs.rows.ready_nacc.Goals as goal

pub returns : goal.returns
returns c = simp (c.ready_if.ensures, c.moduli_finite.ensures)
