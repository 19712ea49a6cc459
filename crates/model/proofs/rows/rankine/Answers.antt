-- `model::rows::rankine` meets its contract: each place as it is read. Made by tools/table from calls.toml: edit that, not this file.
use Rattle.model.proofs.rows.rankine.Goals as goal

pub returns : goal.returns
returns c = simp (c.float-4.ensures, c.float-3.ensures, c.float-2.ensures, c.float.ensures)
