-- `model::rows::snow` meets its contract: each place as it is read. Made by tools/table from calls.toml: edit that, not this file.
use Rattle.model.proofs.rows.snow.Goals as goal

pub returns : goal.returns
returns c = simp (c.float-3.ensures, c.float-2.ensures, c.float.ensures)
