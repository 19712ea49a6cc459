-- `decomposed::plain::times` answers `times_of t v`.
use Rattle.decomposed.specs.Decomposed.{times_of}
use Rattle.decomposed.proofs.plain.times.Goals as goal

pub returns : goal.returns
unfolding times_of
returns c =
    simp (c.row_add.ensures, c.row_scale.ensures, c.mat_vec-d.ensures, c.of_rows.ensures)
