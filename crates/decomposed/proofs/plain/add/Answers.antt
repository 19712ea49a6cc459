-- `decomposed::plain::add` answers `sum_of a b`.
use Rattle.decomposed.specs.Decomposed.{sum_of}
use Rattle.decomposed.proofs.plain.add.Goals as goal

pub returns : goal.returns
unfolding sum_of
returns c =
    simp (c.to_rows-d.ensures, c.mat_add.ensures, c.of_rows-2.ensures, c.of_rows.ensures)
