-- `decomposed::plain::recompose` answers `recomposed_of t`.
use Rattle.decomposed.specs.Decomposed.{recomposed_of}
use Rattle.decomposed.proofs.plain.recompose.Goals as goal

pub returns : goal.returns
unfolding recomposed_of
returns c =
    simp (c.mat_add.ensures, c.identity_times.ensures, c.of_rows.ensures)
