-- `flat::matrix::recompose` answers `recompose_over 2 u sigma vt`.
use Rattle.std.proofs.Common.{rules}
use mathlib.Core.List.{[]}
use Rattle.walk.specs.Axes.{recompose_over}
use Rattle.flat.proofs.Axes.{of_two}
use Rattle.flat.proofs.matrix.recompose.Goals as goal

pub returns : goal.returns
returns c =
    let a = c.args in
    simp (c.dot-4.ensures, c.dot-3.ensures, c.dot-2.ensures, c.dot.ensures, c.scaled_row-b.ensures, c.scaled_row-a.ensures)
    (of_two (λ u vt. recompose_over 2 u a.sigma vt) [] [] a.u a.vt (search rules) (search rules))
