-- `decomposed::number::mat_number` answers `mat_number m`.
use Rattle.decomposed.specs.Number.{mat_number}
use Rattle.std.proofs.Common.{rules}
use mathlib.Core.List.{[]}
use Rattle.tensor.proofs.Axes.{of_one}
use Rattle.decomposed.proofs.number.mat_number.Goals as goal

pub returns : goal.returns
unfolding mat_number
returns c =
    simp (c.row_number-3.ensures, c.row_number-2.ensures, c.row_number.ensures)
    (of_one mat_number [] c.args.m (search rules))
