-- `flat::matrix::mat_finite` answers `mat_finite m`.
use Rattle.std.proofs.Common.{rules}
use mathlib.Core.List.{[]}
use Rattle.flat.proofs.Axes.{of_one}
use Rattle.tensor.specs.Finite.{mat_finite}
use Rattle.flat.proofs.matrix.mat_finite.Goals as goal

pub returns : goal.returns
returns c =
    simp (c.row_finite-2.ensures, c.row_finite.ensures)
    (of_one mat_finite [] c.args.m (search rules))
