-- `flat::matrix::row_finite` answers `row_finite a`.
use Rattle.std.proofs.Common.{rules}
use lib.Ieee.{nan}
use Rattle.flat.proofs.Axes.{of_one}
use Rattle.tensor.specs.Finite.{row_finite}
use Rattle.flat.proofs.matrix.row_finite.Goals as goal

pub returns : goal.returns
returns c =
    simp (c.is_finite-2.ensures, c.is_finite.ensures)
    (of_one row_finite nan c.args.a (search rules))
