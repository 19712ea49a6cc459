-- `tensor::number::row_number` answers `row_number a`.
use Rattle.std.proofs.Common.{rules}
use lib.Ieee.{nan}
use Rattle.tensor.proofs.Axes.{of_one}
use Rattle.tensor.specs.Number.{row_number}
use Rattle.tensor.proofs.number.row_number.Goals as goal

pub returns : goal.returns
returns c =
    simp (c.is_number-3.ensures, c.is_number-2.ensures, c.is_number.ensures)
    (of_one row_number nan c.args.a (search rules))
