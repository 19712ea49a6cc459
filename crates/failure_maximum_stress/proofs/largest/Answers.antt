-- `failure_maximum_stress::largest` answers `largest_of s`.
use Rattle.std.proofs.Common.{rules}
use lib.Ieee.{nan}
use Rattle.tensor.proofs.Axes.{of_one}
use Rattle.failure_maximum_stress.specs.Failure.{largest_of}
use Rattle.failure_maximum_stress.proofs.largest.Goals as goal

pub returns : goal.returns
returns c =
    simp (c.max-2.ensures, c.max.ensures)
    (of_one largest_of nan c.args.s (search rules))
