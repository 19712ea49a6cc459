-- `failure_maximum_stress::smallest` answers `smallest_of s`.
use Rattle.std.proofs.Common.{rules}
use lib.Ieee.{nan}
use Rattle.tensor.proofs.Axes.{of_one}
use Rattle.failure_maximum_stress.specs.Failure.{smallest_of}
use Rattle.failure_maximum_stress.proofs.smallest.Goals as goal

pub returns : goal.returns
returns c =
    simp (c.min-2.ensures, c.min.ensures)
    (of_one smallest_of nan c.args.s (search rules))
