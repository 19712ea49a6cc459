-- `plasticity_drucker_prager::choice::all_numbers` answers `all_of is_number v`.
use Rattle.std.proofs.Common.{rules}
use lib.Ieee.{nan}
use Rattle.tensor.proofs.Axes.{of_one}
use mathlib.Core.Path.{◌∙◌}
use Rattle.numbers.specs.Floats.{is_number}
use Rattle.tensor.specs.Axes.{all_of}
use Rattle.plasticity_drucker_prager.proofs.choice.all_numbers.Goals as goal

pub returns : goal.returns
returns c =
    (simp (c.is_number-3.ensures, c.is_number-2.ensures, c.is_number.ensures)) ∙ of_one (all_of is_number) nan c.args.v (search rules)
