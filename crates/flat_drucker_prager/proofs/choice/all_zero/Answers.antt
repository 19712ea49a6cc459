-- `flat_drucker_prager::choice::all_zero` answers `holds (zeros d)`.
use Rattle.std.proofs.Common.{rules}
use lib.Ieee.{nan}
use Rattle.flat.proofs.Axes.{of_one}
use Rattle.walk.specs.Walk.{holds, zeros}
use Rattle.flat_drucker_prager.proofs.choice.all_zero.Goals as goal

pub returns : goal.returns
returns c =
    of_one (λ d. holds (zeros d)) nan c.args.d (search rules)
