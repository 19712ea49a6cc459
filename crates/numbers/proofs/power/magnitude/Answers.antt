-- `numbers::power::magnitude` answers `magnitude_of g`.
use Rattle.std.proofs.Common.{arith, le-ltb, lt-ltb}
use Rattle.numbers.proofs.power.magnitude.Goals as goal

pub returns-then-g-lt2147483648 : goal.returns-then-g-lt2147483648
returns-then-g-lt2147483648 c = simp (lt-ltb _ _ c.if-g-lt2147483648.true)

pub returns-else-g-lt2147483648 : goal.returns-else-g-lt2147483648
returns-else-g-lt2147483648 c = simp (le-ltb _ _ c.if-g-lt2147483648.false) (omega arith)
