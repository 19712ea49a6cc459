-- `numbers::power::powi` answers `powi_of b g`.
use Rattle.std.proofs.Common.{◌^◌, ◌<◌, arith, le-ltb, lt-ltb}
use Rattle.numbers.specs.Power.{powi_of}
use Rattle.numbers.proofs.power.powi.Goals as goal

pub returns-then-g-lt2147483648 : goal.returns-then-g-lt2147483648
unfolding powi_of
returns-then-g-lt2147483648 c =
    let m = c.magnitude in
    let b : m.result < 2 ^ 32 = omega arith in
    simp (c.power-r.ensures 32 b, m.ensures, lt-ltb _ _ c.if-g-lt2147483648.true)

pub returns-else-g-lt2147483648 : goal.returns-else-g-lt2147483648
unfolding powi_of
returns-else-g-lt2147483648 c =
    let m = c.magnitude in
    let b : m.result < 2 ^ 32 = omega arith in
    simp (c.power-r.ensures 32 b, m.ensures, le-ltb _ _ c.if-g-lt2147483648.false)
