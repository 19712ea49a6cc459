-- Our logarithm of our exponential (RULES, section 3): from the two distances alone, the argument comes back within 2^-43.
use Rattle.std.specs.Prelude.{◌≡◌, true, ◌*◌, ◌^◌, ◌≤◌, T, ◌-ℤ◌, Float}
use Rattle.std.specs.Float.{binary64}
use Rattle.std.specs.Float.Ieee.{fits}
use Rattle.exact.specs.Units.{L, mag, Fin64}
use Rattle.exact.specs.Integers.{abs}
use Rattle.exact.specs.Value.{val}
use Rattle.series.specs.ExpNear.{ExpNear}
use Rattle.series.specs.LogNear.{LogNear}
use Rattle.answers.specs.Range.{in_range}
use Rattle.exponential.specs.Worked as exponential
use Rattle.logarithm.specs.Worked as logarithm

-- v is finite and lies within 2 ^ -43 of e, in units of 2 ^ -1074
pub record Back (e v : Float) : Type 0 where
  pub fine : Fin64 v
  pub near : abs (val v -ℤ val e) * 2 ^ 43 ≤ L

-- whatever answers keep section 3's distances
abbrev pub Returns : Type 0
Returns = (e r v : Float) → ExpNear e r → LogNear r v → Back e v

-- ours, wherever exp takes e and ln takes what it answers
abbrev pub ReturnsOurs : Type 0
ReturnsOurs = (e : Float) → T (fits binary64 e) → in_range exponential.low exponential.high e ≡ true
    → in_range logarithm.low logarithm.high (exponential.exp_of e) ≡ true
    → Back e (logarithm.ln_of (exponential.exp_of e))

-- and both do for every e in -40 to 40
pub record InBoth (e : Float) : Type 0 where
  pub by_exp : in_range exponential.low exponential.high e ≡ true
  pub by_ln : in_range logarithm.low logarithm.high (exponential.exp_of e) ≡ true

pub record RoundTrip : Type 0 where
  pub returns : Returns
  pub ours : ReturnsOurs
  pub in_both : (e : Float) → Fin64 e → mag e ≤ 40 * L → InBoth e
