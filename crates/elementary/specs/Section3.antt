-- RULES, section 3, whole: a row a function. Each call, made by itself, answers its value for every f64 of its range, ends included,
-- as near to the exact value as the table says, and a value for no other number; it refuses a number below the range by 2, above it by 10,
-- and nothing else by these (section 6). The distances are those of `series` and `exact`.
use Rattle.std.specs.Prelude.{◌≡◌, ◌↔◌, true, ◌*◌, ◌-◌, ◌^◌, T, ℤ, pos, neg_ℤ, Float}
use Rattle.std.specs.Float.Ieee as Ieee
use Rattle.std.specs.Float.{binary64}
use Rattle.std.specs.Float.Ieee.{of_bits, fits}
use Rattle.exact.specs.Value.{val}
use Rattle.exact.specs.RootOf.{Rooted, sqrt_of}
use Rattle.series.specs.ExpNear.{ExpNear}
use Rattle.series.specs.SinhNear.{SinhNear}
use Rattle.series.specs.LogNear.{LogNear}
use Rattle.series.specs.SinNear.{SinNear}
use Rattle.series.specs.ThirdsNear.{CbrtNear, CbrtSquaredNear, InvCbrtNear, InvCbrtSquaredNear}
use Rattle.numbers.specs.Constants.{zero, one}
use Rattle.numbers.specs.Floats.{finite}
use Rattle.answers.specs.Refusals.{below_range, above_range}
use Rattle.answers.specs.Range.{in_range, ranged, bare}
use Rattle.answers.specs.declared.Answer.{Answer}
use Rattle.answers.specs.declared.Answer.TheVariants.{Value, Refused}
use Rattle.exponential.specs.Exp.{exp_ranged}
use Rattle.exponential.specs.Sinh.{sinh_of, sinh_ranged}
use Rattle.exponential.specs.Worked as exponential
use Rattle.logarithm.specs.Ln.{ln_ranged}
use Rattle.logarithm.specs.Worked as logarithm
use Rattle.sine.specs.Sine as sine
use Rattle.square_root.specs.Sqrt as square_root_lem
use Rattle.thirds.specs.Thirds as thirds

-- the range's ends in units of 2^-1074, and the promise between them
pub record Promised (call : Float → Answer) (value : Float → Float) (low high : Float) (least greatest : ℤ) (Near : Float → Float → Type 0) : Type 0 where
  pub from : val low ≡ least
  pub to : val high ≡ greatest
  pub inside : (x : Float) → T (fits binary64 x) → in_range low high x ≡ true → (call x ≡ Value (value x)) × Near x (value x)
  pub only : (x v : Float) → call x ≡ Value v → in_range low high x ≡ true
  pub below : (x : Float) → (call x ≡ Refused below_range) ↔ ((finite x ≡ true) × (Ieee.lt x low ≡ true))
  pub above : (x : Float) → (call x ≡ Refused above_range) ↔ ((finite x ≡ true) × (Ieee.lt high x ≡ true))

-- 2^-60 and 2^60
abbrev 2^-60 : ℤ
2^-60 = pos (2 ^ 1014)

abbrev 2^60 : ℤ
2^60 = pos (2 ^ 1134)

-- -0.0
abbrev minus_zero : Float
minus_zero = of_bits binary64 0x8000_0000_0000_0000

pub record Section3 : Type 0 where
  -- finite, at least 0; correctly rounded
  pub root : Promised (λ x. bare x (square_root_lem.sqrt_ranged x)) sqrt_of square_root_lem.least square_root_lem.largest (pos 0) (pos ((2 ^ 53 - 1) * 2 ^ 2045)) Rooted
  pub ln : Promised (λ x. bare x (ln_ranged x)) logarithm.ln_of logarithm.low logarithm.high 2^-60 2^60 LogNear
  pub ln_one : logarithm.ln_of one ≡ zero
  pub exp : Promised (λ x. bare x (exp_ranged x)) exponential.exp_of exponential.low exponential.high (neg_ℤ (pos (700 * 2 ^ 1074))) (pos (700 * 2 ^ 1074)) ExpNear
  pub exp_zero : exponential.exp_of zero ≡ one
  pub exp_minus_zero : exponential.exp_of minus_zero ≡ one
  pub sinh : Promised (λ x. bare x (sinh_ranged x)) sinh_of exponential.low exponential.high (neg_ℤ (pos (700 * 2 ^ 1074))) (pos (700 * 2 ^ 1074)) SinhNear
  pub sinh_zero : sinh_of zero ≡ zero
  pub sinh_minus_zero : sinh_of minus_zero ≡ minus_zero
  pub sin : Promised (λ x. bare x (sine.sin_ranged x)) sine.sin_of sine.low sine.high (neg_ℤ (pos (8 * 2 ^ 1074))) (pos (8 * 2 ^ 1074)) SinNear
  pub third : Promised (λ x. bare x (thirds.cbrt_ranged x)) thirds.cbrt_of thirds.low thirds.high 2^-60 2^60 CbrtNear
  pub two_thirds : Promised (λ x. bare x (thirds.cbrt_squared_ranged x)) thirds.cbrt_squared_of thirds.low thirds.high 2^-60 2^60 CbrtSquaredNear
  pub minus_third : Promised (λ x. bare x (thirds.inv_cbrt_ranged x)) thirds.inv_cbrt_of thirds.low thirds.high 2^-60 2^60 InvCbrtNear
  pub minus_two_thirds : Promised (λ x. bare x (thirds.inv_cbrt_squared_ranged x)) thirds.inv_cbrt_squared_of thirds.low thirds.high 2^-60 2^60 InvCbrtSquaredNear
  pub third_one : thirds.cbrt_of one ≡ one
  pub two_thirds_one : thirds.cbrt_squared_of one ≡ one
  pub minus_third_one : thirds.inv_cbrt_of one ≡ one
  pub minus_two_thirds_one : thirds.inv_cbrt_squared_of one ≡ one
