-- the product and the quotient of two finite binary64 values, with their errors
use mathlib.Core.Path.{◌≡◌}
use Prim.Native.Nat.{ℕ, ◌+◌, ◌*◌, ◌^◌, ◌≤◌, ◌<◌}
use native.Mathlib.Nat.{mul-pos, le_of_mul-le-mul_right}
use native.Mathlib.Omega.{arith}
use mathlib.Core.Bool.{Bool, true, false}
use lib.Ieee.{Float, binary64, unlike, round, mul, div}
use lib.Ieee.Fits.{round-fits}
use Rattle.exact.specs.Rounding.{Near}
use Rattle.exact.proofs.Rounding.{grid_err, grid_under}
use Rattle.exact.specs.Units.{L, mag, sgn, Fin64}
use Rattle.exact.proofs.Units.{L_pos, round_mag, mul_units, div_units}
use Rattle.exact.specs.Sums.{pl, mi}
use Rattle.exact.proofs.Sums.{plus, minus}

-- z is a / c of the unit 1 / L, rounded
pub record Frac64 (s : Bool) (a c : ℕ) (z : Float) : Type 0 where
  pub fine : Fin64 z
  pub sign : sgn z ≡ s
  pub near : Near (mag z * c * 2 ^ 53) (a * L * 2 ^ 53) (a * L + c * 2 ^ 52)

pub frac_near : (s : Bool) (a c : ℕ) → 0 < c → a ≤ 2 ^ 1023 * c → Frac64 s a c (round binary64 s a c)
unfolding L
frac_near s a c C h =
    let v = round_mag s a c (grid_under binary64 a c C h) in
    record { fine = (v.2, round-fits binary64 s a c); sign = v.1; near = rw v.0 (grid_err binary64 a c C) }

pub mul_mag : (x y : Float) → Fin64 x → Fin64 y → mag x * mag y ≤ 2 ^ 1023 * (L * L)
    → let z = mul binary64 x y in Fin64 z × (sgn z ≡ unlike (sgn x) (sgn y)) × Near (mag z * L * 2 ^ 53) (mag x * mag y * 2 ^ 53) (mag x * mag y + L * 2 ^ 52)
mul_mag x y p q h = rw (mul_units x y p q) (go (round binary64 (unlike (sgn x) (sgn y)) (mag x * mag y) (L * L)) (mag x * mag y) (frac_near (unlike (sgn x) (sgn y)) (mag x * mag y) (L * L) (mul-pos L_pos L_pos) h))
  where
    go : (z : Float) (a : ℕ) → Frac64 (unlike (sgn x) (sgn y)) a (L * L) z → Fin64 z × (sgn z ≡ unlike (sgn x) (sgn y)) × Near (mag z * L * 2 ^ 53) (a * 2 ^ 53) (a + L * 2 ^ 52)
    go z a r = (r.fine, r.sign, (le_of_mul-le-mul_right {k = L} (omega (arith, r.near)) L_pos, le_of_mul-le-mul_right {k = L} (omega (arith, r.near)) L_pos))

pub div_mag : (x y : Float) → Fin64 x → Fin64 y → 0 < mag y → mag x ≤ 2 ^ 1023 * mag y
    → let z = div binary64 x y in Fin64 z × (sgn z ≡ unlike (sgn x) (sgn y)) × Near (mag z * mag y * 2 ^ 53) (mag x * L * 2 ^ 53) (mag x * L + mag y * 2 ^ 52)
div_mag x y p q k h = rw (div_units x y p q k) (let r = frac_near (unlike (sgn x) (sgn y)) (mag x) (mag y) k h in (r.fine, r.sign, r.near))

-- the same, signed: plus - minus
signs : (s t u : Bool) (X Y Z K E : ℕ) → u ≡ unlike s t → Near (Z * K) (X * Y * 2 ^ 53) E
    → Near (pl u Z * K + (pl s X * mi t Y + mi s X * pl t Y) * 2 ^ 53) (mi u Z * K + (pl s X * pl t Y + mi s X * mi t Y) * 2 ^ 53) E
signs false false u X Y Z K E e h = rw e (omega arith)
signs false true u X Y Z K E e h = rw e (omega arith)
signs true false u X Y Z K E e h = rw e (omega arith)
signs true true u X Y Z K E e h = rw e (omega arith)

pub mul_near : (x y : Float) → Fin64 x → Fin64 y → mag x * mag y ≤ 2 ^ 1023 * (L * L) → let z = mul binary64 x y in
    Near (plus z * (L * 2 ^ 53) + (plus x * minus y + minus x * plus y) * 2 ^ 53) (minus z * (L * 2 ^ 53) + (plus x * plus y + minus x * minus y) * 2 ^ 53) (mag x * mag y + L * 2 ^ 52)
mul_near x y p q h =
    let r = mul_mag x y p q h in
    signs (sgn x) (sgn y) (sgn (mul binary64 x y)) (mag x) (mag y) (mag (mul binary64 x y)) (L * 2 ^ 53) (mag x * mag y + L * 2 ^ 52) r.1 (omega (arith, r.2))
