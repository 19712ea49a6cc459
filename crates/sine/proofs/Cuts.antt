-- A whole number just below a fraction, and what sums and cut products of such numbers are just below. Assumes nothing.
use mathlib.Core.Path.{◌≡◌}
use Prim.Native.Nat.{ℕ, ◌+◌, ◌*◌, ◌/◌, ◌≤◌, ◌<◌}
use native.Mathlib.Nat.{le_trans, le_of_mul-le-mul_right, mul-le-mul_right, mul-le-mul, le_of_lt, lt_of_lt_of_le, div-mul-le_self, lt-mul-div-succ}
use native.Mathlib.Omega.{arith}

-- v ≤ X / W ≤ v + e
pub record Cut (v e X W : ℕ) : Type 0 where
  pub low : v * W ≤ X
  pub high : X ≤ (v + e) * W

-- the same fraction, written otherwise
same_plain : (v X W Y U : ℕ) → 0 < W → X * U ≡ Y * W → (v * W ≤ X → v * U ≤ Y) × (X ≤ v * W → Y ≤ v * U)
same_plain v X W Y U h e = (
  λ l. le_of_mul-le-mul_right {k = W} (omega (arith, mul-le-mul_right U l)) h,
  λ l. le_of_mul-le-mul_right {k = W} (omega (arith, mul-le-mul_right U l)) h,
)

pub cut_same : (v e X W Y U : ℕ) → 0 < W → X * U ≡ Y * W → Cut v e X W → Cut v e Y U
cut_same v e X W Y U h s c = record { low = (same_plain v X W Y U h s).0 c.low; high = (same_plain (v + e) X W Y U h s).1 c.high }

pub cut_scale : (v e X W K : ℕ) → Cut v e X W → Cut v e (X * K) (W * K)
cut_scale v e X W K c = record { low = le_trans (omega arith) (mul-le-mul_right K c.low); high = le_trans (mul-le-mul_right K c.high) (omega arith) }

pub cut_add : (v d X w e Y W : ℕ) → Cut v d X W → Cut w e Y W → Cut (v + w) (d + e) (X + Y) W
cut_add v d X w e Y W a b = let h = a.low in let k = a.high in let l = b.low in let m = b.high in record { low = omega arith; high = omega arith }

-- a product over M, cut: one factor is at most M, and the other's fraction
low_plain : (v w X Y W U M r : ℕ) → r * M ≤ v * w → v * W ≤ X → w * U ≤ Y → r * (W * U * M) ≤ X * Y
low_plain v w X Y W U M r h a b = omega (arith, mul-le-mul_right (W * U) h, mul-le-mul a b)

high_plain : (v w d e X Y W U M r : ℕ) → v * w ≤ r * M + M → v ≤ M → Y ≤ M * U → X ≤ (v + d) * W → Y ≤ (w + e) * U → X * Y ≤ (r + (d + e + 1)) * (W * U * M)
high_plain v w d e X Y W U M r h hv hY a b = omega (arith, mul-le-mul_right Y a, mul-le-mul_right (v * W) b, mul-le-mul_right (d * W) hY, mul-le-mul_right (W * U) h, mul-le-mul_right (e * W * U) hv)

pub cut_mul : (v d X W w e Y U M : ℕ) → 0 < M → v ≤ M → Y ≤ M * U → Cut v d X W → Cut w e Y U → Cut (v * w / M) (d + e + 1) (X * Y) (W * U * M)
cut_mul v d X W w e Y U M hM hv hY a b =
    record {
      low = low_plain v w X Y W U M (v * w / M) (div-mul-le_self (v * w) M) a.low b.low;
      high = high_plain v w d e X Y W U M (v * w / M) (le_of_lt (lt_of_lt_of_le (lt-mul-div-succ (v * w) hM) (omega arith))) hv hY a.high b.high;
    }
