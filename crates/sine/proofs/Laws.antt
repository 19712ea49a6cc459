-- What the steps of the sine keep to: their sizes. Assumes nothing.
use mathlib.Core.Path.{◌≡◌, refl}
use mathlib.Core.Bool.{Bool, not}
use Prim.Native.Nat.{ℕ, ◌+◌, ◌-◌, ◌*◌, ◌/◌, ◌^◌, ◌≤◌, ◌<◌}
use native.Mathlib.Nat.{le_refl, add-le-add, mul-le-mul_left, le_of_lt, le_trans, div-le_of_le-mul, div-lt_iff_lt-mul, lt_of_lt_of_le}
use native.Mathlib.Omega.{arith}
use lib.Dec.{leb, le→leb}
use lib.Arith.{lt→nleb}
use lib.Ieee.Bits.{is_false, is_true}
use lib.Pow.{pow_pos, pow_mono, shl_lt}
use Rattle.fixed_point.specs.ToFloat.{to_float_of}
use Rattle.sine.specs.Sine.{step_of, eighth_of, difference_of}

pub cut_le : (h z : ℕ) → z < 2 ^ 64 → h * z / 2 ^ 64 ≤ h
cut_le h z l = div-le_of_le-mul (2 ^ 64) (le_trans (mul-le-mul_left h (le_of_lt l)) (omega arith))

-- m is the product's upper half
pub stepped : (c h z m : ℕ) → m ≡ h * z / 2 ^ 64 → z < 2 ^ 64 → (c + m ≡ step_of c h z) × (c + m ≤ c + h)
unfolding step_of
stepped c h z m e l = rw e (refl, add-le-add (le_refl c) (cut_le h z l))

-- a number below 8 has an eighth below 1
pub half_lt : (e m : ℕ) → m < 2 ^ 53 → e < 1026 → m * 2 ^ (e + 7) / 2 ^ 1022 < 2 ^ 63
half_lt e m h l =
    (div-lt_iff_lt-mul (pow_pos 1022)).1
    (lt_of_lt_of_le (shl_lt {a = m} 53 (e + 7) h) (pow_mono {i = 53 + (e + 7)} {j = 1085} (omega arith)))

pub doubled : (h : ℕ) → h < 2 ^ 63 → 2 * h < 2 ^ 64
doubled h l = omega arith

pub at_eight : (e m : ℕ) → 1026 ≤ e → 2 ^ 64 - 2 ≡ eighth_of e m
unfolding eighth_of
at_eight e m h = rw (is_true (leb 1026 e) (le→leb 1026 e h)) refl

pub below_eight : (e m : ℕ) → e < 1026 → 2 * (m * 2 ^ (e + 7) / 2 ^ 1022) ≡ eighth_of e m
unfolding eighth_of
below_eight e m h = rw (is_false (leb 1026 e) (lt→nleb 1026 e h)) refl

pub plus_difference : (a c : ℕ) (s : Bool) → c ≤ a → to_float_of (a - c) 54 s ≡ difference_of a c s
unfolding difference_of
plus_difference a c s h = rw (is_true (leb c a) (le→leb c a h)) refl

pub minus_difference : (a c : ℕ) (s : Bool) → a < c → to_float_of (c - a) 54 (not s) ≡ difference_of a c s
unfolding difference_of
minus_difference a c s l = rw (is_false (leb c a) (lt→nleb c a l)) refl
