-- The sums of the code differ by at most 64, in units of 2 ^ -54: both grow with v, and a few places bound them in between. Assumes nothing.
use mathlib.Core.Bool.{Bool}
use mathlib.Core.List.{List, [], ◌∷◌}
use Prim.Native.Nat.{ℕ, suc, ◌+◌, ◌*◌, ◌/◌, ◌^◌, ◌≤◌, ◌<◌, zero-le}
use native.Mathlib.Nat.{le_refl, le_trans, lt_of_le_of_lt, lt_irrefl, lt_of_lt_of_le, add-le-add, mul-le-mul, le-div_iff_mul-le, div-mul-le_self}
use native.Mathlib.Omega.{sub_cases}
use native.Mathlib.Bridge.{le_by_compare, IsLe}
use lib.Dec.{T, leb, leb→le}
use lib.Pow.{pow_pos}
use Rattle.exact.proofs.Both.{both, both_left, both_right}
use Rattle.sine.specs.Sine.{step_of, nested, plusses, minuses, square, plus_of, minus_of}
use Rattle.sine.proofs.Laws.{cut_le}
use Rattle.sine.proofs.Nested.{total, nested_le}
use Rattle.sine.proofs.Terms.{square_lt}

cut_mono : (a b c d : ℕ) → a ≤ b → c ≤ d → a * c / 2 ^ 64 ≤ b * d / 2 ^ 64
cut_mono a b c d h k = (le-div_iff_mul-le (pow_pos 64)).1 (le_trans (div-mul-le_self (a * c) (2 ^ 64)) (mul-le-mul h k))

nested_mono : (y z : ℕ) → y ≤ z → (cs : List ℕ) → nested y cs ≤ nested z cs
unfolding nested step_of
nested_mono y z h [] = le_refl 0
nested_mono y z h (c ∷ []) = le_refl c
nested_mono y z h (c ∷ d ∷ cs) = add-le-add (le_refl c) (cut_mono (nested y (d ∷ cs)) (nested z (d ∷ cs)) y z (nested_mono y z h (d ∷ cs)) h)

square_mono : (v w : ℕ) → v ≤ w → square v ≤ square w
square_mono v w h = cut_mono v w v w h h

plus_mono : (v w : ℕ) → v ≤ w → plus_of v ≤ plus_of w
unfolding plus_of
plus_mono v w h =
    cut_mono (nested (square (square v)) plusses) (nested (square (square w)) plusses) v w
    (nested_mono (square (square v)) (square (square w)) (square_mono (square v) (square w) (square_mono v w h)) plusses) h

minus_mono : (v w : ℕ) → v ≤ w → minus_of v ≤ minus_of w
unfolding minus_of
minus_mono v w h =
    cut_mono (nested (square (square v)) minuses * square v / 2 ^ 64) (nested (square (square w)) minuses * square w / 2 ^ 64) v w
    (cut_mono (nested (square (square v)) minuses) (nested (square (square w)) minuses) (square v) (square w)
    (nested_mono (square (square v)) (square (square w)) (square_mono (square v) (square w) (square_mono v w h)) minuses) (square_mono v w h)) h

-- from b to each place of the list, and on to 2 ^ 64
abbrev near : ℕ → ℕ → Bool
near b c = both (leb (plus_of c) (minus_of b + 2 ^ 60)) (leb (minus_of c) (plus_of b + 2 ^ 60))

unfoldable narrow : ℕ → List ℕ → Bool
narrow b [] = leb (2 ^ 64) b
narrow b (c ∷ cs) = both (near b c) (narrow c cs)

Within : ℕ → Type 0
Within v = (plus_of v ≤ minus_of v + 2 ^ 60) × (minus_of v ≤ plus_of v + 2 ^ 60)

between : (b v c : ℕ) → b ≤ v → v ≤ c → T (near b c) → Within v
unfolding Within
between b v c h k t =
    let p = leb→le (plus_of c) (minus_of b + 2 ^ 60) (both_left (leb (plus_of c) (minus_of b + 2 ^ 60)) (leb (minus_of c) (plus_of b + 2 ^ 60)) t) in
    let m = leb→le (minus_of c) (plus_of b + 2 ^ 60) (both_right (leb (plus_of c) (minus_of b + 2 ^ 60)) (leb (minus_of c) (plus_of b + 2 ^ 60)) t) in (
      le_trans (plus_mono v c k) (le_trans p (add-le-add (minus_mono b v h) (le_refl (2 ^ 60)))),
      le_trans (minus_mono v c k) (le_trans m (add-le-add (plus_mono b v h) (le_refl (2 ^ 60)))),
    )

within : (cs : List ℕ) (b v : ℕ) → b ≤ v → v < 2 ^ 64 → T (narrow b cs) → Within v
unfolding narrow
within [] b v h l t = absurd (lt_irrefl v (lt_of_lt_of_le l (le_trans (leb→le (2 ^ 64) b t) h)))
within (c ∷ cs) b v h l t =
    sub_cases v c (Within v) (λ k e. within cs c v k l (both_right (near b c) (narrow c cs) t)) (λ k e. between b v c h k (both_left (near b c) (narrow c cs) t))

abbrev places : List ℕ
places = 177 * 2 ^ 56 ∷ 199 * 2 ^ 56 ∷ 212 * 2 ^ 56 ∷ 221 * 2 ^ 56 ∷ 228 * 2 ^ 56 ∷ 233 * 2 ^ 56 ∷ 238 * 2 ^ 56 ∷ 242 * 2 ^ 56 ∷ 245 * 2 ^ 56 ∷ 248 * 2 ^ 56 ∷ 251 * 2 ^ 56 ∷ 254 * 2 ^ 56 ∷ 256 * 2 ^ 56 ∷ []

tested : T (narrow 0 places)
unfolding narrow plus_of minus_of nested step_of
tested = tt

pub record Sized (v : ℕ) : Type 0 where
  pub plus : plus_of v ≤ minus_of v + 2 ^ 60
  pub minus : minus_of v ≤ plus_of v + 2 ^ 60
  pub plus_fits : plus_of v < 2 ^ 64
  pub minus_fits : minus_of v < 2 ^ 64

totals_lt : (total plusses < 2 ^ 64) × (total minuses < 2 ^ 64)
unfolding total IsLe
totals_lt = (le_by_compare (suc (total plusses)) (2 ^ 64) tt, le_by_compare (suc (total minuses)) (2 ^ 64) tt)

pub sized : (v : ℕ) → v < 2 ^ 64 → Sized v
unfolding Within plus_of minus_of
sized v h =
    let y = square_lt v h in
    let z = square_lt (square v) y in
    let w = within places 0 v zero-le h tested in
    let a = nested (square (square v)) plusses in
    let c = nested (square (square v)) minuses in
    record {
      plus = w.0;
      minus = w.1;
      plus_fits = lt_of_le_of_lt (le_trans (cut_le a v h) (nested_le (square (square v)) z plusses)) totals_lt.0;
      minus_fits = lt_of_le_of_lt (le_trans (cut_le (c * square v / 2 ^ 64) v h) (le_trans (cut_le c (square v) y) (nested_le (square (square v)) z minuses))) totals_lt.1;
    }
