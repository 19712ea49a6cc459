-- The series in floats: how near it comes to r + r^2 / 2 + r^3 / 6 + r^4 / 24, by computation. Assumes nothing.
use mathlib.Core.Path.{◌≡◌, refl, sym, ap, ◌∙◌, subst, subst₂}
use mathlib.Core.Bool.{true}
use mathlib.Core.List.{List, [], ◌∷◌}
use Prim.Native.Nat.{ℕ, ◌*◌, ◌^◌, ◌≤◌, ◌<◌}
use native.Mathlib.Nat.{le_trans, mul-le-mul_right, le_of_mul-le-mul_right, mul-pos, mul_assoc}
use native.Mathlib.Omega.{arith}
use native.Mathlib.Bridge.{le_by_compare, IsLe}
use lib.Dec.{T, leb, leb→le}
use lib.IntN.{ℤ, pos, negsuc, neg_ℤ, ◌+ℤ◌, ◌-ℤ◌, ◌*ℤ◌}
use lib.Ieee.{Float, of_bits, fits}
use Rattle.exact.specs.Units.{L, mag, Fin64}
use Rattle.exact.proofs.Units.{L_pos}
use Rattle.exact.specs.Value.{val}
use Rattle.exact.proofs.Value.{abs_val}
use Rattle.exact.specs.Integers.{p, n, abs, ◌≤ᶻ◌}
use Rattle.exact.proofs.Integers.{abs-*pos, abs_pos, abs_is, neg_parts}
use Rattle.exact.proofs.Ring.{ring, var, con, ◌:+◌, ◌:-◌, ◌:*◌}
use Rattle.numbers.specs.Constants.{half}
use Rattle.error_bounds.proofs.Line.{Q}
use Rattle.error_bounds.proofs.Box.{floor, ceil, min_z, max_z}
use Rattle.error_bounds.proofs.Span.{S, In}
use Rattle.error_bounds.proofs.Prog.{Op, ◌⊞◌, ◌⊠◌, run_f, run_q, run_b, goods, All, nth, zero_f, zero_q, zero_b, self, nth_stands, sound}
use Rattle.exponential.specs.Worked.{sixth, last, series_of}

-- ---- the coefficients stand for 1 / 2, 1 / 6 and 1 / 24
-- a number that stands for 1 / d
abbrev over : ℕ → Q
over d = record { num = pos L; den = pos d }

abbrev about : Float → ℕ → S
about c e = record { lo = val c; hi = val c; err = e; good = true }

stands : (c : Float) (d e : ℕ) → Fin64 c → abs (val c *ℤ pos d -ℤ pos L) ≤ e * abs (pos d) → In c (over d) (about c e)
stands c d e f h = record { fine = f; above = native.Mathlib.Nat.le_refl _; below = native.Mathlib.Nat.le_refl _; near = h }

halved : In half (over 2) (about half 0)
unfolding of_bits fits val mag L abs IsLe
halved = stands half 2 0 (tt, tt) (le_by_compare 0 0 tt)

sixthed : In sixth (over 6) (about sixth (2 ^ 1018))
unfolding of_bits fits val mag L abs IsLe
sixthed = stands sixth 6 (2 ^ 1018) (tt, tt) (le_by_compare (abs (val sixth *ℤ pos 6 -ℤ pos L)) (2 ^ 1018 * abs (pos 6)) tt)

lasted : In last (over 24) (about last (2 ^ 1016))
unfolding of_bits fits val mag L abs IsLe
lasted = stands last 24 (2 ^ 1016) (tt, tt) (le_by_compare (abs (val last *ℤ pos 24 -ℤ pos L)) (2 ^ 1016 * abs (pos 24)) tt)

-- the rest r, at most 2840 / 2^20 in size
abbrev range : S
range = record { lo = neg_ℤ (pos (2840 * 2 ^ 1054)); hi = pos (2840 * 2 ^ 1054); err = 0; good = true }

-- the places of r, 1 / 2, 1 / 6 and 1 / 24 are 0, 1, 2 and 3 at first, and one more after each step
unfoldable code : List Op
code = (0 ⊠ 3) ∷ (3 ⊞ 0) ∷ (2 ⊠ 0) ∷ (4 ⊞ 0) ∷ (4 ⊠ 4) ∷ (0 ⊠ 1) ∷ (6 ⊞ 0) ∷ []

bounds : List S
bounds = range ∷ about half 0 ∷ about sixth (2 ^ 1018) ∷ about last (2 ^ 1016) ∷ []

fine_code : T (goods code bounds)
unfolding goods code bounds L mag val fits of_bits floor ceil min_z max_z
fine_code = tt

abbrev error : ℕ
error = (nth zero_b (run_b code bounds) 0).err

error_le : T (leb error (2 ^ 1013))
unfolding run_b code bounds L mag val fits of_bits floor ceil min_z max_z
error_le = tt

size_le : T (leb (p (nth zero_b (run_b code bounds) 0).hi) (2 ^ 1066)) × T (leb (n (nth zero_b (run_b code bounds) 0).lo) (2 ^ 1066))
unfolding run_b code bounds L mag val fits of_bits floor ceil min_z max_z
size_le = (tt, tt)

between : (lo z hi : ℤ) (K : ℕ) → lo ≤ᶻ z → z ≤ᶻ hi → p hi ≤ K → n lo ≤ K → (p z ≤ K) × (n z ≤ K)
between lo (pos a) hi K h k u v = (omega arith, omega arith)
between lo (negsuc a) hi K h k u v = (omega arith, omega arith)

within : (z : ℤ) (K : ℕ) → abs z ≤ K → (neg_ℤ (pos K) ≤ᶻ z) × (z ≤ᶻ pos K)
within z K h = (omega (arith, abs_is z, neg_parts (pos K)), omega (arith, abs_is z))

unit : 2 ^ 1054 * 2 ^ 20 ≡ L
unfolding L
unit = refl

smaller : (m K q l : ℕ) → 0 < q → K * q ≡ l → m * q ≤ 2840 * l → m ≤ 2840 * K
smaller m K q l o e h = le_of_mul-le-mul_right {k = q} (omega arith) o

-- 24 l^4 times the series at r / l, less 1
abbrev pub poly_at : ℤ → ℤ → ℤ
poly_at r l = pos 24 *ℤ (r *ℤ l *ℤ l *ℤ l) +ℤ pos 12 *ℤ (r *ℤ r *ℤ l *ℤ l) +ℤ pos 4 *ℤ (r *ℤ r *ℤ r *ℤ l) +ℤ r *ℤ r *ℤ r *ℤ r

module _ (r : Float) (f : Fin64 r) (h : mag r * 2 ^ 20 ≤ 2840 * L) where
  abbrev floats : List Float
  floats = r ∷ half ∷ sixth ∷ last ∷ []

  abbrev exacts : List Q
  exacts = record { num = val r; den = pos 1 } ∷ over 2 ∷ over 6 ∷ over 24 ∷ []

  in_range_lem : In r (record { num = val r; den = pos 1 }) range
  in_range_lem =
      let w = within (val r) (2840 * 2 ^ 1054) (subst (λ v. v ≤ 2840 * 2 ^ 1054) (sym (abs_val r)) (smaller (mag r) (2 ^ 1054) (2 ^ 20) L (omega arith) unit h)) in
      self r range f w.0 w.1

  all : All (run_f code floats) (run_q code exacts) (run_b code bounds)
  unfolding bounds
  all = sound code floats exacts bounds (in_range_lem, (halved, (sixthed, (lasted, tt)))) fine_code

  -- the last result
  last_in : In (nth zero_f (run_f code floats) 0) (nth zero_q (run_q code exacts) 0) (nth zero_b (run_b code bounds) 0)
  last_in = nth_stands (run_f code floats) (run_q code exacts) (run_b code bounds) all 0

  abbrev R : ℤ
  R = val r

  abbrev l : ℤ
  l = pos L

  abbrev poly : ℤ
  poly = poly_at R l

  abbrev whole : ℤ
  whole = pos 24 *ℤ (l *ℤ l *ℤ l)

  -- as the program multiplies it out
  abbrev d₂ : ℤ
  d₂ = pos 6 *ℤ (pos 1 *ℤ pos 24 *ℤ l)

  abbrev n₂ : ℤ
  n₂ = l *ℤ (pos 1 *ℤ pos 24 *ℤ l) +ℤ R *ℤ l *ℤ pos 6

  abbrev d₄ : ℤ
  d₄ = pos 2 *ℤ (pos 1 *ℤ d₂ *ℤ l)

  abbrev n₄ : ℤ
  n₄ = l *ℤ (pos 1 *ℤ d₂ *ℤ l) +ℤ R *ℤ n₂ *ℤ pos 2

  abbrev d₇ : ℤ
  d₇ = pos 1 *ℤ (pos 1 *ℤ pos 1 *ℤ l *ℤ d₄ *ℤ l)

  abbrev n₇ : ℤ
  n₇ = R *ℤ (pos 1 *ℤ pos 1 *ℤ l *ℤ d₄ *ℤ l) +ℤ R *ℤ R *ℤ n₄ *ℤ pos 1

  raw : Fin64 (series_of r) × (abs (val (series_of r) *ℤ d₇ -ℤ n₇) ≤ error * abs d₇)
  unfolding series_of run_f run_q code
  raw = (last_in.fine, last_in.near)

  difference : val (series_of r) *ℤ d₇ -ℤ n₇ ≡ (val (series_of r) *ℤ whole -ℤ poly) *ℤ (pos 12 *ℤ l)
  difference =
      ring 3 (val (series_of r), (R, (l, tt)))
      (var 0 :* (con (pos 1) :* (con (pos 1) :* con (pos 1) :* var 2 :* (con (pos 2) :* (con (pos 1) :* (con (pos 6) :* (con (pos 1) :* con (pos 24) :* var 2)) :* var 2)) :* var 2))
      :- (var 1 :* (con (pos 1) :* con (pos 1) :* var 2 :* (con (pos 2) :* (con (pos 1) :* (con (pos 6) :* (con (pos 1) :* con (pos 24) :* var 2)) :* var 2)) :* var 2)
      :+ var 1 :* var 1 :* (var 2 :* (con (pos 1) :* (con (pos 6) :* (con (pos 1) :* con (pos 24) :* var 2)) :* var 2) :+ var 1 :* (var 2 :* (con (pos 1) :* con (pos 24) :* var 2) :+ var 1 :* var 2 :* con (pos 6)) :* con (pos 2)) :* con (pos 1)))
      ((var 0 :* (con (pos 24) :* (var 2 :* var 2 :* var 2))
      :- (con (pos 24) :* (var 1 :* var 2 :* var 2 :* var 2) :+ con (pos 12) :* (var 1 :* var 1 :* var 2 :* var 2) :+ con (pos 4) :* (var 1 :* var 1 :* var 1 :* var 2) :+ var 1 :* var 1 :* var 1 :* var 1)) :* (con (pos 12) :* var 2)) tt

  denominator : d₇ ≡ whole *ℤ (pos 12 *ℤ l)
  denominator =
      ring 1 (l, tt) (con (pos 1) :* (con (pos 1) :* con (pos 1) :* var 0 :* (con (pos 2) :* (con (pos 1) :* (con (pos 6) :* (con (pos 1) :* con (pos 24) :* var 0)) :* var 0)) :* var 0))
      (con (pos 24) :* (var 0 :* var 0 :* var 0) :* (con (pos 12) :* var 0)) tt

  positive : 0 < 12 * L
  positive = mul-pos (omega arith) L_pos

  pub series_near : abs (val (series_of r) *ℤ (pos 24 *ℤ (pos L *ℤ pos L *ℤ pos L)) -ℤ poly_at (val r) (pos L)) ≤ 2 ^ 1013 * (24 * (L * L * L))
  series_near =
      le_trans
      (le_of_mul-le-mul_right {k = 12 * L}
      (subst₂ ◌≤◌ (ap abs difference ∙ abs-*pos (val (series_of r) *ℤ whole -ℤ poly) (12 * L)) (ap (λ v. error * v) (ap abs denominator ∙ abs-*pos whole (12 * L) ∙ ap (λ v. v * (12 * L)) (abs_pos (24 * (L * L * L)))) ∙ sym (mul_assoc error (24 * (L * L * L)) (12 * L))) raw.1)
      positive)
      (mul-le-mul_right (24 * (L * L * L)) (leb→le error (2 ^ 1013) error_le))

  pub series_fine : Fin64 (series_of r)
  series_fine = raw.0

  pub series_small : (p (val (series_of r)) ≤ 2 ^ 1066) × (n (val (series_of r)) ≤ 2 ^ 1066)
  unfolding series_of run_f run_q code
  series_small =
      let b = nth zero_b (run_b code bounds) 0 in
      between b.lo (val (series_of r)) b.hi (2 ^ 1066) last_in.above last_in.below (leb→le (p b.hi) (2 ^ 1066) size_le.0) (leb→le (n b.lo) (2 ^ 1066) size_le.1)
