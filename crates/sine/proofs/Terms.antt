-- The sums of the code are just below the terms 0 to 21 of the series in units of 2 ^ -54. Assumes nothing.
use mathlib.Core.Path.{◌≡◌, refl, sym, subst, subst₂}
use Prim.Native.Nat.{ℕ, suc, ◌+◌, ◌*◌, ◌/◌, ◌^◌, ◌≤◌, ◌<◌}
use native.Mathlib.Nat.{le_trans, le_of_lt, lt_of_le_of_lt, mul-pos, mul-le-mul, mul-le-mul_right, zero-lt-suc}
use native.Mathlib.Omega.{arith}
use native.Mathlib.Bridge.{le_by_compare, IsLe}
use lib.Pow.{pow_pos}
use Rattle.series.specs.Sine.{ratio, den, added, taken, even}
use Rattle.series.proofs.SineNest.{span, nest, span_pos, span_den, added_nest, taken_nest}
use Rattle.sine.specs.Sine.{plusses, minuses, nested, square, plus_of, minus_of}
use Rattle.sine.proofs.Cuts.{Cut, cut_same, cut_scale, cut_mul}
use Rattle.sine.proofs.Laws.{cut_le}
use Rattle.sine.proofs.Nested.{right, steps, total, nested_le, nested_cut}

-- v is P / Q of 2 ^ 64: its square
square_plain : (P Q M : ℕ) → P * M * (P * M) * (Q * Q) ≡ P * P * M * (Q * Q * M)
square_plain P Q M = omega arith

fraction_le : (P Q M : ℕ) → P ≤ Q → P * M ≤ M * Q
fraction_le P Q M h = omega (arith, mul-le-mul_right M h)

square_cut : (v e P Q : ℕ) → v < 2 ^ 64 → P ≤ Q → 0 < Q → Cut v e (P * 2 ^ 64) Q → Cut (square v) (e + e + 1) (P * P * 2 ^ 64) (Q * Q)
square_cut v e P Q h k hQ c =
    cut_same (square v) (e + e + 1) (P * 2 ^ 64 * (P * 2 ^ 64)) (Q * Q * 2 ^ 64) (P * P * 2 ^ 64) (Q * Q) (mul-pos (mul-pos hQ hQ) (pow_pos 64)) (square_plain P Q (2 ^ 64))
    (cut_mul v e (P * 2 ^ 64) Q v e (P * 2 ^ 64) Q (2 ^ 64) (pow_pos 64) (le_of_lt h) (fraction_le P Q (2 ^ 64) k) c c)

pub square_lt : (v : ℕ) → v < 2 ^ 64 → square v < 2 ^ 64
square_lt v h = lt_of_le_of_lt (cut_le v v h) h

plus_plain : (n s p q M : ℕ) → 2 ^ 57 * n * (p * M) * (q * s) ≡ 2 ^ 54 * (p * n) * (1 * s * (8 * q) * M)
plus_plain n s p q M = omega arith

minus_plain : (n s p q M : ℕ) → 2 ^ 63 * n * (p * p * M) * (p * M) * (q * (6 * (q * q)) * s) ≡ 2 ^ 54 * (p * (p * p) * n) * (6 * s * (8 * q * (8 * q)) * M * (8 * q) * M)
minus_plain n s p q M = omega arith

pub totals : (total plusses ≤ 2 ^ 64) × (total minuses ≤ 2 ^ 64)
unfolding total IsLe
totals = (le_by_compare (total plusses) (2 ^ 64) tt, le_by_compare (total minuses) (2 ^ 64) tt)

-- an odd term is none of those with a plus
added_on : (p q n : ℕ) → even (suc n) ≡ 0 → added p q (suc n) ≡ added p q n * ratio q n
unfolding added
added_on p q n h = rw h (omega arith)

odd_last : even 21 ≡ 0
unfolding even
odd_last = refl

last_plain : (a r b : ℕ) → b ≡ a * r → 2 ^ 54 * a * r ≡ 2 ^ 54 * b
last_plain a r b h = rw h (omega arith)

over_one : (q : ℕ) → den q 21 ≡ q * (6 * (q * q)) * span q 1 10
unfolding den
over_one q = span_den q 10 1 21 refl

module _ (p q v : ℕ) (hq : 0 < q) (hp : p ≤ 8 * q) (hv : v < 2 ^ 64) (at : Cut v 2 (p * 2 ^ 64) (8 * q)) where
  e8 : 0 < 8 * q
  e8 = omega arith

  y_cut : Cut (square v) 5 (p * p * 2 ^ 64) (8 * q * (8 * q))
  y_cut = square_cut v 2 p (8 * q) hv hp e8 at

  z_cut : Cut (square (square v)) 11 (p * p * (p * p) * 2 ^ 64) (8 * q * (8 * q) * (8 * q * (8 * q)))
  z_cut = square_cut (square v) 5 (p * p) (8 * q * (8 * q)) (square_lt v hv) (mul-le-mul hp hp) (mul-pos e8 e8) y_cut

  abbrev z : ℕ
  z = square (square v)

  z_lt : z < 2 ^ 64
  z_lt = square_lt (square v) (square_lt v hv)

  plus_nested : Cut (nested z plusses) 131 (2 ^ 57 * nest p q 0 10) (1 * span q 0 10)
  unfolding right steps
  plus_nested = nested_cut p q z hq hp z_lt z_cut plusses (2 ^ 57) 1 0 (zero-lt-suc 0) tt totals.0

  minus_nested : Cut (nested z minuses) 131 (2 ^ 63 * nest p q 1 10) (6 * span q 1 10)
  unfolding right steps
  minus_nested = nested_cut p q z hq hp z_lt z_cut minuses (2 ^ 63) 6 1 (omega arith) tt totals.1

  plus_first : Cut (plus_of v) 134 (2 ^ 54 * (p * nest p q 0 10)) (q * span q 0 10)
  unfolding plus_of
  plus_first =
      let h = nested z plusses in
      let n = nest p q 0 10 in
      let s = span q 0 10 in
      cut_same (h * v / 2 ^ 64) 134 (2 ^ 57 * n * (p * 2 ^ 64)) (1 * s * (8 * q) * 2 ^ 64) (2 ^ 54 * (p * n)) (q * s) (mul-pos (mul-pos (mul-pos (zero-lt-suc 0) (span_pos q 0 10 hq)) e8) (pow_pos 64)) (plus_plain n s p q (2 ^ 64))
      (cut_mul h 131 (2 ^ 57 * n) (1 * s) v 2 (p * 2 ^ 64) (8 * q) (2 ^ 64) (pow_pos 64) (le_trans (nested_le z z_lt plusses) totals.0) (fraction_le p (8 * q) (2 ^ 64) hp) plus_nested at)

  minus_first : Cut (minus_of v) 140 (2 ^ 54 * (p * (p * p) * nest p q 1 10)) (q * (6 * (q * q)) * span q 1 10)
  unfolding minus_of
  minus_first =
      let h = nested z minuses in
      let n = nest p q 1 10 in
      let s = span q 1 10 in
      let y = square v in
      let top = le_trans (nested_le z z_lt minuses) totals.1 in
      let hs = span_pos q 1 10 hq in
      let once = cut_mul h 131 (2 ^ 63 * n) (6 * s) y 5 (p * p * 2 ^ 64) (8 * q * (8 * q)) (2 ^ 64) (pow_pos 64) top (fraction_le (p * p) (8 * q * (8 * q)) (2 ^ 64) (mul-le-mul hp hp)) minus_nested y_cut in
      let six : 0 < 6 * s = omega arith in
      cut_same (h * y / 2 ^ 64 * v / 2 ^ 64) 140 (2 ^ 63 * n * (p * p * 2 ^ 64) * (p * 2 ^ 64)) (6 * s * (8 * q * (8 * q)) * 2 ^ 64 * (8 * q) * 2 ^ 64) (2 ^ 54 * (p * (p * p) * n)) (q * (6 * (q * q)) * s) (mul-pos (mul-pos (mul-pos (mul-pos six (mul-pos e8 e8)) (pow_pos 64)) e8) (pow_pos 64)) (minus_plain n s p q (2 ^ 64))
      (cut_mul (h * y / 2 ^ 64) 137 (2 ^ 63 * n * (p * p * 2 ^ 64)) (6 * s * (8 * q * (8 * q)) * 2 ^ 64) v 2 (p * 2 ^ 64) (8 * q) (2 ^ 64) (pow_pos 64) (le_trans (cut_le h y (square_lt v hv)) top) (fraction_le p (8 * q) (2 ^ 64) hp) once at)

  pub plus_cut : Cut (plus_of v) 134 (2 ^ 54 * added p q 21) (den q 21)
  unfolding den
  plus_cut =
      let even_terms : added p q 20 ≡ p * nest p q 0 10 = added_nest p q 10 in
      let over : den q 20 ≡ q * span q 0 10 = span_den q 10 0 20 refl in
      let c = subst₂ (λ (x w : ℕ). Cut (plus_of v) 134 (2 ^ 54 * x) w) (sym even_terms) (sym over) plus_first in
      subst (λ (x : ℕ). Cut (plus_of v) 134 x (den q 21)) (last_plain (added p q 20) (ratio q 20) (added p q 21) (added_on p q 20 odd_last)) (cut_scale (plus_of v) 134 (2 ^ 54 * added p q 20) (den q 20) (ratio q 20) c)

  pub minus_cut : Cut (minus_of v) 140 (2 ^ 54 * taken p q 21) (den q 21)
  minus_cut =
      let odd_terms : taken p q 21 ≡ p * (p * p) * nest p q 1 10 = taken_nest p q 10 in
      subst₂ (λ (x w : ℕ). Cut (minus_of v) 140 (2 ^ 54 * x) w) (sym odd_terms) (sym (over_one q)) minus_first
