-- A nested sum of the code is just below the nested sum of the series. Assumes nothing.
use mathlib.Core.Path.{◌≡◌, subst}
use mathlib.Core.Bool.{Bool, false}
use mathlib.Core.List.{List, [], ◌∷◌}
use Prim.Native.Nat.{ℕ, suc, ◌+◌, ◌*◌, ◌/◌, ◌^◌, ◌≤◌, ◌<◌}
use native.Mathlib.Nat.{le_refl, le_trans, add-le-add, mul-pos, mul-le-mul, mul-le-mul_right}
use native.Mathlib.Omega.{arith}
use lib.Dec.{T, leb, leb→le}
use lib.Pow.{pow_pos}
use Rattle.exact.proofs.Both.{both, both_left, both_right}
use Rattle.series.proofs.SineNest.{span, nest, span_pos}
use Rattle.sine.specs.Sine.{step_of, nested}
use Rattle.sine.proofs.Cuts.{Cut, cut_same, cut_scale, cut_add, cut_mul}
use Rattle.sine.proofs.Laws.{cut_le}

-- c is a / b, cut, and each later coefficient the next but one of the terms' own: at 8 the terms grow by 8^4 over the four next factors
abbrev pub quotient : ℕ → ℕ → ℕ → Bool
quotient c a b = both (leb (c * b) a) (leb a ((c + 1) * b))

abbrev pub four : ℕ → ℕ
four k = (2 * k + 2) * (2 * k + 3) * ((2 * suc k + 2) * (2 * suc k + 3))

unfoldable pub right : ℕ → ℕ → ℕ → List ℕ → Bool
right a b k [] = false
right a b k (c ∷ []) = quotient c a b
right a b k (c ∷ d ∷ cs) = both (quotient c a b) (right (a * 4096) (b * four k) (suc (suc k)) (d ∷ cs))

unfoldable pub steps : List ℕ → ℕ
steps [] = 0
steps (c ∷ []) = 0
steps (c ∷ d ∷ cs) = suc (steps (d ∷ cs))

unfoldable pub total : List ℕ → ℕ
total [] = 0
total (c ∷ cs) = c + total cs

quotient_cut : (c a b : ℕ) → T (quotient c a b) → Cut c 1 a b
quotient_cut c a b t = record { low = leb→le (c * b) a (both_left (leb (c * b) a) (leb a ((c + 1) * b)) t); high = leb→le a ((c + 1) * b) (both_right (leb (c * b) a) (leb a ((c + 1) * b)) t) }

pub nested_le : (z : ℕ) → z < 2 ^ 64 → (cs : List ℕ) → nested z cs ≤ total cs
unfolding nested total step_of
nested_le z h [] = le_refl 0
nested_le z h (c ∷ []) = omega arith
nested_le z h (c ∷ d ∷ cs) = add-le-add (le_refl c) (le_trans (cut_le (nested z (d ∷ cs)) z h) (nested_le z h (d ∷ cs)))

-- the product of the rest and z, over the denominator of the sum
term_plain : (a b n s S q M f g : ℕ) → a * 4096 * n * (S * M) * (b * (f * (q * q) * (g * (q * q)) * s)) ≡ a * (S * n) * (b * (f * g) * s * (8 * q * (8 * q) * (8 * q * (8 * q))) * M)
term_plain a b n s S q M f g = omega arith

module _ (p q z : ℕ) (hq : 0 < q) (hp : p ≤ 8 * q) (hz : z < 2 ^ 64) (at : Cut z 11 (p * p * (p * p) * 2 ^ 64) (8 * q * (8 * q) * (8 * q * (8 * q)))) where
  small : p * p * (p * p) * 2 ^ 64 ≤ 2 ^ 64 * (8 * q * (8 * q) * (8 * q * (8 * q)))
  small = le_trans (mul-le-mul_right (2 ^ 64) (mul-le-mul (mul-le-mul hp hp) (mul-le-mul hp hp))) (omega arith)

  module _ (c h e a b n s f g : ℕ) (hb : 0 < b) (hf : 0 < f) (hg : 0 < g) (hs : 0 < s) where
    wide : 0 < b * (f * g) * s * (8 * q * (8 * q) * (8 * q * (8 * q))) * 2 ^ 64
    wide =
        let e8 : 0 < 8 * q = omega arith in
        mul-pos (mul-pos (mul-pos (mul-pos hb (mul-pos hf hg)) hs) (mul-pos (mul-pos e8 e8) (mul-pos e8 e8))) (pow_pos 64)

    step_cut : Cut c 1 a b → Cut h e (a * 4096 * n) (b * (f * g) * s) → h ≤ 2 ^ 64 → Cut (c + h * z / 2 ^ 64) (1 + (e + 11 + 1)) (a * (f * (q * q) * (g * (q * q)) * s + p * p * (p * p) * n)) (b * (f * (q * q) * (g * (q * q)) * s))
    step_cut C H l =
        let P = f * (q * q) * (g * (q * q)) * s in
        let S = p * p * (p * p) in
        let T = 8 * q * (8 * q) * (8 * q * (8 * q)) in
        let u = cut_mul h e (a * 4096 * n) (b * (f * g) * s) z 11 (S * 2 ^ 64) T (2 ^ 64) (pow_pos 64) l small H at in
        let v = cut_same (h * z / 2 ^ 64) (e + 11 + 1) (a * 4096 * n * (S * 2 ^ 64)) (b * (f * g) * s * T * 2 ^ 64) (a * (S * n)) (b * P) wide (term_plain a b n s S q (2 ^ 64) f g) u in
        subst (λ (x : ℕ). Cut (c + h * z / 2 ^ 64) (1 + (e + 11 + 1)) x (b * P)) (sum_plain a P (S * n)) (cut_add c 1 (a * P) (h * z / 2 ^ 64) (e + 11 + 1) (a * (S * n)) (b * P) (cut_scale c 1 a b P C) v)
      where
        sum_plain : (a P n : ℕ) → a * P + a * n ≡ a * (P + n)
        sum_plain a P n = omega arith

  pub nested_cut : (cs : List ℕ) (a b k : ℕ) → 0 < b → T (right a b k cs) → total cs ≤ 2 ^ 64 → Cut (nested z cs) (1 + 13 * steps cs) (a * nest p q k (steps cs)) (b * span q k (steps cs))
  unfolding nested right steps total nest span step_of
  nested_cut [] a b k hb t l = absurd t
  nested_cut (c ∷ []) a b k hb t l = cut_scale c 1 a b 1 (quotient_cut c a b t)
  nested_cut (c ∷ d ∷ cs) a b k hb t l =
      let f = (2 * k + 2) * (2 * k + 3) in
      let g = (2 * suc k + 2) * (2 * suc k + 3) in
      let m = steps (d ∷ cs) in
      let hf : 0 < f = mul-pos {m = 2 * k + 2} {n = 2 * k + 3} (omega arith) (omega arith) in
      let hg : 0 < g = mul-pos {m = 2 * suc k + 2} {n = 2 * suc k + 3} (omega arith) (omega arith) in
      let rest : T (right (a * 4096) (b * four k) (suc (suc k)) (d ∷ cs)) = both_right (quotient c a b) (right (a * 4096) (b * four k) (suc (suc k)) (d ∷ cs)) t in
      let fits : total (d ∷ cs) ≤ 2 ^ 64 = le_trans (omega arith) l in
      let more : 1 + (1 + 13 * m + 11 + 1) ≡ 1 + 13 * suc m = omega arith in
      subst (λ (e : ℕ). Cut (c + nested z (d ∷ cs) * z / 2 ^ 64) e (a * nest p q k (suc m)) (b * span q k (suc m))) more
      (step_cut c (nested z (d ∷ cs)) (1 + 13 * m) a b (nest p q (suc (suc k)) m) (span q (suc (suc k)) m) f g hb hf hg (span_pos q (suc (suc k)) m hq)
      (quotient_cut c a b (both_left (quotient c a b) (right (a * 4096) (b * four k) (suc (suc k)) (d ∷ cs)) t))
      (nested_cut (d ∷ cs) (a * 4096) (b * four k) (suc (suc k)) (mul-pos hb (mul-pos hf hg)) rest fits)
      (le_trans (nested_le z hz (d ∷ cs)) fits))
