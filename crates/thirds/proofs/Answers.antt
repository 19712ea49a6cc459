-- What the logarithm and the exponential answer in turn is the power's answer. Assumes nothing.
use mathlib.Core.Path.{◌≡◌, refl, sym, ap, ◌∙◌}
use mathlib.Core.Bool.{Bool, true, false, cond}
use Prim.Native.Nat.{ℕ, ◌≤◌}
use native.Mathlib.Omega.{arith}
use lib.Dec.{T}
use lib.Ieee.{Float, binary64, fits, mul}
use Rattle.exact.specs.Units.{L, mag, Fin64}
use Rattle.numbers.specs.Floats.{is_number}
use Rattle.answers.specs.Refusals.{no_number}
use Rattle.answers.specs.Range.{in_range, side_of, ranged, on_path}
use Rattle.answers.specs.declared.Answer.TheVariants.{Value, Refused}
use Rattle.answers.proofs.Values.{in_range_number}
use Rattle.exponential.specs.Worked as exponential
use Rattle.exponential.specs.Exp.{exp_ranged}
use Rattle.exponential.proofs.Near.{sized_ranged}
use Rattle.logarithm.specs.Ln.{ln_ranged}
use Rattle.logarithm.specs.Worked.{ln_of}
use Rattle.logarithm.proofs.Laws.{ln_near, ln_size}
use Rattle.thirds.specs.Thirds.{low, high, power_of}
use Rattle.thirds.proofs.Products.{product_fine, product_size}

no_value : (v : Float) (n : ℕ) → Value v ≡ Refused n → ⊥
no_value v n e = let z : ◌≡◌ {A = ℕ} 0 1 = cc in omega arith

value_of : (a b : Bool) (m n : ℕ) (v l : Float) → cond a (cond b (Value v) (Refused m)) (Refused n) ≡ Value l → (a ≡ true) × (b ≡ true) × (v ≡ l)
value_of true true m n v l e = (refl, refl, cc)
value_of true false m n v l e = absurd (no_value l m (sym e))
value_of false b m n v l e = absurd (no_value l n (sym e))

refusal_of : (a b : Bool) (m n k : ℕ) (v w : Float) → cond a (cond b (Value v) (Refused m)) (Refused n) ≡ Refused k → Refused k ≡ cond a (cond b (Value w) (Refused m)) (Refused n)
refusal_of true true m n k v w e = absurd (no_value v k e)
refusal_of true false m n k v w e = sym e
refusal_of false b m n k v w e = sym e

module _ (x c : Float) where
  pub refused : (k : ℕ) → on_path x (ln_ranged x) ≡ Refused k → Refused k ≡ on_path x (ranged low high x (power_of x c))
  refused k e = refusal_of (is_number x) (in_range low high x) (side_of low high x) no_number k (ln_of x) (power_of x c) e

  pub answered : (l : Float) → T (fits binary64 x) → Fin64 c → mag c ≤ L → on_path x (ln_ranged x) ≡ Value l
      → on_path (mul binary64 l c) (exp_ranged (mul binary64 l c)) ≡ on_path x (ranged low high x (power_of x c))
  answered l f g part e =
      let h = value_of (is_number x) (in_range low high x) (side_of low high x) no_number (ln_of x) l e in
      let fine = product_fine (ln_of x) c (ln_near x f h.1).fine (ln_size x f h.1) g part in
      let size = product_size (ln_of x) c (ln_near x f h.1).fine (ln_size x f h.1) g part in
      let v = mul binary64 (ln_of x) c in
      let r = sized_ranged v fine size in
      ap (λ t. on_path (mul binary64 t c) (exp_ranged (mul binary64 t c))) (sym h.2) ∙ rw (h.0, h.1, in_range_number exponential.low exponential.high v r, r) refl
