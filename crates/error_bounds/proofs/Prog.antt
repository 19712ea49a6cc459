-- Straight-line float code: a list of operations, each on results so far, the last one first. It runs over floats, over fractions, and over
-- intervals with an error; where the third is good it holds of the first two: `sound`. Assumes nothing.
use mathlib.Core.Path.{◌≡◌, sym, ap, ◌∙◌}
use mathlib.Core.List.{List, [], ◌∷◌}
use Prim.Native.Nat.{ℕ, zero, suc, ◌+◌, ◌*◌, ◌/◌, ◌≤◌, zero-le}
use native.Mathlib.Nat.{le_refl}
use native.Mathlib.Omega.{arith}
use mathlib.Core.Bool.{Bool, true, false, ◌&&◌}
use lib.Dec.{T}
use lib.IntN.{ℤ, pos, neg_ℤ, ◌+ℤ◌, ◌*ℤ◌, ◌-ℤ◌, neg_ℤ-+ℤ}
use lib.Ieee.{Float, fin, binary64, neg, add, sub, mul, div, fits}
use lib.Ieee.Fits.{and_l, and_r}
use lib.Ieee.Scale.{finite}
use Rattle.exact.specs.Units.{L, mag, Fin64}
use Rattle.exact.proofs.Distances.{neg_val, neg_fine}
use Rattle.exact.specs.Integers.{abs, ◌≤ᶻ◌}
use Rattle.exact.proofs.Integers.{abs_neg, abs_pos, neg-*, neg_parts}
use Rattle.exact.proofs.Ring.{ring, var, con, ◌:-◌, ◌:*◌}
use Rattle.exact.specs.Value.{val}
use Rattle.error_bounds.proofs.Line.{Q, sum_q, neg_q, prod_q, quot_q}
use Rattle.error_bounds.proofs.Span.{S, In, sum_s, prod_s, quot_s, add_in, mul_in, div_in}

pub data Op : Type 0 where
  ◌⊞◌ ◌⊟◌ ◌⊠◌ ◌⊘◌ : ℕ → ℕ → Op
  lit : Float → Op

infix 6 ◌⊞◌
infix 6 ◌⊟◌
infix 6 ◌⊠◌
infix 6 ◌⊘◌
abbrev pub nth : {A : Type 0} → A → List A → ℕ → A
nth z [] i = z
nth z (a ∷ us) zero = a
nth z (a ∷ us) (suc i) = nth z us i

abbrev pub zero_f : Float
zero_f = fin false 0 (pos 0)

abbrev pub zero_q : Q
zero_q = record { num = pos 0; den = pos 1 }

abbrev pub zero_b : S
zero_b = record { lo = pos 0; hi = pos 0; err = 0; good = true }

abbrev pub step_f : Op → List Float → Float
step_f (i ⊞ j) fs = add binary64 (nth zero_f fs i) (nth zero_f fs j)
step_f (i ⊟ j) fs = sub binary64 (nth zero_f fs i) (nth zero_f fs j)
step_f (i ⊠ j) fs = mul binary64 (nth zero_f fs i) (nth zero_f fs j)
step_f (i ⊘ j) fs = div binary64 (nth zero_f fs i) (nth zero_f fs j)
step_f (lit c) fs = c

abbrev pub step_q : Op → List Q → Q
step_q (i ⊞ j) qs = sum_q (nth zero_q qs i) (nth zero_q qs j)
step_q (i ⊟ j) qs = sum_q (nth zero_q qs i) (neg_q (nth zero_q qs j))
step_q (i ⊠ j) qs = prod_q (nth zero_q qs i) (nth zero_q qs j)
step_q (i ⊘ j) qs = quot_q (nth zero_q qs i) (nth zero_q qs j)
step_q (lit c) qs = record { num = val c; den = pos 1 }

abbrev pub neg_s : S → S
neg_s s = record { lo = neg_ℤ s.hi; hi = neg_ℤ s.lo; err = s.err; good = s.good }

abbrev pub step_b : Op → List S → S
step_b (i ⊞ j) bs = sum_s (nth zero_b bs i) (nth zero_b bs j)
step_b (i ⊟ j) bs = sum_s (nth zero_b bs i) (neg_s (nth zero_b bs j))
step_b (i ⊠ j) bs = prod_s (nth zero_b bs i) (nth zero_b bs j)
step_b (i ⊘ j) bs = quot_s (nth zero_b bs i) (nth zero_b bs j)
step_b (lit c) bs = record { lo = val c; hi = val c; err = 0; good = finite c && fits binary64 c }

unfoldable pub run_f : List Op → List Float → List Float
run_f [] fs = fs
run_f (o ∷ os) fs = run_f os (step_f o fs ∷ fs)

unfoldable pub run_q : List Op → List Q → List Q
run_q [] qs = qs
run_q (o ∷ os) qs = run_q os (step_q o qs ∷ qs)

unfoldable pub run_b : List Op → List S → List S
run_b [] bs = bs
run_b (o ∷ os) bs = run_b os (step_b o bs ∷ bs)

unfoldable pub goods : List Op → List S → Bool
goods [] bs = true
goods (o ∷ os) bs = let b = step_b o bs in b.good && goods os (b ∷ bs)

abbrev pub All : List Float → List Q → List S → Type 0
All [] [] [] = Unit {0}
All [] [] (b ∷ bs) = ⊥
All [] (q ∷ qs) bs = ⊥
All (f ∷ fs) [] bs = ⊥
All (f ∷ fs) (q ∷ qs) [] = ⊥
All (f ∷ fs) (q ∷ qs) (b ∷ bs) = In f q b × All fs qs bs

pub self : (x : Float) (b : S) → Fin64 x → b.lo ≤ᶻ val x → val x ≤ᶻ b.hi → In x (record { num = val x; den = pos 1 }) b
self x b f k h = record { fine = f; above = k; below = h; near = rw (ring 1 (val x, tt) (var 0 :* con (pos 1) :- var 0) (con (pos 0)) tt, abs_pos 0) zero-le }

zero_stands : In zero_f zero_q zero_b
unfolding mag val fits L
zero_stands = self zero_f zero_b (tt, tt) zero-le zero-le

pub nth_stands : (fs : List Float) (qs : List Q) (bs : List S) → All fs qs bs → (i : ℕ) → In (nth zero_f fs i) (nth zero_q qs i) (nth zero_b bs i)
nth_stands [] [] [] h i = zero_stands
nth_stands [] [] (b ∷ bs) h i = absurd h
nth_stands [] (q ∷ qs) bs h i = absurd h
nth_stands (f ∷ fs) [] bs h i = absurd h
nth_stands (f ∷ fs) (q ∷ qs) [] h i = absurd h
nth_stands (f ∷ fs) (q ∷ qs) (b ∷ bs) h zero = h.0
nth_stands (f ∷ fs) (q ∷ qs) (b ∷ bs) h (suc i) = nth_stands fs qs bs h.1 i

neg_stands : (y : Float) (q : Q) (b : S) → In y q b → In (neg y) (neg_q q) (neg_s b)
neg_stands y q b j = record {
  fine = neg_fine y j.fine;
  above = rw (neg_val y j.fine) (omega (arith, neg_parts (val y), neg_parts b.hi, j.below));
  below = rw (neg_val y j.fine) (omega (arith, neg_parts (val y), neg_parts b.lo, j.above));
  near = rw (neg_val y j.fine, turn (val y) q.den q.num) j.near;
}
  where
    turn : (v d n : ℤ) → abs (neg_ℤ v *ℤ d -ℤ neg_ℤ n) ≡ abs (v *ℤ d -ℤ n)
    turn v d n = ap abs (ap (λ u. u -ℤ neg_ℤ n) (neg-* v d) ∙ sym (neg_ℤ-+ℤ (v *ℤ d) (neg_ℤ n))) ∙ abs_neg (v *ℤ d -ℤ n)

step_stands : (o : Op) (fs : List Float) (qs : List Q) (bs : List S) → All fs qs bs → T (step_b o bs).good → In (step_f o fs) (step_q o qs) (step_b o bs)
step_stands (i ⊞ j) fs qs bs h t = add_in _ _ _ _ _ _ (nth_stands fs qs bs h i) (nth_stands fs qs bs h j) t
step_stands (i ⊟ j) fs qs bs h t = unfold sub in add_in _ _ _ _ _ _ (nth_stands fs qs bs h i) (neg_stands _ _ _ (nth_stands fs qs bs h j)) t
step_stands (i ⊠ j) fs qs bs h t = mul_in _ _ _ _ _ _ (nth_stands fs qs bs h i) (nth_stands fs qs bs h j) t
step_stands (i ⊘ j) fs qs bs h t = div_in _ _ _ _ _ _ (nth_stands fs qs bs h i) (nth_stands fs qs bs h j) t
step_stands (lit c) fs qs bs h t = self c _ (and_l (finite c) (fits binary64 c) t, and_r (finite c) (fits binary64 c) t) (le_refl _) (le_refl _)

pub sound : (os : List Op) (fs : List Float) (qs : List Q) (bs : List S) → All fs qs bs → T (goods os bs) → All (run_f os fs) (run_q os qs) (run_b os bs)
unfolding run_f run_q run_b goods
sound [] fs qs bs h t = h
sound (o ∷ os) fs qs bs h t = sound os (step_f o fs ∷ fs) (step_q o qs ∷ qs) (step_b o bs ∷ bs) (step_stands o fs qs bs h (and_l (step_b o bs).good (goods os (step_b o bs ∷ bs)) t), h) (and_r (step_b o bs).good (goods os (step_b o bs ∷ bs)) t)
