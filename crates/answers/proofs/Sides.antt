-- On which side an argument lies that is in no range: refused by 2 exactly below the low end, by 10 exactly above the high end, and by no
-- other number.
use mathlib.Core.Path.{◌≡◌, refl, sym, ap, ◌∙◌}
use mathlib.Core.Bool.{Bool, true, false, cond, not, ◌&&◌, true≢false, false≢true}
use mathlib.Core.Logic.{◌⊎◌, inl, inr, ◌↔◌}
use Prim.Native.Nat.{ℕ}
use native.Mathlib.Omega.{arith}
use lib.Ieee as Ieee
use lib.Ieee.{Float}
use Rattle.numbers.specs.Floats.{is_number}
use Rattle.numbers.proofs.Order.{le_not_lt, lt_trans}
use Rattle.answers.specs.Refusals.{below_range, above_range}
use Rattle.answers.specs.Range.{in_range, side_of}

-- some refusal of the two
pub side_is : (low high x : Float) → (side_of low high x ≡ below_range) ⊎ (side_of low high x ≡ above_range)
unfolding side_of
side_is low high x = go (Ieee.lt x low)
  where
    go : (b : Bool) → (cond b below_range above_range ≡ below_range) ⊎ (cond b below_range above_range ≡ above_range)
    go true = inl refl
    go false = inr refl

-- the ends of a range: two numbers in order
pub record Ends (low high : Float) : Type 0 where
  pub low_number : is_number low ≡ true
  pub high_number : is_number high ≡ true
  pub in_order : Ieee.le low high ≡ true

-- b: below the low end, a: above the high end
split : (b a : Bool) (n : ℕ) → (b && a ≡ true → ⊥)
    → ((not b && not a ≡ false) × (cond b below_range above_range ≡ n)) ↔ (((b ≡ true) × (below_range ≡ n)) ⊎ ((a ≡ true) × (above_range ≡ n)))
split true a n f = (λ q. inl (refl, q.1), back)
  where
    back : ((true ≡ true) × (below_range ≡ n)) ⊎ ((a ≡ true) × (above_range ≡ n)) → (false ≡ false) × (below_range ≡ n)
    back (inl q) = (refl, q.1)
    back (inr q) = absurd (f q.0)
split false true n f = (λ q. inr (refl, q.1), back)
  where
    back : ((false ≡ true) × (below_range ≡ n)) ⊎ ((true ≡ true) × (above_range ≡ n)) → (false ≡ false) × (above_range ≡ n)
    back (inl q) = absurd (false≢true q.0)
    back (inr q) = (refl, q.1)
split false false n f = (λ q. absurd (true≢false q.0), back)
  where
    back : ((false ≡ true) × (below_range ≡ n)) ⊎ ((false ≡ true) × (above_range ≡ n)) → (true ≡ false) × (above_range ≡ n)
    back (inl q) = absurd (false≢true q.0)
    back (inr q) = absurd (false≢true q.0)

module _ (low high x : Float) (e : Ends low high) (number : is_number x ≡ true) where
  never_both : Ieee.lt x low && Ieee.lt high x ≡ true → ⊥
  never_both q = go (Ieee.lt x low) (Ieee.lt high x) refl refl q
    where
      go : (b a : Bool) → Ieee.lt x low ≡ b → Ieee.lt high x ≡ a → b && a ≡ true → ⊥
      go true true f g q = true≢false (sym e.in_order ∙ le_not_lt low high e.low_number e.high_number ∙ ap not (lt_trans high x low g f))
      go true false f g q = false≢true q
      go false a f g q = false≢true q

  pub sides : (n : ℕ) → ((in_range low high x ≡ false) × (side_of low high x ≡ n)) ↔ (((Ieee.lt x low ≡ true) × (below_range ≡ n)) ⊎ ((Ieee.lt high x ≡ true) × (above_range ≡ n)))
  unfolding side_of
  sides n = rw (le_not_lt low x e.low_number number, le_not_lt x high number e.high_number) (split (Ieee.lt x low) (Ieee.lt high x) n never_both)
