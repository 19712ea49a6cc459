-- The place is that of the first float that isn't finite.
use mathlib.Core.Bool.{Bool, true, false, cond, ◌&&◌}
use mathlib.Core.List.{List}
use mathlib.Core.Path.{◌≡◌, refl, sym, ap, ◌∙◌}
use native.Mathlib.Omega.{arith}
use Prim.Native.Nat.{ℕ, zero, suc, ◌≤◌, ◌<◌}
use lib.Dec.{eqb}
use borrow.Author.Tests.{eqb-true, eqb-false}
use Rattle.numbers.specs.Floats.{finite}
use Rattle.record.specs.Layout.{float_at}
use Rattle.record_why.specs.Why.{place_in}

-- at most i; those before it are finite; it isn't, where it lies below i
abbrev pub First : List ℕ → ℕ → ℕ → Type 0
First w i k = (k ≤ i) × (((j : ℕ) → j < k → finite (float_at w j) ≡ true) × (k < i → finite (float_at w k) ≡ false))

module _ (w : List ℕ) where
  -- one float more
  next : (i k : ℕ) → First w i k → (a b : Bool) → eqb k i ≡ a → finite (float_at w i) ≡ b → First w (suc i) (cond (a && b) (suc i) k)
  next i k h true true p q =
      let e = eqb-true k i p in (
        omega arith,
        (
          λ j g. earlier j g h.1.0 e,
          λ g. absurd (omega arith),
        ),
      )
    where
      earlier : (j : ℕ) → j < suc i → ((j : ℕ) → j < k → finite (float_at w j) ≡ true) → k ≡ i → finite (float_at w j) ≡ true
      earlier j g f e = go (eqb j i) refl
        where
          go : (b : Bool) → eqb j i ≡ b → finite (float_at w j) ≡ true
          go true t = ap (λ x. finite (float_at w x)) (eqb-true j i t) ∙ q
          go false t = let n = eqb-false j i t in f j (omega arith)
  next i k h true false p q =
      let e = eqb-true k i p in (omega arith, (h.1.0, λ g. ap (λ x. finite (float_at w x)) e ∙ q))
  next i k h false b p q =
      let n = eqb-false k i p in
      let l = h.0 in (omega arith, (h.1.0, λ g. h.1.1 (omega arith)))

  pub first_place : (i : ℕ) → First w i (place_in w i)
  unfolding place_in
  first_place zero = (omega arith, (λ j g. absurd (omega arith), λ g. absurd (omega arith)))
  first_place (suc i) = next i (place_in w i) (first_place i) (eqb (place_in w i) i) (finite (float_at w i)) refl refl
