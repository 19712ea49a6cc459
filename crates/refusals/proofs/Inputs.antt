-- The inputs of a record by place: the list that is tested holds the record's 37 floats. Assumes nothing.
use mathlib.Core.Path.{◌≡◌, refl, sym, ap, subst, ◌∙◌}
use mathlib.Core.Logic.{◌⊎◌, inl, inr, ⊎_elim, ◌↔◌}
use mathlib.Core.Bool.{Bool, true, false, true≢false}
use mathlib.Core.List.{List, [], ◌∷◌, ◌++◌}
use Prim.Native.Nat.{ℕ, zero, suc, ◌+◌, ◌≤◌, ◌<◌}
use native.Mathlib.Nat.{eq-or-lt_of_le}
use native.Mathlib.Omega.{arith}
use lib.Ieee.{Float}
use Rattle.numbers.specs.Floats.{finite}
use Rattle.tensor.specs.Axes.{all_of}
use Rattle.record.specs.Layout.{floats, float_at}
use Rattle.refusals.specs.Refusals.{NotFinite, SomeNotFinite, record_floats, RecordNotFinite}
use Rattle.refusals.proofs.Numbers.{not_finite_lem}
use Rattle.walk.specs.Body as body

pub no_both : (b : Bool) → b ≡ true → b ≡ false → ⊥
no_both b t f = true≢false (sym t ∙ f)

pub decide : (b : Bool) → (b ≡ true) ⊎ (b ≡ false)
decide true = inl refl
decide false = inr refl

-- ---- two lists together
pub some_append : (a b : List Float) → SomeNotFinite (a ++ b) ↔ (SomeNotFinite a ⊎ SomeNotFinite b)
some_append [] b = (λ q. inr q, ⊎_elim (λ q. absurd q) (λ q. q))
some_append (x ∷ a) b = (
  ⊎_elim (λ q. inl (inl q)) (λ q. ⊎_elim (λ p. inl (inr p)) (λ p. inr p) ((some_append a b).0 q)),
  ⊎_elim (⊎_elim (λ q. inl q) (λ q. inr ((some_append a b).1 (inl q)))) (λ q. inr ((some_append a b).1 (inr q))),
)

-- ---- n numbers from place a on
module _ (f : ℕ → Float) where
  listed : ℕ → ℕ → List Float
  listed a zero = []
  listed a (suc n) = f a ∷ listed (a + 1) n

  At : ℕ → ℕ → Type 0
  At a n = (k : ℕ) × (a ≤ k) × (k < a + n) × NotFinite (f k)

  found : (a n : ℕ) → SomeNotFinite (listed a n) → At a n
  unfolding listed At
  found a zero q = absurd q
  found a (suc n) (inl q) = (a, omega arith, omega arith, q)
  found a (suc n) (inr q) = further (found (a + 1) n q)
    where
      further : At (a + 1) n → At a (suc n)
      further (k, h, g, z) = (k, omega arith, omega arith, z)

  placed : (a n : ℕ) → At a n → SomeNotFinite (listed a n)
  unfolding listed At
  placed a zero (k, h, g, z) = absurd (omega arith)
  placed a (suc n) (k, h, g, z) =
      ⊎_elim (λ e. inl (subst (λ (i : ℕ). NotFinite (f i)) (sym e) z)) (λ l. inr (placed (a + 1) n (k, omega arith, omega arith, z))) (eq-or-lt_of_le h)

module _ (r : List ℕ) where
  all_listed : record_floats r ≡ listed (float_at r) 0 floats
  unfolding body.floats_of listed
  all_listed = refl

  pub places : SomeNotFinite (record_floats r) ↔ RecordNotFinite r
  unfolding At
  places = (λ q. forth (found (float_at r) 0 floats (subst SomeNotFinite all_listed q)), back)
    where
      forth : At (float_at r) 0 floats → RecordNotFinite r
      forth (k, h, g, z) = (k, omega arith, z)

      back : RecordNotFinite r → SomeNotFinite (record_floats r)
      back (k, g, z) = subst SomeNotFinite (sym all_listed) (placed (float_at r) 0 floats (k, omega arith, omega arith, z))

  pub holds : all_of finite (record_floats r) ≡ true → (k : ℕ) → k < floats → finite (float_at r k) ≡ true
  holds q k h = ⊎_elim (λ t. t) (λ z. absurd (no_both (all_of finite (record_floats r)) q ((not_finite_lem (record_floats r)).1 (places.1 (k, h, z))))) (decide (finite (float_at r k)))
