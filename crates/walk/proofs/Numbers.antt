-- RULES, section 6, "When, and only then", of any walk: refused by n exactly where the path stops by n, and by no number
-- exactly where all of it passes.
use mathlib.Core.Bool.{Bool, true, false, cond, ◌&&◌, true≢false, false≢true}
use mathlib.Core.List.{List, [], ◌∷◌}
use mathlib.Core.Logic.{◌⊎◌, inl, inr, ⊎_elim, ◌↔◌}
use mathlib.Core.Option.{Option, some, none}
use mathlib.Core.Path.{◌≡◌, refl, sym, ap, ◌∙◌}
use Prim.Native.Nat.{ℕ}
use native.Mathlib.Omega.{arith}
use lib.Ieee as Ieee
use lib.Ieee.{of_bits}
use Rattle.numbers.specs.Floats.{finite, is_number}
use Rattle.numbers.proofs.Order.{lt_left, lt_right}
use Rattle.answers.specs.Refusals.{below_range, above_range}
use Rattle.answers.specs.Range.{in_range, side_of}
use Rattle.answers.proofs.Sides.{Ends, sides}
use Rattle.tensor.specs.Axes.{all_of}
use Rattle.plasticity.specs.declared.Outcome.{Outcome}
use Rattle.plasticity.specs.declared.Outcome.TheVariants as outcome
use Rattle.walk.specs.Expr.{Expr, value, clean}
use Rattle.walk.proofs.Expr.{whole_tells}
use Rattle.walk.specs.Walk.{Function, exp, ln, sin, root, sinh, third, two_thirds, minus_third, minus_two_thirds, itself, low_of, high_of, compared, Walk, walk_result}
use Rattle.walk.specs.Exact.{Met, input, argument, worked, tested, result_of, path, first, all_clean, Refusal}
use Rattle.walk.specs.Body.{Body, Change, outcome_of, refusal_of, number_of}
use Rattle.walk.proofs.Body.{refused_exactly}
use Rattle.walk.specs.Numbers.{sound, within, below, above, unsound, Refuses, Stops, Comes, Clear}

-- ---- the first refusal's number
differ : {m n : ℕ} → some m ≡ some n → m ≡ n
differ e = cc

nothing : (n : ℕ) → ◌≡◌ {A = Option ℕ} none (some n) → ⊥
nothing n e = let z : ◌≡◌ {A = ℕ} 0 1 = cc in omega arith

-- o is what follows; d is the refusal of an argument outside its range, c of what isn't sound
module _ (S : Type 0) (o : Option ℕ) (d c : ℕ) where
  abbrev By : Bool → Bool → ℕ → Type 0
  By a b n = (((a ≡ true) × (b ≡ false) × (d ≡ n)) ⊎ ((a ≡ false) × (c ≡ n))) ⊎ (((a ≡ true) × (b ≡ true)) × S)

  stopped : (a b : Bool) (n : ℕ) → (o ≡ some n) ↔ S → (cond a (cond b o (some d)) (some c) ≡ some n) ↔ By a b n
  stopped true true n w = (λ e. inr ((refl, refl), w.0 e), back)
    where
      back : By true true n → o ≡ some n
      back (inl (inl q)) = absurd (true≢false q.1)
      back (inl (inr q)) = absurd (true≢false q.0)
      back (inr q) = w.1 q.1
  stopped true false n w = (λ e. inl (inl (refl, refl, differ e)), back)
    where
      back : By true false n → some d ≡ some n
      back (inl (inl q)) = ap some q.2
      back (inl (inr q)) = absurd (true≢false q.0)
      back (inr q) = absurd (false≢true q.0.1)
  stopped false b n w = (λ e. inl (inr (refl, differ e)), back)
    where
      back : By false b n → some c ≡ some n
      back (inl (inl q)) = absurd (false≢true q.0)
      back (inl (inr q)) = ap some q.1
      back (inr q) = absurd (false≢true q.0.0)

  cleared : (a b : Bool) → (o ≡ none) ↔ S → (cond a (cond b o (some d)) (some c) ≡ none) ↔ (((a ≡ true) × (b ≡ true)) × S)
  cleared true true w = (λ e. ((refl, refl), w.0 e), λ q. w.1 q.1)
  cleared true false w = (λ e. absurd (nothing d (sym e)), λ q. absurd (false≢true q.0.1))
  cleared false b w = (λ e. absurd (nothing c (sym e)), λ q. absurd (false≢true q.0.0))

-- a section 3 range is one of numbers
unfoldable ends : (f : Function) → Ends (low_of f) (high_of f)
unfolding of_bits Ieee.neg Ieee.le Ieee.lt Ieee.eq is_number
ends exp = record { low_number = refl; high_number = refl; in_order = refl }
ends ln = record { low_number = refl; high_number = refl; in_order = refl }
ends sin = record { low_number = refl; high_number = refl; in_order = refl }
ends root = record { low_number = refl; high_number = refl; in_order = refl }
ends sinh = record { low_number = refl; high_number = refl; in_order = refl }
ends third = record { low_number = refl; high_number = refl; in_order = refl }
ends two_thirds = record { low_number = refl; high_number = refl; in_order = refl }
ends minus_third = record { low_number = refl; high_number = refl; in_order = refl }
ends minus_two_thirds = record { low_number = refl; high_number = refl; in_order = refl }
ends itself = record { low_number = refl; high_number = refl; in_order = refl }

-- the number of a step's argument, were it outside the range
abbrev side : Met → ℕ
side (argument n f e) = side_of (low_of f) (high_of f) (value e)
side (input l) = below_range
side (worked n es) = below_range
side (tested n t) = below_range
side (result_of n rows) = below_range

abbrev Turned : ℕ → Met → Type 0
Turned n m = ((sound m ≡ true) × (within m ≡ false) × (side m ≡ n)) ⊎ ((sound m ≡ false) × (unsound m ≡ n))

asks_none : (A B C D E : Type 0) → ((A × (true ≡ false) × B) ⊎ C) ↔ (((false ≡ true) × D) ⊎ (((false ≡ true) × E) ⊎ C))
asks_none A B C D E = (forth, back)
  where
    forth : (A × (true ≡ false) × B) ⊎ C → ((false ≡ true) × D) ⊎ (((false ≡ true) × E) ⊎ C)
    forth (inl q) = absurd (true≢false q.1)
    forth (inr q) = inr (inr q)

    back : ((false ≡ true) × D) ⊎ (((false ≡ true) × E) ⊎ C) → (A × (true ≡ false) × B) ⊎ C
    back (inl q) = absurd (false≢true q.0)
    back (inr (inl q)) = absurd (false≢true q.0)
    back (inr (inr q)) = inr q

argument_turned : (k : ℕ) (f : Function) (e : Expr) (n : ℕ) → Turned n (argument k f e) ↔ Refuses n (argument k f e)
argument_turned k f e n = (forth, back)
  where
    forth : Turned n (argument k f e) → Refuses n (argument k f e)
    forth (inl q) = ⊎_elim (λ p. inl p) (λ p. inr (inl p)) ((sides (low_of f) (high_of f) (value e) (ends f) (whole_tells e ∙ q.0) n).0 (q.1, q.2))
    forth (inr q) = inr (inr q)

    back : Refuses n (argument k f e) → Turned n (argument k f e)
    back (inl q) =
        let h = lt_left (value e) (low_of f) q.0 in
        let r = (sides (low_of f) (high_of f) (value e) (ends f) h n).1 (inl q) in
        inl (sym (whole_tells e) ∙ h, r.0, r.1)
    back (inr (inl q)) =
        let h = lt_right (high_of f) (value e) q.0 in
        let r = (sides (low_of f) (high_of f) (value e) (ends f) h n).1 (inr q) in
        inl (sym (whole_tells e) ∙ h, r.0, r.1)
    back (inr (inr q)) = inr q

turned : (m : Met) (n : ℕ) → Turned n m ↔ Refuses n m
turned (input l) n = asks_none _ _ _ _ _
turned (argument k f e) n = argument_turned k f e n
turned (worked k es) n = asks_none _ _ _ _ _
turned (tested k t) n = asks_none _ _ _ _ _
turned (result_of k rows) n = asks_none _ _ _ _ _

-- one more step
told : (a b : Bool) (r s t : Option Refusal) → number_of (cond a (cond b r s) t) ≡ cond a (cond b (number_of r) (number_of s)) (number_of t)
told true true r s t = refl
told true false r s t = refl
told false b r s t = refl

gate : (a : Bool) (r t : Option Refusal) → number_of (cond a r t) ≡ cond a (number_of r) (number_of t)
gate true r t = refl
gate false r t = refl

one_more : (m : Met) (ms : List Met) → number_of (first (m ∷ ms)) ≡ cond (sound m) (cond (within m) (number_of (first ms)) (some (side m))) (some (unsound m))
one_more (input l) ms = gate (all_of finite l) (first ms) _
one_more (argument n f e) ms = told (clean e) (in_range (low_of f) (high_of f) (value e)) (first ms) _ _
one_more (worked n es) ms = gate (all_clean es) (first ms) _
one_more (tested n t) ms = gate (all_clean (compared t)) (first ms) _
one_more (result_of n rows) ms = gate (all_of (all_of (λ e. clean e && finite (value e))) rows) (first ms) _

pub first_stops : (ms : List Met) (n : ℕ) → (number_of (first ms) ≡ some n) ↔ Stops n ms
first_stops [] n = (nothing n, λ q. absurd q)
first_stops (m ∷ ms) n =
    let w = stopped (Stops n ms) (number_of (first ms)) (side m) (unsound m) (sound m) (within m) n (first_stops ms n) in
    let r = turned m n in (
      λ e. ⊎_elim (λ q. inl (r.0 q)) (λ q. inr q) (w.0 (sym (one_more m ms) ∙ e)),
      λ q. one_more m ms ∙ w.1 (⊎_elim (λ p. inl (r.1 p)) (λ p. inr p) q),
    )

pub first_clear : (ms : List Met) → (number_of (first ms) ≡ none) ↔ Clear ms
first_clear [] = (λ e. tt, λ q. refl)
first_clear (m ∷ ms) =
    let w = cleared (Clear ms) (number_of (first ms)) (side m) (unsound m) (sound m) (within m) (first_clear ms) in (
      λ e. w.0 (sym (one_more m ms) ∙ e),
      λ q. one_more m ms ∙ w.1 q,
    )

-- ---- 2 and 10 by themselves
unsound_is : (m : Met) → (unsound m ≡ 1) ⊎ (unsound m ≡ 3)
unsound_is (input l) = inl refl
unsound_is (argument n f e) = inr refl
unsound_is (worked n es) = inr refl
unsound_is (tested n t) = inr refl
unsound_is (result_of n rows) = inr refl

never_side : (m : Met) (n : ℕ) → (n ≡ below_range) ⊎ (n ≡ above_range) → unsound m ≡ n → ⊥
never_side m n h q = ⊎_elim (λ u. ⊎_elim (λ e. omega arith) (λ e. omega arith) h) (λ u. ⊎_elim (λ e. omega arith) (λ e. omega arith) h) (unsound_is m)

refuses_below : (m : Met) → Refuses below_range m → below m ≡ true
refuses_below m (inl q) = q.0
refuses_below m (inr (inl q)) = let z = q.1 in absurd (omega arith)
refuses_below m (inr (inr q)) = absurd (never_side m below_range (inl refl) q.1)

refuses_above : (m : Met) → Refuses above_range m → above m ≡ true
refuses_above m (inl q) = let z = q.1 in absurd (omega arith)
refuses_above m (inr (inl q)) = q.0
refuses_above m (inr (inr q)) = absurd (never_side m above_range (inr refl) q.1)

-- 2 exactly where the first to refuse is an argument below its range, 10 exactly where it is one above it
pub stops_below : (ms : List Met) → Stops below_range ms ↔ Comes below ms
stops_below [] = (λ q. q, λ q. q)
stops_below (m ∷ ms) = (
  ⊎_elim (λ q. inl (refuses_below m q)) (λ q. inr (q.0, (stops_below ms).0 q.1)),
  ⊎_elim (λ q. inl (inl (q, refl))) (λ q. inr (q.0, (stops_below ms).1 q.1)),
)

pub stops_above : (ms : List Met) → Stops above_range ms ↔ Comes above ms
stops_above [] = (λ q. q, λ q. q)
stops_above (m ∷ ms) = (
  ⊎_elim (λ q. inl (refuses_above m q)) (λ q. inr (q.0, (stops_above ms).0 q.1)),
  ⊎_elim (λ q. inl (inr (inl (q, refl)))) (λ q. inr (q.0, (stops_above ms).1 q.1)),
)

-- ---- of a law
pub as_outcome : (o : Outcome) (n : ℕ) → refusal_of o ≡ some n → o ≡ outcome.Refused n
as_outcome outcome.Untouched n e = absurd (nothing n e)
as_outcome (outcome.Stored a) n e = absurd (nothing n e)
as_outcome (outcome.Refused m) n e = ap outcome.Refused (differ e)

module _ {S R : Type 0} (b : Body S R) (s : S) (w : Walk (Change S)) where
  pub refused_when : (n : ℕ) → (outcome_of b s (walk_result w) ≡ outcome.Refused n) ↔ Stops n (path w)
  refused_when n = (
    λ e. (first_stops (path w) n).0 (sym (refused_exactly b s w) ∙ ap refusal_of e),
    λ q. as_outcome (outcome_of b s (walk_result w)) n (refused_exactly b s w ∙ (first_stops (path w) n).1 q),
  )

  pub accepted_when : (refusal_of (outcome_of b s (walk_result w)) ≡ none) ↔ Clear (path w)
  accepted_when = (
    λ e. (first_clear (path w)).0 (sym (refused_exactly b s w) ∙ e),
    λ q. refused_exactly b s w ∙ (first_clear (path w)).1 q,
  )
