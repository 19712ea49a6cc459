-- Section 6 of an enum's number (specs/Enums), from what is said of its cases; and what is made where nothing is refused. Assumes nothing.
use mathlib.Core.Path.{◌≡◌, refl, ap, ◌∙◌}
use mathlib.Core.Bool.{Bool, true, false, cond, ◌&&◌}
use mathlib.Core.List.{List}
use mathlib.Core.Logic.{◌⊎◌, inl, inr, ◌↔◌}
use Prim.Native.Nat.{ℕ, ◌≤◌, ◌<◌}
use native.Mathlib.Omega.{arith}
use lib.Ieee.{Float}
use Rattle.answers.specs.Refusals.{below_range, above_range}
use Rattle.walk.specs.Exact.{Met}
use Rattle.failure_maximum_stress.specs.declared.MaximumStressFailure.{MaximumStressFailure}
use Rattle.failure_maximum_stress.specs.declared.Verdict.{Verdict}
use Rattle.failure_maximum_stress.specs.declared.Verdict.TheVariants as verdict
use Rattle.failure_maximum_stress.specs.Failure.{limits_finite, exceeds_of, verdict_of}
use Rattle.tensor.specs.Finite.{row_finite}
use Rattle.refusals.specs.Refusals.{Numbers}
use Rattle.refusals.specs.Calls.{Beside}
use Rattle.refusals.specs.Enums.{verdict_number, verdict_failed}

mapped : (R S : ℕ → Type 0) (ms : List Met) → ((n : ℕ) → R n ↔ S n) → Numbers R ms → Numbers S ms
mapped R S ms k q =
    record {
      refused = λ n. (λ s. (q.refused n).0 ((k n).1 s), λ t. (k n).0 ((q.refused n).1 t));
      accepted = (λ h. q.accepted.0 (λ n r. h n ((k n).0 r)), λ c n s. q.accepted.1 c n ((k n).1 s));
      one = (λ s. q.one.0 ((k 1).1 s), λ t. (k 1).0 (q.one.1 t));
      below = (λ s. q.below.0 ((k below_range).1 s), λ t. (k below_range).0 (q.below.1 t));
      above = (λ s. q.above.0 ((k above_range).1 s), λ t. (k above_range).0 (q.above.1 t));
      only = λ n s. q.only n ((k n).1 s);
    }

positive : (n : ℕ) → ((1 ≤ n) × (n ≤ 3)) ⊎ (n ≡ above_range) → 0 < n
positive n (inl q) = let z = q.0 in omega arith
positive n (inr q) = omega arith

module _ {X : Type 0} (code : X → ℕ) (refusal : ℕ → X) where
  -- the number of what is refused, and nothing else has that number
  abbrev pub Coded : Type 0
  Coded = ((n : ℕ) → code (refusal n) ≡ n) × ((y : X) (n : ℕ) → 0 < n → code y ≡ n → y ≡ refusal n)

  pub coded : Coded → (x : X) (ms : List Met) → Numbers (λ n. x ≡ refusal n) ms → Beside (code x) ms
  coded c x ms q =
      mapped (λ n. x ≡ refusal n) (λ n. (0 < n) × (code x ≡ n)) ms
      (λ n. (λ e. (positive n (q.only n e), ap code e ∙ c.0 n), λ s. c.1 x n s.0 s.1)) q

-- ---- what is made where nothing is refused: after two tests, after one
module _ {X : Type 0} (code : X → ℕ) (values : X → List Float) where
  pub made : (a b : Bool) (x y z : X) → 0 < code y → 0 < code z → code (cond a (cond b x y) z) ≡ 0 → values (cond a (cond b x y) z) ≡ values x
  made true true x y z h i e = refl
  made true false x y z h i e = absurd (omega arith)
  made false b x y z h i e = absurd (omega arith)

  pub made_once : (a : Bool) (x z : X) → 0 < code z → code (cond a x z) ≡ 0 → values (cond a x z) ≡ values x
  made_once true x z h e = refl
  made_once false x z h e = absurd (omega arith)

-- ---- the verdict
pub verdict_coded : Coded verdict_number verdict.Refused
verdict_coded = (λ n. refl, back)
  where
    back : (y : Verdict) (n : ℕ) → 0 < n → verdict_number y ≡ n → y ≡ verdict.Refused n
    back verdict.No n h e = absurd (omega arith)
    back verdict.Yes n h e = absurd (omega arith)
    back (verdict.Refused m) n h e = ap verdict.Refused e

told : (ok over : Bool) → verdict_number (cond ok (cond over verdict.Yes verdict.No) (verdict.Refused 1)) ≡ 0
    → verdict_failed (cond ok (cond over verdict.Yes verdict.No) (verdict.Refused 1)) ≡ over
told true true e = refl
told true false e = refl
told false over e = absurd (omega arith)

pub verdict_failed_lem : (l : MaximumStressFailure) (s : List Float) → verdict_number (verdict_of l s) ≡ 0 → verdict_failed (verdict_of l s) ≡ exceeds_of l s
unfolding verdict_of
verdict_failed_lem l s e = told (limits_finite l && row_finite s) (exceeds_of l s) e
