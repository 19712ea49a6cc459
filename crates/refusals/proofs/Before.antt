-- Nothing accepted before changes: each law is its walk, and of a walk it is proved. Assumes nothing.
use mathlib.Core.Path.{◌≡◌, refl, ap, ◌∙◌}
use Rattle.answers.proofs.Before.{bare_before}
use Rattle.plasticity.specs.declared.State.{State}
use Rattle.walk.specs.Walk.{Walk, low_of, high_of, at, Ended, given, refused, walk_result}
use Rattle.walk.specs.Update.{Change, untouched, stored, updated_of}
use Rattle.walk.specs.Before.{ended_before, result_before}
use Rattle.walk.proofs.Before.{same_before}
use Rattle.record.specs.Layout.{state_at}
use Rattle.refusals.specs.Refusals.{walk_of, record_walk, failure_walk}
use Rattle.refusals.specs.Before.{outcome_before, updated_before, NothingElse}
use Rattle.model.proofs.RowLaws.{walked}
use Rattle.refusals.proofs.Updates.{record_walked}
use Rattle.refusals.proofs.Failure.{failure_walked}

told : (s : State) (x : Ended Change) → updated_before (updated_of s x) ≡ updated_of s (ended_before x)
told s (given untouched) = refl
told s (given (stored new a)) = refl
told s (refused n) = refl

as_before : (s : State) (w : Walk Change) → updated_before (updated_of s (walk_result w)) ≡ updated_of s (result_before w)
as_before s w = told s (walk_result w) ∙ ap (updated_of s) (same_before w)

pub nothing_else : NothingElse
nothing_else =
    record {
      update = λ m u vt s. ap updated_before (walked m u vt s) ∙ as_before s (walk_of m u vt s);
      law = λ m r d. ap outcome_before (record_walked m r d) ∙ ap (λ v. v.outcome) (as_before (state_at r) (record_walk m r));
      failure_law_lem = λ m l e r d. ap outcome_before (failure_walked m l e r d) ∙ ap (λ v. v.outcome) (as_before (state_at r) (failure_walk m l e r));
      call = λ f x. bare_before (low_of f) (high_of f) x (at f x);
    }
