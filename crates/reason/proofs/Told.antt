-- Ticket 8 of any law: a reason refuses exactly where the update does, by the same number; else it names the last test, and the update ends where
-- that path does.
use mathlib.Core.List.{List, [], ◌∷◌}
use mathlib.Core.Bool.{Bool}
use mathlib.Core.Option.{Option, some, none}
use mathlib.Core.Path.{◌≡◌, refl, sym, ap, ◌∙◌}
use native.Mathlib.Omega.{arith}
use Prim.Native.Nat.{ℕ}
use lib.Ieee.{Float}
use Rattle.plasticity.specs.declared.Outcome.{Outcome}
use Rattle.plasticity.specs.declared.Outcome.TheVariants as outcome
use Rattle.plasticity.specs.declared.State.{State}
use Rattle.walk.specs.Walk.{Walk, given, walk_result}
use Rattle.walk.specs.Exact as walk
use Rattle.walk.specs.Exact.{Met, Refusal, path, final, first, last, answer}
use Rattle.walk.proofs.Exact.{exactly}
use Rattle.walk.specs.Numbers.{Stops}
use Rattle.walk.proofs.Numbers.{first_stops}
use Rattle.walk.proofs.Answers.{stops_positive}
use Rattle.walk.proofs.Body.{refused_exactly}
use Rattle.walk.specs.Update.{Change, updated_of, refusal_of, number_of, in_three}
use Rattle.reason.specs.declared.Reason.{Reason}
use Rattle.reason.specs.Reason.{compared_as, last_or, refused_or, reason_from, untold, last_as, reason_of}
use Rattle.reason.specs.Told.{reason_number, outcome_number}

abbrev code_of : Option ℕ → ℕ
code_of none = 0
code_of (some n) = n

coded : (o : Outcome) → outcome_number o ≡ code_of (refusal_of o)
coded outcome.Untouched = refl
coded (outcome.Stored a) = refl
coded (outcome.Refused n) = refl

compared_number : (n : ℕ) (held : Bool) (l : List Float) → reason_number (compared_as n held l) ≡ 0
compared_number n held [] = refl
compared_number n held (a ∷ []) = refl
compared_number n held (a ∷ b ∷ []) = refl
compared_number n held (a ∷ b ∷ c ∷ l) = refl

-- no refusal has the number 0
none_first : (ms : List Met) (o : Option Refusal) → first ms ≡ o → code_of (number_of o) ≡ 0 → o ≡ none
none_first ms none h e = refl
none_first ms (some r) h e = absurd (let q : Stops 0 ms = (first_stops ms 0).0 (ap number_of h ∙ ap some e) in let z = stops_positive ms 0 q in omega arith)

module _ (d : Reason) (h : reason_number d ≡ 0) where
  last_number : (o : Option walk.Reason) → reason_number (last_or d o) ≡ 0
  last_number none = h
  last_number (some t) = compared_number t.test t.held t.compares

  told : (o : Option Refusal) (t : Option walk.Reason) → reason_number (refused_or o (last_or d t)) ≡ code_of (number_of o)
  told none t = last_number t
  told (some r) t = refl

  module _ (s : State) (w : Walk Change) where
    pub number_told : reason_number (reason_from d w) ≡ outcome_number (updated_of s (walk_result w)).outcome
    unfolding reason_from
    number_told = told (first (path w)) (last (path w)) ∙ sym (coded (updated_of s (walk_result w)).outcome ∙ ap code_of (refused_exactly in_three s w))

    passes : reason_number (reason_from d w) ≡ 0 → first (path w) ≡ none
    unfolding reason_from
    passes e = none_first (path w) (first (path w)) refl (sym (told (first (path w)) (last (path w))) ∙ e)

    -- where nothing refuses: the last test, and the path's end
    pub last_told : reason_number (reason_from d w) ≡ 0 → (reason_from d w ≡ last_or d (last (path w))) × (updated_of s (walk_result w) ≡ updated_of s (given (final w)))
    unfolding reason_from
    last_told e =
        let p = passes e in
        (ap (λ o. refused_or o (last_or d (last (path w)))) p, ap (updated_of s) (exactly w ∙ ap (λ o. answer o (final w)) p))

-- of a law that makes a test on every path
of_untold : (w : Walk Change) → reason_of w ≡ reason_from untold w
unfolding reason_of reason_from
of_untold w = refl

pub number_of_lem : (s : State) (w : Walk Change) → reason_number (reason_of w) ≡ outcome_number (updated_of s (walk_result w)).outcome
number_of_lem s w = ap reason_number (of_untold w) ∙ number_told untold refl s w

pub last_of : (s : State) (w : Walk Change) → reason_number (reason_of w) ≡ 0 → (reason_of w ≡ last_as (last (path w))) × (updated_of s (walk_result w) ≡ updated_of s (given (final w)))
last_of s w e =
    let q = last_told untold refl s w (sym (ap reason_number (of_untold w)) ∙ e) in
    (of_untold w ∙ q.0, q.1)
