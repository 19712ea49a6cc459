-- The passes by zone that a host asks for, each as a call on its words: refused by 8 or by 6 it changes nothing, else it is `tallies`' own call. So a sequence of them is one of `tallies/proofs/HostSequence: since_cleared_host`. And when each is refused by 8, 6, 12 and 13. Assumes nothing.
use mathlib.Core.Path.{◌≡◌, refl, sym}
use mathlib.Core.Logic.{◌↔◌}
use mathlib.Core.Bool.{Bool, true, false, cond, ◌&&◌, false≢true}
use mathlib.Core.List.{List, [], ◌∷◌}
use Prim.Native.Nat.{ℕ, ◌/◌}
use native.Mathlib.Omega.{arith}
use lib.Dec.{eqb}
use lib.ListN.{length, get_or}
use Rattle.numbers.proofs.Laws.{and_both}
use Rattle.answers.specs.Refusals.{unknown, wrong_length, bad_zone, tally_full}
use Rattle.record.specs.Layout.{floats}
use Rattle.particles.specs.Pass.{well_sized}
use Rattle.particles.specs.declared.step.Step.{Step}
use Rattle.particles.specs.declared.step.Step.TheVariants.{Plain, Judged}
use Rattle.particles.specs.Step.{step_law}
use Rattle.model.specs.Fields.{model_of}
use Rattle.host_lists.specs.Laws.{corotated_of, limits_of}
use Rattle.model.specs.Kinds.{parameters_fit, model_known}
use Rattle.tallies.specs.Zones.{zones_fit}
use Rattle.tallies.specs.Tallies.{pass_zones_fit, pass_room}
use Rattle.tallies.specs.Words.{zones_of, whole, all_tallies, passed, passed_records, passed_answers, passed_words}
use Rattle.tallies.specs.Exactly.{OutOfRange, Full}
use Rattle.tallies.specs.Sequence.{pass}
use Rattle.tallies.specs.HostSequence.{KeptWords, AllNowWords, Asked, after_asked}
use Rattle.tallies.proofs.HostSequence.{refused_pass_keeps, now_counted_words, pass_words_twelve, pass_words_thirteen}
use Rattle.host_lists.specs.Called.{Called, called, call_of}
use Rattle.host_passes.specs.Passes.{failure_known}
use Rattle.host_passes.specs.Zones.{zoned_by, zones_sized, zones_pass, failure_zones_sized, failure_zones_pass}

-- the tallies that a call leaves: its third list
abbrev pub tallies_of : Called → List ℕ
tallies_of c = get_or c.lists 2 []

abbrev pub pass_asked : ℕ → List ℕ → List ℕ → List ℕ → Asked
pass_asked model p xs out = record { goes = λ k. zones_sized model p xs out k.words && model_known model p; call = pass (Plain (model_of model p)) xs out }

abbrev pub failure_asked : ℕ → List ℕ → List ℕ → List ℕ → List ℕ → List ℕ → Asked
failure_asked model p l e xs out = record { goes = λ k. failure_zones_sized model p l e xs out k.words && failure_known model p e; call = pass (Judged (model_of model p) (limits_of l) (corotated_of e)) xs out }

either : (a b : Bool) (d : Called) (zones xs out ws : List ℕ) → ◌≡◌ {A = KeptWords} (record { zones = zones; words = tallies_of (call_of a b d (xs ∷ out ∷ ws ∷ [])) }) (cond (a && b) (record { zones = zones; words = tallies_of d }) (record { zones = zones; words = ws }))
either true true d zones xs out ws = refl
either true false d zones xs out ws = refl
either false b d zones xs out ws = refl

pub pass_asked_lem : (model : ℕ) (p xs out : List ℕ) (k : KeptWords) → ◌≡◌ {A = KeptWords} (record { zones = k.zones; words = tallies_of (zones_pass model p k.zones xs out k.words) }) (after_asked (pass_asked model p xs out) k)
unfolding zones_pass
pass_asked_lem model p xs out k = either (zones_sized model p xs out k.words) (model_known model p) (zoned_by (step_law (Plain (model_of model p))) k.zones xs out k.words) k.zones xs out k.words

pub failure_asked_lem : (model : ℕ) (p l e xs out : List ℕ) (k : KeptWords) → ◌≡◌ {A = KeptWords} (record { zones = k.zones; words = tallies_of (failure_zones_pass model p l e k.zones xs out k.words) }) (after_asked (failure_asked model p l e xs out) k)
unfolding failure_zones_pass
failure_asked_lem model p l e xs out k = either (failure_zones_sized model p l e xs out k.words) (failure_known model p e) (zoned_by (step_law (Judged (model_of model p) (limits_of l) (corotated_of e))) k.zones xs out k.words) k.zones xs out k.words

-- ---- 8, then 6, then what the call on words answers
module _ (d : Called) (ls : List (List ℕ)) where
  after_both : (k : ℕ) → (wrong_length ≡ k → ⊥) → (unknown ≡ k → ⊥) → (a b : Bool) → ((call_of a b d ls).code ≡ k) ↔ ((a && b ≡ true) × (d.code ≡ k))
  after_both k w u true true = (λ e. (refl, e), λ h. h.1)
  after_both k w u true false = (λ e. absurd (u e), λ h. absurd (false≢true h.0))
  after_both k w u false b = (λ e. absurd (w e), λ h. absurd (false≢true h.0))

  first_eight : (a b : Bool) → (a ≡ true → d.code ≡ wrong_length → ⊥) → ((call_of a b d ls).code ≡ wrong_length) ↔ (a ≡ false)
  first_eight true true n = (λ e. absurd (n refl e), λ h. absurd (false≢true (sym h)))
  first_eight true false n = (λ e. absurd (omega (arith, e)), λ h. absurd (false≢true (sym h)))
  first_eight false b n = (λ e. refl, λ h. refl)

  then_six : (a b : Bool) → (d.code ≡ unknown → ⊥) → ((call_of a b d ls).code ≡ unknown) ↔ ((a ≡ true) × (b ≡ false))
  then_six true true n = (λ e. absurd (n e), λ h. absurd (false≢true (sym h.1)))
  then_six true false n = (λ e. (refl, refl), λ h. refl)
  then_six false b n = (λ e. absurd (omega (arith, e)), λ h. absurd (false≢true h.0))

  -- a number other than 0 comes with nothing changed
  kept : (a b : Bool) → ((call_of a b d ls).code ≡ 0 → ⊥) → ((d.code ≡ 0 → ⊥) → d.lists ≡ ls) → (call_of a b d ls).lists ≡ ls
  kept true true h k = k h
  kept true false h k = refl
  kept false b h k = refl

  going_lists : (a b : Bool) → a && b ≡ true → (call_of a b d ls).lists ≡ d.lists
  going_lists true true g = refl
  going_lists true false g = absurd (false≢true g)
  going_lists false b g = absurd (false≢true g)

-- which answers no 6, and 8 of its own lists alone
no_six : (w a b c : Bool) → ◌≡◌ {A = ℕ} (cond w (cond a (cond b (cond c 0 tally_full) bad_zone) wrong_length) wrong_length) unknown → ⊥
no_six true true true true e = omega (arith, e)
no_six true true true false e = omega (arith, e)
no_six true true false c e = omega (arith, e)
no_six true false b c e = omega (arith, e)
no_six false a b c e = omega (arith, e)

no_eight : (w a b c : Bool) → (w ≡ true) × (a ≡ true) → ◌≡◌ {A = ℕ} (cond w (cond a (cond b (cond c 0 tally_full) bad_zone) wrong_length) wrong_length) wrong_length → ⊥
no_eight true true true true h e = omega (arith, e)
no_eight true true true false h e = omega (arith, e)
no_eight true true false c h e = omega (arith, e)
no_eight true false b c h e = false≢true h.1
no_eight false a b c h e = false≢true h.0

not_twelve : (◌≡◌ {A = ℕ} wrong_length bad_zone → ⊥) × (◌≡◌ {A = ℕ} unknown bad_zone → ⊥)
not_twelve = (λ e. omega (arith, e), λ e. omega (arith, e))

not_thirteen : (◌≡◌ {A = ℕ} wrong_length tally_full → ⊥) × (◌≡◌ {A = ℕ} unknown tally_full → ⊥)
not_thirteen = (λ e. omega (arith, e), λ e. omega (arith, e))

not_zero : (◌≡◌ {A = ℕ} wrong_length 0 → ⊥) × (◌≡◌ {A = ℕ} unknown 0 → ⊥)
not_zero = (λ e. omega (arith, e), λ e. omega (arith, e))

module _ (sized known : Bool) (s : Step) (zones xs out ws : List ℕ) where
  abbrev left : Called
  left = call_of sized known (zoned_by (step_law s) zones xs out ws) (xs ∷ out ∷ ws ∷ [])

  six : (left.code ≡ unknown) ↔ ((sized ≡ true) × (known ≡ false))
  six = then_six _ _ sized known (no_six (whole ws) (well_sized xs out) (pass_zones_fit xs zones (zones_of ws)) (pass_room zones (zones_of ws) (all_tallies ws)))

  nothing : (left.code ≡ 0 → ⊥) → left.lists ≡ xs ∷ out ∷ ws ∷ []
  nothing h = kept _ _ sized known h (λ d. let q = refused_pass_keeps (step_law s) xs out zones ws d in rw (q.0, q.1, q.2))

  -- 0: particles now are counted
  counted : left.code ≡ 0 → AllNowWords zones (tallies_of left)
  counted e =
      let h = (after_both _ _ 0 not_zero.0 not_zero.1 sized known).0 e in
      rw (going_lists (zoned_by (step_law s) zones xs out ws) (xs ∷ out ∷ ws ∷ []) sized known h.0) (now_counted_words (pass s xs out) (record { zones = zones; words = ws }) h.1)

  module _ (lists : sized ≡ true → (whole ws ≡ true) × (well_sized xs out ≡ true)) where
    eight : (left.code ≡ wrong_length) ↔ (sized ≡ false)
    eight = first_eight _ _ sized known (λ s e. no_eight (whole ws) (well_sized xs out) (pass_zones_fit xs zones (zones_of ws)) (pass_room zones (zones_of ws) (all_tallies ws)) (lists s) e)

    twelve : (left.code ≡ bad_zone) ↔ ((sized && known ≡ true) × OutOfRange (length xs / floats) zones (zones_of ws))
    twelve =
        let q = after_both (zoned_by (step_law s) zones xs out ws) (xs ∷ out ∷ ws ∷ []) bad_zone not_twelve.0 not_twelve.1 sized known in
        let t = pass_words_twelve xs out zones ws in (
          λ e. let h = q.0 e in (h.0, (t.0 h.1).1.1),
          λ h. let l = lists (and_both sized known h.0).0 in q.1 (h.0, t.1 (l.0, (l.1, h.1))),
        )

    thirteen : (left.code ≡ tally_full) ↔ ((sized && known ≡ true) × ((zones_fit (length xs / floats) zones (zones_of ws) ≡ true) × Full zones (all_tallies ws)))
    thirteen =
        let q = after_both (zoned_by (step_law s) zones xs out ws) (xs ∷ out ∷ ws ∷ []) tally_full not_thirteen.0 not_thirteen.1 sized known in
        let t = pass_words_thirteen xs out zones ws in (
          λ e. let h = q.0 e in (h.0, (t.0 h.1).1.1),
          λ h. let l = lists (and_both sized known h.0).0 in q.1 (h.0, t.1 (l.0, (l.1, h.1))),
        )

last_two : (a b c : Bool) → a && b && c ≡ true → (c ≡ true) × (b ≡ true)
last_two true b c h = let q = and_both b c h in (q.1, q.0)
last_two false b c h = absurd (false≢true h)

last_of_five : (a b c d e : Bool) → a && b && c && d && e ≡ true → (e ≡ true) × (d ≡ true)
last_of_five true true true d e h = let q = and_both d e h in (q.1, q.0)
last_of_five true true false d e h = absurd (false≢true h)
last_of_five true false c d e h = absurd (false≢true h)
last_of_five false b c d e h = absurd (false≢true h)

-- ---- `pasoletu_pass_by_zone`
module _ (model : ℕ) (p zones xs out ws : List ℕ) where
  lists : zones_sized model p xs out ws ≡ true → (whole ws ≡ true) × (well_sized xs out ≡ true)
  lists h = last_two (parameters_fit model p) (well_sized xs out) (whole ws) h

  pub pass_eight : ((zones_pass model p zones xs out ws).code ≡ wrong_length) ↔ (zones_sized model p xs out ws ≡ false)
  unfolding zones_pass
  pass_eight = eight (zones_sized model p xs out ws) (model_known model p) (Plain (model_of model p)) zones xs out ws lists

  pub pass_six : ((zones_pass model p zones xs out ws).code ≡ unknown) ↔ ((zones_sized model p xs out ws ≡ true) × (model_known model p ≡ false))
  unfolding zones_pass
  pass_six = six (zones_sized model p xs out ws) (model_known model p) (Plain (model_of model p)) zones xs out ws

  pub pass_twelve : ((zones_pass model p zones xs out ws).code ≡ bad_zone) ↔ ((zones_sized model p xs out ws && model_known model p ≡ true) × OutOfRange (length xs / floats) zones (zones_of ws))
  unfolding zones_pass
  pass_twelve = twelve (zones_sized model p xs out ws) (model_known model p) (Plain (model_of model p)) zones xs out ws lists

  pub pass_thirteen : ((zones_pass model p zones xs out ws).code ≡ tally_full) ↔ ((zones_sized model p xs out ws && model_known model p ≡ true) × ((zones_fit (length xs / floats) zones (zones_of ws) ≡ true) × Full zones (all_tallies ws)))
  unfolding zones_pass
  pass_thirteen = thirteen (zones_sized model p xs out ws) (model_known model p) (Plain (model_of model p)) zones xs out ws lists

  pub pass_refused_keeps : ((zones_pass model p zones xs out ws).code ≡ 0 → ⊥) → (zones_pass model p zones xs out ws).lists ≡ xs ∷ out ∷ ws ∷ []
  unfolding zones_pass
  pass_refused_keeps h = nothing (zones_sized model p xs out ws) (model_known model p) (Plain (model_of model p)) zones xs out ws h

  pub pass_now : (zones_pass model p zones xs out ws).code ≡ 0 → AllNowWords zones (tallies_of (zones_pass model p zones xs out ws))
  unfolding zones_pass
  pass_now h = counted (zones_sized model p xs out ws) (model_known model p) (Plain (model_of model p)) zones xs out ws h

-- ---- `pasoletu_pass_with_failure_by_zone`
module _ (model : ℕ) (p l e zones xs out ws : List ℕ) where
  failure_lists : failure_zones_sized model p l e xs out ws ≡ true → (whole ws ≡ true) × (well_sized xs out ≡ true)
  failure_lists h = last_of_five (parameters_fit model p) (eqb (length l) 2) (eqb (length e) 4) (well_sized xs out) (whole ws) h

  pub failure_eight : ((failure_zones_pass model p l e zones xs out ws).code ≡ wrong_length) ↔ (failure_zones_sized model p l e xs out ws ≡ false)
  unfolding failure_zones_pass
  failure_eight = eight (failure_zones_sized model p l e xs out ws) (failure_known model p e) (Judged (model_of model p) (limits_of l) (corotated_of e)) zones xs out ws failure_lists

  pub failure_six : ((failure_zones_pass model p l e zones xs out ws).code ≡ unknown) ↔ ((failure_zones_sized model p l e xs out ws ≡ true) × (failure_known model p e ≡ false))
  unfolding failure_zones_pass
  failure_six = six (failure_zones_sized model p l e xs out ws) (failure_known model p e) (Judged (model_of model p) (limits_of l) (corotated_of e)) zones xs out ws

  pub failure_twelve : ((failure_zones_pass model p l e zones xs out ws).code ≡ bad_zone) ↔ ((failure_zones_sized model p l e xs out ws && failure_known model p e ≡ true) × OutOfRange (length xs / floats) zones (zones_of ws))
  unfolding failure_zones_pass
  failure_twelve = twelve (failure_zones_sized model p l e xs out ws) (failure_known model p e) (Judged (model_of model p) (limits_of l) (corotated_of e)) zones xs out ws failure_lists

  pub failure_thirteen : ((failure_zones_pass model p l e zones xs out ws).code ≡ tally_full) ↔ ((failure_zones_sized model p l e xs out ws && failure_known model p e ≡ true) × ((zones_fit (length xs / floats) zones (zones_of ws) ≡ true) × Full zones (all_tallies ws)))
  unfolding failure_zones_pass
  failure_thirteen = thirteen (failure_zones_sized model p l e xs out ws) (failure_known model p e) (Judged (model_of model p) (limits_of l) (corotated_of e)) zones xs out ws failure_lists

  pub failure_refused_keeps : ((failure_zones_pass model p l e zones xs out ws).code ≡ 0 → ⊥) → (failure_zones_pass model p l e zones xs out ws).lists ≡ xs ∷ out ∷ ws ∷ []
  unfolding failure_zones_pass
  failure_refused_keeps h = nothing (failure_zones_sized model p l e xs out ws) (failure_known model p e) (Judged (model_of model p) (limits_of l) (corotated_of e)) zones xs out ws h

  pub failure_now : (failure_zones_pass model p l e zones xs out ws).code ≡ 0 → AllNowWords zones (tallies_of (failure_zones_pass model p l e zones xs out ws))
  unfolding failure_zones_pass
  failure_now h = counted (failure_zones_sized model p l e xs out ws) (failure_known model p e) (Judged (model_of model p) (limits_of l) (corotated_of e)) zones xs out ws h
