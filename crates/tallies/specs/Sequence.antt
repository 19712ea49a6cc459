-- Calls one after another on one particle list, and what has happened since the tallies were cleared (RULES, section 7).
use Rattle.std.specs.Prelude.{◌≡◌, Bool, true, false, cond, ◌&&◌, List, [], ◌∷◌, ◌++◌, ℕ, zero, suc, ◌+◌, ◌/◌, eqb, length, get_or}
use Rattle.plasticity.specs.declared.Outcome.{Outcome}
use Rattle.plasticity.specs.declared.Outcome.TheVariants.{Untouched, Stored, Refused}
use Rattle.record.specs.Layout.{floats}
use Rattle.particles.specs.Pass.{Worked, record_at}
use Rattle.particles.specs.Step.{step_law}
use Rattle.particles.specs.declared.step.Step.{Step}
use Rattle.tallies.specs.declared.tally.Tally.{Tally}
use Rattle.tallies.specs.Zones.{zones_fit}
use Rattle.tallies.specs.Tallies.{clear_tallies, move_zones, move_tallies, pass_goes, pass_tallies}

-- a call and what is lent to it beside tallies and zones: the records as they then are, which a host may have moved since the call before
pub data Call : Type 0 where
  clear : (particles : ℕ) → Call
  move : (particles p z : ℕ) → Call
  pass : (s : Step) (xs out : List ℕ) → Call

pub record Kept : Type 0 where
  pub zones : List ℕ
  pub tallies : List Tally

-- tallies and zones after a call, refused or not
abbrev pub after : Call → Kept → Kept
after (clear n) k = record { zones = k.zones; tallies = clear_tallies n k.zones (length k.tallies) k.tallies }
after (move n p z) k =
    record { zones = move_zones n p z k.zones (length k.tallies); tallies = move_tallies n p z k.zones (length k.tallies) k.tallies }
after (pass s xs out) k =
    record { zones = k.zones; tallies = pass_tallies (step_law s) xs out k.zones (length k.tallies) k.tallies }

-- an outcome, whether its particle failed, and the zone where it happened
pub record Event : Type 0 where
  pub zone : ℕ
  pub outcome : Outcome
  pub failed : Bool

-- what happens to the first i particles of a pass
unfoldable pub happens : (List ℕ → Worked) → List ℕ → List ℕ → ℕ → List Event
happens law xs zones zero = []
happens law xs zones (suc i) =
    happens law xs zones i ++ (record { zone = get_or zones i 0; outcome = (law (record_at xs i)).outcome; failed = (law (record_at xs i)).failed } ∷ [])

-- all that has happened since the tallies were cleared; a refused call adds nothing and clears nothing
abbrev pub log : Call → Kept → List Event → List Event
log (clear n) k es = cond (zones_fit n k.zones (length k.tallies)) [] es
log (move n p z) k es = es
log (pass s xs out) k es =
    cond (pass_goes xs out k.zones (length k.tallies) k.tallies) (es ++ happens (step_law s) xs k.zones (length xs / floats)) es

unfoldable pub after_all : List Call → Kept → Kept
after_all [] k = k
after_all (c ∷ cs) k = after_all cs (after c k)

unfoldable pub log_all : List Call → Kept → List Event → List Event
log_all [] k es = es
log_all (c ∷ cs) k es = log_all cs (after c k) (log c k es)

-- how many events are of a kind
unfoldable pub count : (Event → Bool) → List Event → ℕ
count p [] = 0
count p (e ∷ es) = cond (p e) (suc (count p es)) (count p es)

abbrev pub is_untouched : Outcome → Bool
is_untouched Untouched = true
is_untouched (Stored a) = false
is_untouched (Refused n) = false

abbrev pub is_stored : Outcome → Bool
is_stored Untouched = false
is_stored (Stored a) = true
is_stored (Refused n) = false

abbrev pub is_refused : Outcome → Bool
is_refused Untouched = false
is_refused (Stored a) = false
is_refused (Refused n) = true

-- in zone z
abbrev pub here : ℕ → Event → Bool
here z e = eqb e.zone z

-- the four so-far numbers of a zone's tally are the counts of what happened in that zone
pub record Counted (t : Tally) (z : ℕ) (es : List Event) : Type 0 where
  pub untouched : t.untouched ≡ count (λ e. here z e && is_untouched e.outcome) es
  pub stored : t.stored ≡ count (λ e. here z e && is_stored e.outcome) es
  pub refused : t.refused ≡ count (λ e. here z e && is_refused e.outcome) es
  pub failed : t.failed ≡ count (λ e. here z e && e.failed) es
