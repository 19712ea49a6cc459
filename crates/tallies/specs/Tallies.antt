-- Tallies by zone (RULES, section 7): what a clear, a pass and a move make of them, over any number of tallies.
use Rattle.std.specs.Prelude.{Bool, true, cond, not, ◌&&◌, List, [], ◌∷◌, ℕ, zero, suc, ◌+◌, ◌/◌, ◌<◌, ◌^◌, eqb, leb, length, get_or, set, replicate}
use Rattle.answers.specs.Refusals.{wrong_length, bad_zone, tally_full}
use Rattle.plasticity.specs.declared.Outcome.{Outcome}
use Rattle.record.specs.Layout.{floats}
use Rattle.particles.specs.Pass.{Worked, record_at, code_of, counted_if, worked, answers, counted, well_sized}
use Rattle.particles.specs.declared.failure.FailureCounts.{FailureCounts}
use Rattle.tallies.specs.declared.tally.Tally.{Tally}
use Rattle.tallies.specs.declared.tally.Told.{Told}
use Rattle.tallies.specs.Zones.{most_zones, listed, zones_fit, move_fits}

abbrev pub none : Tally
none = record { particles = 0; untouched = 0; stored = 0; refused = 0; failed = 0 }

-- an array's worth of them
unfoldable pub spare : List Tally
spare = replicate most_zones none

-- the first number; the others as they were
abbrev pub with_particles : ℕ → Tally → Tally
with_particles n t = record { particles = n; untouched = t.untouched; stored = t.stored; refused = t.refused; failed = t.failed }

-- the four so far, and a tally with others
abbrev pub so_far : Tally → FailureCounts
so_far t = record { untouched = t.untouched; stored = t.stored; refused = t.refused; failed = t.failed }

abbrev pub with_so_far : FailureCounts → Tally → Tally
with_so_far c t = record { particles = t.particles; untouched = c.untouched; stored = c.stored; refused = c.refused; failed = c.failed }

-- one outcome more, counted as a pass counts it
abbrev pub tallied : Tally → Outcome → Bool → Tally
tallied t o f = with_so_far (counted (so_far t) o f) t

-- what an outcome adds to, as the step by value tells it: one of the first three so-far numbers by RULES' number of the outcome, and the fourth besides where the record failed
abbrev pub told_of : Outcome → Bool → Told
told_of o f = record { which = code_of o; failed = f }

-- one field of one tally grows, and failed besides
abbrev pub grown_by : Tally → Bool → Bool → Bool → Tally
grown_by t is_untouched is_stored f =
    record { particles = t.particles; untouched = counted_if t.untouched is_untouched; stored = counted_if t.stored (not is_untouched && is_stored); refused = counted_if t.refused (not is_untouched && not is_stored); failed = counted_if t.failed f }

abbrev pub grown : Tally → Told → Tally
grown t d = grown_by t (eqb d.which 0) (eqb d.which 1) d.failed

-- so-far numbers far below what a word holds
abbrev pub Small : Tally → Type 0
Small t = (t.untouched < 2 ^ 63) × (t.stored < 2 ^ 63) × (t.refused < 2 ^ 63) × (t.failed < 2 ^ 63)

-- each tally by the number of its zone, from z up
unfoldable pub by_zone : (ℕ → Tally → Tally) → ℕ → List Tally → List Tally
by_zone f z [] = []
by_zone f z (t ∷ ts) = f z t ∷ by_zone f (suc z) ts

-- particles now, counted afresh from the zone list
abbrev pub recount : List ℕ → ℕ → Tally → Tally
recount zones z t = with_particles (listed zones z) t

abbrev pub recounted : List ℕ → List Tally → List Tally
recounted zones ts = by_zone (recount zones) 0 ts

abbrev pub cleared_at : List ℕ → ℕ → Tally → Tally
cleared_at zones z t = recount zones z none

-- zone z's tally after the first i particles: one outcome more for each that is listed there
unfoldable pub tallied_in : (List ℕ → Worked) → List ℕ → List ℕ → ℕ → ℕ → Tally → Tally
tallied_in law xs zones zero z t = t
tallied_in law xs zones (suc i) z t =
    cond (eqb (get_or zones i 0) z)
    (tallied (tallied_in law xs zones i z t) (law (record_at xs i)).outcome (law (record_at xs i)).failed)
    (tallied_in law xs zones i z t)

-- refusal 13: one of the four plus the particles now would pass 2^32 - 1
abbrev pub last_tally : ℕ
last_tally = 4294967295

abbrev pub fits : ℕ → ℕ → Bool
fits n more = leb (n + more) last_tally

abbrev pub has_room : Tally → Bool
has_room t = (fits t.untouched t.particles && fits t.stored t.particles) && (fits t.refused t.particles && fits t.failed t.particles)

-- the first n tallies have room
unfoldable pub room_in : List Tally → ℕ → Bool
room_in ts zero = true
room_in ts (suc n) = room_in ts n && has_room (get_or ts n none)

-- ---- the calls, with n tallies: 0, or the refusal's number
abbrev pub clear_refusal : ℕ → List ℕ → ℕ → ℕ
clear_refusal particles zones n = cond (zones_fit particles zones n) 0 bad_zone

abbrev pub clear_tallies : ℕ → List ℕ → ℕ → List Tally → List Tally
clear_tallies particles zones n ts = cond (zones_fit particles zones n) (by_zone (cleared_at zones) 0 ts) ts

abbrev pub move_refusal : ℕ → ℕ → ℕ → List ℕ → ℕ → ℕ
move_refusal particles p z zones n = cond (move_fits particles p z zones n) 0 bad_zone

abbrev pub move_zones : ℕ → ℕ → ℕ → List ℕ → ℕ → List ℕ
move_zones particles p z zones n = cond (move_fits particles p z zones n) (set zones p z) zones

abbrev pub move_tallies : ℕ → ℕ → ℕ → List ℕ → ℕ → List Tally → List Tally
move_tallies particles p z zones n ts = cond (move_fits particles p z zones n) (recounted (set zones p z) ts) ts

-- a pass by a law: 8, then 12, then 13, before any record
abbrev pub pass_zones_fit : List ℕ → List ℕ → ℕ → Bool
pass_zones_fit xs zones n = zones_fit (length xs / floats) zones n

abbrev pub pass_room : List ℕ → ℕ → List Tally → Bool
pass_room zones n ts = room_in (recounted zones ts) n

abbrev pub pass_refusal : List ℕ → List ℕ → List ℕ → ℕ → List Tally → ℕ
pass_refusal xs out zones n ts =
    cond (well_sized xs out) (cond (pass_zones_fit xs zones n) (cond (pass_room zones n ts) 0 tally_full) bad_zone) wrong_length

abbrev pub pass_goes : List ℕ → List ℕ → List ℕ → ℕ → List Tally → Bool
pass_goes xs out zones n ts = well_sized xs out && (pass_zones_fit xs zones n && pass_room zones n ts)

abbrev pub records_after : (List ℕ → Worked) → List ℕ → List ℕ → List ℕ → ℕ → List Tally → List ℕ
records_after law xs out zones n ts = cond (pass_goes xs out zones n ts) (worked law xs (length xs / floats)) xs

abbrev pub answers_after : (List ℕ → Worked) → List ℕ → List ℕ → List ℕ → ℕ → List Tally → List ℕ
answers_after law xs out zones n ts = cond (pass_goes xs out zones n ts) (answers law xs (length xs / floats)) out

abbrev pub pass_tallies : (List ℕ → Worked) → List ℕ → List ℕ → List ℕ → ℕ → List Tally → List Tally
pass_tallies law xs out zones n ts =
    cond (pass_goes xs out zones n ts) (by_zone (tallied_in law xs zones (length xs / floats)) 0 (recounted zones ts)) ts
