-- What a plan makes of each tally that is lent with it (RULES, section 7).
use Rattle.std.specs.Prelude.{◌≡◌, Bool, true, cond, ◌&&◌, List, ℕ, zero, suc, ◌<◌, eqb, get_or}
use Rattle.tallies.specs.declared.tally.Tally.{Tally}
use Rattle.tallies.specs.declared.plan.Plan.{Plan}
use Rattle.tallies.specs.Zones.{most_zones, listed}
use Rattle.tallies.specs.Tallies.{none, with_particles, has_room}

-- the particles listed in each zone
abbrev pub Counts : List ℕ → List ℕ → Type 0
Counts zones counts = (z : ℕ) → z < most_zones → get_or counts z 0 ≡ listed zones z

-- where it goes it does k, by these counts; else nothing
abbrev pub Planned : ℕ → Bool → List ℕ → Plan → Type 0
Planned k goes zones p = (p.what ≡ cond goes k 0) × (goes ≡ true → Counts zones p.counts)

-- tally z where the plan does this, by these counts
abbrev pub planned : ℕ → List ℕ → ℕ → Tally → Tally
planned what counts z t =
    cond (eqb what 1) (with_particles (get_or counts z 0) t) (cond (eqb what 2) (with_particles (get_or counts z 0) none) t)

-- the first n tallies have room for the particles counted
unfoldable pub room_by : List ℕ → List Tally → ℕ → Bool
room_by counts ts zero = true
room_by counts ts (suc n) = room_by counts ts n && has_room (with_particles (get_or counts n 0) (get_or ts n none))
