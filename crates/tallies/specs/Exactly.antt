-- When a call with tallies is refused by 12 and by 13, in words (RULES, section 6).
use Rattle.std.specs.Prelude.{◌≡◌, ◌⊎◌, List, ℕ, ◌+◌, ◌≤◌, ◌<◌, length, get_or}
use Rattle.tallies.specs.declared.tally.Tally.{Tally}
use Rattle.tallies.specs.Zones.{most_zones, listed}
use Rattle.tallies.specs.Tallies.{none, last_tally}

-- a particle whose zone isn't below the number of tallies
pub record Stray (zones : List ℕ) (n : ℕ) : Type 0 where
  pub particle : ℕ
  pub is : particle < length zones
  pub beyond : n ≤ get_or zones particle 0

-- 12 of every call: over 256 tallies, list lengths unlike, or a zone out of range
abbrev pub OutOfRange : ℕ → List ℕ → ℕ → Type 0
OutOfRange particles zones n = (most_zones < n) ⊎ ((length zones ≡ particles → ⊥) ⊎ Stray zones n)

-- 13: a zone of which one so-far number plus the particles listed there passes 2^32 - 1
pub record Full (zones : List ℕ) (ts : List Tally) : Type 0 where
  pub zone : ℕ
  pub is : zone < length ts
  pub over : (last_tally < (get_or ts zone none).untouched + listed zones zone) ⊎ ((last_tally < (get_or ts zone none).stored + listed zones zone) ⊎ ((last_tally < (get_or ts zone none).refused + listed zones zone) ⊎ (last_tally < (get_or ts zone none).failed + listed zones zone)))
