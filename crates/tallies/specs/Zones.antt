-- A zone list, a zone number a particle: which particles are listed in a zone, and when the list is in range (RULES, sections 6 and 7).
use Rattle.std.specs.Prelude.{Bool, true, cond, ◌&&◌, List, ℕ, zero, suc, ◌+◌, eqb, leb, ltb, length, get_or}

abbrev pub most_zones : ℕ
most_zones = 256

-- how many of the first i particles are listed in zone z
unfoldable pub listed_in : List ℕ → ℕ → ℕ → ℕ
listed_in zones z zero = 0
listed_in zones z (suc i) = cond (eqb (get_or zones i 0) z) (listed_in zones z i + 1) (listed_in zones z i)

abbrev pub listed : List ℕ → ℕ → ℕ
listed zones z = listed_in zones z (length zones)

-- the zones of the first i particles are below n
unfoldable pub below_in : ℕ → List ℕ → ℕ → Bool
below_in n zones zero = true
below_in n zones (suc i) = below_in n zones i && ltb (get_or zones i 0) n

-- refusal 12: over 256 tallies, a zone list that hasn't a number a particle, or a zone that isn't below the number of tallies
abbrev pub zones_fit : ℕ → List ℕ → ℕ → Bool
zones_fit particles zones tallies = leb tallies most_zones && (eqb (length zones) particles && below_in tallies zones (length zones))

-- and of a move: a particle or a zone out of range
abbrev pub move_fits : ℕ → ℕ → ℕ → List ℕ → ℕ → Bool
move_fits particles p z zones tallies = zones_fit particles zones tallies && (ltb p particles && ltb z tallies)
