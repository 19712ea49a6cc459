-- The pass over a list of flat records is `particles`' over records of any width; it counts three ways (RULES, sections 5, 6 and 7; ticket 13).
use Rattle.std.specs.Prelude.{List, ◌⊎◌, ◌≡◌, ℕ, ◌+◌, ◌*◌, ◌/◌, length}
use Rattle.plasticity.specs.declared.Outcome.{Outcome}
use Rattle.plasticity.specs.declared.Outcome.TheVariants.{Untouched, Stored, Refused}
use Rattle.particles.specs.declared.list.Counts.{Counts}
pub use Rattle.particles.specs.Pass.{three_of, record_over, replaced_over, sized_over, well_sized_over, passed_over, records_over, list_over}
unfoldable pub use Rattle.particles.specs.Pass.{worked_over, answers_over, counts_over}

-- one record more
abbrev pub counted_of : Counts → Outcome → Counts
counted_of c Untouched = record { untouched = c.untouched + 1; stored = c.stored; refused = c.refused }
counted_of c (Stored a) = record { untouched = c.untouched; stored = c.stored + 1; refused = c.refused }
counted_of c (Refused n) = record { untouched = c.untouched; stored = c.stored; refused = c.refused + 1 }

-- "8 with 20 for the flat list": a length that is no multiple of 20, or an answer list that hasn't exactly two places a particle
abbrev pub WrongLengths : List ℕ → List ℕ → Type 0
WrongLengths xs out = (length xs / 20 * 20 ≡ length xs → ⊥) ⊎ (length out ≡ length xs / 20 * 2 → ⊥)
