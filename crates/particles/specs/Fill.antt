-- Each record of a list gets the determinant of the F that stands there (RULES, section 7): for a host that keeps the floats before it.
use Rattle.std.specs.Prelude.{false, cond, List, ℕ, ◌/◌, length}
use Rattle.answers.specs.Refusals.{wrong_length}
use Rattle.plasticity.specs.declared.Outcome.TheVariants.{Untouched}
use Rattle.record.specs.Layout.{floats, filled}
use Rattle.particles.specs.Pass.{Worked, worked, whole_records}

abbrev pub fill_law : List ℕ → Worked
fill_law r = record { outcome = Untouched; failed = false; after = filled r }

-- 0, or 8 and nothing is written
abbrev pub fill_answer : List ℕ → ℕ
fill_answer xs = cond (whole_records (length xs)) 0 wrong_length

abbrev pub fill_records : List ℕ → List ℕ
fill_records xs = cond (whole_records (length xs)) (worked fill_law xs (length xs / floats)) xs
