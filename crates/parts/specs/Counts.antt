-- How many of a list's answers have each code: the counts of outcomes, which the parts don't keep.
use Rattle.std.specs.Prelude.{List, ℕ, zero, suc, ◌*◌, get_or, eqb}
use Rattle.particles.specs.Pass.{counted_if}
use Rattle.particles.specs.declared.list.Counts.{Counts}

-- how many of the first answers have a code
unfoldable pub coded : ℕ → List ℕ → ℕ → ℕ
coded code out zero = 0
coded code out (suc i) = counted_if (coded code out i) (eqb (get_or out (i * 2) 0) code)

abbrev pub coded_counts : List ℕ → ℕ → Counts
coded_counts out n = record { untouched = coded 0 out n; stored = coded 1 out n; refused = coded 2 out n }
