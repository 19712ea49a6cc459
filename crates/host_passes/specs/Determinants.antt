-- What the filling in of determinants leaves of a host's records (RULES, sections 6 and 7).
use Rattle.std.specs.Prelude.{List, [], ◌∷◌, ℕ}
use Rattle.particles.specs.Fill.{fill_answer, fill_records}
use Rattle.host_lists.specs.Called.{Called, called}

unfoldable pub fill_by : List ℕ → Called
fill_by xs = called (fill_answer xs) (fill_records xs ∷ [])
