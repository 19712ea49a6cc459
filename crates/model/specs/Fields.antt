-- The plastic laws from their parameters' bits, in declared order (RULES, sections 5 and 7), by `Rows`.
use Rattle.std.specs.Prelude.{List, ℕ}
use Rattle.model.specs.declared.Law.{Law}
use Rattle.model.specs.declared.Model.{Model}
use Rattle.model.specs.Rows.{law_of, row_of}
pub use Rattle.model.specs.Rows.{flagged, rankine_of}

abbrev pub by_law : Law → List ℕ → Model
by_law law p = (row_of law).made p

unfoldable pub model_of : ℕ → List ℕ → Model
model_of number p = by_law (law_of number) p
