-- What a law leaves of a record by its outcome, over the layout of a record in any number of axes (RULES, section 7).
use Rattle.std.specs.Prelude.{List, ℕ}
use Rattle.plasticity.specs.declared.Outcome.{Outcome}
use Rattle.plasticity.specs.declared.Outcome.TheVariants.{Untouched, Stored, Refused}
use Rattle.plasticity.specs.declared.Scalars.{Scalars}
use Rattle.model.specs.declared.Model.{Model}
use Rattle.model.specs.Rows.{acts_of}
use Rattle.model.specs.Named.{named}

-- a record r that is untouched or refused holds its bits; q is what is stored
abbrev pub by_outcome : Outcome → List ℕ → List ℕ → List ℕ
by_outcome Untouched r q = r
by_outcome (Stored a) r q = q
by_outcome (Refused n) r q = r

-- what is stored: F and sigma by `shape`, and of the scalars those that the law names; ws is how many floats each part has
module _ (ws : List ℕ) {S : Type 0} (shape : List ℕ → S → List ℕ) (scalars : S → Scalars) (m : Model) where
  abbrev pub stored_over : List ℕ → S → List ℕ
  stored_over r s = named ws (acts_of m).law (shape r s) (scalars s)

  abbrev pub kept_over : Outcome → List ℕ → S → List ℕ
  kept_over o r s = by_outcome o r (stored_over r s)
