-- What an update writes of the six scalars, over the layout of a record in any number of axes: only those that its law's row names (RULES, section 7).
use Rattle.std.specs.Prelude.{cond, List, [], ◌∷◌, ℕ, eqb, set, Float}
use Rattle.plasticity.specs.declared.Scalars.{Scalars}
use Rattle.plasticity.specs.declared.State.{State}
use Rattle.record.specs.Layout.{layout, place, bits}
use Rattle.model.specs.declared.Law.{Law}
use Rattle.model.specs.declared.Ready.{Ready}
use Rattle.model.specs.Rows.{row_of, prepared_of}

-- the scalar of a part
abbrev pub scalar_of : Scalars → ℕ → Float
scalar_of x part =
    cond (eqb part 5) x.plastic_determinant
    (cond (eqb part 6) x.plastic_hardening
    (cond (eqb part 7) x.elastic_hardening
    (cond (eqb part 8) x.log_gain x.alpha)))

-- ws is how many floats each part has
module _ (ws : List ℕ) where
  -- parts written one after the other
  abbrev pub parts_written : List ℕ → List ℕ → Scalars → List ℕ
  parts_written [] r x = r
  parts_written (part ∷ parts) r x = parts_written parts (set r (place ws part) (bits (scalar_of x part))) x

  abbrev pub named : Law → List ℕ → Scalars → List ℕ
  named law r x = parts_written (row_of law).written r x

-- of a model made ready, in three axes: one that is refused stores nothing
abbrev pub ready_scalars : Ready → List ℕ → State → List ℕ
ready_scalars q r s = named layout (prepared_of q).law r s.scalars
