-- What the model's flat law makes of one flat record (RULES, sections 5, 6 and 7; ticket 13).
use Rattle.std.specs.Prelude.{false, cond, List, ℕ, eqb, length, Float}
use Rattle.answers.specs.Refusals.{wrong_length}
use Rattle.plasticity.specs.declared.Outcome.{Outcome}
use Rattle.plasticity.specs.declared.Outcome.TheVariants.{Refused}
use Rattle.walk.specs.Walk.{Walk, walk_result}
use Rattle.model.specs.declared.Model.{Model}
use Rattle.model.specs.declared.Model.TheVariants.{Snow, Rankine, DruckerPrager, Nacc}
use Rattle.record.specs.Layout.{widths}
use Rattle.model.specs.Rows.{acts_of}
use Rattle.model.specs.Named.{named}
use Rattle.one_record.specs.Kept.{stored_over, kept_over}
use Rattle.particles.specs.Pass.{Worked}
use Rattle.flat.specs.declared.State.{State}
use Rattle.flat.specs.declared.Updated.{Updated}
use Rattle.flat.specs.Update.{Change, updated_of}
use Rattle.flat_snow.specs.Snow.{snow_walk}
use Rattle.flat_rankine.specs.Rankine.{arguments_walk}
use Rattle.flat_drucker_prager.specs.DruckerPrager.{drucker_walk}
use Rattle.flat_nacc.specs.Nacc.{nacc_walk}
use Rattle.flat_particles.specs.Layout.{floats, u_at, vt_at, state_at, put_shape}

-- the law that the model names, on two axes: 1 over its parameters and all the record's floats comes first in each
unfoldable pub walk_of : Model → List (List Float) → List (List Float) → State → Walk (Change State)
walk_of (Snow p) u vt s = snow_walk p u vt s
walk_of (Rankine a) u vt s = arguments_walk a u vt s
walk_of (DruckerPrager p) u vt s = drucker_walk p u vt s
walk_of (Nacc a) u vt s = nacc_walk a u vt s

abbrev pub flat_update : Model → List (List Float) → List (List Float) → State → Updated
flat_update m u vt s = updated_of s (walk_result (walk_of m u vt s))

-- of the six scalars an update writes only those that its law names
abbrev pub put_scalars : Model → List ℕ → State → List ℕ
put_scalars m r s = named (widths 2) (acts_of m).law r s.scalars

abbrev pub put_state : Model → List ℕ → State → List ℕ
put_state m r s = stored_over (widths 2) put_shape (λ x. x.scalars) m r s

-- a record that is untouched or refused holds its bits
abbrev pub kept : Model → Outcome → List ℕ → State → List ℕ
kept m o r s = kept_over (widths 2) put_shape (λ x. x.scalars) m o r s

unfoldable pub updated_at : Model → List ℕ → Updated
updated_at m r = flat_update m (u_at r) (vt_at r) (state_at r)

unfoldable pub flat_law : Model → List ℕ → Worked
flat_law m r =
    record {
      outcome = (updated_at m r).outcome;
      failed = false;
      after = kept m (updated_at m r).outcome r (updated_at m r).state;
    }

-- one record by itself: refusal 8 where the list is no flat record
abbrev pub record_outcome : Model → List ℕ → Outcome
record_outcome m r = cond (eqb (length r) floats) (flat_law m r).outcome (Refused wrong_length)

abbrev pub record_after : Model → List ℕ → List ℕ
record_after m r = cond (eqb (length r) floats) (flat_law m r).after r
