-- What the code hands on inside: the steps' end or the refusal with its step, what is made of it, and why (ticket 8).
use Rattle.std.specs.Prelude.{Bool, true, false, cond, ◌&&◌, List, ℕ, Float}
use Rattle.std.specs.Float.Ieee as Ieee
use Rattle.answers.specs.Refusals.{no_number}
use Rattle.numbers.specs.Floats.{finite, is_number}
use Rattle.tensor.specs.Matrix as tensor
use Rattle.tensor.specs.Matrix.{recompose_of, rows_of}
use Rattle.tensor.specs.Finite.{row_finite, mat_finite}
use Rattle.tensor.specs.Answer.{zero_row}
use Rattle.tensor.specs.declared.Rows.{Rows}
use Rattle.plasticity.specs.State as law
use Rattle.plasticity.specs.declared.Outcome.{Outcome}
use Rattle.plasticity.specs.declared.Outcome.TheVariants as outcome
use Rattle.plasticity.specs.declared.State.{State}
use Rattle.plasticity.specs.declared.Updated.{Updated}
use Rattle.walk.specs.Expr.{num, value}
use Rattle.reason.specs.declared.Reason.{Reason}
use Rattle.reason.specs.declared.Reason.TheVariants as reason
use Rattle.reason.specs.Traced.{Traced, reached, stopped}
use Rattle.plasticity_nacc.specs.declared.Branch.{Branch}
use Rattle.plasticity_nacc.specs.declared.Branch.TheVariants as branches
use Rattle.plasticity_nacc.specs.declared.NaccPlasticity.{NaccPlasticity}
use Rattle.plasticity_nacc.specs.declared.Projected.{Projected}
use Rattle.plasticity_nacc.specs.declared.Stepped.{Stepped}
use Rattle.plasticity_nacc.specs.declared.Trial.{Trial}
use Rattle.plasticity_nacc.specs.Law.{parameters_finite}
use Rattle.plasticity_nacc.specs.Formulas as of
use Rattle.plasticity_nacc.specs.Projection.{Shape, Landed, branch_of, outcome_of, beside_zeros, refused_projection}
use Rattle.plasticity_nacc.specs.Over.{scalars_of}

abbrev pub state_of : Rows → List Float → Float → State → State
state_of f sigma alpha s = record { f = f; sigma = sigma; scalars = scalars_of alpha s.scalars }

abbrev pub by_outcome : Outcome → Rows → List Float → State → Updated
by_outcome outcome.Untouched f sigma s = record { state = s; outcome = outcome.Untouched }
by_outcome (outcome.Stored alpha) f sigma s = record { state = state_of f sigma alpha s; outcome = outcome.Stored alpha }
by_outcome (outcome.Refused n) f sigma s = law.refused n s

abbrev pub stored_by : Branch → Rows → List Float → Float → State → Updated
stored_by b f sigma alpha s = by_outcome (outcome_of b alpha) f sigma s

-- of a zero of either sign 0
abbrev pub size_of : Float → Float
size_of x = cond (Ieee.le x tensor.zero) (tensor.sub tensor.zero x) x

-- what the branches before it have tested
abbrev pub settled : NaccPlasticity → Trial → Bool
settled p t = is_number t.p0 && is_number t.p && is_number (value (of.low p (num t.p0)))

abbrev pub project_inputs : NaccPlasticity → List (List Float) → List (List Float) → List Float → List (List Float) → Float → Bool
project_inputs p f u sigma vt alpha =
    parameters_finite p && mat_finite f && mat_finite u && row_finite sigma && mat_finite vt && finite alpha

abbrev pub refused_step : ℕ → ℕ → Stepped
refused_step n step = record { branch = branches.Refused n step; sigma = zero_row; alpha = tensor.zero }

abbrev pub as_branch : Branch → Traced Shape → Stepped
as_branch b (reached q) = record { branch = b; sigma = q.sigma; alpha = q.alpha }
as_branch b (stopped n step) = refused_step n step

abbrev pub stepped_of : Traced Landed → Stepped
stepped_of (reached q) = record { branch = branch_of q.way; sigma = q.shape.sigma; alpha = q.shape.alpha }
stepped_of (stopped n step) = refused_step n step

unfoldable pub recomposed_of : Branch → List (List Float) → List Float → List (List Float) → Float → Projected
recomposed_of b u sigma vt alpha =
    cond ((mat_finite (recompose_of u sigma vt) && row_finite sigma) && finite alpha)
    (record { branch = b; f = rows_of (recompose_of u sigma vt); sigma = sigma; alpha = alpha })
    (refused_projection no_number 30)

-- F is recomposed where they are
abbrev pub recomposed_by : Outcome → Branch → List Float → Float → Rows → List (List Float) → List (List Float) → Projected
recomposed_by outcome.Untouched b sigma alpha f u vt = record { branch = b; f = f; sigma = sigma; alpha = alpha }
recomposed_by (outcome.Stored new) b sigma alpha f u vt = recomposed_of b u sigma vt new
recomposed_by (outcome.Refused n) b sigma alpha f u vt = beside_zeros b

abbrev pub by_branch : Branch → List Float → Float → Rows → List (List Float) → List (List Float) → Projected
by_branch b sigma alpha f u vt = recomposed_by (outcome_of b alpha) b sigma alpha f u vt

-- the branch's test: p0 < p, p < -beta p0, y < 1e-4
abbrev pub test_of : Branch → Reason
test_of (branches.Upper p p0) = reason.Tested 7 true p0 p
test_of (branches.Lower p low) = reason.Tested 8 true p low
test_of (branches.Inside y limit) = reason.Tested 9 true y limit
test_of (branches.Surface y limit) = reason.Tested 9 false y limit
test_of (branches.Refused n step) = reason.Refused n step
