-- Three axes: the state and what a law hands back as an instance of `Body`.
use Rattle.std.specs.Prelude.{[], List, refl, get_or, Float}
use Rattle.tensor.specs.Matrix.{three, recompose_of, rows_of, of_rows}
use Rattle.plasticity.specs.declared.Scalars.{Scalars}
use Rattle.plasticity.specs.declared.State.{State}
use Rattle.plasticity.specs.declared.Updated.{Updated}
use Rattle.walk.specs.Expr.{Expr}
use Rattle.walk.specs.Walk.{Ended}
use Rattle.walk.specs.Axes.{recomposed_over, recomposed_worth}
use Rattle.walk.specs.Body as body
use Rattle.walk.specs.Body.{Body}
pub use Rattle.walk.specs.Body.{untouched, stored, refusal_of, number_of}

-- the first three rows
abbrev pub three_rows : List (List Float) → List (List Float)
three_rows m = three (get_or m 0 []) (get_or m 1 []) (get_or m 2 [])

-- U sigma V^T as formulas
abbrev pub recomposed : List (List Float) → List Float → List (List Float) → List (List Expr)
recomposed u sigma vt = recomposed_over 3 (three_rows u) sigma (three_rows vt)

-- F, sigma and scalars are new
abbrev pub state_of : List (List Float) → List Float → Scalars → State
state_of f sigma x = record { f = rows_of f; sigma = sigma; scalars = x }

abbrev pub in_three : Body State Updated
in_three =
    record {
      f = λ s. of_rows s.f;
      sigma = λ s. s.sigma;
      scalars = λ s. s.scalars;
      made = state_of;
      sigma_made = λ m l x. refl;
      scalars_made = λ m l x. refl;
      handed = λ s o. record { state = s; outcome = o };
      state_in = λ v. v.state;
      state_in_lem = λ s o. refl;
      outcome_in = λ v. v.outcome;
      outcome_in_lem = λ s o. refl;
      recomposed = recompose_of;
      formulas = recomposed;
      formulas_worth = λ u sigma vt. recomposed_worth 3 (three_rows u) sigma (three_rows vt);
    }

abbrev pub Change : Type 0
Change = body.Change State

abbrev pub updated_of : State → Ended Change → Updated
updated_of s x = body.updated_of in_three s x

abbrev pub floats_of : List (List Float) → List (List Float) → State → List Float
floats_of u vt s = body.floats_of in_three u vt s
