-- Two axes: the state and what a flat law hands back as an instance of `walk`'s `Body` (RULES, sections 5, 6 and 7).
use Rattle.std.specs.Prelude.{Bool, List, refl, ℕ, Float}
use Rattle.plasticity.specs.declared.Outcome.TheVariants.{Untouched, Refused}
use Rattle.plasticity.specs.declared.Scalars.{Scalars}
use Rattle.walk.specs.Walk.{Ended}
use Rattle.walk.specs.Axes.{recompose_over, recomposed_over, recomposed_worth}
use Rattle.walk.specs.Body as body
use Rattle.walk.specs.Body.{Body}
pub use Rattle.walk.specs.Body.{Change}
use Rattle.flat.specs.declared.State.{State}
use Rattle.flat.specs.declared.Updated.{Updated}
use Rattle.flat.specs.State.{of_rows, rows_of}

abbrev pub in_two : Body State Updated
in_two =
    record {
      f = λ s. of_rows s.f;
      sigma = λ s. s.sigma;
      scalars = λ s. s.scalars;
      made = λ f sigma x. record { f = rows_of f; sigma = sigma; scalars = x };
      sigma_made = λ m l x. refl;
      scalars_made = λ m l x. refl;
      handed = λ s o. record { state = s; outcome = o };
      state_in = λ v. v.state;
      state_in_lem = λ s o. refl;
      outcome_in = λ v. v.outcome;
      outcome_in_lem = λ s o. refl;
      recomposed = recompose_over 2;
      formulas = recomposed_over 2;
      formulas_worth = recomposed_worth 2;
    }

-- no float of the record is a NaN or an infinity
abbrev pub inputs_finite : List (List Float) → List (List Float) → State → Bool
inputs_finite u vt s = body.inputs_finite in_two u vt s

-- a refused call hands the state back as it came, and so does one that leaves it untouched
abbrev pub refused : ℕ → State → Updated
refused n s = in_two.handed s (Refused n)

abbrev pub untouched_of : State → Updated
untouched_of s = in_two.handed s Untouched

abbrev pub updated_of : State → Ended (Change State) → Updated
updated_of s x = body.updated_of in_two s x

-- stored where F, sigma and the scalars that the law names are finite, else 3
abbrev pub kept_of : List (List Float) → List Float → List (List Float) → Bool → Scalars → Float → State → Updated
kept_of u sigma vt named x amount s = body.kept_of in_two u sigma vt named x amount s
