-- A plastic law's walk over the state of any number of axes: where it ends, the record's floats as its inputs, and the results that it stores.
-- Three axes (`Update`) and two (`flat`) are instances.
use Rattle.std.specs.Prelude.{Bool, cond, ◌&&◌, List, [], ◌∷◌, ◌++◌, map, ◌≡◌, ℕ, Float}
use Rattle.std.proofs.Math.Option.{Option, some, none}
use Rattle.answers.specs.Refusals.{no_number}
use Rattle.tensor.specs.Finite.{row_finite, mat_finite}
use Rattle.plasticity.specs.State.{parts_finite}
use Rattle.plasticity.specs.declared.Outcome.{Outcome}
use Rattle.plasticity.specs.declared.Outcome.TheVariants as outcome
use Rattle.plasticity.specs.declared.Scalars.{Scalars}
use Rattle.walk.specs.Expr.{Expr, values, nums}
use Rattle.walk.specs.Walk.{Walk, results, end, Ended, given, refused}
use Rattle.walk.specs.Exact.{Refusal}
use Rattle.walk.specs.Matrix.{joined}

-- what a law is given beside U and V^T, a state S, and what it hands back, R
pub record Body (S R : Type 0) : Type 0 where
  -- of a state: F by its rows, the singular values, the six scalars
  pub f : S → List (List Float)
  pub sigma : S → List Float
  pub scalars : S → Scalars
  -- a state of them
  pub made : List (List Float) → List Float → Scalars → S
  pub sigma_made : (m : List (List Float)) (l : List Float) (x : Scalars) → sigma (made m l x) ≡ l
  pub scalars_made : (m : List (List Float)) (l : List Float) (x : Scalars) → scalars (made m l x) ≡ x
  -- the state handed back, with the outcome
  pub handed : S → Outcome → R
  pub state_in : R → S
  pub state_in_lem : (s : S) (o : Outcome) → state_in (handed s o) ≡ s
  pub outcome_in : R → Outcome
  pub outcome_in_lem : (s : S) (o : Outcome) → outcome_in (handed s o) ≡ o
  -- U sigma V^T, worked and as formulas
  pub recomposed : List (List Float) → List Float → List (List Float) → List (List Float)
  pub formulas : List (List Float) → List Float → List (List Float) → List (List Expr)
  pub formulas_worth : (u : List (List Float)) (sigma : List Float) (vt : List (List Float)) → map values (formulas u sigma vt) ≡ recomposed u sigma vt

-- the state as it came, or a new one and the amount
pub data Change (S : Type 0) : Type 0 where
  untouched : Change S
  stored : S → Float → Change S

-- ---- a record's floats in its order (section 7): F, U, sigma, V^T, the six scalars
abbrev pub scalars_of : Scalars → List Float
scalars_of x = x.phase ∷ x.plastic_determinant ∷ x.plastic_hardening ∷ x.elastic_hardening ∷ x.log_gain ∷ x.alpha ∷ []

abbrev pub floats_over : List (List Float) → List (List Float) → List Float → List (List Float) → Scalars → List Float
floats_over f u sigma vt x = joined f ++ (joined u ++ (sigma ++ (joined vt ++ scalars_of x)))

-- ---- the number that refuses, of an outcome and of a path
abbrev pub refusal_of : Outcome → Option ℕ
refusal_of outcome.Untouched = none
refusal_of (outcome.Stored a) = none
refusal_of (outcome.Refused n) = some n

abbrev pub number_of : Option Refusal → Option ℕ
number_of none = none
number_of (some r) = some r.number

module _ {S R : Type 0} (b : Body S R) where
  -- as the code hands it on: a refused call hands the state back as it came
  abbrev pub updated_of : S → Ended (Change S) → R
  updated_of s (given untouched) = b.handed s outcome.Untouched
  updated_of s (given (stored new amount)) = b.handed new (outcome.Stored amount)
  updated_of s (refused n) = b.handed s (outcome.Refused n)

  -- ---- the inputs
  -- no float of the record is a NaN or an infinity
  abbrev pub state_finite : S → Bool
  state_finite s = parts_finite (b.f s) (b.sigma s) (b.scalars s)

  abbrev pub inputs_finite : List (List Float) → List (List Float) → S → Bool
  inputs_finite u vt s = mat_finite u && mat_finite vt && state_finite s

  unfoldable pub floats_of : List (List Float) → List (List Float) → S → List Float
  floats_of u vt s = floats_over (b.f s) u (b.sigma s) vt (b.scalars s)

  -- ---- the results, at step n: F, sigma and the scalars that the law names
  unfoldable pub store_walk : ℕ → List (List Float) → List Float → List (List Float) → List Expr → Scalars → Float → Walk (Change S)
  store_walk n u sigma vt named x amount =
      results n (b.formulas u sigma vt ++ nums sigma ∷ named ∷ []) (end (stored (b.made (b.recomposed u sigma vt) sigma x) amount))

  -- stored where they are finite, else 3
  abbrev pub kept_of : List (List Float) → List Float → List (List Float) → Bool → Scalars → Float → S → R
  kept_of u sigma vt named x amount s =
      cond ((mat_finite (b.recomposed u sigma vt) && row_finite sigma) && named)
      (b.handed (b.made (b.recomposed u sigma vt) sigma x) (outcome.Stored amount))
      (b.handed s (outcome.Refused no_number))

  abbrev pub outcome_of : S → Ended (Change S) → Outcome
  outcome_of s x = b.outcome_in (updated_of s x)
