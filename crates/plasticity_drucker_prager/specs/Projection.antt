-- The Drucker-Prager projection (RULES, section 5; plasticity_drucker_prager.rs, `project_deformation_gradient`), over however many axes.
use Rattle.std.specs.Prelude.{Bool, cond, List, [], ◌∷◌, ◌++◌, map, ℕ, eqb, get_or, Float}
use Rattle.std.specs.Float.{nan}
use Rattle.tensor.specs.Matrix as tensor
use Rattle.tensor.specs.Answer.{zero_row}
use Rattle.plasticity.specs.declared.Outcome.{Outcome}
use Rattle.plasticity.specs.declared.Outcome.TheVariants as outcome
use Rattle.walk.specs.Expr.{Expr, num, ◌+ᵉ◌, ◌-ᵉ◌, ◌*ᵉ◌, ◌/ᵉ◌, value, nums}
pub use Rattle.walk.specs.Constants.{zero}
use Rattle.walk.specs.Walk.{Walk, exp, ln, root, less, at_most, zeros, inputs, ask, asks, work, works, branch, results, end, ◌then◌, Ended}
use Rattle.walk.specs.Matrix.{sum, dot}
use Rattle.reason.specs.Traced.{Traced, reached, stopped, stepless}
use Rattle.plasticity_drucker_prager.specs.declared.Branch.{Branch}
use Rattle.plasticity_drucker_prager.specs.declared.Branch.TheVariants.{Isotropic, Expanding, Inside, Surface, Refused}
use Rattle.plasticity_drucker_prager.specs.declared.DruckerPragerPlasticity.{DruckerPragerPlasticity}
use Rattle.plasticity_drucker_prager.specs.declared.Projected.{Projected}
use Rattle.plasticity_drucker_prager.specs.declared.Results.{Results}
use Rattle.plasticity_drucker_prager.specs.Law.{parameters_of}
use Rattle.plasticity_drucker_prager.specs.Alpha.{two}

-- ---- where it ends, with what the last test compared with 0: the deviatoric entries, the trace, gamma (and the deviatoric norm)
pub data Way : Type 0 where
  isotropic : List Float → Way
  expanding : Float → Way
  inside : Float → Way
  surface : Float → Float → Way

-- the branch's number (docs/STEPS.md), by the test that chose it and whether that held: untouched, the ones, the cone
abbrev pub branch_number : ℕ → Bool → ℕ
branch_number test held = cond (eqb test 1) 0 (cond (eqb test 13) (cond held 0 2) 1)

abbrev pub way_number : Way → ℕ
way_number (isotropic d) = 1
way_number (expanding x) = 1
way_number (inside x) = 0
way_number (surface x norm) = 2

pub record Returned : Type 0 where
  pub way : Way
  pub sigma : List Float
  pub dq : Float

-- an entry of the strain less gamma times that of the deviatoric part over its norm
abbrev pub back : List Float → List Float → Expr → Expr → List Expr
back (x ∷ e) (y ∷ d) g norm = num x -ᵉ g *ᵉ (num y /ᵉ norm) ∷ back e d g norm
back (x ∷ e) [] g norm = []
back [] d g norm = []

-- ---- the steps
-- "sigma all ones, dq the norm of the strain"
unfoldable pub tip_walk : Way → List Float → Walk Returned
tip_walk b e = ask 10 root (dot e e) (λ norm. end (record { way = b; sigma = map (λ x. tensor.one) e; dq = value norm }))

-- back to the cone: dq is gamma
unfoldable pub surface_walk : Expr → Expr → List Float → Walk Returned
surface_walk g norm b =
    asks 15 exp b (λ sigma. end (record { way = surface (value g) (value norm); sigma = sigma; dq = value g }))

-- the results are finite
unfoldable pub returned_walk : Returned → Walk Returned
returned_walk q = results 19 (nums q.sigma ∷ (num q.dq ∷ []) ∷ []) (end q)

unfoldable pub project_floats : DruckerPragerPlasticity → List Float → Float → Float → List Float
project_floats p sigma gain alpha = parameters_of p ++ (sigma ++ (gain ∷ alpha ∷ []))

-- ---- dim is the number of axes
module _ (dim : Expr) where
  -- ---- the formulas
  -- "Strain is log sigma + gain/3."
  abbrev pub strain : List Float → Float → List Expr
  strain logs gain = map (λ x. num x +ᵉ num gain /ᵉ dim) logs

  abbrev pub deviatoric : List Float → Expr → List Expr
  deviatoric e trace = map (λ x. num x -ᵉ trace /ᵉ dim) e

  -- norm + (3 lambda + 2 mu) / (2 mu) trace alpha
  abbrev pub gamma : DruckerPragerPlasticity → Expr → Expr → Float → Expr
  gamma p norm trace alpha =
      let lambda = num p.lambda in
      let mu = num p.mu in
      norm +ᵉ (dim *ᵉ lambda +ᵉ two *ᵉ mu) /ᵉ (two *ᵉ mu) *ᵉ trace *ᵉ num alpha

  -- "gamma <= 0: untouched."
  unfoldable pub yield_walk : DruckerPragerPlasticity → List Float → List Float → List Float → Expr → Float → Walk Returned
  yield_walk p sigma e d trace alpha =
      ask 11 root (dot d d) (λ norm.
      work 12 (gamma p norm trace alpha) (λ g.
      branch 13 (at_most g zero)
      (end (record { way = inside (value g); sigma = sigma; dq = tensor.zero }))
      (works 14 (back e d g norm) (λ b. surface_walk g norm b))))

  -- "Deviatoric part all zero, or trace > 0"
  unfoldable pub strained_walk : DruckerPragerPlasticity → List Float → List Float → Float → Walk Returned
  strained_walk p sigma e alpha =
      work 7 (sum e) (λ trace.
      works 7 (deviatoric e trace) (λ d.
      branch 8 (zeros d)
      (tip_walk (isotropic d) e)
      (branch 9 (less zero trace) (tip_walk (expanding (value trace)) e) (yield_walk p sigma e d trace alpha))))

  unfoldable pub project_walk : DruckerPragerPlasticity → List Float → Float → Float → Walk Returned
  project_walk p sigma gain alpha =
      asks 6 ln sigma (λ logs.
      works 7 (strain logs gain) (λ e.
      strained_walk p sigma e alpha))

  -- as a call by itself
  unfoldable pub project_call : DruckerPragerPlasticity → List Float → Float → Float → Walk Returned
  project_call p sigma gain alpha =
      inputs (project_floats p sigma gain alpha) (project_walk p sigma gain alpha then returned_walk)

-- ---- as the code hands it on: zeros stand beside a refusal
abbrev pub refused_projection : ℕ → ℕ → Projected
refused_projection n step = record { branch = Refused n step; sigma = zero_row; dq = tensor.zero }

abbrev pub branch_of : Way → Branch
branch_of (isotropic d) = Isotropic (get_or d 0 nan) (get_or d 1 nan) (get_or d 2 nan)
branch_of (expanding x) = Expanding x tensor.zero
branch_of (inside x) = Inside x tensor.zero
branch_of (surface x norm) = Surface x tensor.zero norm

abbrev pub walked_of : Traced Returned → Projected
walked_of (reached q) = record { branch = branch_of q.way; sigma = q.sigma; dq = q.dq }
walked_of (stopped n step) = refused_projection n step

-- where the step isn't told
abbrev pub projected_of : Ended Returned → Projected
projected_of x = walked_of (stepless x)

-- ---- as it is handed out: the branch and what it compared stay inside
abbrev pub outcome_of : Branch → Float → Outcome
outcome_of (Isotropic x y z) dq = outcome.Stored dq
outcome_of (Expanding x y) dq = outcome.Stored dq
outcome_of (Inside x y) dq = outcome.Untouched
outcome_of (Surface x y norm) dq = outcome.Stored dq
outcome_of (Refused n step) dq = outcome.Refused n

abbrev pub results_of : Projected → Results
results_of q = record { outcome = outcome_of q.branch q.dq; sigma = q.sigma }
