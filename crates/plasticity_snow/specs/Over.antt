-- Snow as a walk over any number of axes (RULES, sections 5 and 6; plasticity_snow.rs, `update_particle`): what differs is the state. The steps: 1 and 2
-- the clamp, 3 the exponential, 4 the results.
use Rattle.std.specs.Prelude.{List, [], ◌∷◌, ◌++◌, Float}
use Rattle.plasticity.specs.declared.Scalars.{Scalars}
use Rattle.walk.specs.Expr.{Expr, num, ◌+ᵉ◌, ◌-ᵉ◌, ◌*ᵉ◌, ◌/ᵉ◌, value}
use Rattle.walk.specs.Walk.{Walk, exp, inputs, ask, most, least, walk_result}
use Rattle.walk.specs.Matrix.{product}
use Rattle.walk.specs.Body.{Body, Change, updated_of, floats_of, store_walk}
use Rattle.plasticity_snow.specs.declared.SnowPlasticity.{SnowPlasticity}
use Rattle.plasticity_snow.specs.Clamp.{one, parameters_of}

-- the clamp as steps of the law
abbrev pub clamps : {A : Type 0} → SnowPlasticity → List Float → (List Float → Walk A) → Walk A
clamps p [] k = k []
clamps p (x ∷ l) k =
    most 1 (num x) (num one -ᵉ num p.min_epsilon) (λ y.
    least 2 y (num one +ᵉ num p.max_epsilon) (λ z.
    clamps p l (λ vs. k (value z ∷ vs))))

-- the plastic determinant is multiplied by old product over new product
abbrev pub determinant : Float → List Float → List Float → Expr
determinant d old new = num d *ᵉ (product old /ᵉ product new)

-- the plastic determinant and the elastic hardening are new
abbrev pub scalars_of : Float → Float → Scalars → Scalars
scalars_of d h x =
    record {
      phase = x.phase;
      plastic_determinant = d;
      plastic_hardening = x.plastic_hardening;
      elastic_hardening = h;
      log_gain = x.log_gain;
      alpha = x.alpha;
    }

module _ {S R : Type 0} (b : Body S R) (p : SnowPlasticity) where
  -- elastic hardening becomes exp (coefficient * (1 - plastic determinant)), and is the amount; stored where all results are finite
  unfoldable pub harden_walk : List Float → List (List Float) → List (List Float) → S → Walk (Change S)
  harden_walk new u vt s =
      let d = determinant (b.scalars s).plastic_determinant (b.sigma s) new in
      ask 3 exp (num p.hardening_coeff *ᵉ (num one -ᵉ d)) (λ h.
      store_walk b 4 u new vt (d ∷ h ∷ []) (scalars_of (value d) (value h) (b.scalars s)) (value h))

  unfoldable pub run_walk : List (List Float) → List (List Float) → S → Walk (Change S)
  run_walk u vt s = clamps p (b.sigma s) (λ new. harden_walk new u vt s)

  -- parameters first
  unfoldable pub floats : List (List Float) → List (List Float) → S → List Float
  floats u vt s = parameters_of p ++ floats_of b u vt s

  unfoldable pub snow_walk : List (List Float) → List (List Float) → S → Walk (Change S)
  snow_walk u vt s = inputs (floats u vt s) (run_walk u vt s)

  abbrev pub snow_over : List (List Float) → List (List Float) → S → R
  snow_over u vt s = updated_of b s (walk_result (snow_walk u vt s))
