-- NACC as a walk over any number of axes (RULES, sections 5 and 6; plasticity_nacc.rs, `update_particle`): what differs is the state and the axes.
use Rattle.std.specs.Prelude.{List, [], ◌∷◌, ◌++◌, Float}
use Rattle.numbers.specs.Floats.{finite}
use Rattle.plasticity.specs.declared.Outcome.{Outcome}
use Rattle.plasticity.specs.declared.Outcome.TheVariants as outcome
use Rattle.plasticity.specs.declared.Scalars.{Scalars}
use Rattle.walk.specs.Expr.{num}
use Rattle.walk.specs.Walk.{Walk, inputs, end, ◌then◌, walk_result}
use Rattle.walk.specs.Body.{Body, Change, untouched, updated_of, floats_of, store_walk, kept_of}
use Rattle.plasticity_nacc.specs.declared.NaccArguments.{NaccArguments}
use Rattle.plasticity_nacc.specs.declared.NaccPlasticity.{NaccPlasticity}
use Rattle.plasticity_nacc.specs.Law.{law_of, arguments_floats, parameters_of}
use Rattle.plasticity_nacc.specs.Axes.{Axes}
use Rattle.plasticity_nacc.specs.Projection.{Way, upper, lower, inside, surface, Shape, by_way, steps_walk, moduli}

-- alpha is new
abbrev pub scalars_of : Float → Scalars → Scalars
scalars_of alpha x =
    record {
      phase = x.phase;
      plastic_determinant = x.plastic_determinant;
      plastic_hardening = x.plastic_hardening;
      elastic_hardening = x.elastic_hardening;
      log_gain = x.log_gain;
      alpha = alpha;
    }

-- whether the values are new; alpha is the amount
abbrev pub outcome_of : Way → Float → Outcome
outcome_of (upper x y) alpha = outcome.Stored alpha
outcome_of (lower x y) alpha = outcome.Stored alpha
outcome_of (inside x y) alpha = outcome.Untouched
outcome_of (surface x y) alpha = outcome.Stored alpha

module _ {S R : Type 0} (b : Body S R) where
  -- F, sigma and alpha are new, where all results are finite
  unfoldable pub stored_walk : Shape → List (List Float) → List (List Float) → S → Walk (Change S)
  stored_walk q u vt s = store_walk b 30 u q.sigma vt (num q.alpha ∷ []) (scalars_of q.alpha (b.scalars s)) q.alpha

  -- after the steps; "y < 1e-4: untouched, alpha too"
  unfoldable pub way_walk : Way → Shape → List (List Float) → List (List Float) → S → Walk (Change S)
  way_walk w q u vt s = by_way w (end untouched) (stored_walk q u vt s)

  -- parameters first
  unfoldable pub floats : List Float → List (List Float) → List (List Float) → S → List Float
  floats l u vt s = l ++ floats_of b u vt s

  -- as the code hands it on: by the outcome of the steps
  abbrev pub followed_of : Outcome → List Float → List (List Float) → List (List Float) → S → R
  followed_of outcome.Untouched sigma u vt s = b.handed s outcome.Untouched
  followed_of (outcome.Stored alpha) sigma u vt s = kept_of b u sigma vt (finite alpha) (scalars_of alpha (b.scalars s)) alpha s
  followed_of (outcome.Refused n) sigma u vt s = b.handed s (outcome.Refused n)

  module _ (axes : Axes) where
    unfoldable pub run_walk : NaccPlasticity → List (List Float) → List (List Float) → S → Walk (Change S)
    run_walk p u vt s = steps_walk axes p (b.sigma s) (b.scalars s).alpha then (λ q. way_walk q.way q.shape u vt s)

    unfoldable pub nacc_walk : NaccPlasticity → List (List Float) → List (List Float) → S → Walk (Change S)
    nacc_walk p u vt s = inputs (floats (parameters_of p) u vt s) (moduli p (run_walk p u vt s))

    -- by the law that `with_m` makes of the arguments
    unfoldable pub arguments_walk : NaccArguments → List (List Float) → List (List Float) → S → Walk (Change S)
    arguments_walk a u vt s = inputs (floats (arguments_floats a) u vt s) (moduli (law_of a) (run_walk (law_of a) u vt s))

    abbrev pub nacc_over : NaccPlasticity → List (List Float) → List (List Float) → S → R
    nacc_over p u vt s = updated_of b s (walk_result (nacc_walk p u vt s))

    abbrev pub arguments_over : NaccArguments → List (List Float) → List (List Float) → S → R
    arguments_over a u vt s = updated_of b s (walk_result (arguments_walk a u vt s))
