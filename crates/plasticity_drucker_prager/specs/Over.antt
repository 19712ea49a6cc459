-- Drucker-Prager as a walk over any number of axes (RULES, sections 5 and 6; plasticity_drucker_prager.rs, `update_particle`): what differs is the
-- state and the number of axes.
use Rattle.std.specs.Prelude.{Bool, ◌&&◌, List, [], ◌∷◌, ◌++◌, Float}
use Rattle.std.specs.Float.Ieee as Ieee
use Rattle.tensor.specs.Matrix as tensor
use Rattle.plasticity.specs.declared.Outcome.{Outcome}
use Rattle.plasticity.specs.declared.Outcome.TheVariants as outcome
use Rattle.plasticity.specs.declared.Scalars.{Scalars}
use Rattle.walk.specs.Expr.{Expr, num, ◌+ᵉ◌, ◌-ᵉ◌, ◌*ᵉ◌, ◌/ᵉ◌, value}
use Rattle.walk.specs.Walk.{Walk, ln, less, flag, inputs, ask, work, either, branch, end, ◌then◌, walk_result}
use Rattle.walk.specs.Matrix.{product}
use Rattle.walk.specs.Body as body
use Rattle.walk.specs.Body.{Body, Change, untouched, updated_of, floats_of}
use Rattle.plasticity_drucker_prager.specs.declared.DruckerPragerPlasticity.{DruckerPragerPlasticity}
use Rattle.plasticity_drucker_prager.specs.Law.{parameters_of}
use Rattle.plasticity_drucker_prager.specs.Alpha.{alpha_walk}
use Rattle.plasticity_drucker_prager.specs.Projection.{zero, Way, isotropic, expanding, inside, surface, Returned, project_walk}

-- plastic determinant, plastic hardening and log gain are new
abbrev pub scalars_of : Float → Float → Float → Scalars → Scalars
scalars_of d h gain x =
    record {
      phase = x.phase;
      plastic_determinant = d;
      plastic_hardening = h;
      elastic_hardening = x.elastic_hardening;
      log_gain = gain;
      alpha = x.alpha;
    }

-- whether the values are new; dq is the amount
abbrev pub outcome_of : Way → Float → Outcome
outcome_of (isotropic d) dq = outcome.Stored dq
outcome_of (expanding x) dq = outcome.Stored dq
outcome_of (inside x) dq = outcome.Untouched
outcome_of (surface x norm) dq = outcome.Stored dq

-- plastic determinant, plastic hardening and log gain
pub record Measures : Type 0 where
  pub determinant : Expr
  pub hardening : Expr
  pub gain : Expr

-- of new singular values, by the products of the old ones and of the new ones, over however many axes. "With diff > 0 the new determinant
-- stands; otherwise previous + diff * correction."
abbrev pub measure_walk : DruckerPragerPlasticity → Expr → Expr → Float → Scalars → Walk Measures
measure_walk p prev grown dq s =
    work 16 (grown -ᵉ prev) (λ diff.
    either 16 (less zero diff) grown (prev +ᵉ diff *ᵉ num p.volume_correction) (λ new.
    work 16 (num s.plastic_determinant *ᵉ (prev /ᵉ new)) (λ d.
    ask 17 ln prev (λ x.
    ask 18 ln new (λ y.
    end (record { determinant = d; hardening = num s.plastic_hardening +ᵉ num dq; gain = num s.log_gain +ᵉ (x -ᵉ y) }))))))

-- "If only active when failed and phase isn't 0.0: untouched."
abbrev pub stays_of : DruckerPragerPlasticity → Float → Bool
stays_of p phase = p.only_active_when_failed && Ieee.ne phase tensor.zero

-- phase, slope, projection, and what follows it, over however many axes
abbrev pub law_walk : {A : Type 0} → Expr → DruckerPragerPlasticity → List Float → Scalars → Walk A → (Returned → Walk A) → Walk A
law_walk axes p sigma x stays follows =
    branch 1 (flag (stays_of p x.phase)) stays
    (alpha_walk p x.plastic_hardening then (λ alpha.
    project_walk axes p sigma x.log_gain alpha then follows))

module _ {S R : Type 0} (b : Body S R) where
  -- stored where all results are finite; a finite hardening has a finite summand dq
  abbrev pub store_walk : List (List Float) → List Float → List (List Float) → Expr → Expr → Expr → Float → S → Walk (Change S)
  store_walk u sigma vt d h gain dq s = body.store_walk b 19 u sigma vt (d ∷ h ∷ gain ∷ []) (scalars_of (value d) (value h) (value gain) (b.scalars s)) dq

  -- new singular values
  unfoldable pub moved_walk : DruckerPragerPlasticity → List Float → Float → List (List Float) → List (List Float) → S → Walk (Change S)
  moved_walk p sigma dq u vt s =
      measure_walk p (product (b.sigma s)) (product sigma) dq (b.scalars s) then (λ m.
      store_walk u sigma vt m.determinant m.hardening m.gain dq s)

  -- after the projection
  unfoldable pub way_walk : DruckerPragerPlasticity → Way → List Float → Float → List (List Float) → List (List Float) → S → Walk (Change S)
  way_walk p (inside x) sigma dq u vt s = end untouched
  way_walk p (isotropic x) sigma dq u vt s = moved_walk p sigma dq u vt s
  way_walk p (expanding x) sigma dq u vt s = moved_walk p sigma dq u vt s
  way_walk p (surface x norm) sigma dq u vt s = moved_walk p sigma dq u vt s

  -- as the code hands it on: by the outcome of the projection
  abbrev pub followed_of : Outcome → DruckerPragerPlasticity → List Float → List (List Float) → List (List Float) → S → R
  followed_of outcome.Untouched p sigma u vt s = b.handed s outcome.Untouched
  followed_of (outcome.Stored dq) p sigma u vt s = updated_of b s (walk_result (moved_walk p sigma dq u vt s))
  followed_of (outcome.Refused n) p sigma u vt s = b.handed s (outcome.Refused n)

  -- parameters first
  unfoldable pub floats : DruckerPragerPlasticity → List (List Float) → List (List Float) → S → List Float
  floats p u vt s = parameters_of p ++ floats_of b u vt s

  -- by the number of the axes
  unfoldable pub run_walk : Expr → DruckerPragerPlasticity → List (List Float) → List (List Float) → S → Walk (Change S)
  run_walk dim p u vt s = law_walk dim p (b.sigma s) (b.scalars s) (end untouched) (λ q. way_walk p q.way q.sigma q.dq u vt s)

  unfoldable pub drucker_walk : Expr → DruckerPragerPlasticity → List (List Float) → List (List Float) → S → Walk (Change S)
  drucker_walk dim p u vt s = inputs (floats p u vt s) (run_walk dim p u vt s)

  abbrev pub drucker_over : Expr → DruckerPragerPlasticity → List (List Float) → List (List Float) → S → R
  drucker_over dim p u vt s = updated_of b s (walk_result (drucker_walk dim p u vt s))
