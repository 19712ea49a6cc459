-- The Rankine update as a walk over any number of axes (RULES, sections 5 and 6; plasticity_rankine.rs, `update_particle`): what differs is the state
-- and the projection. The steps: 1 the moduli, 2 the logarithms, 3 the softened strength, 4 to 6 the tests, 7 the norm, 8 the hardening, 9 the
-- exponentials, 10 the results.
use Rattle.std.specs.Prelude.{List, [], ◌∷◌, ◌++◌, Float}
use Rattle.tensor.specs.Axes.{pairwise}
use Rattle.tensor.specs.Matrix as tensor
use Rattle.plasticity.specs.declared.Scalars.{Scalars}
use Rattle.walk.specs.Expr.{Expr, num, ◌+ᵉ◌, ◌-ᵉ◌, ◌*ᵉ◌, value, values, nums}
use Rattle.walk.specs.Walk.{Walk, exp, ln, root, inputs, ask, asks, work, least, end, ◌then◌, walk_result}
use Rattle.walk.specs.Matrix.{dots}
use Rattle.walk.specs.Body as body
use Rattle.walk.specs.Body.{Body, Change, untouched, updated_of, floats_of}
use Rattle.plasticity_rankine.specs.declared.RankineArguments.{RankineArguments}
use Rattle.plasticity_rankine.specs.declared.RankinePlasticity.{RankinePlasticity}
use Rattle.plasticity_rankine.specs.Law.{law_of, parameters_of, arguments_floats, moduli}
use Rattle.plasticity_rankine.specs.Projection.{Way, none_moves, one_moves, two_move, all_move, Moved}

-- the plastic hardening is new
abbrev pub hardened_of : Float → Scalars → Scalars
hardened_of h x =
    record {
      phase = x.phase;
      plastic_determinant = x.plastic_determinant;
      plastic_hardening = h;
      elastic_hardening = x.elastic_hardening;
      log_gain = x.log_gain;
      alpha = x.alpha;
    }

-- "Hardening grows by rate times the norm of the change, then is capped at the strength."
abbrev pub grows : {A : Type 0} → RankinePlasticity → Float → Expr → (Expr → Walk A) → Walk A
grows p hardening norm k =
    work 8 (num hardening +ᵉ num p.softening_rate *ᵉ norm) (λ grown.
    least 8 grown (num p.tensile_strength) k)

abbrev pub changes : {A : Type 0} → List Float → List Expr → (Expr → Walk A) → Walk A
changes old new k =
    let change = pairwise ◌-ᵉ◌ (nums old) new in
    ask 7 root (dots change change) k

-- w where no strain moved, else v
abbrev pub by_way : {A : Type 0} → Way → Walk A → Walk A → Walk A
by_way (none_moves x y) w v = w
by_way (one_moves x y) w v = v
by_way (two_move x y) w v = v
by_way (all_move x y) w v = v

-- s = strength - (hardening - 1): the hardening starts from 1
abbrev pub soft_strength : RankinePlasticity → Float → Expr
soft_strength p h = num p.tensile_strength -ᵉ (num h -ᵉ num tensor.one)

module _ {S R : Type 0} (b : Body S R) where
  -- stored with the plastic hardening as the amount, where all results are finite
  abbrev pub store_walk : List (List Float) → List Float → List (List Float) → Expr → S → Walk (Change S)
  store_walk u sigma vt h s = body.store_walk b 10 u sigma vt (h ∷ []) (hardened_of (value h) (b.scalars s)) (value h)

  -- sigma is the exponentials of the strains
  unfoldable pub exps_walk : List Float → List (List Float) → List (List Float) → Expr → S → Walk (Change S)
  exps_walk strains u vt h s = asks 9 exp strains (λ sigma. store_walk u sigma vt h s)

  unfoldable pub harden_walk : RankinePlasticity → Expr → List Float → List (List Float) → List (List Float) → S → Walk (Change S)
  harden_walk p norm strains u vt s = grows p (b.scalars s).plastic_hardening norm (λ h. exps_walk strains u vt h s)

  -- strains that moved
  unfoldable pub moved_walk : RankinePlasticity → List Float → List Expr → List (List Float) → List (List Float) → S → Walk (Change S)
  moved_walk p old new u vt s = changes old new (λ norm. harden_walk p norm (values new) u vt s)

  -- after the projection
  unfoldable pub way_walk : RankinePlasticity → Way → List Float → List Expr → List (List Float) → List (List Float) → S → Walk (Change S)
  way_walk p w old new u vt s = by_way w (end untouched) (moved_walk p old new u vt s)

  -- parameters first
  unfoldable pub floats : List Float → List (List Float) → List (List Float) → S → List Float
  floats l u vt s = l ++ floats_of b u vt s

  -- by the projection of the axes
  module _ (project : RankinePlasticity → List Float → Expr → Walk Moved) where
    unfoldable pub strained_walk : RankinePlasticity → List Float → List (List Float) → List (List Float) → S → Walk (Change S)
    strained_walk p e u vt s =
        work 3 (soft_strength p (b.scalars s).plastic_hardening) (λ soft.
        project p e soft then (λ q. way_walk p q.way e q.strains u vt s))

    -- log strains are our logarithms of sigma
    unfoldable pub run_walk : RankinePlasticity → List Float → List (List Float) → List (List Float) → S → Walk (Change S)
    run_walk p sigma u vt s = asks 2 ln sigma (λ e. strained_walk p e u vt s)

    unfoldable pub rankine_walk : RankinePlasticity → List (List Float) → List (List Float) → S → Walk (Change S)
    rankine_walk p u vt s = inputs (floats (parameters_of p) u vt s) (moduli p (run_walk p (b.sigma s) u vt s))

    -- by the law that `new` makes of the arguments
    unfoldable pub arguments_walk : RankineArguments → List (List Float) → List (List Float) → S → Walk (Change S)
    arguments_walk a u vt s = inputs (floats (arguments_floats a) u vt s) (moduli (law_of a) (run_walk (law_of a) (b.sigma s) u vt s))

    abbrev pub rankine_over : RankinePlasticity → List (List Float) → List (List Float) → S → R
    rankine_over p u vt s = updated_of b s (walk_result (rankine_walk p u vt s))

    abbrev pub arguments_over : RankineArguments → List (List Float) → List (List Float) → S → R
    arguments_over a u vt s = updated_of b s (walk_result (arguments_walk a u vt s))
