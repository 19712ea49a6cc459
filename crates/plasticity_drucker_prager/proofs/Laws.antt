-- What is handed from one piece of the walk to the next, as the code hands it on.
use mathlib.Core.Bool.{Bool, true, false, cond, ◌&&◌}
use mathlib.Core.List.{List, [], ◌∷◌, ◌++◌, map}
use mathlib.Core.Path.{◌≡◌, refl, ap, ◌∙◌}
use lib.Ieee.{Float, of_bits}
use Rattle.numbers.specs.Floats.{finite}
use Rattle.answers.specs.declared.Answer.{Answer}
use Rattle.answers.specs.declared.Answer.TheVariants as answers
use Rattle.tensor.specs.Axes.{all_of}
use Rattle.tensor.specs.Finite.{row_finite}
use Rattle.tensor.specs.Matrix.{one, product_of, recompose_of}
use Rattle.physics.specs.Norm.{norm_of}
use Rattle.plasticity.specs.State as law
use Rattle.plasticity.specs.declared.Outcome.TheVariants as outcome
use Rattle.plasticity.specs.declared.Outcome.TheVariants.{Stored}
use Rattle.plasticity.specs.declared.Scalars.{Scalars}
use Rattle.plasticity.specs.declared.State.{State}
use Rattle.walk.specs.Expr.{Expr, value}
use Rattle.walk.specs.Walk.{Walk, ◌then◌, Ended, given, refused, by_answer, walk_result}
use Rattle.walk.specs.Exact.{and_then}
use Rattle.walk.proofs.Exact.{result_then}
use Rattle.reason.specs.declared.Number.{Number}
use Rattle.reason.specs.declared.Number.TheVariants as number
use Rattle.reason.specs.Traced.{Traced, reached, stopped, traced, untraced, onwards, number_as}
use Rattle.reason.proofs.Laws.{traced_then, result_traced}
use Rattle.walk.proofs.Every.{all_append}
use Rattle.walk.specs.Body as body
use Rattle.walk.specs.Body.{Body, Change, updated_of, kept_of}
use Rattle.walk.proofs.Body.{inputs_finite_lem, store_law as walk_store}
use Rattle.walk.specs.Update as update
use Rattle.walk.specs.Update.{in_three}
use Rattle.walk.specs.Matrix.{product, values_nums}
use Rattle.walk.proofs.Matrix.{value_product, value_dot}
use Rattle.plasticity_drucker_prager.specs.declared.DruckerPragerPlasticity.{DruckerPragerPlasticity}
use Rattle.plasticity_drucker_prager.specs.declared.Measured.{Measured}
use Rattle.plasticity_drucker_prager.specs.declared.Measured.TheVariants as measured
use Rattle.plasticity_drucker_prager.specs.Law.{parameters_of, parameters_finite}
use Rattle.plasticity_drucker_prager.specs.Projection.{project_floats, Way, isotropic, expanding, inside, surface, Returned, returned_walk, tip_walk, branch_of, refused_projection, walked_of, projected_of, outcome_of, results_of}
use Rattle.plasticity_drucker_prager.specs.Inner.{tip_of, returned_of, finite_results, followed_of}
use Rattle.plasticity_drucker_prager.specs.DruckerPrager.{state_of, store_walk, scalars_of, Measures, measure_walk, measured_as, measured_of, way_walk}
use Rattle.plasticity_drucker_prager.specs.Over as over

-- the inputs, over any number of axes
pub inputs_law : {S R : Type 0} (b : Body S R) (p : DruckerPragerPlasticity) (u vt : List (List Float)) (s : S)
    → all_of finite (over.floats b p u vt s) ≡ parameters_finite p && body.inputs_finite b u vt s
unfolding over.floats
inputs_law b p u vt s = inputs_finite_lem b (parameters_of p) u vt s

leftwards : (a b c d : Bool) → a && (b && (c && d)) ≡ a && b && c && d
leftwards true true c d = refl
leftwards true false c d = refl
leftwards false b c d = refl

pub project_inputs_lem : (p : DruckerPragerPlasticity) (sigma : List Float) (gain alpha : Float)
    → all_of finite (project_floats p sigma gain alpha) ≡ parameters_finite p && row_finite sigma && finite gain && finite alpha
unfolding project_floats
project_inputs_lem p sigma gain alpha =
    all_append finite (parameters_of p) (sigma ++ (gain ∷ alpha ∷ []))
    ∙ rw (all_append finite sigma (gain ∷ alpha ∷ [])) (leftwards (parameters_finite p) (row_finite sigma) (finite gain) (finite alpha))

-- the tip, once the norm is known
tipped : (w : Way) (ones : List Float) (a : Answer) → walked_of (by_answer (λ m. stopped m 10) a (λ v. reached (record { way = w; sigma = ones; dq = v }))) ≡ tip_of (branch_of w) ones a
tipped w ones (answers.Value v) = refl
tipped w ones (answers.Refused n) = refl

pub tip_law : (w : Way) (e : List Float) → walked_of (traced (tip_walk w e)) ≡ tip_of (branch_of w) (map (λ x. one) e) (norm_of e)
unfolding tip_walk
tip_law w e = rw (value_dot e e) (tipped w (map (λ x. one) e) (norm_of e))

-- the projection is returned
handed : (b : Bool) (q : Returned) → walked_of (cond b (reached q) (stopped 3 19)) ≡ cond b (walked_of (reached q)) (refused_projection 3 19)
handed true q = refl
handed false q = refl

returns : (x : Traced Returned) → walked_of (onwards x (λ q. traced (returned_walk q))) ≡ returned_of (walked_of x)
unfolding returned_walk finite of_bits
returns (reached q) = simp values_nums (handed (row_finite q.sigma && finite q.dq) q)
returns (stopped n step) = refl

pub returned_then : (w : Walk Returned) → walked_of (traced (w then returned_walk)) ≡ returned_of (walked_of (traced w))
returned_then w = ap walked_of (traced_then w returned_walk) ∙ returns (traced w)

-- it is handed out without its step
handed_out : (x : Traced Returned) → results_of (projected_of (untraced x)) ≡ results_of (walked_of x)
handed_out (reached q) = refl
handed_out (stopped n step) = refl

pub results_law : (w : Walk Returned) → results_of (projected_of (walk_result w)) ≡ results_of (walked_of (traced w))
results_law w = ap (λ x. results_of (projected_of x)) (result_traced w) ∙ handed_out (traced w)

-- what follows a walk doesn't see its step
pub then_traced : {A B : Type 0} (w : Walk A) (g : A → Walk B) → walk_result (w then g) ≡ and_then (untraced (traced w)) (λ a. walk_result (g a))
then_traced w g = result_then w g ∙ ap (λ x. and_then x (λ a. walk_result (g a))) (result_traced w)

-- alpha is followed by the projection
module _ {B : Type 0} (g : Float → Ended B) where
  abbrev pub numbered : Number → Ended B
  numbered (number.Value x) = g x
  numbered (number.Refused n step) = refused n

  stepped : (x : Traced Float) → and_then (untraced x) g ≡ numbered (number_as x)
  stepped (reached v) = refl
  stepped (stopped n step) = refl

pub alpha_then : {B : Type 0} (w : Walk Float) (g : Float → Walk B) → walk_result (w then g) ≡ numbered (λ a. walk_result (g a)) (number_as (traced w))
alpha_then w g = then_traced w g ∙ stepped (λ a. walk_result (g a)) (traced w)

-- the projection is followed by its branch: over any number of axes
module _ {S R : Type 0} (b : Body S R) (p : DruckerPragerPlasticity) (u vt : List (List Float)) (s : S) where
  over_way : (w : Way) (sigma : List Float) (dq : Float) → updated_of b s (walk_result (over.way_walk b p w sigma dq u vt s)) ≡ over.followed_of b (over.outcome_of w dq) p sigma u vt s
  unfolding over.way_walk
  over_way (isotropic x) sigma dq = refl
  over_way (expanding x) sigma dq = refl
  over_way (inside x) sigma dq = refl
  over_way (surface x norm) sigma dq = refl

  abbrev pub by_end : Ended Returned → R
  by_end (given q) = over.followed_of b (over.outcome_of q.way q.dq) p q.sigma u vt s
  by_end (refused n) = b.handed s (outcome.Refused n)

  follows : (x : Ended Returned) → updated_of b s (and_then x (λ q. walk_result (over.way_walk b p q.way q.sigma q.dq u vt s))) ≡ by_end x
  follows (given q) = over_way q.way q.sigma q.dq
  follows (refused n) = refl

  pub over_then : (w : Walk Returned) → updated_of b s (walk_result (w then (λ q. over.way_walk b p q.way q.sigma q.dq u vt s))) ≡ by_end (walk_result w)
  over_then w = ap (updated_of b s) (result_then w (λ q. over.way_walk b p q.way q.sigma q.dq u vt s)) ∙ follows (walk_result w)

-- in three axes the branch is told with it
branch_outcome : (w : Way) (dq : Float) → over.outcome_of w dq ≡ outcome_of (branch_of w) dq
branch_outcome (isotropic x) dq = refl
branch_outcome (expanding x) dq = refl
branch_outcome (inside x) dq = refl
branch_outcome (surface x norm) dq = refl

module _ (p : DruckerPragerPlasticity) (u vt : List (List Float)) (s : State) where
  by_branch_lem : (x : Traced Returned) → by_end in_three p u vt s (untraced x) ≡ followed_of (walked_of x).branch p (walked_of x).sigma (walked_of x).dq u vt s
  by_branch_lem (reached q) = ap (λ o. over.followed_of in_three o p q.sigma u vt s) (branch_outcome q.way q.dq)
  by_branch_lem (stopped n step) = refl

  pub way_then : (w : Walk Returned)
      → update.updated_of s (walk_result (w then (λ q. way_walk p q.way q.sigma q.dq u vt s)))
      ≡ followed_of (walked_of (traced w)).branch p (walked_of (traced w)).sigma (walked_of (traced w)).dq u vt s
  way_then w = over_then in_three p u vt s w ∙ ap (by_end in_three p u vt s) (result_traced w) ∙ by_branch_lem (traced w)

-- the results as the code tests them
pub store_law : (u : List (List Float)) (sigma : List Float) (vt : List (List Float)) (d h gain : Expr) (dq : Float) (s : State)
    → update.updated_of s (walk_result (store_walk u sigma vt d h gain dq s))
    ≡ cond (finite_results (recompose_of u sigma vt) sigma (value d) (value h) (value gain))
    (record { state = state_of (recompose_of u sigma vt) sigma (value d) (value h) (value gain) s; outcome = Stored dq }) (law.refused 3 s)
store_law u sigma vt d h gain dq s = walk_store in_three 19 u sigma vt (d ∷ h ∷ gain ∷ []) (scalars_of (value d) (value h) (value gain) s.scalars) dq s

-- what is stored beside F and sigma is told of the products' values
pub measured_law : (p : DruckerPragerPlasticity) (old sigma : List Float) (dq : Float) (x : Scalars)
    → measured_as (traced (measure_walk p (product old) (product sigma) dq x)) ≡ measured_of p (product_of old) (product_of sigma) dq x
unfolding measured_of
measured_law p old sigma dq x = rw (← value_product old, ← value_product sigma) refl

-- what is stored beside F and sigma, and then the results: over any number of axes
module _ {S R : Type 0} (b : Body S R) (p : DruckerPragerPlasticity) (sigma : List Float) (dq : Float) (u vt : List (List Float)) (s : S) where
  abbrev pub stored_by : Measured → R
  stored_by (measured.Values d h gain) = kept_of b u sigma vt (all_of finite (d ∷ h ∷ gain ∷ [])) (scalars_of d h gain (b.scalars s)) dq s
  stored_by (measured.Refused n step) = b.handed s (outcome.Refused n)

  abbrev after_measures : Measures → Walk (Change S)
  after_measures m = over.store_walk b u sigma vt m.determinant m.hardening m.gain dq s

  measures : (x : Traced Measures) → updated_of b s (and_then (untraced x) (λ m. walk_result (after_measures m))) ≡ stored_by (measured_as x)
  measures (reached m) =
      walk_store b 19 u sigma vt (m.determinant ∷ m.hardening ∷ m.gain ∷ []) (scalars_of (value m.determinant) (value m.hardening) (value m.gain) (b.scalars s)) dq s
  measures (stopped n step) = refl

  pub moved_law : updated_of b s (walk_result (over.moved_walk b p sigma dq u vt s)) ≡ stored_by (measured_of p (product_of (b.sigma s)) (product_of sigma) dq (b.scalars s))
  unfolding over.moved_walk
  moved_law =
      let w = measure_walk p (product (b.sigma s)) (product sigma) dq (b.scalars s) in
      ap (updated_of b s) (then_traced w after_measures) ∙ measures (traced w) ∙ ap stored_by (measured_law p (b.sigma s) sigma dq (b.scalars s))
