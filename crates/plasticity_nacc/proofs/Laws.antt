-- What is handed from one piece of the walk to the next, as the code hands it on; and the tests that meet no NaN.
use mathlib.Core.Bool.{Bool, true, false, cond, ◌&&◌}
use mathlib.Core.List.{List, [], ◌∷◌, ◌++◌}
use mathlib.Core.Path.{◌≡◌, refl, sym, ap, ◌∙◌}
use lib.Ieee as Ieee
use lib.Ieee.{Float, of_bits}
use Rattle.numbers.specs.Floats.{finite, is_number, max_of}
use Rattle.tensor.specs.Axes.{all_of}
use Rattle.tensor.specs.Matrix as tensor
use Rattle.tensor.specs.Matrix.{recompose_of, rows_of}
use Rattle.tensor.specs.Finite.{row_finite, mat_finite}
use Rattle.tensor.specs.declared.Rows.{Rows}
use Rattle.plasticity.specs.State as law
use Rattle.plasticity.specs.State.{inputs_finite, scalars_finite}
use Rattle.plasticity.specs.declared.Outcome.TheVariants as outcome
use Rattle.plasticity.specs.declared.Scalars.{Scalars}
use Rattle.plasticity.specs.declared.State.{State}
use Rattle.plasticity.specs.declared.Updated.{Updated}
use Rattle.walk.specs.Expr.{Expr, num, neg, value}
use Rattle.walk.proofs.Expr.{zero_number}
use Rattle.walk.specs.Walk.{Walk, end, ◌then◌, holds, Ended, given, refused, walk_result}
use Rattle.walk.proofs.Number.{neg_number, add_number, sub_number, finite_sub, picked_number, zero_finite}
use Rattle.numbers.proofs.Laws.{finite_number}
use Rattle.walk.specs.Exact.{and_then}
use Rattle.walk.proofs.Exact.{result_then}
use Rattle.walk.specs.Matrix.{joined, value_entry, values_nums}
use Rattle.walk.proofs.Every.{and_left, and_right, all_append, all_joined}
use Rattle.walk.specs.Body as body
use Rattle.walk.specs.Body.{Body, kept_of}
use Rattle.walk.proofs.Body.{inputs_finite_lem, finite_scalars, store_law}
use Rattle.walk.specs.Update.{in_three, Change, updated_of}
use Rattle.reason.specs.declared.Number.{Number}
use Rattle.reason.specs.declared.Number.TheVariants as number
use Rattle.reason.specs.Traced.{Traced, reached, stopped, traced, untraced, onwards, number_as}
use Rattle.reason.proofs.Laws.{most_traced, when_traced, traced_then, result_traced}
use Rattle.plasticity_nacc.specs.declared.Branch.{Branch}
use Rattle.plasticity_nacc.specs.declared.Branch.TheVariants.{Upper, Lower, Surface}
use Rattle.plasticity_nacc.specs.declared.NaccArguments.{NaccArguments}
use Rattle.plasticity_nacc.specs.declared.NaccPlasticity.{NaccPlasticity}
use Rattle.plasticity_nacc.specs.declared.Projected.{Projected}
use Rattle.plasticity_nacc.specs.declared.Stepped.{Stepped}
use Rattle.plasticity_nacc.specs.declared.Trial.{Trial}
use Rattle.plasticity_nacc.specs.Law.{small, law_of, parameters_of, arguments_floats, elastic_finite, parameters_finite}
use Rattle.plasticity_nacc.specs.Axes.{Axes, three_axes}
use Rattle.plasticity_nacc.specs.Formulas as of
use Rattle.plasticity_nacc.specs.Projection.{Way, upper, lower, inside, surface, Shape, Landed, Result, tip_walk, harden_walk, conditions, hardened_walk, ends, press_walk, steps_walk, recomposed_walk, way_walk, project_walk, moduli, project_floats, branch_of, refused_projection, walked_of, projected_of, results_of, outcome_of}
use Rattle.plasticity_nacc.specs.Inner.{size_of, settled, project_inputs, as_branch, stepped_of, recomposed_of, by_branch, state_of, by_outcome, stored_by}
use Rattle.plasticity_nacc.specs.Over as over
use Rattle.plasticity_nacc.specs.Over.{scalars_of}
use Rattle.plasticity_nacc.specs.Nacc.{run_walk, arguments_walk, nacc_update}

pub small_finite : finite small ≡ true
unfolding finite of_bits
small_finite = refl

pub small_number : is_number small ≡ true
unfolding is_number of_bits
small_number = refl

pub size_number : (v : Float) → is_number v ≡ true → is_number (size_of v) ≡ true
size_number v h = picked_number (Ieee.le v tensor.zero) (tensor.sub tensor.zero v) v (finite_sub tensor.zero v zero_finite h) h

-- the maximum of a finite alpha meets no NaN
pub steps_law : (axes : Axes) (p : NaccPlasticity) (sigma : List Float) (alpha : Float) → finite alpha ≡ true
    → traced (steps_walk axes p sigma alpha) ≡ traced (press_walk axes p (num (max_of (Ieee.neg alpha) tensor.zero)) sigma alpha)
unfolding steps_walk
steps_law axes p sigma alpha h =
    most_traced 2 (neg (num alpha)) of.zero (λ m. press_walk axes p m sigma alpha) (neg_number alpha ∙ finite_number alpha h) zero_number

-- nor do the four conditions, once the branches are tested
pub harden_law : (d : Expr) (p : NaccPlasticity) (t : Trial) (alpha : Float) → settled p t ≡ true
    → traced (hardened_walk d p t alpha) ≡ cond (all_of holds (conditions p t)) (traced (harden_walk d p t alpha)) (reached alpha)
unfolding hardened_walk
harden_law d p t alpha h =
    let low = value (of.low p (num t.p0)) in
    let two = and_left (is_number t.p0 && is_number t.p) (is_number low) h in
    let a = and_left (is_number t.p0) (is_number t.p) two in
    let b = and_right (is_number t.p0) (is_number t.p) two in
    let c = and_right (is_number t.p0 && is_number t.p) (is_number low) h in
    when_traced 13 (conditions p t) (harden_walk d p t alpha) (end alpha)
    (simp (a, b, small_number, sub_number t.p0 small a small_finite, add_number low small c small_finite))

pub pressures : (t : Trial) → is_number t.p0 && (is_number t.squares && is_number t.p) ≡ true → is_number t.p0 && is_number t.p ≡ true
pressures t h =
    rw (and_left (is_number t.p0) (is_number t.squares && is_number t.p) h)
    (and_right (is_number t.squares) (is_number t.p) (and_right (is_number t.p0) (is_number t.squares && is_number t.p) h))

-- ---- one piece after the other
ended : (w : Way) (x : Traced Shape) → stepped_of (onwards x (λ q. traced (ends w q))) ≡ as_branch (branch_of w) x
ended w (reached q) = refl
ended w (stopped n step) = refl

pub shape_then : (w : Way) (v : Walk Shape) → stepped_of (traced (v then ends w)) ≡ as_branch (branch_of w) (traced v)
shape_then w v = ap stepped_of (traced_then v (ends w)) ∙ ended w (traced v)

-- the new alpha is handed on to what follows it
module _ {B : Type 0} (g : Float → Traced B) where
  abbrev pub numbered : Number → Traced B
  numbered (number.Value x) = g x
  numbered (number.Refused n step) = stopped n step

  handed_on : (x : Traced Float) → onwards x g ≡ numbered (number_as x)
  handed_on (reached v) = refl
  handed_on (stopped n step) = refl

pub alpha_then : {B : Type 0} (w : Walk Float) (g : Float → Walk B) → traced (w then g) ≡ numbered (λ a. traced (g a)) (number_as (traced w))
alpha_then w g = traced_then w g ∙ handed_on (λ a. traced (g a)) (traced w)

-- at the lower tip
pub lower_law : (p : NaccPlasticity) (t : Trial) (alpha x : Float)
    → stepped_of (traced (tip_walk three_axes p (num x) t.j alpha then ends (lower t.p (value (of.low p (num t.p0))))))
    ≡ as_branch (Lower t.p (value (of.low p (num t.p0)))) (traced (tip_walk three_axes p (num x) t.j alpha))
lower_law p t alpha x = shape_then (lower t.p (value (of.low p (num t.p0)))) (tip_walk three_axes p (num x) t.j alpha)

kept : (q : Result) (b : Bool) → walked_of (cond b (reached q) (stopped 3 30)) ≡ cond b (walked_of (reached q)) (refused_projection 3 30)
kept q true = refl
kept q false = refl

recomposed_law : (w : Way) (u : List (List Float)) (q : Shape) (vt : List (List Float)) → walked_of (traced (recomposed_walk w u q vt)) ≡ recomposed_of (branch_of w) u q.sigma vt q.alpha
unfolding recomposed_walk recomposed_of
recomposed_law w u q vt =
    let f = recompose_of u q.sigma vt in
    simp (value_entry, values_nums) (kept (record { way = w; f = rows_of f; shape = q }) ((mat_finite f && row_finite q.sigma) && finite q.alpha))

module _ (f : Rows) (u vt : List (List Float)) where
  way_law : (w : Way) (q : Shape) → walked_of (traced (way_walk w q f u vt)) ≡ by_branch (branch_of w) q.sigma q.alpha f u vt
  unfolding way_walk
  way_law (upper x y) q = recomposed_law (upper x y) u q vt
  way_law (lower x y) q = recomposed_law (lower x y) u q vt
  way_law (inside x y) q = refl
  way_law (surface x y) q = recomposed_law (surface x y) u q vt

  -- as the code goes by the branch
  abbrev pub by_step : Stepped → Projected
  by_step q = by_branch q.branch q.sigma q.alpha f u vt

  followed : (x : Traced Landed) → walked_of (onwards x (λ q. traced (way_walk q.way q.shape f u vt))) ≡ by_step (stepped_of x)
  followed (reached q) = way_law q.way q.shape
  followed (stopped n step) = refl

  pub project_law : (p : NaccPlasticity) (sigma : List Float) (alpha : Float) → walked_of (traced (project_walk p f u sigma vt alpha)) ≡ by_step (stepped_of (traced (steps_walk three_axes p sigma alpha)))
  unfolding project_walk
  project_law p sigma alpha =
      ap walked_of (traced_then (steps_walk three_axes p sigma alpha) (λ q. way_walk q.way q.shape f u vt)) ∙ followed (traced (steps_walk three_axes p sigma alpha))

-- it is handed out without its step
handed_out : (x : Traced Result) → results_of (projected_of (untraced x)) ≡ results_of (walked_of x)
handed_out (reached q) = refl
handed_out (stopped n step) = refl

pub results_law : (w : Walk Result) → results_of (projected_of (walk_result w)) ≡ results_of (walked_of (traced w))
results_law w = ap (λ x. results_of (projected_of x)) (result_traced w) ∙ handed_out (traced w)

-- ---- over any number of axes: the steps are followed by their branch, as the code hands it on
module _ {S R : Type 0} (b : Body S R) (u vt : List (List Float)) (s : S) where
  stores : (q : Shape) → body.updated_of b s (walk_result (over.stored_walk b q u vt s)) ≡ kept_of b u q.sigma vt (finite q.alpha) (scalars_of q.alpha (b.scalars s)) q.alpha s
  unfolding over.stored_walk
  stores q = store_law b 30 u q.sigma vt (num q.alpha ∷ []) (scalars_of q.alpha (b.scalars s)) q.alpha s

  abbrev pub by_way_of : Way → Shape → R
  by_way_of w q = over.followed_of b (over.outcome_of w q.alpha) q.sigma u vt s

  pub over_way : (w : Way) (q : Shape) → body.updated_of b s (walk_result (over.way_walk b w q u vt s)) ≡ by_way_of w q
  unfolding over.way_walk
  over_way (upper x y) q = stores q
  over_way (lower x y) q = stores q
  over_way (inside x y) q = refl
  over_way (surface x y) q = stores q

  abbrev pub by_end : Ended Landed → R
  by_end (given q) = by_way_of q.way q.shape
  by_end (refused n) = b.handed s (outcome.Refused n)

  follows : (x : Ended Landed) → body.updated_of b s (and_then x (λ q. walk_result (over.way_walk b q.way q.shape u vt s))) ≡ by_end x
  follows (given q) = over_way q.way q.shape
  follows (refused n) = refl

  pub over_run : (axes : Axes) (p : NaccPlasticity) → body.updated_of b s (walk_result (over.run_walk b axes p u vt s)) ≡ by_end (walk_result (steps_walk axes p (b.sigma s) (b.scalars s).alpha))
  unfolding over.run_walk
  over_run axes p =
      let w = steps_walk axes p (b.sigma s) (b.scalars s).alpha in
      ap (body.updated_of b s) (result_then w (λ q. over.way_walk b q.way q.shape u vt s)) ∙ follows (walk_result w)

-- ---- three axes: the projection, and then the state is stored
module _ (s : State) where
  abbrev pub by_projection : Projected → Updated
  by_projection q = stored_by q.branch q.f q.sigma q.alpha s

  stored_by_lem : (b : Branch) (f : Rows) (sigma : List Float) (alpha : Float) → outcome_of b alpha ≡ outcome.Stored alpha → (c : Bool)
      → cond c (record { state = state_of f sigma alpha s; outcome = outcome.Stored alpha }) (law.refused 3 s)
      ≡ by_projection (cond c (record { branch = b; f = f; sigma = sigma; alpha = alpha }) (refused_projection 3 30))
  stored_by_lem b f sigma alpha h true = sym (ap (λ o. by_outcome o f sigma s) h)
  stored_by_lem b f sigma alpha h false = refl

  module _ (u vt : List (List Float)) where
    abbrev finite_of : Shape → Bool
    finite_of q = (mat_finite (recompose_of u q.sigma vt) && row_finite q.sigma) && finite q.alpha

    abbrev new_of : Shape → Rows
    new_of q = rows_of (recompose_of u q.sigma vt)

    way_stored : (w : Way) (q : Shape) → by_way_of in_three u vt s w q ≡ by_projection (by_branch (branch_of w) q.sigma q.alpha s.f u vt)
    unfolding recomposed_of
    way_stored (upper x y) q = stored_by_lem (Upper x y) (new_of q) q.sigma q.alpha refl (finite_of q)
    way_stored (lower x y) q = stored_by_lem (Lower x y) (new_of q) q.sigma q.alpha refl (finite_of q)
    way_stored (inside x y) q = refl
    way_stored (surface x y) q = stored_by_lem (Surface x y) (new_of q) q.sigma q.alpha refl (finite_of q)

    steps_stored : (x : Traced Landed) → by_end in_three u vt s (untraced x) ≡ by_projection (by_step s.f u vt (stepped_of x))
    steps_stored (reached q) = way_stored q.way q.shape
    steps_stored (stopped n step) = refl

  pub run_law : (p : NaccPlasticity) (u vt : List (List Float)) → updated_of s (walk_result (run_walk p u vt s)) ≡ by_projection (walked_of (traced (project_walk p s.f u s.sigma vt s.scalars.alpha)))
  run_law p u vt =
      let w = steps_walk three_axes p s.sigma s.scalars.alpha in
      over_run in_three u vt s three_axes p ∙ ap (by_end in_three u vt s) (result_traced w) ∙ steps_stored u vt (traced w)
      ∙ sym (ap by_projection (project_law s.f u vt p s.sigma s.scalars.alpha))

-- ---- the inputs, over any number of axes
pub inputs_law : {S R : Type 0} (b : Body S R) (l : List Float) (u vt : List (List Float)) (s : S)
    → all_of finite (over.floats b l u vt s) ≡ all_of finite l && body.inputs_finite b u vt s
unfolding over.floats
inputs_law b l u vt s = inputs_finite_lem b l u vt s

alpha_of : (x : Scalars) → scalars_finite x ≡ true → finite x.alpha ≡ true
alpha_of x h =
    and_right (finite x.phase && finite x.plastic_determinant && finite x.plastic_hardening && finite x.elastic_hardening && finite x.log_gain) (finite x.alpha) h

-- alpha is one of them, beside parameters that are finite by c
pub alpha_finite : {S R : Type 0} (b : Body S R) (c : Bool) (u vt : List (List Float)) (s : S) → c && body.inputs_finite b u vt s ≡ true → finite (b.scalars s).alpha ≡ true
alpha_finite b c u vt s h = alpha_of (b.scalars s) (finite_scalars b u vt s (and_right c (body.inputs_finite b u vt s) h))

leftwards : (a b c d e f : Bool) → a && (b && (c && (d && (e && f)))) ≡ a && b && c && d && e && f
leftwards true true true true e f = refl
leftwards true true true false e f = refl
leftwards true true false d e f = refl
leftwards true false c d e f = refl
leftwards false b c d e f = refl

pub project_inputs_lem : (p : NaccPlasticity) (f u : List (List Float)) (sigma : List Float) (vt : List (List Float)) (alpha : Float)
    → all_of finite (project_floats p f u sigma vt alpha) ≡ project_inputs p f u sigma vt alpha
unfolding project_floats
project_inputs_lem p f u sigma vt alpha =
    let last = alpha ∷ [] in
    all_append finite (parameters_of p) (joined f ++ (joined u ++ (sigma ++ (joined vt ++ last))))
    ∙ rw (all_append finite (joined f) (joined u ++ (sigma ++ (joined vt ++ last))), all_append finite (joined u) (sigma ++ (joined vt ++ last)), all_append finite sigma (joined vt ++ last), all_append finite (joined vt) last, all_joined finite f, all_joined finite u, all_joined finite vt)
    (leftwards (parameters_finite p) (mat_finite f) (mat_finite u) (row_finite sigma) (mat_finite vt) (finite alpha))

-- the arguments' own test, and then the law's
twice : (s : State) (y n c x m i : Bool) (w : Ended Change)
    → updated_of s (cond ((y && n && c && x && m) && i) w (refused 1)) ≡ cond (y && n) (updated_of s (cond ((x && c && m) && i) w (refused 1))) (law.refused 1 s)
twice s true true true true m i w = refl
twice s true true true false m i w = refl
twice s true true false true m i w = refl
twice s true true false false m i w = refl
twice s true false c x m i w = refl
twice s false n c x m i w = refl

pub arguments_law : (a : NaccArguments) (u vt : List (List Float)) (s : State)
    → updated_of s (walk_result (arguments_walk a u vt s)) ≡ cond (elastic_finite a) (nacc_update (law_of a) u vt s) (law.refused 1 s)
unfolding over.arguments_walk over.nacc_walk
arguments_law a u vt s =
    rw (inputs_law in_three (arguments_floats a) u vt s, inputs_law in_three (parameters_of (law_of a)) u vt s)
    (twice s (finite a.young_modulus) (finite a.poisson_ratio) (finite a.cohesion) (finite a.hardening_factor) (finite a.m) (inputs_finite u vt s)
    (walk_result (moduli (law_of a) (run_walk (law_of a) u vt s))))

-- alpha is one of them
pub project_alpha : (p : NaccPlasticity) (f u : List (List Float)) (sigma : List Float) (vt : List (List Float)) (alpha : Float)
    → project_inputs p f u sigma vt alpha ≡ true → finite alpha ≡ true
project_alpha p f u sigma vt alpha h = and_right (parameters_finite p && mat_finite f && mat_finite u && row_finite sigma && mat_finite vt) (finite alpha) h
