-- What the code tells is `reason_of` of the law's walk (ticket 8).
use mathlib.Core.Bool.{Bool, true, false, cond, ◌&&◌}
use mathlib.Core.List.{List, [], ◌∷◌}
use mathlib.Core.Option.{none}
use mathlib.Core.Path.{◌≡◌, refl, sym, ap, ◌∙◌}
use native.Mathlib.Omega.{arith}
use Prim.Native.Nat.{ℕ}
use lib.ListN.{length}
use lib.Ieee.{Float}
use Rattle.exact.specs.RootOf.{sqrt_of}
use Rattle.tensor.specs.Matrix.{zero, product_of, recompose_of}
use Rattle.plasticity.specs.State.{inputs_finite}
use Rattle.plasticity.specs.declared.State.{State}
use Rattle.walk.specs.Expr.{Expr, num, ◌+ᵉ◌, ◌/ᵉ◌, value, values}
use Rattle.walk.specs.Matrix.{sum, product, dot}
use Rattle.walk.specs.Walk.{Walk, Function, at, exp, ln, zeros, less, at_most, holds, asks, branch, end, ◌then◌}
use Rattle.walk.specs.Exact.{path, final, last}
use Rattle.walk.specs.Update.{in_three, Change}
use Rattle.reason.specs.declared.Number.{Number}
use Rattle.reason.specs.declared.Number.TheVariants as number
use Rattle.reason.specs.declared.Reason.{Reason}
use Rattle.reason.specs.declared.Reason.TheVariants.{Flagged, Refused}
use Rattle.reason.specs.Reason.{reason_of, last_or, test_as, untold}
use Rattle.reason.specs.Traced.{Traced, reached, stopped, traced, number_as, follow}
use Rattle.reason.specs.Why.{why}
use Rattle.reason.proofs.Why.{why_of, why_then, told_read, store_why}
use Rattle.plasticity_drucker_prager.specs.declared.DruckerPragerPlasticity.{DruckerPragerPlasticity}
use Rattle.plasticity_drucker_prager.specs.declared.Measured.{Measured}
use Rattle.plasticity_drucker_prager.specs.declared.Projected.{Projected}
use Rattle.plasticity_drucker_prager.specs.declared.Measured.TheVariants as measured
use Rattle.plasticity_drucker_prager.specs.Law.{parameters_finite}
use Rattle.plasticity_drucker_prager.specs.Alpha.{dim, alpha_walk}
use Rattle.plasticity_drucker_prager.specs.Projection.{Way, isotropic, expanding, inside, surface, Returned, deviatoric, gamma, back, tip_walk, surface_walk, yield_walk, strained_walk, project_walk, branch_of, walked_of}
use Rattle.plasticity_drucker_prager.specs.Over as over
use Rattle.plasticity_drucker_prager.specs.DruckerPrager.{scalars_of, Measures, measure_walk, measured_as, measured_of, way_walk, stays_of, run_walk, drucker_walk, store_walk, moved_walk}
use Rattle.plasticity_drucker_prager.specs.Inner.{finite_results, test_of, branch_told, follow_walk}
use Rattle.plasticity_drucker_prager.proofs.Laws.{inputs_law, measured_law}
use Rattle.plasticity_drucker_prager.proofs.Reason as walk
use Rattle.plasticity_drucker_prager.proofs.Reason.{project_told}

-- ---- on three axes the walk's last test is the one that the code's branch tells
abbrev Same : Returned → Type 0
Same q = test_as (walk.reason_of q.way) ≡ test_of (branch_of q.way)

both : (b : Bool) (x y : Returned) → Same x → Same y → Same (cond b x y)
both true x y h i = h
both false x y h i = i

asks_same : (n : ℕ) (f : Function) (l : List Float) (k : List Float → Walk Returned) → ((vs : List Float) → Same (final (k vs))) → Same (final (asks n f l k))
asks_same n f [] k h = h []
asks_same n f (x ∷ l) k h = asks_same n f l (λ vs. k (at f x ∷ vs)) (λ vs. h (at f x ∷ vs))

module _ (p : DruckerPragerPlasticity) (sigma : List Float) (alpha : Float) where
  surface_same : (g norm : Float) (b : List Float) → Same (final (surface_walk (num g) (num norm) b))
  unfolding surface_walk
  surface_same g norm b = asks_same 15 exp b (λ v. end (record { way = surface g norm; sigma = v; dq = g })) (λ v. refl)

  yield_same : (e d : List Float) (trace : Expr) → Same (final (yield_walk dim p sigma e d trace alpha))
  unfolding yield_walk
  yield_same e d trace =
      let norm = sqrt_of (value (dot d d)) in
      let g = value (gamma dim p (num norm) trace alpha) in
      let b = back e d (num g) (num norm) in
      both (holds (at_most (num g) (num zero))) (record { way = inside g; sigma = sigma; dq = zero }) (final (surface_walk (num g) (num norm) (values b))) refl
      (surface_same g norm (values b))

  strained_same : (x y z : Float) → Same (final (strained_walk dim p sigma (x ∷ y ∷ z ∷ []) alpha))
  unfolding strained_walk tip_walk
  strained_same x y z =
      let e = x ∷ y ∷ z ∷ [] in
      let trace = num (value (sum e)) in
      let d = values (deviatoric dim e trace) in
      let yield = yield_walk dim p sigma e d trace alpha in
      let expands = tip_walk (expanding (value trace)) e in
      both (holds (zeros d)) (final (tip_walk (isotropic d) e)) (final (branch 9 (less (num zero) trace) expands yield)) refl
      (both (holds (less (num zero) trace)) (final expands) (final yield) refl (yield_same e d trace))

project_same : (p : DruckerPragerPlasticity) (sigma : List Float) (gain alpha : Float) → length sigma ≡ 3 → Same (final (project_walk dim p sigma gain alpha))
unfolding project_walk
project_same p [] gain alpha h = absurd (omega arith)
project_same p (x ∷ []) gain alpha h = absurd (omega arith)
project_same p (x ∷ y ∷ []) gain alpha h = absurd (omega arith)
project_same p (x ∷ y ∷ z ∷ []) gain alpha h =
    let entry : Float → Float = λ v. value (num (at ln v) +ᵉ num gain /ᵉ dim) in
    strained_same p (x ∷ y ∷ z ∷ []) alpha (entry x) (entry y) (entry z)
project_same p (x ∷ y ∷ z ∷ w ∷ l) gain alpha h = absurd (omega arith)

-- ---- after the projection
module _ (r : Reason) (p : DruckerPragerPlasticity) (sigma : List Float) (dq : Float) (u vt : List (List Float)) (s : State) where
  abbrev pub measures_told : Measured → Reason
  measures_told (measured.Values d h gain) = cond (finite_results (recompose_of u sigma vt) sigma d h gain) r (Refused 3 19)
  measures_told (measured.Refused n step) = Refused n step

  abbrev after : Measures → Walk Change
  after m = store_walk u sigma vt m.determinant m.hardening m.gain dq s

  measures : (x : Traced Measures) → follow Refused (λ m. why r (after m)) x ≡ measures_told (measured_as x)
  measures (reached m) =
      store_why in_three r 19 u sigma vt (m.determinant ∷ m.hardening ∷ m.gain ∷ []) (scalars_of (value m.determinant) (value m.hardening) (value m.gain) s.scalars) dq
  measures (stopped n step) = refl

  pub moved_told : why r (moved_walk p sigma dq u vt s) ≡ measures_told (measured_of p (product_of s.sigma) (product_of sigma) dq s.scalars)
  unfolding over.moved_walk
  moved_told =
      let w = measure_walk p (product s.sigma) (product sigma) dq s.scalars in
      why_then r w after ∙ told_read Refused (λ q m. why q (after m)) (λ m. r) r w refl ∙ measures (traced w) ∙ ap measures_told (measured_law p s.sigma sigma dq s.scalars)

-- ---- the law
module _ (p : DruckerPragerPlasticity) (u vt : List (List Float)) (s : State) where
  abbrev W : Returned → Walk Change
  W q = way_walk p q.way q.sigma q.dq u vt s

  abbrev T : Returned → Reason
  T q = test_of (branch_of q.way)

  way_told : (w : Way) (sigma : List Float) (dq : Float) → why (test_of (branch_of w)) (way_walk p w sigma dq u vt s) ≡ branch_told (branch_of w) p sigma dq u vt s
  unfolding over.way_walk
  way_told (isotropic d) sigma dq = refl
  way_told (expanding x) sigma dq = refl
  way_told (inside x) sigma dq = refl
  way_told (surface x norm) sigma dq = refl

  abbrev pub projection_told : Projected → Reason
  projection_told q = branch_told q.branch p q.sigma q.dq u vt s

  branches_told : (x : Traced Returned) → follow Refused (λ q. why (T q) (W q)) x ≡ projection_told (walked_of x)
  branches_told (reached q) = way_told q.way q.sigma q.dq
  branches_told (stopped n step) = refl

  abbrev project : List Float → Float → Walk Returned
  project sigma a = project_walk dim p sigma s.scalars.log_gain a

  -- the projection and what follows it: by what its end tells of the last test, whatever was told before
  follow_why : (K : Returned → Reason) (d : Reason) (sigma : List Float) (a : Float) → test_as (walk.reason_of (final (project sigma a)).way) ≡ K (final (project sigma a))
      → why d (project sigma a then W) ≡ follow Refused (λ q. why (K q) (W q)) (traced (project sigma a))
  follow_why K d sigma a h =
      let g = project sigma a in
      why_then d g W ∙ told_read Refused (λ q m. why q (W m)) K d g (ap (last_or d) (project_told dim p sigma s.scalars.log_gain a none) ∙ h)

  -- on three axes as the branch tells it
  pub follow_told : (sigma : List Float) (a : Float) → length sigma ≡ 3 → reason_of (follow_walk p sigma a u vt s) ≡ projection_told (walked_of (traced (project sigma a)))
  unfolding follow_walk
  follow_told sigma a n =
      sym (why_of (project sigma a then W)) ∙ follow_why T untold sigma a (project_same p sigma s.scalars.log_gain a n) ∙ branches_told (traced (project sigma a))

  -- once alpha is known
  abbrev pub alpha_told : Number → Reason
  alpha_told (number.Value a) = reason_of (follow_walk p s.sigma a u vt s)
  alpha_told (number.Refused n step) = Refused n step

  abbrev A : Walk Float
  A = alpha_walk p s.scalars.plastic_hardening

  abbrev F : Float → Walk Change
  F a = project s.sigma a then W

  -- the flag's test
  abbrev left : Reason
  left = Flagged 1 false

  slopes_told : (x : Traced Float) → follow Refused (λ a. why left (F a)) x ≡ alpha_told (number_as x)
  unfolding follow_walk
  slopes_told (reached a) =
      let K : Returned → Reason = λ q. test_as (walk.reason_of q.way) in
      follow_why K left s.sigma a refl ∙ sym (follow_why K untold s.sigma a refl) ∙ why_of (F a)
  slopes_told (stopped n step) = refl

  alpha_quiet : last_or left (last (path A)) ≡ left
  unfolding alpha_walk
  alpha_quiet = refl

  pub run_told : reason_of (run_walk p u vt s) ≡ cond (stays_of p s.scalars.phase) (Flagged 1 true) (alpha_told (number_as (traced A)))
  unfolding over.run_walk
  run_told =
      sym (why_of (run_walk p u vt s))
      ∙ ap (cond (stays_of p s.scalars.phase) (Flagged 1 true)) (why_then left A F ∙ told_read Refused (λ q a. why q (F a)) (λ a. left) left A alpha_quiet ∙ slopes_told (traced A))

  pub drucker_told : reason_of (drucker_walk p u vt s) ≡ cond (parameters_finite p && inputs_finite u vt s) (reason_of (run_walk p u vt s)) (Refused 1 0)
  unfolding over.drucker_walk
  drucker_told =
      let w = run_walk p u vt s in
      sym (why_of (drucker_walk p u vt s)) ∙ ap (λ b. cond b (why untold w) (Refused 1 0)) (inputs_law in_three p u vt s)
      ∙ ap (λ r. cond (parameters_finite p && inputs_finite u vt s) r (Refused 1 0)) (why_of w)
