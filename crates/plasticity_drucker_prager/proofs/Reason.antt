-- When the law refuses (RULES, section 6), and why it moved (ticket 8), both read off its walk.
use mathlib.Core.Bool.{true, false}
use mathlib.Core.List.{List, [], ◌∷◌}
use mathlib.Core.Option.{Option, some, none}
use mathlib.Core.Path.{◌≡◌, refl, ap, ◌∙◌}
use Prim.Native.Nat.{ℕ}
use lib.Ieee.{Float}
use Rattle.answers.specs.declared.Answer.{Answer}
use Rattle.answers.specs.declared.Answer.TheVariants as answers
use Rattle.tensor.specs.Matrix.{zero}
use Rattle.plasticity.specs.declared.State.{State}
use Rattle.exact.specs.RootOf.{sqrt_of}
use Rattle.walk.specs.Expr.{Expr, num, value, values, nums}
use Rattle.walk.specs.Matrix.{sum, dot, values_nums}
use Rattle.walk.specs.Walk.{Walk, exp, ln, zeros, less, at_most, works, branch, end, ◌then◌, walk_result, answer_as}
use Rattle.walk.specs.Exact.{path, final, first, Refusal, answer, last, last_from, Reason}
use Rattle.walk.proofs.Exact.{exactly}
use Rattle.walk.specs.Body as body
use Rattle.walk.proofs.Body.{refused_exactly}
use Rattle.walk.specs.Update.{in_three, Change, untouched, refusal_of, number_of}
use Rattle.walk.proofs.Reason.{final_then, last_then, Told, asks_told, branch_told}
use Rattle.plasticity_drucker_prager.specs.declared.Branch.{Branch}
use Rattle.plasticity_drucker_prager.specs.declared.Branch.TheVariants as branches
use Rattle.plasticity_drucker_prager.specs.declared.DruckerPragerPlasticity.{DruckerPragerPlasticity}
use Rattle.plasticity_drucker_prager.specs.Alpha.{dim, alpha_walk, alpha_call}
use Rattle.plasticity_drucker_prager.specs.Projection.{Way, isotropic, expanding, inside, surface, Returned, strain, deviatoric, gamma, back, tip_walk, surface_walk, yield_walk, strained_walk, project_walk, project_call, branch_of, projected_of}
use Rattle.plasticity_drucker_prager.specs.Over as over
use Rattle.plasticity_drucker_prager.specs.DruckerPrager.{way_walk, stays_of, drucker_walk, drucker_update}

-- ---- the refusal
-- the two calls by themselves
abbrev pub branch_refusal : Branch → Option ℕ
branch_refusal (branches.Isotropic x y z) = none
branch_refusal (branches.Expanding x y) = none
branch_refusal (branches.Inside x y) = none
branch_refusal (branches.Surface x y z) = none
branch_refusal (branches.Refused n step) = some n

way_none : (w : Way) → branch_refusal (branch_of w) ≡ none
way_none (isotropic d) = refl
way_none (expanding x) = refl
way_none (inside x) = refl
way_none (surface x norm) = refl

project_answers : (o : Option Refusal) (q : Returned) → branch_refusal (projected_of (answer o q)).branch ≡ number_of o
project_answers none q = way_none q.way
project_answers (some r) q = refl

pub project_refused : (dim : Expr) (p : DruckerPragerPlasticity) (sigma : List Float) (gain alpha : Float)
    → branch_refusal (projected_of (walk_result (project_call dim p sigma gain alpha))).branch ≡ number_of (first (path (project_call dim p sigma gain alpha)))
project_refused dim p sigma gain alpha =
    let w = project_call dim p sigma gain alpha in
    ap (λ a. branch_refusal (projected_of a).branch) (exactly w) ∙ project_answers (first (path w)) (final w)

-- ---- the reason
abbrev pub reason_of : Way → Reason
reason_of (isotropic d) = record { test = 8; compares = d; held = true }
reason_of (expanding trace) = record { test = 9; compares = zero ∷ trace ∷ []; held = true }
reason_of (inside gamma) = record { test = 13; compares = gamma ∷ zero ∷ []; held = true }
reason_of (surface gamma norm) = record { test = 13; compares = gamma ∷ zero ∷ []; held = false }

abbrev R : Returned → Reason
R q = reason_of q.way

module _ (dim : Expr) (p : DruckerPragerPlasticity) (sigma : List Float) where
  surface_told : (g norm : Float) (b : List Float) → Told R (some (reason_of (surface g norm))) (surface_walk (num g) (num norm) b)
  unfolding surface_walk
  surface_told g norm b =
      asks_told R 15 exp b (λ v. end (record { way = surface g norm; sigma = v; dq = g })) (some (reason_of (surface g norm))) (λ v. refl)

  yield_told : (e d : List Float) (trace : Expr) (alpha : Float) (r : Option Reason) → Told R r (yield_walk dim p sigma e d trace alpha)
  unfolding yield_walk
  yield_told e d trace alpha r =
      let norm = sqrt_of (value (dot d d)) in
      let g = value (gamma dim p (num norm) trace alpha) in
      let b = back e d (num g) (num norm) in
      branch_told R 13 (at_most (num g) (num zero)) (end (record { way = inside g; sigma = sigma; dq = zero }))
      (works 14 b (surface_walk (num g) (num norm))) r (λ h. refl) (λ h. surface_told g norm (values b))

  strained_told : (e : List Float) (alpha : Float) (r : Option Reason) → Told R r (strained_walk dim p sigma e alpha)
  unfolding strained_walk tip_walk
  strained_told e alpha r =
      let trace = num (value (sum e)) in
      let d = values (deviatoric dim e trace) in
      let yield = yield_walk dim p sigma e d trace alpha in
      let expands = tip_walk (expanding (value trace)) e in
      branch_told R 8 (zeros d) (tip_walk (isotropic d) e) (branch 9 (less (num zero) trace) expands yield) r
      (λ h. ap (λ l. some (record { test = 8; compares = l; held = true })) (values_nums d))
      (λ h. branch_told R 9 (less (num zero) trace) expands yield (some (record { test = 8; compares = values (nums d); held = false })) (λ i. refl)
      (λ i. yield_told e d trace alpha (some (record { test = 9; compares = zero ∷ value trace ∷ []; held = false }))))

  pub project_told : (gain alpha : Float) (r : Option Reason) → Told R r (project_walk dim p sigma gain alpha)
  unfolding project_walk
  project_told gain alpha r =
      asks_told R 6 ln sigma (λ logs. works 7 (strain dim logs gain) (λ e. strained_walk dim p sigma e alpha)) r
      (λ logs. strained_told (values (strain dim logs gain)) alpha r)

-- after the projection no test counts
quiet : (p : DruckerPragerPlasticity) (w : Way) (sigma : List Float) (dq : Float) (u vt : List (List Float)) (s : State) (r : Option Reason)
    → last_from r (path (way_walk p w sigma dq u vt s)) ≡ r
unfolding over.way_walk over.moved_walk body.store_walk
quiet p (isotropic d) sigma dq u vt s r = refl
quiet p (expanding x) sigma dq u vt s r = refl
quiet p (inside x) sigma dq u vt s r = refl
quiet p (surface x norm) sigma dq u vt s r = refl

-- the projection that the update works
abbrev pub projection_of : DruckerPragerPlasticity → State → Returned
projection_of p s = final (project_walk dim p s.sigma s.scalars.log_gain (final (alpha_walk p s.scalars.plastic_hardening)))

module _ (p : DruckerPragerPlasticity) (u vt : List (List Float)) (s : State) where
  abbrev pub W : Returned → Walk Change
  W q = way_walk p q.way q.sigma q.dq u vt s

  -- after the projection no test counts, whatever singular values were projected
  pub follow_reason : (sigma : List Float) (alpha : Float) (r : Option Reason)
      → last_from r (path (project_walk dim p sigma s.scalars.log_gain alpha then W)) ≡ some (reason_of (final (project_walk dim p sigma s.scalars.log_gain alpha)).way)
  follow_reason sigma alpha r =
      let g = project_walk dim p sigma s.scalars.log_gain alpha in
      last_then g W r ∙ ap (λ x. last_from x (path (W (final g)))) (project_told dim p sigma s.scalars.log_gain alpha r)
      ∙ quiet p (final g).way (final g).sigma (final g).dq u vt s (some (reason_of (final g).way))

  -- the last test and its numbers are the branch's, and that branch gives the stored record
  pub drucker_reason : stays_of p s.scalars.phase ≡ false
      → (last (path (drucker_walk p u vt s)) ≡ some (reason_of (projection_of p s).way)) × (final (drucker_walk p u vt s) ≡ final (W (projection_of p s)))
  unfolding over.drucker_walk over.run_walk
  drucker_reason h =
      let a = alpha_walk p s.scalars.plastic_hardening in
      let g : Float → Walk Returned = λ alpha. project_walk dim p s.sigma s.scalars.log_gain alpha in
      let r : Option Reason = some (record { test = 1; compares = []; held = false }) in
      let before = last_from r (path a) in (
        simp h
            (last_then a (λ alpha. g alpha then W) r ∙ follow_reason s.sigma (final a) before),
        simp h (final_then a (λ alpha. g alpha then W) ∙ final_then (g (final a)) W),
      )

  -- left untouched by its flag, the law names the flag
  pub drucker_stays : stays_of p s.scalars.phase ≡ true
      → (last (path (drucker_walk p u vt s)) ≡ some (record { test = 1; compares = []; held = true })) × (final (drucker_walk p u vt s) ≡ untouched)
  unfolding over.drucker_walk over.run_walk
  drucker_stays h = (simp h, simp h)
