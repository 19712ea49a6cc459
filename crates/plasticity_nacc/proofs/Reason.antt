-- When the law refuses (RULES, section 6), and why it moved (ticket 8), both read off its walk. The hardening step's tests don't count.
use mathlib.Core.Bool.{true, false}
use mathlib.Core.List.{List, [], ◌∷◌}
use mathlib.Core.Logic.{◌↔◌}
use mathlib.Core.Option.{Option, some, none}
use mathlib.Core.Path.{◌≡◌, refl, sym, ap, ◌∙◌}
use Prim.Native.Nat.{ℕ}
use lib.ListN.{get_or}
use lib.Ieee.{Float, nan}
use Rattle.exact.specs.RootOf.{sqrt_of}
use Rattle.plasticity.specs.declared.Outcome.TheVariants.{Refused}
use Rattle.plasticity.specs.declared.State.{State}
use Rattle.walk.specs.Expr.{Expr, num, value}
use Rattle.walk.specs.Walk.{Walk, root, less, end, branch, ask, ◌then◌}
use Rattle.walk.specs.Exact.{path, final, last, last_from, Reason}
use Rattle.walk.specs.Body.{Body, store_walk}
use Rattle.walk.specs.Update.{in_three}
use Rattle.walk.proofs.Reason.{final_then, last_then, Told, branch_told, Branchless, quiet, branchless_when, branchless_asks, branchless_then}
use Rattle.walk.specs.Numbers.{Stops}
use Rattle.walk.proofs.Numbers.{refused_when}
use Rattle.plasticity_nacc.specs.declared.NaccArguments.{NaccArguments}
use Rattle.plasticity_nacc.specs.declared.NaccPlasticity.{NaccPlasticity}
use Rattle.plasticity_nacc.specs.declared.Trial.{Trial}
use Rattle.plasticity_nacc.specs.Law.{law_of}
use Rattle.plasticity_nacc.specs.Axes.{Axes, two_axes, three_axes, dim_of}
use Rattle.plasticity_nacc.specs.Formulas as of
use Rattle.plasticity_nacc.specs.Formulas.{small}
use Rattle.plasticity_nacc.specs.Projection.{Way, upper, lower, inside, surface, Shape, Landed, raise_walk, tip_walk, grow_walk, cross_walk, harden_walk, conditions, hardened_walk, roots_walk, land_walk, surface_walk, ends, yield_walk, lower_walk, branch_walk, press_walk, steps_walk}
use Rattle.plasticity_nacc.specs.Over as over
use Rattle.plasticity_nacc.specs.Nacc.{way_walk, nacc_walk, arguments_walk, nacc_update, arguments_update}

-- ---- the refusal
pub arguments_refused : (a : NaccArguments) (u vt : List (List Float)) (s : State) (n : ℕ) → ((arguments_update a u vt s).outcome ≡ Refused n) ↔ Stops n (path (arguments_walk a u vt s))
arguments_refused a u vt s n = refused_when in_three s (arguments_walk a u vt s) n

-- ---- no test counts in a tip, the hardening step or the surface
module _ (p : NaccPlasticity) where
  tip_branchless : (axes : Axes) (x : Expr) (j alpha : Float) → Branchless (tip_walk axes p x j alpha)
  unfolding tip_walk raise_walk
  tip_branchless two_axes x j alpha = λ w e. (λ l. tt, tt)
  tip_branchless three_axes x j alpha = λ e. (λ l. tt, tt)

  grow_branchless : (x : Expr) (j alpha : Float) → Branchless (grow_walk p x j alpha)
  unfolding grow_walk
  grow_branchless x j alpha = λ l v x. (λ e. tt, tt)

  cross_branchless : (t : Trial) (c : Expr) (d0 d1 alpha : Float) → Branchless (cross_walk p t c d0 d1 alpha)
  unfolding cross_walk
  cross_branchless t c d0 d1 alpha = λ r l. (grow_branchless (num (get_or l 0 nan)) t.j alpha, grow_branchless (num (get_or l 1 nan)) t.j alpha)

  harden_branchless : (d : Expr) (t : Trial) (alpha : Float) → Branchless (harden_walk d p t alpha)
  unfolding harden_walk
  harden_branchless d t alpha = λ l a b n d. cross_branchless t (num (get_or l 0 (value (of.centre p (num t.p0))))) (get_or d 0 nan) (get_or d 1 nan) alpha

  land_branchless : (axes : Axes) (t : Trial) (s : List Float) (alpha : Float) → Branchless (land_walk axes p t s alpha)
  unfolding land_walk roots_walk
  land_branchless two_axes t s alpha = λ r w k norm e. branchless_asks 29 root e (λ sigma. end (record { sigma = sigma; alpha = alpha })) (λ vs. tt)
  land_branchless three_axes t s alpha = λ r w k norm e. branchless_asks 29 root e (λ sigma. end (record { sigma = sigma; alpha = alpha })) (λ vs. tt)

  surface_branchless : (axes : Axes) (t : Trial) (s : List Float) (alpha : Float) → Branchless (surface_walk axes p t s alpha)
  unfolding surface_walk hardened_walk
  surface_branchless axes t s alpha =
      let d = dim_of axes in
      branchless_then (hardened_walk d p t alpha) (land_walk axes p t s) (branchless_when 13 (conditions p t) (harden_walk d p t alpha) (end alpha) (harden_branchless d t alpha) tt)
      (land_branchless axes t s)

-- ---- the reason
abbrev pub reason_of : Way → Reason
reason_of (upper p p0) = record { test = 7; compares = p0 ∷ p ∷ []; held = true }
reason_of (lower p low) = record { test = 8; compares = p ∷ low ∷ []; held = true }
reason_of (inside y limit) = record { test = 9; compares = y ∷ limit ∷ []; held = true }
reason_of (surface y limit) = record { test = 9; compares = y ∷ limit ∷ []; held = false }

abbrev R : Landed → Reason
R q = reason_of q.way

ends_told : (w : Way) (v : Walk Shape) → Branchless v → Told R (some (reason_of w)) (v then ends w)
ends_told w v b = last_then v (ends w) (some (reason_of w)) ∙ quiet v b (some (reason_of w)) ∙ ap (λ q. some (R q)) (sym (final_then v (ends w)))

module _ (axes : Axes) (p : NaccPlasticity) (t : Trial) (s sigma : List Float) (alpha : Float) where
  yield_told : (r : Option Reason) → Told R r (yield_walk axes p t s sigma alpha)
  unfolding yield_walk
  yield_told r =
      let y = value (of.y (dim_of axes) p t) in
      let way = surface y (value small) in
      branch_told R 9 (less (num y) small) (ends (inside y (value small)) (record { sigma = sigma; alpha = alpha })) (surface_walk axes p t s alpha then ends way) r
      (λ h. refl) (λ h. ends_told way (surface_walk axes p t s alpha) (surface_branchless p axes t s alpha))

  lower_told : (r : Option Reason) → Told R r (lower_walk axes p t s sigma alpha)
  unfolding lower_walk
  lower_told r =
      let low = value (of.low p (num t.p0)) in
      let way = lower t.p low in
      branch_told R 8 (less (num t.p) (num low)) (ask 10 root (of.lower_square p (num t.p0)) (λ x. tip_walk axes p x t.j alpha then ends way)) (yield_walk axes p t s sigma alpha) r
      (λ h. let x = num (sqrt_of (value (of.lower_square p (num t.p0)))) in ends_told way (tip_walk axes p x t.j alpha) (tip_branchless p axes x t.j alpha))
      (λ h. yield_told (some (record { test = 8; compares = t.p ∷ low ∷ []; held = false })))

  tests_told : (r : Option Reason) → Told R r (branch_walk axes p t s sigma alpha)
  unfolding branch_walk
  tests_told r =
      let way = upper t.p t.p0 in
      branch_told R 7 (less (num t.p0) (num t.p)) (ask 10 root (of.volume_square p (num t.p0)) (λ x. tip_walk axes p x t.j alpha then ends way)) (lower_walk axes p t s sigma alpha) r
      (λ h. let x = num (sqrt_of (value (of.volume_square p (num t.p0)))) in ends_told way (tip_walk axes p x t.j alpha) (tip_branchless p axes x t.j alpha))
      (λ h. lower_told (some (record { test = 7; compares = t.p0 ∷ t.p ∷ []; held = false })))

pub steps_told : (axes : Axes) (p : NaccPlasticity) (sigma : List Float) (alpha : Float) (r : Option Reason) → Told R r (steps_walk axes p sigma alpha)
unfolding steps_walk press_walk
steps_told two_axes p sigma alpha r = tests_told two_axes p _ _ sigma alpha r
steps_told three_axes p sigma alpha r = tests_told three_axes p _ _ sigma alpha r

way_branchless : {S R : Type 0} (b : Body S R) (w : Way) (q : Shape) (u vt : List (List Float)) (s : S) → Branchless (over.way_walk b w q u vt s)
unfolding over.way_walk over.stored_walk store_walk
way_branchless b (upper x y) q u vt s = tt
way_branchless b (lower x y) q u vt s = tt
way_branchless b (inside x y) q u vt s = tt
way_branchless b (surface x y) q u vt s = tt

-- the last test and its numbers are the branch's
pub nacc_reason : (p : NaccPlasticity) (u vt : List (List Float)) (s : State)
    → last (path (nacc_walk p u vt s)) ≡ some (reason_of (final (steps_walk three_axes p s.sigma s.scalars.alpha)).way)
unfolding over.nacc_walk over.run_walk
nacc_reason p u vt s =
    let w = steps_walk three_axes p s.sigma s.scalars.alpha in
    let q = final w in
    last_then w (λ q. way_walk q.way q.shape u vt s) none
    ∙ quiet (way_walk q.way q.shape u vt s) (way_branchless in_three q.way q.shape u vt s) (last_from none (path w)) ∙ steps_told three_axes p s.sigma s.scalars.alpha none

-- and that branch gives the stored record
pub nacc_branch : (p : NaccPlasticity) (u vt : List (List Float)) (s : State) → let q = final (steps_walk three_axes p s.sigma s.scalars.alpha) in
    final (nacc_walk p u vt s) ≡ final (way_walk q.way q.shape u vt s)
unfolding over.nacc_walk over.run_walk
nacc_branch p u vt s = final_then (steps_walk three_axes p s.sigma s.scalars.alpha) (λ q. way_walk q.way q.shape u vt s)

-- of the arguments
pub arguments_reason : (a : NaccArguments) (u vt : List (List Float)) (s : State) → let q = final (steps_walk three_axes (law_of a) s.sigma s.scalars.alpha) in
    (last (path (arguments_walk a u vt s)) ≡ some (reason_of q.way)) × (final (arguments_walk a u vt s) ≡ final (way_walk q.way q.shape u vt s))
unfolding over.arguments_walk over.nacc_walk
arguments_reason a u vt s = (nacc_reason (law_of a) u vt s, nacc_branch (law_of a) u vt s)
