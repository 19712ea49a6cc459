-- What the code tells is `reason_of` of the law's walk (ticket 8).
use mathlib.Core.Bool.{Bool, true, false, cond, ◌&&◌}
use mathlib.Core.List.{List, [], ◌∷◌}
use mathlib.Core.Option.{none}
use mathlib.Core.Path.{◌≡◌, refl, sym, ap, ◌∙◌}
use lib.Ieee.{Float}
use Rattle.numbers.specs.Floats.{finite}
use Rattle.tensor.specs.Matrix.{recompose_of, rows_of}
use Rattle.tensor.specs.Finite.{row_finite, mat_finite}
use Rattle.tensor.specs.declared.Rows.{Rows}
use Rattle.plasticity.specs.State.{inputs_finite}
use Rattle.plasticity.specs.declared.State.{State}
use Rattle.walk.specs.Expr.{num}
use Rattle.walk.specs.Walk.{Walk}
use Rattle.walk.specs.Exact.{final}
use Rattle.walk.specs.Update.{in_three, Change}
use Rattle.reason.specs.declared.Reason.{Reason}
use Rattle.reason.specs.declared.Reason.TheVariants.{Refused}
use Rattle.reason.specs.Reason.{reason_of, last_as, test_as, untold}
use Rattle.reason.specs.Traced.{Traced, reached, stopped, traced, follow}
use Rattle.reason.specs.Why.{why}
use Rattle.reason.proofs.Why.{why_of, why_then, told_read, store_why}
use Rattle.plasticity_nacc.specs.declared.NaccArguments.{NaccArguments}
use Rattle.plasticity_nacc.specs.declared.NaccPlasticity.{NaccPlasticity}
use Rattle.plasticity_nacc.specs.Law.{law_of, arguments_floats, arguments_finite, moduli_finite}
use Rattle.plasticity_nacc.specs.Axes.{three_axes}
use Rattle.plasticity_nacc.specs.Projection.{Way, upper, lower, inside, surface, Shape, Landed, steps_walk, moduli, branch_of, refused_projection}
use Rattle.plasticity_nacc.specs.Inner.{stepped_of, recomposed_of, by_branch, test_of}
use Rattle.plasticity_nacc.specs.Over as over
use Rattle.plasticity_nacc.specs.Over.{scalars_of}
use Rattle.plasticity_nacc.specs.Nacc.{way_walk, run_walk, arguments_walk}
use Rattle.plasticity_nacc.proofs.Laws.{by_step, inputs_law}
use Rattle.plasticity_nacc.proofs.Reason as walk

-- the walk's last test is the one that the code's branch tells
same : (w : Way) → test_as (walk.reason_of w) ≡ test_of (branch_of w)
same (upper x y) = refl
same (lower x y) = refl
same (inside x y) = refl
same (surface x y) = refl

module _ (p : NaccPlasticity) (u vt : List (List Float)) (s : State) where
  abbrev W : Walk Landed
  W = steps_walk three_axes p s.sigma s.scalars.alpha

  abbrev G : Landed → Walk Change
  G q = way_walk q.way q.shape u vt s

  abbrev T : Landed → Reason
  T q = test_of (branch_of q.way)

  kept : (c : Bool) (w : Way) (f : Rows) (q : Shape)
      → cond c (test_of (branch_of w)) (Refused 3 30) ≡ test_of (cond c (record { branch = branch_of w; f = f; sigma = q.sigma; alpha = q.alpha }) (refused_projection 3 30)).branch
  kept true w f q = refl
  kept false w f q = refl

  stored_told : (w : Way) (q : Shape) → why (test_of (branch_of w)) (over.stored_walk in_three q u vt s) ≡ test_of (recomposed_of (branch_of w) u q.sigma vt q.alpha).branch
  unfolding over.stored_walk recomposed_of
  stored_told w q =
      let f = recompose_of u q.sigma vt in
      store_why in_three (test_of (branch_of w)) 30 u q.sigma vt (num q.alpha ∷ []) (scalars_of q.alpha s.scalars) q.alpha
      ∙ kept ((mat_finite f && row_finite q.sigma) && finite q.alpha) w (rows_of f) q

  way_told : (w : Way) (q : Shape) → why (test_of (branch_of w)) (way_walk w q u vt s) ≡ test_of (by_branch (branch_of w) q.sigma q.alpha s.f u vt).branch
  unfolding over.way_walk
  way_told (upper x y) q = stored_told (upper x y) q
  way_told (lower x y) q = stored_told (lower x y) q
  way_told (inside x y) q = refl
  way_told (surface x y) q = stored_told (surface x y) q

  steps_told : (x : Traced Landed) → follow Refused (λ q. why (T q) (G q)) x ≡ test_of (by_step s.f u vt (stepped_of x)).branch
  steps_told (reached q) = way_told q.way q.shape
  steps_told (stopped n step) = refl

  pub run_told : reason_of (run_walk p u vt s) ≡ test_of (by_step s.f u vt (stepped_of (traced W))).branch
  unfolding over.run_walk
  run_told =
      sym (why_of (run_walk p u vt s)) ∙ why_then untold W G ∙ told_read Refused (λ q m. why q (G m)) T untold W (ap last_as (walk.steps_told three_axes p s.sigma s.scalars.alpha none) ∙ same (final W).way)
      ∙ steps_told (traced W)

  pub moduli_told : reason_of (moduli p (run_walk p u vt s)) ≡ cond (moduli_finite p) (reason_of (run_walk p u vt s)) (Refused 3 1)
  moduli_told =
      sym (why_of (moduli p (run_walk p u vt s))) ∙ ap (λ r. cond (moduli_finite p) r (Refused 3 1)) (why_of (run_walk p u vt s))

pub arguments_told : (a : NaccArguments) (u vt : List (List Float)) (s : State)
    → reason_of (arguments_walk a u vt s) ≡ cond (arguments_finite a && inputs_finite u vt s) (reason_of (moduli (law_of a) (run_walk (law_of a) u vt s))) (Refused 1 0)
unfolding over.arguments_walk
arguments_told a u vt s =
    let w = moduli (law_of a) (run_walk (law_of a) u vt s) in
    sym (why_of (arguments_walk a u vt s)) ∙ ap (λ b. cond b (why untold w) (Refused 1 0)) (inputs_law in_three (arguments_floats a) u vt s)
    ∙ ap (λ r. cond (arguments_finite a && inputs_finite u vt s) r (Refused 1 0)) (why_of w)
