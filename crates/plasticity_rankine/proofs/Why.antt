-- The reason (ticket 8) as the code hands it on: the projection's last test is its branch's, and what follows is told of it.
use mathlib.Core.Bool.{true, false}
use mathlib.Core.List.{List}
use mathlib.Core.Path.{◌≡◌, refl, ap, ◌∙◌}
use lib.Ieee.{Float}
use Rattle.numbers.specs.Floats.{is_number}
use Rattle.plasticity.specs.declared.State.{State}
use Rattle.walk.specs.Expr.{Expr, num, value, values}
use Rattle.walk.specs.Walk.{Walk}
use Rattle.walk.specs.Update.{in_three, Change}
use Rattle.reason.specs.declared.Reason.{Reason}
use Rattle.reason.specs.declared.Reason.TheVariants as reason
use Rattle.reason.specs.Reason.{test_as, last_as, untold}
use Rattle.reason.specs.Traced.{Traced, reached, stopped, traced, follow}
use Rattle.reason.specs.Why.{tells_test, why}
use Rattle.reason.proofs.Why.{why_then, told_read}
use Rattle.plasticity_rankine.specs.declared.RankinePlasticity.{RankinePlasticity}
use Rattle.plasticity_rankine.specs.Projection.{Way, none_moves, one_moves, two_move, all_move, Moved, project_walk}
use Rattle.plasticity_rankine.specs.Over as over
use Rattle.plasticity_rankine.specs.Rankine.{way_walk, soft_strength, strained_walk}
use Rattle.plasticity_rankine.specs.Inner.{branch_of, moved_of, projected_of, followed_reason}
use Rattle.plasticity_rankine.proofs.Laws.{numbers_moved}
use Rattle.plasticity_rankine.proofs.Reason.{reason_of, project_told}

module _ (p : RankinePlasticity) (u vt : List (List Float)) (s : State) where
  abbrev T : Moved → Reason
  T q = test_as (reason_of q.way)

  abbrev G : List Float → Moved → Walk Change
  G old q = way_walk p q.way old q.strains u vt s

  way_why : (w : Way) (old : List Float) (new : List Expr) → why (test_as (reason_of w)) (way_walk p w old new u vt s) ≡ followed_reason (branch_of w) p old (values new) u vt s
  unfolding over.way_walk
  way_why (none_moves x y) old new = refl
  way_why (one_moves x y) old new = numbers_moved in_three reason.Refused tells_test (λ q c. q) (reason.Tested 5 true x y) p u vt s old new
  way_why (two_move x y) old new = numbers_moved in_three reason.Refused tells_test (λ q c. q) (reason.Tested 6 true x y) p u vt s old new
  way_why (all_move x y) old new = numbers_moved in_three reason.Refused tells_test (λ q c. q) (reason.Tested 6 false x y) p u vt s old new

  follows : (old : List Float) (x : Traced Moved) → follow reason.Refused (λ q. why (T q) (G old q)) x ≡ followed_reason (moved_of x).branch p old (moved_of x).strains u vt s
  follows old (reached q) = way_why q.way old q.strains
  follows old (stopped n step) = refl

  pub strained_why : (e : List Float) → let soft = value (soft_strength p s.scalars.plastic_hardening) in is_number soft ≡ true
      → why untold (strained_walk p e u vt s) ≡ followed_reason (projected_of p e soft).branch p e (projected_of p e soft).strains u vt s
  unfolding over.strained_walk
  strained_why e h =
      let soft = value (soft_strength p s.scalars.plastic_hardening) in
      let w = project_walk p e (num soft) in
      simp h (why_then untold w (G e) ∙ told_read reason.Refused (λ q m. why q (G e m)) T untold w (ap last_as (project_told p e (num soft))) ∙ follows e (traced w))
