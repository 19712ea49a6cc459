-- The projection as a call by itself, as the code hands it on.
use mathlib.Core.List.{List}
use mathlib.Core.Path.{◌≡◌, refl, ◌∙◌}
use lib.Ieee.{Float}
use Rattle.walk.specs.Expr.{num, values}
use Rattle.walk.specs.Walk.{◌then◌, Ended, given, refused, walk_result}
use Rattle.plasticity_rankine.specs.declared.RankinePlasticity.{RankinePlasticity}
use Rattle.plasticity_rankine.specs.Projection.{Way, none_moves, one_moves, two_move, all_move, Moved, returned_walk}
use Rattle.plasticity_rankine.proofs.Laws.{handed_of, handed_law}
use Rattle.flat_rankine.specs.Projection.{branch_of, moved_of, project_walk, projected_of}
use Rattle.flat_rankine.specs.Project.{strains_of, answered_of, by_branch}

by_way_lem : (w : Way) (e : List Float) → answered_of e ≡ by_branch (branch_of w) e
by_way_lem (none_moves x y) e = refl
by_way_lem (one_moves x y) e = refl
by_way_lem (two_move x y) e = refl
by_way_lem (all_move x y) e = refl

by_branch_lem : (x : Ended Moved) → handed_of strains_of x ≡ by_branch (moved_of x).branch (moved_of x).strains
by_branch_lem (given q) = by_way_lem q.way (values q.strains)
by_branch_lem (refused n) = refl

pub returned_law : (p : RankinePlasticity) (e : List Float) (s : Float)
    → strains_of (walk_result (project_walk p e (num s) then returned_walk)) ≡ by_branch (projected_of p e s).branch (projected_of p e s).strains
returned_law p e s = handed_law strains_of (project_walk p e (num s)) ∙ by_branch_lem (walk_result (project_walk p e (num s)))
