-- Two strains sorted and put back, and what is handed from one piece of the walk to the next, as the code hands it on.
use mathlib.Core.Bool.{Bool, true, false, cond, ◌&&◌}
use mathlib.Core.List.{List, [], ◌∷◌, reverse}
use mathlib.Core.Path.{◌≡◌, refl, sym, ap, ◌∙◌}
use lib.ListN.{length, get_or}
use lib.Ieee.{Float, nan, le}
use Rattle.numbers.specs.Floats.{finite, is_number}
use Rattle.walk.specs.Expr.{Expr, num, value, values, nums}
use Rattle.walk.specs.Walk.{walk_result}
use Rattle.walk.proofs.Body.{finite_scalars}
use Rattle.walk.proofs.Every.{and_left, and_right}
use Rattle.plasticity_rankine.specs.declared.RankineArguments.{RankineArguments}
use Rattle.plasticity_rankine.specs.declared.RankinePlasticity.{RankinePlasticity}
use Rattle.plasticity_rankine.specs.Law.{arguments_finite, elastic_finite}
use Rattle.plasticity_rankine.specs.Sorting.{order_of, arranged_of, restored_of}
use Rattle.plasticity_rankine.specs.Projection.{Way, none_moves, one_moves, two_move, all_move}
use Rattle.plasticity_rankine.specs.Over as over
use Rattle.plasticity_rankine.specs.Over.{soft_strength}
use Rattle.plasticity_rankine.proofs.Laws.{hardening_of, strained_over}
use Rattle.flat.specs.declared.State.{State}
use Rattle.flat.proofs.Axes.{of_one}
use Rattle.flat.specs.Update.{in_two, inputs_finite, updated_of}
use Rattle.flat_rankine.specs.declared.Sorted.{Sorted}
use Rattle.flat_rankine.specs.Projection.{pair, indexes_of, sorted_of, branch_of, project_walk, moved_of, projected_of}
use Rattle.flat_rankine.specs.Rankine.{exps_walk, strained_walk, run_walk, followed_of}

-- ---- the order of two strains
upwards : (b : Bool) → reverse (cond b (1 ∷ 0 ∷ []) (0 ∷ 1 ∷ [])) ≡ indexes_of b
upwards true = refl
upwards false = refl

pub order_of_two : (x y : Float) → order_of (pair x y) ≡ indexes_of (le x y)
unfolding order_of
order_of_two x y = upwards (le x y)

order_of_lem : (e : List Float) → length e ≡ 2 → indexes_of (le (get_or e 0 nan) (get_or e 1 nan)) ≡ order_of e
order_of_lem e h = sym (order_of_two (get_or e 0 nan) (get_or e 1 nan)) ∙ of_one order_of nan e h

pub order_by : (e : List Float) → length e ≡ 2 → (b : Bool) → le (get_or e 0 nan) (get_or e 1 nan) ≡ b → indexes_of b ≡ order_of e
order_by e h b q = ap indexes_of (sym q) ∙ order_of_lem e h

abbrev laid_of : Bool → Float → Float → Sorted
laid_of true x y = record { up = true; low = x; high = y }
laid_of false x y = record { up = false; low = y; high = x }

-- `arrange`, by the test that it makes
pub sorted_law : (e : List Float) → length e ≡ 2 → (b : Bool) → le (get_or e 0 nan) (get_or e 1 nan) ≡ b → laid_of b (get_or e 0 nan) (get_or e 1 nan) ≡ sorted_of e
sorted_law e h b q = rw (← order_of_lem e h, q) (go b)
  where
    go : (b : Bool) → laid_of b (get_or e 0 nan) (get_or e 1 nan) ≡ record { up = b; low = get_or (arranged_of (indexes_of b) e) 0 nan; high = get_or (arranged_of (indexes_of b) e) 1 nan }
    go true = refl
    go false = refl

pub restored : (up : Bool) (x y : Expr) → values (restored_of (indexes_of up) (pair x y)) ≡ restored_of (indexes_of up) (pair (value x) (value y))
restored true x y = refl
restored false x y = refl

-- ---- of finite inputs
pub hardening_finite : (a : RankineArguments) (u vt : List (List Float)) (s : State) → arguments_finite a && inputs_finite u vt s ≡ true
    → finite a.tensile_strength && finite s.scalars.plastic_hardening ≡ true
hardening_finite a u vt s h =
    let x = hardening_of s.scalars (finite_scalars in_two u vt s (and_right (arguments_finite a) (inputs_finite u vt s) h)) in
    let y = and_left (elastic_finite a && finite a.tensile_strength) (finite a.softening_rate) (and_left (arguments_finite a) (inputs_finite u vt s) h) in
    rw (x, and_right (elastic_finite a) (finite a.tensile_strength) y) refl

-- ---- the projection is followed by its branch
module _ (p : RankinePlasticity) (u vt : List (List Float)) (s : State) where
  way_law : (w : Way) (old new : List Float) → updated_of s (walk_result (over.way_walk in_two p w old (nums new) u vt s)) ≡ followed_of (branch_of w) p old new u vt s
  unfolding over.way_walk
  way_law (none_moves x y) old new = refl
  way_law (one_moves x y) old new = refl
  way_law (two_move x y) old new = refl
  way_law (all_move x y) old new = refl

  pub strained_law : (e : List Float) → let soft = value (soft_strength p s.scalars.plastic_hardening) in is_number soft ≡ true
      → updated_of s (walk_result (strained_walk p e u vt s)) ≡ followed_of (projected_of p e soft).branch p e (projected_of p e soft).strains u vt s
  strained_law e h =
      strained_over in_two p u vt s e (λ x. followed_of (moved_of x).branch p e (moved_of x).strains u vt s) (λ w new. way_law w e (values new)) (λ n. refl) project_walk h

-- ---- two axes: each entry is read by its index
pub exps_whole : (e : List Float) (u vt : List (List Float)) (h : Float) (s : State) → length e ≡ 2
    → updated_of s (walk_result (exps_walk (pair (get_or e 0 nan) (get_or e 1 nan)) u vt (num h) s)) ≡ updated_of s (walk_result (exps_walk e u vt (num h) s))
exps_whole e u vt h s = of_one (λ l. updated_of s (walk_result (exps_walk l u vt (num h) s))) nan e

pub run_whole : (p : RankinePlasticity) (sigma : List Float) (u vt : List (List Float)) (s : State) → length sigma ≡ 2
    → updated_of s (walk_result (run_walk p (pair (get_or sigma 0 nan) (get_or sigma 1 nan)) u vt s)) ≡ updated_of s (walk_result (run_walk p sigma u vt s))
run_whole p sigma u vt s = of_one (λ l. updated_of s (walk_result (run_walk p l u vt s))) nan sigma
