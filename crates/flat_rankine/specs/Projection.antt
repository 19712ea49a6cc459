-- The Rankine projection on the log strains of two axes (ticket 13). Steps and formulas are those of three axes (`plasticity_rankine`): 4 and 5
-- are the tests; the third test is gone, and what both strains become is ours.
use Rattle.std.specs.Prelude.{Bool, true, false, List, [], ◌∷◌, ℕ, get_or, Float}
use Rattle.std.specs.Float.{nan}
use Rattle.std.specs.Float.Ieee.{le}
use Rattle.tensor.specs.Matrix.{zero}
use Rattle.walk.specs.Expr.{Expr, num, ◌+ᵉ◌, ◌*ᵉ◌, ◌/ᵉ◌, value, values, nums}
use Rattle.walk.specs.Walk.{Walk, at_most, branch, end, Ended, given, refused, walk_result}
use Rattle.walk.specs.Matrix.{sum}
use Rattle.plasticity_rankine.specs.declared.RankinePlasticity.{RankinePlasticity}
use Rattle.plasticity_rankine.specs.Sorting.{order_of, arranged_of}
pub use Rattle.plasticity_rankine.specs.Projection.{back_both}
use Rattle.plasticity_rankine.specs.Projection.{first_side, second_side, back_one, Way, none_moves, one_moves, two_move, all_move, Moved, ends}
use Rattle.flat_rankine.specs.declared.Branch.{Branch}
use Rattle.flat_rankine.specs.declared.Branch.TheVariants as way
use Rattle.flat_rankine.specs.declared.Projected.{Projected}
use Rattle.flat_rankine.specs.declared.Sorted.{Sorted}

abbrev pub pair : {A : Type 0} → A → A → List A
pair x y = x ∷ y ∷ []

-- ---- the tests, on strains e whose smaller is b and whose larger is a; they stand in the order k
-- "Ours tests the smaller strain in the second branch"
unfoldable pub second_walk : RankinePlasticity → List ℕ → List Float → Float → Float → Expr → Walk Moved
second_walk p k e b a s =
    let side = second_side p (sum e) (num a) (num b) in
    branch 5 (at_most side s)
    (ends (one_moves (value side) (value s)) k (pair (num b) (back_one p s (sum e) (num a))))
    (ends (all_move (value side) (value s)) k (pair (back_both p s) (back_both p s)))

unfoldable pub first_walk : RankinePlasticity → List ℕ → List Float → Float → Float → Expr → Walk Moved
first_walk p k e b a s =
    let side = first_side p (sum e) (num a) in
    branch 4 (at_most side s)
    (end (record { way = none_moves (value side) (value s); strains = nums e }))
    (second_walk p k e b a s)

-- "sorted upwards; equal ones keep index order"
abbrev pub smaller : List Float → Float
smaller e = get_or (arranged_of (order_of e) e) 0 nan

abbrev pub larger : List Float → Float
larger e = get_or (arranged_of (order_of e) e) 1 nan

abbrev pub project_walk : RankinePlasticity → List Float → Expr → Walk Moved
project_walk p e s = first_walk p (order_of e) e (smaller e) (larger e) s

-- ---- as the code hands it on
-- the two orders, by whether the strains stand upwards
abbrev pub indexes_of : Bool → List ℕ
indexes_of true = 0 ∷ 1 ∷ []
indexes_of false = 1 ∷ 0 ∷ []

abbrev pub sorted_of : List Float → Sorted
sorted_of e = record { up = le (get_or e 0 nan) (get_or e 1 nan); low = smaller e; high = larger e }

abbrev pub branch_of : Way → Branch
branch_of (none_moves x y) = way.Untouched
branch_of (one_moves x y) = way.Moved
branch_of (two_move x y) = way.Moved
branch_of (all_move x y) = way.Moved

abbrev pub moved_to : List Float → Projected
moved_to e = record { branch = way.Moved; strains = e }

-- zeros stand beside a refusal
abbrev pub refused_strains : ℕ → Projected
refused_strains n = record { branch = way.Refused n; strains = pair zero zero }

abbrev pub moved_of : Ended Moved → Projected
moved_of (given q) = record { branch = branch_of q.way; strains = values q.strains }
moved_of (refused n) = refused_strains n

abbrev pub projected_of : RankinePlasticity → List Float → Float → Projected
projected_of p e s = moved_of (walk_result (project_walk p e (num s)))
