-- The flat projection of strains in index order: sorted upwards, returned, and put back
use mathlib.Core.Path.{◌≡◌, refl, sym, ap, ◌∙◌, subst}
use mathlib.Core.Logic.{inl, inr}
use mathlib.Core.Bool.{Bool, true, false, not, cond, ◌&&◌}
use mathlib.Core.List.{List}
use Prim.Native.Nat.{◌*◌}
use lib.Dec.{T}
use lib.ListN.{get_or}
use lib.IntN.{ℤ, pos, ◌+ℤ◌, ◌*ℤ◌}
use lib.Ieee.{Float, nan, le}
use Rattle.exact.specs.Units.{L, mag, Fin64}
use Rattle.exact.specs.Integers.{◌≤ᶻ◌}
use Rattle.exact.proofs.Ring.{ring, var, con, ◌:+◌}
use Rattle.exact.specs.Value.{val}
use Rattle.exact.proofs.OrderLe.{le_val}
use Rattle.exact.proofs.Distances.{not_le_val}
use Rattle.numbers.specs.Floats.{is_number}
use Rattle.tensor.specs.Matrix.{sum_of}
use Rattle.walk.specs.Expr.{Expr, num, value, values, nums}
use Rattle.walk.specs.Matrix as walk
use Rattle.walk.specs.Walk.{Walk, Ended, given, refused, walk_result}
use Rattle.plasticity_rankine.specs.declared.RankinePlasticity.{RankinePlasticity}
use Rattle.plasticity_rankine.specs.Sorting.{order_of, arranged_of, restored_of}
use Rattle.plasticity_rankine.specs.Projection.{first_side, second_side, back_one, Way, none_moves, one_moves, all_move, Moved}
use Rattle.rankine_surface.specs.Axes.{Each, Some, total}
use Rattle.rankine_surface.specs.Surface.{modulus_in, demanded, Under, BelowIn, ReachesIn, FairIn, Strain, OnSurfaceIn}
use Rattle.rankine_surface.proofs.Branches.{stress_at, mu_is, la_is}
use Rattle.rankine_surface.proofs.Indexed.{Moves, Given, LandedIn, BackIn, ReturnsIn, kept}
use Rattle.flat_rankine.specs.Projection.{pair, back_both, indexes_of, smaller, larger, second_walk, first_walk, project_walk}
use Rattle.flat_rankine.proofs.Laws.{order_of_two, restored}
use Rattle.flat_surface.specs.Surface.{first_test}
use Rattle.flat_surface.proofs.Branches.{Upwards, Held, OnYield, untouched, one_back, both_back}

-- ---- there and back
abbrev low_of : Bool → Float → Float → Float
low_of b x y = cond b x y

abbrev high_of : Bool → Float → Float → Float
high_of b x y = cond b y x

upwards_by : (x y : Float) (b : Bool) → Strain x → Strain y → (T b → val x ≤ᶻ val y) → (T (not b) → val y ≤ᶻ val x) → Upwards x y (low_of b x y) (high_of b x y)
upwards_by x y true i j h k = record { first = i; second = j; smaller = i; larger = j; low_high = h tt; sum = refl }
upwards_by x y false i j h k =
    record { first = i; second = j; smaller = j; larger = i; low_high = k tt; sum = ring 2 (val x, (val y, tt)) (var 0 :+ var 1) (var 1 :+ var 0) tt }

upwards : (x y : Float) → Each Strain (pair x y) → Upwards x y (low_of (le x y) x y) (high_of (le x y) x y)
upwards x y i =
    let a = i.0 in
    let b = i.1.0 in
    upwards_by x y (le x y) a b (le_val x y a.fine b.fine) (not_le_val x y a.fine b.fine)

larger_is : (x y : Float) → larger (pair x y) ≡ high_of (le x y) x y
larger_is x y = ap (λ k. get_or (arranged_of k (pair x y)) 1 nan) (order_of_two x y) ∙ go (le x y)
  where
    go : (b : Bool) → get_or (arranged_of (indexes_of b) (pair x y)) 1 nan ≡ high_of b x y
    go true = refl
    go false = refl

walk_is : (p : RankinePlasticity) (x y : Float) (s : Expr) → let b = le x y in project_walk p (pair x y) s ≡ first_walk p (indexes_of b) (pair x y) (low_of b x y) (high_of b x y) s
walk_is p x y s =
    ap (λ k. first_walk p k (pair x y) (get_or (arranged_of k (pair x y)) 0 nan) (get_or (arranged_of k (pair x y)) 1 nan) s) (order_of_two x y) ∙ go (le x y)
  where
    go : (b : Bool)
        → first_walk p (indexes_of b) (pair x y) (get_or (arranged_of (indexes_of b) (pair x y)) 0 nan) (get_or (arranged_of (indexes_of b) (pair x y)) 1 nan) s
        ≡ first_walk p (indexes_of b) (pair x y) (low_of b x y) (high_of b x y) s
    go true = refl
    go false = refl

-- ---- bounds in index order
module _ {law : RankinePlasticity} {s : Float} (g : FairIn 2 law s) (e : List Float) (S : ℤ) (sum : total e ≡ S) where
  below : (w : Float) → Under demanded (stress_at (mag law.mu) (mag law.lambda) S (val w)) (val s *ℤ pos L) (modulus_in 2 law * L) → BelowIn 2 demanded law s e w
  below w h =
      subst (λ t. Under demanded (val law.lambda *ℤ t +ℤ pos 2 *ℤ val law.mu *ℤ val w) (val s *ℤ pos L) (modulus_in 2 law * L)) (sym sum)
      (rw (mu_is g, la_is g) h)

  reaches : (w : Float) → Under demanded (val s *ℤ pos L) (stress_at (mag law.mu) (mag law.lambda) S (val w)) (modulus_in 2 law * L) → ReachesIn 2 demanded law s e w
  reaches w h =
      subst (λ t. Under demanded (val s *ℤ pos L) (val law.lambda *ℤ t +ℤ pos 2 *ℤ val law.mu *ℤ val w) (modulus_in 2 law * L)) (sym sum)
      (rw (mu_is g, la_is g) h)

total_up : (x y : Float) → total (pair x y) ≡ val x +ℤ val y
total_up x y = ring 2 (val x, (val y, tt)) (var 0 :+ (var 1 :+ con (pos 0))) (var 0 :+ var 1) tt

total_down : (x y : Float) → total (pair x y) ≡ val y +ℤ val x
total_down x y = ring 2 (val x, (val y, tt)) (var 0 :+ (var 1 :+ con (pos 0))) (var 1 :+ var 0) tt

module _ {law : RankinePlasticity} {s : Float} (g : FairIn 2 law s) where
  held : (x y : Float) (b : Bool) → Held law s (low_of b x y) (high_of b x y) → Each (BelowIn 2 demanded law s (pair x y)) (pair x y)
  held x y true h =
      let e = pair x y in
      let q = total_up x y in
      (below g e (val x +ℤ val y) q x h.smaller, (below g e (val x +ℤ val y) q y h.larger, tt))
  held x y false h =
      let e = pair x y in
      let q = total_down x y in
      (below g e (val y +ℤ val x) q x h.larger, (below g e (val y +ℤ val x) q y h.smaller, tt))

  landed : (b : Bool) (x y : Float) → OnYield law s x y → LandedIn 2 law s (restored_of (indexes_of b) (pair x y))
  landed true x y h =
      record {
        axes = refl;
        bounded = (h.smaller, (h.larger, tt));
        on_surface = record {
          fine = (h.smaller.fine, (h.larger.fine, tt));
          below = held x y true h.held;
          reaches = inr (inl (reaches g (pair x y) (val x +ℤ val y) (total_up x y) y h.reaches));
        };
      }
  landed false x y h =
      record {
        axes = refl;
        bounded = (h.larger, (h.smaller, tt));
        on_surface = record {
          fine = (h.larger.fine, (h.smaller.fine, tt));
          below = held y x false h.held;
          reaches = inl (reaches g (pair y x) (val x +ℤ val y) (total_down y x) y h.reaches);
        };
      }

  back : (b : Bool) (w : Way) → Moves w → (x y : Expr) → OnYield law s (value x) (value y)
      → BackIn 2 law s (record { way = w; strains = restored_of (indexes_of b) (pair x y) })
  back b w m x y h = record { moves = m; landed = subst (LandedIn 2 law s) (sym (restored b x y)) (landed b (value x) (value y) h) }

  pick : (F : Ended Moved → Type 0) (n1 l1 n2 l2 : Bool) (A B C : Ended Moved) → T (not l1)
      → Given (cond n1 (cond l1 A (cond n2 (cond l2 B C) (refused 3))) (refused 3)) → (T l2 → F B) → F C
      → F (cond n1 (cond l1 A (cond n2 (cond l2 B C) (refused 3))) (refused 3))
  pick F false l1 n2 l2 A B C h t b c = absurd t
  pick F true true n2 l2 A B C h t b c = absurd h
  pick F true false false l2 A B C h t b c = absurd t
  pick F true false true true A B C h t b c = b tt
  pick F true false true false A B C h t b c = c

  -- where the first test fails, by the order of the strains
  outside_by : (x y low high : Float) (b : Bool) → Upwards x y low high → T (not (le (value (first_side law (num (sum_of (pair x y))) (num high))) s))
      → Given (walk_result (first_walk law (indexes_of b) (pair x y) low high (num s))) → ReturnsIn 2 law s (walk_result (first_walk law (indexes_of b) (pair x y) low high (num s)))
  unfolding sum_of walk.total walk.sum first_walk second_walk
  outside_by x y low high b d h t =
      let e = pair x y in
      let first = value (first_side law (num (sum_of e)) (num high)) in
      let second = value (second_side law (num (sum_of e)) (num high) (num low)) in
      let one = back_one law (num s) (walk.sum e) (num high) in
      let all = back_both law (num s) in
      pick (ReturnsIn 2 law s) (is_number first && is_number s) (le first s) (is_number second && is_number s) (le second s)
      (given (record { way = none_moves first s; strains = nums e }))
      (given (record { way = one_moves second s; strains = restored_of (indexes_of b) (pair (num low) one) }))
      (given (record { way = all_move second s; strains = restored_of (indexes_of b) (pair all all) }))
      h t
      (λ i. back b (one_moves second s) tt (num low) one (one_back g d i))
      (back b (all_move second s) tt all all (both_back g d))

  module _ (x y : Float) (i : Each Strain (pair x y)) where
    -- where the first test holds
    pub inside : T (first_test law (pair x y) s) → Each (BelowIn 2 demanded law s (pair x y)) (pair x y)
    unfolding sum_of
    inside h =
        held x y (le x y)
        (untouched g (upwards x y i) (subst (λ a. T (le (value (first_side law (num (sum_of (pair x y))) (num a))) s)) (larger_is x y) h))

    -- and where it fails
    pub outside : T (not (first_test law (pair x y) s)) → Given (walk_result (project_walk law (pair x y) (num s))) → ReturnsIn 2 law s (walk_result (project_walk law (pair x y) (num s)))
    outside h t =
        let b = le x y in
        let q = walk_is law x y (num s) in
        subst (λ w. ReturnsIn 2 law s (walk_result w)) (sym q)
        (outside_by x y (low_of b x y) (high_of b x y) b (upwards x y i)
        (subst (λ a. T (not (le (value (first_side law (num (sum_of (pair x y))) (num a))) s))) (larger_is x y) h)
        (subst (λ w. Given (walk_result w)) q t))

-- where the first test holds, nothing moves
pub same : (law : RankinePlasticity) (s x y : Float) → let e = pair x y in T (first_test law e s) → Given (walk_result (project_walk law e (num s)))
    → walk_result (project_walk law e (num s)) ≡ given (record { way = none_moves (value (first_side law (num (sum_of e)) (num (larger e)))) s; strains = nums e })
unfolding sum_of walk.total walk.sum first_walk
same law s x y t h =
    let e = pair x y in
    let side = value (first_side law (num (sum_of e)) (num (larger e))) in
    kept (is_number side && is_number s) (le side s) (record { way = none_moves side s; strains = nums e }) (walk_result (second_walk law (order_of e) e (smaller e) (larger e) (num s))) t h
