-- The Rankine projection of strains in index order: sorted upwards, returned, and put back
use mathlib.Core.Path.{◌≡◌, refl, sym, ap, ◌∙◌, subst}
use mathlib.Core.Logic.{inl, inr}
use Prim.Native.Nat.{ℕ, ◌*◌}
use mathlib.Core.Bool.{Bool, true, false, not, cond, ◌&&◌}
use mathlib.Core.List.{List, [], ◌∷◌}
use lib.Dec.{T}
use lib.ListN.{length}
use lib.IntN.{pos, ◌+ℤ◌, ◌*ℤ◌}
use lib.Ieee.{Float, le}
use Rattle.exact.specs.Units.{L, Fin64}
use Rattle.exact.specs.Integers.{n, ◌≤ᶻ◌}
use Rattle.exact.proofs.Ring.{ring, var, con, ◌:+◌}
use Rattle.exact.specs.Value.{val}
use Rattle.exact.proofs.OrderLe.{le_val}
use Rattle.exact.proofs.Distances.{not_le_val}
use Rattle.numbers.specs.Floats.{is_number}
use Rattle.tensor.specs.Matrix.{three, sum_of}
use Rattle.walk.specs.Expr.{Expr, num, value, values, nums}
use Rattle.walk.specs.Matrix as walk
use Rattle.walk.specs.Walk.{Ended, given, refused, walk_result}
use Rattle.plasticity_rankine.specs.declared.RankinePlasticity.{RankinePlasticity}
use Rattle.plasticity_rankine.specs.declared.Sorted.{Sorted}
use Rattle.plasticity_rankine.specs.declared.Rank.{Rank}
use Rattle.plasticity_rankine.specs.declared.Rank.TheVariants as rank
use Rattle.plasticity_rankine.specs.Sorting.{order_of, sorted_of, arrange_of, restored_of, restore_of}
use Rattle.plasticity_rankine.specs.Inner.{indexes_of}
use Rattle.plasticity_rankine.proofs.Orders.{rank_of, order_of_three}
use Rattle.plasticity_rankine.proofs.Laws.{restored}
use Rattle.plasticity_rankine.specs.Projection.{first_side, second_side, third_side, back_one, back_two, back_all, Way, none_moves, one_moves, two_move, all_move, Moved, third_walk, second_walk, first_walk, project_walk}
use Rattle.rankine_surface.specs.Axes.{Each, Some, total}
use Rattle.rankine_surface.specs.Surface.{modulus, demanded, Under, Below, Reaches, Fair, Strain, OnSurfaceIn, OnSurface, first_test}
use Rattle.rankine_surface.proofs.Branches.{Upwards, principal, Held, Bounded, OnYield, untouched, one_back, two_back, all_back}

-- ---- there and back
-- the orders of three axes
data Order : List ℕ → Type 0 where
  R012 : Order (0 ∷ 1 ∷ 2 ∷ [])
  R021 : Order (0 ∷ 2 ∷ 1 ∷ [])
  R102 : Order (1 ∷ 0 ∷ 2 ∷ [])
  R120 : Order (1 ∷ 2 ∷ 0 ∷ [])
  R201 : Order (2 ∷ 0 ∷ 1 ∷ [])
  R210 : Order (2 ∷ 1 ∷ 0 ∷ [])

of_rank : (k : Rank) → Order (indexes_of k)
of_rank rank.R012 = R012
of_rank rank.R021 = R021
of_rank rank.R102 = R102
of_rank rank.R120 = R120
of_rank rank.R201 = R201
of_rank rank.R210 = R210

order : (x y z : Float) → Order (order_of (three x y z))
order x y z = subst Order (sym (order_of_three x y z)) (of_rank (rank_of (le x y) (le y z) (le x z)))

total_restore : {k : List ℕ} → Order k → (r : Sorted) → total (restore_of k r) ≡ val r.low +ℤ val r.mid +ℤ val r.high
total_restore R012 r = ring 3 (val r.low, (val r.mid, (val r.high, tt))) (var 0 :+ (var 1 :+ (var 2 :+ con (pos 0)))) (var 0 :+ var 1 :+ var 2) tt
total_restore R021 r = ring 3 (val r.low, (val r.mid, (val r.high, tt))) (var 0 :+ (var 2 :+ (var 1 :+ con (pos 0)))) (var 0 :+ var 1 :+ var 2) tt
total_restore R102 r = ring 3 (val r.low, (val r.mid, (val r.high, tt))) (var 1 :+ (var 0 :+ (var 2 :+ con (pos 0)))) (var 0 :+ var 1 :+ var 2) tt
total_restore R120 r = ring 3 (val r.low, (val r.mid, (val r.high, tt))) (var 2 :+ (var 0 :+ (var 1 :+ con (pos 0)))) (var 0 :+ var 1 :+ var 2) tt
total_restore R201 r = ring 3 (val r.low, (val r.mid, (val r.high, tt))) (var 1 :+ (var 2 :+ (var 0 :+ con (pos 0)))) (var 0 :+ var 1 :+ var 2) tt
total_restore R210 r = ring 3 (val r.low, (val r.mid, (val r.high, tt))) (var 2 :+ (var 1 :+ (var 0 :+ con (pos 0)))) (var 0 :+ var 1 :+ var 2) tt

total_three : (x y z : Float) → val x +ℤ val y +ℤ val z ≡ total (three x y z)
total_three x y z = ring 3 (val x, (val y, (val z, tt))) (var 0 :+ var 1 :+ var 2) (var 0 :+ (var 1 :+ (var 2 :+ con (pos 0)))) tt

and_back : {k : List ℕ} → Order k → (x y z : Float) → restore_of k (arrange_of k (three x y z)) ≡ three x y z
and_back R012 x y z = refl
and_back R021 x y z = refl
and_back R102 x y z = refl
and_back R120 x y z = refl
and_back R201 x y z = refl
and_back R210 x y z = refl

record Laid (F : Float → Type 0) (r : Sorted) : Type 0 where
  low : F r.low
  mid : F r.mid
  high : F r.high

laid : (F : Float → Type 0) {k : List ℕ} → Order k → (x y z : Float) → F x → F y → F z → Laid F (arrange_of k (three x y z))
laid F R012 x y z a b c = record { low = a; mid = b; high = c }
laid F R021 x y z a b c = record { low = a; mid = c; high = b }
laid F R102 x y z a b c = record { low = b; mid = a; high = c }
laid F R120 x y z a b c = record { low = b; mid = c; high = a }
laid F R201 x y z a b c = record { low = c; mid = a; high = b }
laid F R210 x y z a b c = record { low = c; mid = b; high = a }

put : (F : Float → Type 0) {k : List ℕ} → Order k → (r : Sorted) → F r.low → F r.mid → F r.high → Each F (restore_of k r)
put F R012 r a b c = (a, (b, (c, tt)))
put F R021 r a b c = (a, (c, (b, tt)))
put F R102 r a b c = (b, (a, (c, tt)))
put F R120 r a b c = (c, (a, (b, tt)))
put F R201 r a b c = (b, (c, (a, tt)))
put F R210 r a b c = (c, (b, (a, tt)))

one : (F : Float → Type 0) {k : List ℕ} → Order k → (r : Sorted) → F r.high → Some F (restore_of k r)
one F R012 r h = inr (inr (inl h))
one F R021 r h = inr (inl h)
one F R102 r h = inr (inr (inl h))
one F R120 r h = inl h
one F R201 r h = inr (inl h)
one F R210 r h = inl h

record Ordered (r : Sorted) : Type 0 where
  low_mid : val r.low ≤ᶻ val r.mid
  mid_high : val r.mid ≤ᶻ val r.high

ordered : (x y z : Float) (a b c : Bool) → (T a → val x ≤ᶻ val y) → (T (not a) → val y ≤ᶻ val x) → (T b → val y ≤ᶻ val z) → (T (not b) → val z ≤ᶻ val y)
    → (T c → val x ≤ᶻ val z) → (T (not c) → val z ≤ᶻ val x)
    → Ordered (arrange_of (indexes_of (rank_of a b c)) (three x y z))
ordered x y z true true c h h' i i' j j' = record { low_mid = h tt; mid_high = i tt }
ordered x y z true false true h h' i i' j j' = record { low_mid = j tt; mid_high = i' tt }
ordered x y z true false false h h' i i' j j' = record { low_mid = j' tt; mid_high = h tt }
ordered x y z false b true h h' i i' j j' = record { low_mid = h' tt; mid_high = j tt }
ordered x y z false true false h h' i i' j j' = record { low_mid = i tt; mid_high = j' tt }
ordered x y z false false false h h' i i' j j' = record { low_mid = i' tt; mid_high = h' tt }

upwards : (x y z : Float) → Each Strain (three x y z) → Upwards x y z (arrange_of (order_of (three x y z)) (three x y z))
upwards x y z i =
    let k = order_of (three x y z) in
    let d = order x y z in
    let a = i.0 in
    let b = i.1.0 in
    let c = i.1.1.0 in
    let s = laid Strain d x y z a b c in
    let o =
    subst (λ l. Ordered (arrange_of l (three x y z))) (sym (order_of_three x y z))
    (ordered x y z (le x y) (le y z) (le x z) (le_val x y a.fine b.fine) (not_le_val x y a.fine b.fine) (le_val y z b.fine c.fine)
    (not_le_val y z b.fine c.fine) (le_val x z a.fine c.fine) (not_le_val x z a.fine c.fine)) in
    record {
      first = a;
      second = b;
      third = c;
      low = s.low;
      mid = s.mid;
      high = s.high;
      low_mid = o.low_mid;
      mid_high = o.mid_high;
      sum = total_three x y z ∙ ap total (sym (and_back d x y z)) ∙ total_restore d (arrange_of k (three x y z));
    }

-- ---- bounds in index order
below : (law : RankinePlasticity) (s : Float) {k : List ℕ} → Order k → (r : Sorted) → Held law s r → Each (Below demanded law s (restore_of k r)) (restore_of k r)
below law s {k} d r h =
    subst (λ t. Each (λ w. Under demanded (val law.lambda *ℤ t +ℤ pos 2 *ℤ val law.mu *ℤ val w) (val s *ℤ pos L) (modulus law * L)) (restore_of k r))
    (sym (total_restore d r))
    (put (λ w. Under demanded (principal law r w) (val s *ℤ pos L) (modulus law * L)) d r h.low h.mid h.high)

reaches : (law : RankinePlasticity) (s : Float) {k : List ℕ} → Order k → (r : Sorted) → Under demanded (val s *ℤ pos L) (principal law r r.high) (modulus law * L)
    → Some (Reaches demanded law s (restore_of k r)) (restore_of k r)
reaches law s {k} d r h =
    subst (λ t. Some (λ w. Under demanded (val s *ℤ pos L) (val law.lambda *ℤ t +ℤ pos 2 *ℤ val law.mu *ℤ val w) (modulus law * L)) (restore_of k r))
    (sym (total_restore d r))
    (one (λ w. Under demanded (val s *ℤ pos L) (principal law r w) (modulus law * L)) d r h)

on_surface : (law : RankinePlasticity) (s : Float) {k : List ℕ} → Order k → (r : Sorted) → OnYield law s r → OnSurface demanded law s (restore_of k r)
on_surface law s {k} d r y =
    record {
      fine = put Fin64 d r y.low.fine y.mid.fine y.high.fine;
      below = below law s d r y.held;
      reaches = reaches law s d r y.reaches;
    }

-- ---- the branch
-- the strains as the walk ends with them
sized : {k : List ℕ} → Order k → (r : Sorted) → length (restore_of k r) ≡ 3
sized R012 r = refl
sized R021 r = refl
sized R102 r = refl
sized R120 r = refl
sized R201 r = refl
sized R210 r = refl

worth : (x y z : Float) (a b c : Expr)
    → values (restored_of (order_of (three x y z)) (three a b c)) ≡ restore_of (order_of (three x y z)) (sorted_of (value a) (value b) (value c))
worth x y z a b c = rw (order_of_three x y z) (restored (rank_of (le x y) (le y z) (le x z)) a b c)

abbrev pub Moves : Way → Type 0
Moves (none_moves x y) = ⊥
Moves (one_moves x y) = Unit {0}
Moves (two_move x y) = Unit {0}
Moves (all_move x y) = Unit {0}

-- not refused
abbrev pub Given : {A : Type 0} → Ended A → Type 0
Given (given q) = Unit {0}
Given (refused n) = ⊥

-- d strains upon the surface, each in -40 to 40; and three
pub record LandedIn (d : ℕ) (law : RankinePlasticity) (s : Float) (e : List Float) : Type 0 where
  pub axes : length e ≡ d
  pub bounded : Each Bounded e
  pub on_surface : OnSurfaceIn d demanded law s e

abbrev pub Landed : RankinePlasticity → Float → List Float → Type 0
Landed law s e = LandedIn 3 law s e

pub record BackIn (d : ℕ) (law : RankinePlasticity) (s : Float) (q : Moved) : Type 0 where
  pub moves : Moves q.way
  pub landed : LandedIn d law s (values q.strains)

-- strains moved to the surface
abbrev pub ReturnsIn : ℕ → RankinePlasticity → Float → Ended Moved → Type 0
ReturnsIn d law s (given q) = BackIn d law s q
ReturnsIn d law s (refused n) = ⊥

abbrev Back : RankinePlasticity → Float → Moved → Type 0
Back law s q = BackIn 3 law s q

abbrev pub Returns : RankinePlasticity → Float → Ended Moved → Type 0
Returns law s x = ReturnsIn 3 law s x

pick : (F : Ended Moved → Type 0) (n1 l1 n2 l2 n3 l3 : Bool) (A B C D : Ended Moved) → T (not l1)
    → Given (cond n1 (cond l1 A (cond n2 (cond l2 B (cond n3 (cond l3 C D) (refused 3))) (refused 3))) (refused 3))
    → (T l2 → F B) → (T l3 → F C) → F D → F (cond n1 (cond l1 A (cond n2 (cond l2 B (cond n3 (cond l3 C D) (refused 3))) (refused 3))) (refused 3))
pick F false l1 n2 l2 n3 l3 A B C D h t b c d = absurd t
pick F true true n2 l2 n3 l3 A B C D h t b c d = absurd h
pick F true false false l2 n3 l3 A B C D h t b c d = absurd t
pick F true false true true n3 l3 A B C D h t b c d = b tt
pick F true false true false false l3 A B C D h t b c d = absurd t
pick F true false true false true true A B C D h t b c d = c tt
pick F true false true false true false A B C D h t b c d = d

landed : (law : RankinePlasticity) (s : Float) {k : List ℕ} → Order k → (r : Sorted) → OnYield law s r → Landed law s (restore_of k r)
landed law s d r y = record { axes = sized d r; bounded = put Bounded d r y.low y.mid y.high; on_surface = on_surface law s d r y }

back : (law : RankinePlasticity) (s : Float) (w : Way) → Moves w → (x y z : Float) (a b c : Expr) → OnYield law s (sorted_of (value a) (value b) (value c))
    → Back law s (record { way = w; strains = restored_of (order_of (three x y z)) (three a b c) })
back law s w m x y z a b c f =
    let r = sorted_of (value a) (value b) (value c) in
    let e = sym (worth x y z a b c) in
    record {
      moves = m;
      landed = subst (Landed law s) e (landed law s (order x y z) r f);
    }

pub kept : (n l : Bool) (q : Moved) (B : Ended Moved) → T l → Given (cond n (cond l (given q) B) (refused 3)) → cond n (cond l (given q) B) (refused 3) ≡ given q
kept true true q B t h = refl
kept true false q B t h = absurd t
kept false l q B t h = absurd h

module _ {law : RankinePlasticity} {s : Float} (g : Fair law s) (x y z : Float) (i : Each Strain (three x y z)) where
  -- where the first test holds
  pub inside : T (first_test law (three x y z) s) → Each (Below demanded law s (three x y z)) (three x y z)
  unfolding sum_of
  inside h =
      let k = order_of (three x y z) in
      let d = order x y z in
      subst (λ t. Each (Below demanded law s t) t) (and_back d x y z) (below law s d (arrange_of k (three x y z)) (untouched g (upwards x y z i) h))

  -- and where it fails
  pub outside : T (not (first_test law (three x y z) s)) → Given (walk_result (project_walk law (three x y z) (num s))) → Returns law s (walk_result (project_walk law (three x y z) (num s)))
  unfolding sum_of walk.total walk.sum first_walk second_walk third_walk
  outside h t =
      let e = three x y z in
      let k = order_of e in
      let r = arrange_of k e in
      let d = upwards x y z i in
      let S = num (sum_of e) in
      let a = num r.high in
      let b = num r.mid in
      let c = num r.low in
      let first = value (first_side law S a) in
      let second = value (second_side law S a b) in
      let third = value (third_side law c) in
      let two = back_two law (num s) (walk.sum e) a b in
      let all = back_all law (num s) in
      pick (Returns law s) (is_number first && is_number s) (le first s) (is_number second && is_number s) (le second s) (is_number third && is_number s) (le third s)
      (given (record { way = none_moves first s; strains = nums e }))
      (given (record { way = one_moves second s; strains = restored_of k (three c b (back_one law (num s) (walk.sum e) a)) }))
      (given (record { way = two_move third s; strains = restored_of k (three c two two) }))
      (given (record { way = all_move third s; strains = restored_of k (three all all all) }))
      h t
      (λ l. back law s (one_moves second s) tt x y z c b (back_one law (num s) (walk.sum e) a) (one_back g d l))
      (λ l. back law s (two_move third s) tt x y z c two two (two_back g d l))
      (back law s (all_move third s) tt x y z all all all (all_back g d))

-- where the first test holds, nothing moves
pub same : (law : RankinePlasticity) (s x y z : Float) → let e = three x y z in T (first_test law e s) → Given (walk_result (project_walk law e (num s)))
    → walk_result (project_walk law e (num s)) ≡ given (record { way = none_moves (value (first_side law (num (sum_of e)) (num (arrange_of (order_of e) e).high))) s; strains = nums e })
unfolding sum_of walk.total walk.sum first_walk
same law s x y z t h =
    let e = three x y z in
    let k = order_of e in
    let r = arrange_of k e in
    let side = value (first_side law (num (sum_of e)) (num r.high)) in
    kept (is_number side && is_number s) (le side s) (record { way = none_moves side s; strains = nums e }) (walk_result (second_walk law k e r (num s))) t h
