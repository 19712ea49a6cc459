-- `<=` of two finite binary64 values is `≤` of their values, and what lies between two finite values is finite. Assumes nothing.
use Prim.Native.Nat.{ℕ, ◌+◌, ◌*◌}
use native.Mathlib.Omega.{arith}
use mathlib.Core.Bool.{Bool, true, false, not, ◌&&◌, ◌||◌}
use lib.Dec.{T, ltb, ltb→lt, eqb, eqb→eq}
use lib.Arith.{le→nltb}
use lib.Ieee.{Float, nan, inf, fin, up, down, below, level, lt, eq, le}
use lib.Ieee.Scale.{finite}
use Rattle.exact.specs.Units.{Fin64}
use Rattle.exact.proofs.Order.{lt_val}
use Rattle.exact.specs.Integers.{◌≤ᶻ◌}
use Rattle.exact.specs.Value.{val}

either : (a b : Bool) {X : Type 0} → (T a → X) → (T b → X) → T (a || b) → X
either true b f g t = f tt
either false b f g t = g t

first : (a b : Bool) → T (a && b) → T a
first true b t = tt
first false b t = t

second : (a b : Bool) → T (a && b) → T b
second true b t = t
second false b t = absurd t

not_below : (s t : Bool) (a b : ℕ) → T (below s a t b || level s a t b) → T (not (below t b s a))
not_below false false a b h =
    either (ltb a b) (eqb a b && true) (λ g. let l = ltb→lt a b g in le→nltb b a (omega arith)) (λ g. let l = eqb→eq a b (first (eqb a b) true g) in le→nltb b a (omega arith)) h
not_below false true a b h =
    let l = eqb→eq a b (first (eqb a b) (eqb a 0) h) in
    let m = eqb→eq a 0 (second (eqb a b) (eqb a 0) h) in
    le→nltb 0 (b + a) (omega arith)
not_below true false a b h = tt
not_below true true a b h =
    either (ltb b a) (eqb a b && true) (λ g. let l = ltb→lt b a g in le→nltb a b (omega arith)) (λ g. let l = eqb→eq a b (first (eqb a b) true g) in le→nltb a b (omega arith)) h

le_not_lt : (x y : Float) → T (finite x) → T (finite y) → T (le x y) → T (not (lt y x))
unfolding le lt eq
le_not_lt nan y f g h = absurd f
le_not_lt (inf s) y f g h = absurd f
le_not_lt (fin s m e) nan f g h = absurd g
le_not_lt (fin s m e) (inf t) f g h = absurd g
le_not_lt (fin s m e) (fin t k d) f g h = not_below s t (m * up e * down d) (k * up d * down e) h

pub le_val : (x y : Float) → Fin64 x → Fin64 y → T (le x y) → val x ≤ᶻ val y
le_val x y f g h = (lt_val y x g f).1 (le_not_lt x y f.0 g.0 h)

pub between_finite : (l x h : Float) → T (finite l) → T (finite h) → T (le l x) → T (le x h) → T (finite x)
unfolding le lt eq
between_finite nan x h f g a b = absurd f
between_finite (inf s) x h f g a b = absurd f
between_finite (fin s m e) nan h f g a b = absurd a
between_finite (fin s m e) (inf true) h f g a b = absurd a
between_finite (fin s m e) (inf false) nan f g a b = absurd g
between_finite (fin s m e) (inf false) (inf t) f g a b = absurd g
between_finite (fin s m e) (inf false) (fin t k d) f g a b = absurd b
between_finite (fin s m e) (fin t k d) h f g a b = tt
