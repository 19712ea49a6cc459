-- Intervals of whole numbers: the least and the most of a product, and division rounded down and up. Assumes nothing.
use mathlib.Core.Path.{ap}
use mathlib.Core.List.{[], ◌∷◌}
use Prim.Native.Nat.{ℕ, suc, ◌+◌, ◌-◌, ◌*◌, ◌/◌, ◌≤◌, ◌<◌}
use native.Mathlib.Nat.{div-le_of_le-mul, le-div_iff_mul-le}
use native.Mathlib.Omega.{arith, sub_cases}
use mathlib.Core.Bool.{Bool, true, false, not, cond}
use lib.Dec.{T, leb, leb→le, nleb→lt}
use lib.IntN.{ℤ, pos, negsuc, neg_ℤ, ◌*ℤ◌}
use Rattle.exact.specs.Integers.{p, n, ◌≤ᶻ◌}
use Rattle.exact.proofs.Integers.{+-parts, neg_parts, *-parts, *-comm}
use Rattle.exact.proofs.Ring.{bound, var, con, ◌:-◌, ◌:*◌, hyp, ◌⊗◌}

abbrev leq : ℤ → ℤ → Bool
leq a b = leb (p a + n b) (p b + n a)

unfoldable pub min_z : ℤ → ℤ → ℤ
min_z a b = cond (leq a b) a b

unfoldable pub max_z : ℤ → ℤ → ℤ
max_z a b = cond (leq a b) b a

pub min_le : (a b : ℤ) → (min_z a b ≤ᶻ a) × (min_z a b ≤ᶻ b)
unfolding min_z
min_le a b = go (leq a b) (leb→le (p a + n b) (p b + n a)) (nleb→lt (p a + n b) (p b + n a))
  where
    go : (t : Bool) → (T t → p a + n b ≤ p b + n a) → (T (not t) → p b + n a < p a + n b) → (cond t a b ≤ᶻ a) × (cond t a b ≤ᶻ b)
    go true f g = let h : p a + n b ≤ p b + n a = f tt in (omega arith, h)
    go false f g = let h : p b + n a < p a + n b = g tt in (omega arith, omega arith)

pub le_max : (a b : ℤ) → (a ≤ᶻ max_z a b) × (b ≤ᶻ max_z a b)
unfolding max_z
le_max a b = go (leq a b) (leb→le (p a + n b) (p b + n a)) (nleb→lt (p a + n b) (p b + n a))
  where
    go : (t : Bool) → (T t → p a + n b ≤ p b + n a) → (T (not t) → p b + n a < p a + n b) → (a ≤ᶻ cond t b a) × (b ≤ᶻ cond t b a)
    go true f g = let h : p a + n b ≤ p b + n a = f tt in (h, omega arith)
    go false f g = let h : p b + n a < p a + n b = g tt in (omega arith, omega arith)

min_ge : (k a b : ℤ) → k ≤ᶻ a → k ≤ᶻ b → k ≤ᶻ min_z a b
unfolding min_z
min_ge k a b h l = go (leq a b)
  where
    go : (t : Bool) → k ≤ᶻ cond t a b
    go true = h
    go false = l

max_le : (a b k : ℤ) → a ≤ᶻ k → b ≤ᶻ k → max_z a b ≤ᶻ k
unfolding max_z
max_le a b k h l = go (leq a b)
  where
    go : (t : Bool) → cond t b a ≤ᶻ k
    go true = l
    go false = h

-- a ≤ x, 0 ≤ y: a y ≤ x y; and with y ≤ 0: x y ≤ a y
up_mul : (a x y : ℤ) → a ≤ᶻ x → pos 0 ≤ᶻ y → a *ℤ y ≤ᶻ x *ℤ y
up_mul a x y h k = bound 3 (a, (x, (y, tt))) ((var 1 :- var 0) ∷ var 2 ∷ []) (omega (arith, +-parts x (neg_ℤ a), neg_parts a), (k, tt)) (hyp 0 ⊗ hyp 1) (var 0 :* var 2) (var 1 :* var 2) tt

down_mul : (a x y : ℤ) → a ≤ᶻ x → y ≤ᶻ pos 0 → x *ℤ y ≤ᶻ a *ℤ y
down_mul a x y h k = bound 3 (a, (x, (y, tt))) ((var 1 :- var 0) ∷ (con (pos 0) :- var 2) ∷ []) (omega (arith, +-parts x (neg_ℤ a), neg_parts a), (omega (arith, +-parts (pos 0) (neg_ℤ y), neg_parts y), tt)) (hyp 0 ⊗ hyp 1) (var 1 :* var 2) (var 0 :* var 2) tt

ends : (a x b y : ℤ) → a ≤ᶻ x → x ≤ᶻ b → (min_z (a *ℤ y) (b *ℤ y) ≤ᶻ x *ℤ y) × (x *ℤ y ≤ᶻ max_z (a *ℤ y) (b *ℤ y))
ends a x b y h k = sub_cases (p y) (n y) _
    (λ l e. omega (arith, min_le (a *ℤ y) (b *ℤ y), le_max (a *ℤ y) (b *ℤ y), up_mul a x y h (omega arith), up_mul x b y k (omega arith)))
    (λ l e. omega (arith, min_le (a *ℤ y) (b *ℤ y), le_max (a *ℤ y) (b *ℤ y), down_mul a x y h (omega arith), down_mul x b y k (omega arith)))

-- ---- x y, for x in [a, b] and y in [c, d]
abbrev pub least4 : ℤ → ℤ → ℤ → ℤ → ℤ
least4 a b c d = min_z (min_z (c *ℤ a) (d *ℤ a)) (min_z (c *ℤ b) (d *ℤ b))

abbrev pub most4 : ℤ → ℤ → ℤ → ℤ → ℤ
most4 a b c d = max_z (max_z (c *ℤ a) (d *ℤ a)) (max_z (c *ℤ b) (d *ℤ b))

pub prod_in : (a b c d x y : ℤ) → a ≤ᶻ x → x ≤ᶻ b → c ≤ᶻ y → y ≤ᶻ d → (least4 a b c d ≤ᶻ x *ℤ y) × (x *ℤ y ≤ᶻ most4 a b c d)
prod_in a b c d x y h k l m =
    let e = ends a x b y h k in
    let u = rw (*-comm y a) at (ends c y d a l m) in
    let v = rw (*-comm y b) at (ends c y d b l m) in
    let L = min_le (min_z (c *ℤ a) (d *ℤ a)) (min_z (c *ℤ b) (d *ℤ b)) in
    let M = le_max (max_z (c *ℤ a) (d *ℤ a)) (max_z (c *ℤ b) (d *ℤ b)) in
    omega (arith, e, min_ge (least4 a b c d) (a *ℤ y) (b *ℤ y) (omega (arith, u, L)) (omega (arith, v, L)), max_le (a *ℤ y) (b *ℤ y) (most4 a b c d) (omega (arith, u, M)) (omega (arith, v, M)))

-- ---- division by a positive number, rounded down and up
unfoldable pub floor : ℤ → ℕ → ℤ
floor (pos a) u = pos (a / u)
floor (negsuc a) u = negsuc (a / u)

unfoldable pub ceil : ℤ → ℕ → ℤ
unfolding floor
ceil z u = neg_ℤ (floor (neg_ℤ z) u)

pub floor_le : (w z : ℤ) (u : ℕ) → 0 < u → w ≤ᶻ z *ℤ pos u → floor w u ≤ᶻ z
unfolding floor
floor_le (pos a) (pos z) u U h = omega (arith, div-le_of_le-mul u {m = a} {n = z} (omega arith))
floor_le (pos a) (negsuc z) u U h = absurd (omega (arith, neg_parts (pos (suc z * u))))
floor_le (negsuc a) (pos z) u U h = omega arith
floor_le (negsuc a) (negsuc z) u U h = omega (arith, (le-div_iff_mul-le {k = u} {x = z} {y = a} U).1 (omega (arith, neg_parts (pos (suc z * u)))))

pub le_ceil : (w z : ℤ) (u : ℕ) → 0 < u → z *ℤ pos u ≤ᶻ w → z ≤ᶻ ceil w u
unfolding ceil
le_ceil w z u U h = omega (arith, neg_parts z, neg_parts (floor (neg_ℤ w) u), floor_le (neg_ℤ w) (neg_ℤ z) u U (omega (arith, neg_parts w, ap (λ k. k * u) (neg_parts z), *-parts z (pos u), *-parts (neg_ℤ z) (pos u))))
