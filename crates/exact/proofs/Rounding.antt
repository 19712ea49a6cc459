-- the error of `round`, in units of the format's smallest value
use mathlib.Core.Path.{◌≡◌, refl, subst}
use Prim.Native.Nat.{ℕ, zero, suc, ◌+◌, ◌-◌, ◌*◌, ◌/◌, ◌%◌, ◌^◌, ◌≤◌, ◌<◌, compare, Ordering}
use native.Mathlib.Nat.{mul-pos, mul-le-mul_right, mul-le-mul_left, div-add-mod', le-div_iff_mul-le, le_of_mul-le-mul_right, lt_of_mul-lt-mul_right, pow-succ'}
use native.Mathlib.Omega.{arith, sub_cases}
use mathlib.Core.Bool.{Bool, not}
use lib.Dec.{T, is_le, compare_is_eq, eqb, leb→le, nleb→lt, eqb→eq, eqb_refl, lit≤}
use lib.Arith.{lt_of_le-ne}
use lib.Pow.{pow-add, pow_pos}
use lib.Ieee.{Format, binary32, binary64, prec, emax, low, size, nearest, round}
use lib.Ieee.Digits.{size_reaches}
use lib.Ieee.Fits.{round_is, two, two-le_pos}
use lib.Ieee.Exact.{HasValue, units_val}
use lib.Ieee.Nearest.{closest}
use lib.Ieee.Order.{drop, kept}
use lib.Ieee.Scale.{grid, overflow}
use Rattle.exact.specs.Rounding.{Near}

abbrev Cmp : Ordering → ℕ → ℕ → Type 0
Cmp Ordering.lt a b = a < b
Cmp Ordering.eq a b = a ≡ b
Cmp Ordering.gt a b = b < a

cmp : (a b : ℕ) → Cmp (compare a b) a b
cmp a b = go (compare a b) (leb→le a b) (nleb→lt a b) (eqb→eq a b) (λ (e : a ≡ b). subst (λ (x : ℕ). T (eqb a x)) e (eqb_refl a))
  where
    go : (o : Ordering) → (T (is_le o) → a ≤ b) → (T (not (is_le o)) → b < a) → (T (compare_is_eq o) → a ≡ b) → (a ≡ b → T (compare_is_eq o)) → Cmp o a b
    go Ordering.lt h k e n = lt_of_le-ne (h tt) n
    go Ordering.eq h k e n = e tt
    go Ordering.gt h k e n = k tt

-- q * b + r, for 2 r near b, is within b / 2 of nearest q times b
near_nearest : (o : Ordering) (q b r : ℕ) → Cmp o (r * 2) b → r ≤ b → Near (2 * (nearest q o * b)) (2 * (q * b + r)) b
near_nearest Ordering.lt q b r h l = omega arith
near_nearest Ordering.gt q b r h l = omega arith
near_nearest Ordering.eq q b r h l = go (q % 2) (omega arith)
  where
    go : (t : ℕ) → t < 2 → Near (2 * ((q + t) * b)) (2 * (q * b + r)) b
    go zero k = omega arith
    go (suc zero) k = omega arith
    go (suc (suc t)) k = absurd (omega arith)

mod_le_of : (a b : ℕ) → 0 < b → a % b ≤ b
mod_le_of a b B = omega (arith, native.Mathlib.Nat.mod-lt a B)

pub closest_near : (a b : ℕ) → 0 < b → Near (2 * (closest a b * b)) (2 * a) b
closest_near a b B = rw (div-add-mod' a b) at (near_nearest (compare (a % b * 2) b) (a / b) b (a % b) (cmp (a % b * 2) b) (mod_le_of a b B))

-- ---- the rounded value, in units: |grid - n / c| ≤ 2 ^ drop / 2
pub grid_near : (f : Format) (a c : ℕ) → 0 < c → Near (2 * (grid f a c * c)) (2 * (a * 2 ^ low f)) (c * 2 ^ drop (prec f) (a * 2 ^ low f) c)
grid_near f a c C =
    let n = a * 2 ^ low f in
    let u = 2 ^ drop (prec f) n c in
    let h = closest_near n (c * u) (mul-pos C (pow_pos (drop (prec f) n c))) in
    go u (kept (prec f) n c) n h
  where
    go : (u q n : ℕ) → Near (2 * (q * (c * u))) (2 * n) (c * u) → Near (2 * (q * u * c)) (2 * n) (c * u)
    go u q n h = omega arith

pos_or : (z p : ℕ) → 0 < p → p ≤ z → p - 1 + (z - p) < z
pos_or z p P h = omega arith

half : (f : Format) → 2 ^ prec f ≡ 2 * 2 ^ (prec f - 1)
half binary32 = refl
half binary64 = refl

-- in the normal range: the relative error is at most 2 ^ -prec
pub grid_rel : (f : Format) (a c : ℕ) → 0 < c → prec f ≤ size (a * 2 ^ low f / c) → Near (grid f a c * c * 2 ^ prec f) (a * 2 ^ low f * 2 ^ prec f) (a * 2 ^ low f)
grid_rel f a c C N =
    let n = a * 2 ^ low f in
    let p = prec f in
    let k = drop p n c in
    let lo : 2 ^ (p - 1) * 2 ^ k * c ≤ n = rw (pow-add 2 (p - 1) k) at ((le-div_iff_mul-le C).0 (size_reaches (n / c) (p - 1 + k) (pos_or (size (n / c)) p (two-le_pos p (two f)) N))) in
    go (grid f a c) n (2 ^ k) (2 ^ (p - 1)) (2 ^ p) (half f) lo (grid_near f a c C)
  where
    go : (g n u h P : ℕ) → P ≡ 2 * h → h * u * c ≤ n → Near (2 * (g * c)) (2 * n) (c * u) → Near (g * c * P) (n * P) n
    go g n u h P e l k = rw e (omega (arith, mul-le-mul_right h k.0, mul-le-mul_right h k.1))

-- below it: the error is at most half a unit
pub grid_abs : (f : Format) (a c : ℕ) → 0 < c → size (a * 2 ^ low f / c) ≤ prec f → Near (2 * (grid f a c * c)) (2 * (a * 2 ^ low f)) c
grid_abs f a c C N =
    let n = a * 2 ^ low f in
    let e : drop (prec f) n c ≡ 0 = none (size (n / c)) (prec f) N in
    go (grid f a c) n (drop (prec f) n c) e (grid_near f a c C)
  where
    none : (z p : ℕ) → z ≤ p → z - p ≡ 0
    none z p h = omega arith

    go : (g n k : ℕ) → k ≡ 0 → Near (2 * (g * c)) (2 * n) (c * 2 ^ k) → Near (2 * (g * c)) (2 * n) c
    go g n k e h = omega (arith, rw e at h)

-- either way: at most 2 ^ -prec of the value, and half a unit
pub grid_err : (f : Format) (a c : ℕ) → 0 < c → Near (grid f a c * c * 2 ^ prec f) (a * 2 ^ low f * 2 ^ prec f) (a * 2 ^ low f + c * 2 ^ (prec f - 1))
grid_err f a c C = sub_cases (size (a * 2 ^ low f / c)) (prec f) _
    (λ h e. weaken (grid f a c * c * 2 ^ prec f) (a * 2 ^ low f * 2 ^ prec f) (a * 2 ^ low f) (c * 2 ^ (prec f - 1)) (grid_rel f a c C h))
    (λ h e. times (grid f a c * c) (a * 2 ^ low f) (2 ^ prec f) (2 ^ (prec f - 1)) (half f) (grid_abs f a c C h))
  where
    weaken : (x y e d : ℕ) → Near x y e → Near x y (e + d)
    weaken x y e d h = omega arith

    times : (x y P h : ℕ) → P ≡ 2 * h → Near (2 * x) (2 * y) c → Near (x * P) (y * P) (y + c * h)
    times x y P h e k = rw e (omega (arith, mul-le-mul_right h k.0, mul-le-mul_right h k.1))

-- ---- no overflow: |a / c| ≤ 2 ^ emax
pub grid_under : (f : Format) (a c : ℕ) → 0 < c → a ≤ 2 ^ emax f * c → grid f a c < overflow f
grid_under f a c C h =
    rw (pow-add 2 (low f) (suc (emax f)))
    (go (grid f a c) (2 ^ low f) (2 ^ emax f) (2 ^ suc (emax f)) (2 ^ prec f) (2 ^ (prec f - 1)) (mul-pos (pow_pos (emax f)) (pow_pos (low f))) (pow-succ' 2 (emax f)) (half f) (big f) h (grid_err f a c C).0)
  where
    big : (f : Format) → 2 ≤ 2 ^ (prec f - 1)
    big binary32 = lit≤ tt
    big binary64 = lit≤ tt

    go : (g L E E' P h : ℕ) → 0 < E * L → E' ≡ 2 * E → P ≡ 2 * h → 2 ≤ h → a ≤ E * c → g * c * P ≤ a * L * P + (a * L + c * h) → g < L * E'
    go g L E E' P h l x y z H k =
        let q : g * P * c ≤ (E * L * P + E * L + h) * c = omega (arith, mul-le-mul_right (L * P) H, mul-le-mul_right L H) in
        let r : g * P ≤ E * L * P + E * L + h = le_of_mul-le-mul_right q C in
        let m : g * P < L * E' * P = rw (x, y) (omega (arith, rw y at r, mul-le-mul_left (E * L) z, mul-le-mul_right h l)) in
        lt_of_mul-lt-mul_right P m

-- ---- the value
pub round_value : (f : Format) (s : Bool) (a c : ℕ) → grid f a c < overflow f → HasValue (round f s a c) s (grid f a c) (2 ^ low f)
round_value f s a c h = rw (round_is f s a c) (units_val f s (kept (prec f) (a * 2 ^ low f) c) (drop (prec f) (a * 2 ^ low f) c) h)
