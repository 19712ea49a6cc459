-- the sum of two finite binary64 values, with its error
use mathlib.Core.Path.{◌≡◌, refl, ap}
use Prim.Native.Nat.{ℕ, ◌+◌, ◌-◌, ◌*◌, ◌/◌, ◌^◌, ◌≤◌, ◌<◌}
use native.Mathlib.Nat.{mul_comm, mul-sub, mul-pos, mul-lt-mul_of_pos_right, lt_of_mul-lt-mul_right, le_of_mul-le-mul_right, add_comm}
use native.Mathlib.Omega.{arith, sub_cases}
use mathlib.Core.Bool.{Bool, true, false, not, cond, ◌&&◌}
use lib.Dec.{T, ltb, ltb→lt, lt→ltb, nltb→le}
use lib.Pow.{pow_pos}
use lib.Ieee.{Float, nan, inf, fin, Format, binary64, prec, low, size, up, down, round, sum, add}
use lib.Ieee.Fits.{down_pos, round-fits}
use lib.Ieee.Scale.{grid, round_same}
use Rattle.exact.specs.Rounding.{Near}
use Rattle.exact.proofs.Rounding.{grid_rel, grid_abs, grid_under}
use Rattle.exact.specs.Units.{L, mag, sgn, Fin64}
use Rattle.exact.proofs.Units.{L_pos, mag_exact, round_mag}
use Rattle.exact.specs.Sums.{pl, mi}

-- a whole number of units, rounded: the error is relative in every range
pub grid_int : (f : Format) (x : ℕ) → Near (grid f x (2 ^ low f) * 2 ^ prec f) (x * 2 ^ prec f) x
grid_int f x = sub_cases (size (x * 2 ^ low f / 2 ^ low f)) (prec f) _ (λ h e. normal (2 ^ low f) (grid f x (2 ^ low f)) (2 ^ prec f) (pow_pos (low f)) (grid_rel f x (2 ^ low f) (pow_pos (low f)) h)) (λ h e. small (2 ^ low f) (grid f x (2 ^ low f)) (2 ^ prec f) (pow_pos (low f)) (grid_abs f x (2 ^ low f) (pow_pos (low f)) h))
  where
    normal : (l g P : ℕ) → 0 < l → Near (g * l * P) (x * l * P) (x * l) → Near (g * P) (x * P) x
    normal l g P h k = (le_of_mul-le-mul_right {k = l} (omega arith) h, le_of_mul-le-mul_right {k = l} (omega arith) h)

    small : (l g P : ℕ) → 0 < l → Near (2 * (g * l)) (2 * (x * l)) l → Near (g * P) (x * P) x
    small l g P h k =
        let a : 2 * g ≤ 2 * x + 1 = le_of_mul-le-mul_right {k = l} (omega arith) h in
        let b : 2 * x ≤ 2 * g + 1 = le_of_mul-le-mul_right {k = l} (omega arith) h in
        let e : g ≡ x = omega arith in
        rw e (omega arith)

bool_same : (b c : Bool) → (T b → T c) → (T c → T b) → b ≡ c
bool_same true true f g = refl
bool_same true false f g = absurd (f tt)
bool_same false true f g = absurd (g tt)
bool_same false false f g = refl

-- a / c is x / l, b / c is y / l
module _ (a b c x y l : ℕ) (C : 0 < c) (H : 0 < l) (p : a * l ≡ x * c) (q : b * l ≡ y * c) where
  pub ltb_same : ltb a b ≡ ltb x y
  ltb_same = bool_same (ltb a b) (ltb x y)
      (λ t. lt→ltb x y (lt_of_mul-lt-mul_right c (omega (arith, mul-lt-mul_of_pos_right (ltb→lt a b t) H))))
      (λ t. lt→ltb a b (lt_of_mul-lt-mul_right l (omega (arith, mul-lt-mul_of_pos_right (ltb→lt x y t) C))))

  sub_same : (a - b) * l ≡ (x - y) * c
  sub_same = simp (mul_comm, mul-sub) (omega arith)

  pub add_same : (a + b) * l ≡ (x + y) * c
  add_same = omega arith

sum_same : (f : Format) (s t : Bool) (a b c x y l : ℕ) → 0 < c → 0 < l → a * l ≡ x * c → b * l ≡ y * c → sum f s a t b c ≡ sum f s x t y l
unfolding sum
sum_same f s t a b c x y l C H p q =
    rw (
      ltb_same a b c x y l C H p q,
      ltb_same b a c y x l C H q p,
      round_same f s (a + b) c (x + y) l C H (add_same a b c x y l C H p q),
      round_same f t (b - a) c (y - x) l C H (sub_same b a c y x l C H q p),
      round_same f (s && ltb y x) (a - b) c (x - y) l C H (sub_same a b c x y l C H p q),
    )

-- a numerator over the other's denominator too
pub over_left : (a c d x : ℕ) → x * c ≡ a * L → a * d * L ≡ x * (c * d)
over_left a c d x p = omega (arith, ap (λ z. z * d) p)

pub over_right : (a c d x : ℕ) → x * c ≡ a * L → a * d * L ≡ x * (d * c)
over_right a c d x p = omega (arith, ap (λ z. z * d) p)

pub add_units : (x y : Float) → Fin64 x → Fin64 y → add binary64 x y ≡ sum binary64 (sgn x) (mag x) (sgn y) (mag y) L
unfolding add
add_units nan y p q = absurd p.0
add_units (inf s) y p q = absurd p.0
add_units (fin s m e) nan p q = absurd q.0
add_units (fin s m e) (inf t) p q = absurd q.0
add_units (fin s m e) (fin t n d) p q =
    sum_same binary64 s t (m * up e * down d) (n * up d * down e) (down e * down d) (mag (fin s m e)) (mag (fin t n d)) L (mul-pos (down_pos e) (down_pos d)) L_pos
    (over_left (m * up e) (down e) (down d) (mag (fin s m e)) (mag_exact s m e p.1)) (over_right (n * up d) (down d) (down e) (mag (fin t n d)) (mag_exact t n d q.1))

-- a whole number of units, rounded
pub record Unit64 (s : Bool) (A : ℕ) (z : Float) : Type 0 where
  pub fine : Fin64 z
  pub sign : sgn z ≡ s
  pub near : Near (mag z * 2 ^ 53) (A * 2 ^ 53) A

pub unit_near : (s : Bool) (A : ℕ) → A ≤ 2 ^ 1023 * L → Unit64 s A (round binary64 s A L)
unfolding L
unit_near s A h =
    let v = round_mag s A L (grid_under binary64 A L L_pos h) in
    record { fine = (v.2, round-fits binary64 s A L); sign = v.1; near = rw v.0 (grid_int binary64 A) }

-- ---- the signed value is plus - minus
abbrev pub plus : Float → ℕ
plus x = pl (sgn x) (mag x)

abbrev pub minus : Float → ℕ
minus x = mi (sgn x) (mag x)

-- z is p - n, rounded
pub record Rounds (p n : ℕ) (z : Float) : Type 0 where
  pub fine : Fin64 z
  pub near : (E : ℕ) → Near p n E → Near ((plus z + n) * 2 ^ 53) ((minus z + p) * 2 ^ 53) E

signed : (s : Bool) (A p n : ℕ) → A ≤ 2 ^ 1023 * L → pl s A + n ≡ mi s A + p → Rounds p n (round binary64 s A L)
signed s A p n h e = go (round binary64 s A L) s (unit_near s A h) e
  where
    go : (z : Float) (s : Bool) → Unit64 s A z → pl s A + n ≡ mi s A + p → Rounds p n z
    go z false u e = record { fine = u.fine; near = λ E k. rw u.sign (omega (arith, u.near)) }
    go z true u e = record { fine = u.fine; near = λ E k. rw u.sign (omega (arith, u.near)) }

less : (X Y H : ℕ) → X + Y ≤ H → X - Y ≤ H
less X Y H h = omega arith

pos_neg : (b : Bool) (X Y : ℕ) → X + Y ≤ 2 ^ 1023 * L → (T b → X < Y) → (T (not b) → Y ≤ X) → Rounds (X + 0) (0 + Y) (cond b (round binary64 true (Y - X) L) (round binary64 false (X - Y) L))
pos_neg true X Y h f g = let l : X < Y = f tt in signed true (Y - X) (X + 0) (0 + Y) (less Y X _ (rw (add_comm X Y) at h)) (omega arith)
pos_neg false X Y h f g = let l : Y ≤ X = g tt in signed false (X - Y) (X + 0) (0 + Y) (less X Y _ h) (omega arith)

neg_pos : (b b' : Bool) (X Y : ℕ) → X + Y ≤ 2 ^ 1023 * L → (T b → X < Y) → (T (not b) → Y ≤ X) → (T (not b') → X ≤ Y) → Rounds (0 + Y) (X + 0) (cond b (round binary64 false (Y - X) L) (round binary64 b' (X - Y) L))
neg_pos true b' X Y h f g g' = let l : X < Y = f tt in signed false (Y - X) (0 + Y) (X + 0) (less Y X _ (rw (add_comm X Y) at h)) (omega arith)
neg_pos false true X Y h f g g' = let l : Y ≤ X = g tt in signed true (X - Y) (0 + Y) (X + 0) (less X Y _ h) (omega arith)
neg_pos false false X Y h f g g' = let l : Y ≤ X = g tt in let k : X ≤ Y = g' tt in signed false (X - Y) (0 + Y) (X + 0) (less X Y _ h) (omega arith)

sum_near : (s t : Bool) (X Y : ℕ) → X + Y ≤ 2 ^ 1023 * L → Rounds (pl s X + pl t Y) (mi s X + mi t Y) (sum binary64 s X t Y L)
unfolding sum
sum_near false false X Y h = signed false (X + Y) (X + Y) (0 + 0) h (omega arith)
sum_near true true X Y h = signed true (X + Y) (0 + 0) (X + Y) h (omega arith)
sum_near false true X Y h = pos_neg (ltb X Y) X Y h (ltb→lt X Y) (nltb→le X Y)
sum_near true false X Y h = neg_pos (ltb X Y) (ltb Y X) X Y h (ltb→lt X Y) (nltb→le X Y) (nltb→le Y X)

pub add_near : (x y : Float) → Fin64 x → Fin64 y → mag x + mag y ≤ 2 ^ 1023 * L → Rounds (plus x + plus y) (minus x + minus y) (add binary64 x y)
add_near x y p q h = rw (add_units x y p q) (sum_near (sgn x) (sgn y) (mag x) (mag y) h)
