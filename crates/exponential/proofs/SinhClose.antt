-- The hyperbolic sine is as near as RULES, section 3, asks: sinh-near. And exactly 0 at 0: sinh-zero. Assumes nothing.
use mathlib.Core.Path.{◌≡◌, refl, sym, ap, ◌∙◌, subst}
use mathlib.Core.Bool.{Bool, true, false, not, cond}
use Prim.Native.Nat.{ℕ, ◌+◌, ◌-◌, ◌*◌, ◌^◌, ◌≤◌}
use native.Mathlib.Nat.{mul-le-mul_right, mul-pos}
use native.Mathlib.Omega.{arith, sub_cases}
use lib.Dec.{T}
use lib.Pow.{pow_pos}
use lib.IntN.{ℤ, pos}
use lib.Ieee as Ieee
use lib.Ieee.{Float, binary64, of_bits, to_bits, fits}
use Rattle.exact.specs.Units.{L, mag, sgn, Fin64}
use Rattle.exact.proofs.Units.{L_pos}
use Rattle.exact.specs.Value.{val}
use Rattle.exact.specs.Integers.{n}
use Rattle.exact.proofs.Positives.{neg_mag, neg_fine, neg_sign}
use Rattle.series.specs.Exponential.{num, den}
use Rattle.series.specs.Remainder.{Above, Under}
use Rattle.series.specs.ExpNear.{AtMost, AtLeast}
use Rattle.series.specs.SinhNear.{SinhAtMost, SinhAtLeast, SinhNear}
use Rattle.answers.specs.Range.{in_range}
use Rattle.exponential.specs.Worked.{low, high, Sized, nearest_of, rest_of, series_of, scale_bits, times_of, exp_of}
use Rattle.exponential.specs.Sinh.{size_of, growth_of, half_of, sinh_of}
use Rattle.exponential.proofs.Close.{Close, exp_close}
use Rattle.exponential.proofs.Near.{ranged_finite, ranged_mag}
use Rattle.exponential.proofs.Growth.{at_least_one}
use Rattle.exponential.proofs.HalfDifference.{Joint, squares, half_near}

-- ---- over whole numbers: M is the growth, H the half difference, t is M^2 - l^2; G is 2^48 and K is G + 1, P is 2^45
-- the coefficients
first₁ : (G K P o : ℕ) → K ≡ G + 1 → P ≡ o + 1 → 2 * P ≤ G → K * K * o + P * K ≤ P * (G * K)
first₁ G K P o k p h = let j : K * o + P ≤ P * G = rw (k, p) (omega (arith, rw p at h)) in omega (arith, mul-le-mul_right K j)

first₂ : (G K P o : ℕ) → K ≡ G + 1 → P ≡ o + 1 → 2 * P ≤ G → (2 * G + 1) * o + 2 * (P * K) ≤ 2 * (G * K)
first₂ G K P o k p h = rw (k, p) (omega (arith, mul-le-mul_right G (rw p at h)))

split : (G K o : ℕ) → K ≡ G + 1 → K * K * o ≡ G * G * o + (2 * G + 1) * o
split G K o k = rw k (omega arith)

-- the sum, with opaque coefficients: n is l^2 and m is M l
upper_sum : (t n m MH c c' e A A' B : ℕ) → t * A' ≤ 2 * MH * A' + (2 * m + t) * B → c + B ≤ A' → c ≡ c' + e → e + 2 * B ≤ 2 * A → n ≤ m → (t + n) * c ≤ n * c' + 2 * (MH * A') + 2 * (m * A)
upper_sum t n m MH c c' e A A' B h k s j l =
    omega (arith, mul-le-mul_right t k, mul-le-mul_right m j, mul-le-mul_right e l, ap (λ v. n * v) s)

upper : (M l H t G K P o : ℕ) → K ≡ G + 1 → P ≡ o + 1 → t + l * l ≡ M * M → l ≤ M → 2 * P ≤ G → t * G ≤ 2 * M * H * G + (2 * M * l + t)
    → M * K * (M * K) * (l * o) ≤ l * G * (l * G) * (l * o) + 2 * (H * P + l) * (M * K * (l * G))
upper M l H t G K P o k p s lm pg h =
    let u = upper_sum t (l * l) (M * l) (M * H) (K * K * o) (G * G * o) ((2 * G + 1) * o) (G * K) (P * (G * K)) (P * K)
    (omega (arith, mul-le-mul_right (P * K) h)) (first₁ G K P o k p pg) (split G K o k) (first₂ G K P o k p pg) (mul-le-mul_right l lm) in
    omega (arith, mul-le-mul_right l (rw s at u))

second₁ : (G K P : ℕ) → K ≡ G + 1 → 1 ≤ P → 4 * P ≤ G → P * (G * K) + P * K ≤ G * G * (P + 1)
second₁ G K P k p h = let g : 1 ≤ G = omega arith in rw k (omega (arith, mul-le-mul_right G h, mul-le-mul_right P g))

second₂ : (G K P : ℕ) → K ≡ G + 1 → 1 ≤ P → 4 * P ≤ G → (2 * G + 1) * (P + 1) + 2 * (P * K) ≤ 2 * (G * K)
second₂ G K P k p h = let g : 1 ≤ G = omega arith in rw k (omega (arith, mul-le-mul_right G h, mul-le-mul_right G g))

lower_sum : (t n m MH c c' e A A' B : ℕ) → 2 * MH * A' ≤ t * A' + (2 * m + t) * B → A' + B ≤ c' → c ≡ c' + e → e + 2 * B ≤ 2 * A → n ≤ m → 2 * (MH * A') + n * c ≤ (t + n) * c' + 2 * (m * A)
lower_sum t n m MH c c' e A A' B h k s j l =
    omega (arith, mul-le-mul_right t k, mul-le-mul_right m j, mul-le-mul_right e l, ap (λ v. n * v) s)

lower : (M l H v t G K P : ℕ) → K ≡ G + 1 → 1 ≤ P → t + l * l ≡ M * M → l ≤ M → 4 * P ≤ G → v + l ≡ H * P → 2 * M * H * G ≤ t * G + (2 * M * l + t)
    → 2 * v * (M * G * (l * K)) + l * K * (l * K) * (l * (P + 1)) ≤ M * G * (M * G) * (l * (P + 1))
lower M l H v t G K P k p s lm pg w h =
    let u = lower_sum t (l * l) (M * l) (M * H) (K * K * (P + 1)) (G * G * (P + 1)) ((2 * G + 1) * (P + 1)) (G * K) (P * (G * K)) (P * K)
    (omega (arith, mul-le-mul_right (P * K) h)) (second₁ G K P k p pg) (split G K (P + 1) k) (second₂ G K P k p pg) (mul-le-mul_right l lm) in
    shape (P + 1) (rw s at u)
  where
    shape : (R : ℕ) → 2 * (M * H * (P * (G * K))) + l * l * (K * K * R) ≤ M * M * (G * G * R) + 2 * (M * l * (G * K)) → 2 * v * (M * G * (l * K)) + l * K * (l * K) * (l * R) ≤ M * G * (M * G) * (l * R)
    shape R u = omega (arith, mul-le-mul_right l u, ap (λ z. z * (2 * (M * G * (l * K)))) w)

-- ---- the bounds, from those on the growth and the half difference
by_32 : (a b c : ℕ) → a * 2 ^ 53 ≤ b * 2 ^ 53 + 32 * c → a * 2 ^ 48 ≤ b * 2 ^ 48 + c
by_32 a b c h = omega arith

-- exp is at least 1
one_under : (a q : ℕ) → Under a q 1 1
unfolding num den
one_under a q = (0, omega arith)

zero_value : (v w : ℕ) → v ≡ 0 → 2 * v * (1 * 1) + 1 * 1 * w ≤ 1 * 1 * w
zero_value v w e = rw e (omega arith)

module _ (a : ℕ) (g h : Float) (lo : L ≤ mag g) (A : Above a L (mag g * (2 ^ 48 + 1)) (L * 2 ^ 48)) (B : Under a L (mag g * 2 ^ 48) (L * (2 ^ 48 + 1))) (J : Joint (mag g) (mag h) (mag g * mag g - L * L) L (2 ^ 53)) where
  at_most : SinhAtMost a L (mag h * 2 ^ 45 + L) (L * (2 ^ 45 - 1))
  at_most = record {
    x = mag g * (2 ^ 48 + 1);
    y = L * 2 ^ 48;
    positive = mul-pos L_pos (pow_pos 48);
    bound = A;
    value = upper (mag g) L (mag h) (mag g * mag g - L * L) (2 ^ 48) (2 ^ 48 + 1) (2 ^ 45) (2 ^ 45 - 1) refl refl (squares (mag g) L lo) lo (omega arith)
        (by_32 (mag g * mag g - L * L) (2 * mag g * mag h) (2 * mag g * L + (mag g * mag g - L * L)) J.low);
  }

  at_least : SinhAtLeast a L (mag h * 2 ^ 45 - L) (L * (2 ^ 45 + 1))
  at_least = sub_cases (mag h * 2 ^ 45) L (SinhAtLeast a L (mag h * 2 ^ 45 - L) (L * (2 ^ 45 + 1)))
      (λ k e. record {
        x = mag g * 2 ^ 48;
        y = L * (2 ^ 48 + 1);
        positive = mul-pos L_pos (omega arith);
        bound = B;
        value = lower (mag g) L (mag h) (mag h * 2 ^ 45 - L) (mag g * mag g - L * L) (2 ^ 48) (2 ^ 48 + 1) (2 ^ 45) refl (pow_pos 45) (squares (mag g) L lo) lo (omega arith) e
            (by_32 (2 * mag g * mag h) (mag g * mag g - L * L) (2 * mag g * L + (mag g * mag g - L * L)) J.high);
      })
      (λ k e. record {
        x = 1;
        y = 1;
        positive = omega arith;
        bound = one_under a L;
        value = zero_value (mag h * 2 ^ 45 - L) (L * (2 ^ 45 + 1)) e;
      })

-- ---- the growth
pub record Grown (a : ℕ) (g : Float) : Type 0 where
  pub fine : Fin64 g
  pub sign : sgn g ≡ false
  pub above : Above a L (mag g * (2 ^ 48 + 1)) (L * 2 ^ 48)
  pub below : Under a L (mag g * 2 ^ 48) (L * (2 ^ 48 + 1))
  pub least : L ≤ mag g
  pub most : mag g ≤ 2 ^ 1012 * L

sized : (x : Float) → Fin64 x → (b : Bool) → sgn x ≡ b → let w = cond b (Ieee.neg x) x in Fin64 w × (mag w ≡ mag x) × (sgn w ≡ false)
sized x f false e = (f, refl, e)
sized x f true e = (neg_fine x f, neg_mag x, neg_sign x f ∙ ap not e)

pub size_has : (x : Float) → Fin64 x → Fin64 (size_of x) × (mag (size_of x) ≡ mag x) × (sgn (size_of x) ≡ false)
size_has x f = sized x f (sgn x) refl

val_plus : (w : Float) (a : ℕ) → sgn w ≡ false → mag w ≡ a → val w ≡ pos a
unfolding val
val_plus w a s m = rw (s, m)

grown_of : (a : ℕ) (z : ℤ) (g : Float) → z ≡ pos a → L ≤ mag g → Close z g → Grown a g
grown_of a z g e l K = record {
  fine = K.fine;
  sign = K.sign;
  above = subst (λ (v : ℤ). AtMost v L (mag g * (2 ^ 48 + 1)) (L * 2 ^ 48)) e K.above;
  below = subst (λ (v : ℤ). AtLeast v L (mag g * 2 ^ 48) (L * (2 ^ 48 + 1))) e K.below;
  least = l;
  most = K.most;
}

pub grown : (x : Float) → T (fits binary64 x) → in_range low high x ≡ true → Grown (mag x) (growth_of x)
unfolding growth_of
grown x f r =
    let F = ranged_finite x f r in
    let w = size_of x in
    let S = size_has x F in
    let l = subst (λ (v : ℕ). v ≤ 700 * L) (sym S.1) (ranged_mag x f r) in
    let v : val w ≡ pos (mag x) = val_plus w (mag x) S.2 S.1 in
    grown_of (mag x) (val w) (exp_of w) v (at_least_one w S.0 l (ap n v)) (exp_close w S.0 l)

pub size_sized : (x : Float) → T (fits binary64 x) → in_range low high x ≡ true → Sized (size_of x)
size_sized x f r = let S = size_has x (ranged_finite x f r) in (S.0.0, subst (λ (v : ℕ). v ≤ 700 * L) (sym S.1) (ranged_mag x f r))

-- ---- with the sign
signed : (x h : Float) (s : Bool) → sgn x ≡ s → Fin64 h → sgn h ≡ false → SinhAtMost (mag x) L (mag h * 2 ^ 45 + L) (L * (2 ^ 45 - 1)) → SinhAtLeast (mag x) L (mag h * 2 ^ 45 - L) (L * (2 ^ 45 + 1))
    → SinhNear x (cond s (Ieee.neg h) h)
signed x h false e f g A B = record { fine = f; sign = g ∙ sym e; above = A; below = B }
signed x h true e f g A B = record {
  fine = neg_fine h f;
  sign = neg_sign h f ∙ ap not g ∙ sym e;
  above = rw (neg_mag h) A;
  below = rw (neg_mag h) B;
}

pub sinh_near : (x : Float) → T (fits binary64 x) → in_range low high x ≡ true → SinhNear x (sinh_of x)
unfolding sinh_of
sinh_near x f r =
    let g = growth_of x in
    let G = grown x f r in
    let H = half_near g G.fine G.sign G.least G.most in
    signed x (half_of g) (sgn x) refl H.fine H.sign (at_most (mag x) g (half_of g) G.least G.above G.below H.joint) (at_least (mag x) g (half_of g) G.least G.above G.below H.joint)

pub sinh_zero : (sinh_of (of_bits binary64 0) ≡ of_bits binary64 0) × (sinh_of (of_bits binary64 0x8000_0000_0000_0000) ≡ of_bits binary64 0x8000_0000_0000_0000)
unfolding sinh_of half_of growth_of exp_of nearest_of rest_of series_of scale_bits times_of of_bits to_bits Ieee.add Ieee.mul Ieee.sub Ieee.div Ieee.neg
sinh_zero = (refl, refl)
