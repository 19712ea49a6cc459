-- The Rankine branches on sorted strains: how near the yield surface each comes
use mathlib.Core.Path.{◌≡◌, refl, sym, ap, ◌∙◌}
use Prim.Native.Nat.{ℕ, ◌+◌, ◌*◌, ◌^◌, ◌≤◌, ◌<◌}
use native.Mathlib.Nat.{le_refl, le_trans, le_of_eq, mul-le-mul_right, mul-le-mul_left, le_of_mul-le-mul_right}
use native.Mathlib.Omega.{arith}
use lib.Dec.{T, leb, leb→le, lit≤}
use lib.IntN.{ℤ, pos, negsuc, neg_ℤ, ◌+ℤ◌, ◌*ℤ◌, ◌-ℤ◌}
use lib.Ieee.{Float, binary64, add, sub, mul, div, le, fits, of_bits}
use Rattle.exact.specs.Units.{L, mag, Fin64}
use Rattle.exact.proofs.Units.{L_pos}
use Rattle.exact.specs.Integers.{n, ◌≤ᶻ◌, abs}
use Rattle.exact.proofs.Integers.{abs-+, abs_neg, abs_pos, *-parts}
use Rattle.exact.proofs.Ring.{ring, var, con, ◌:+◌, ◌:-◌, ◌:*◌}
use Rattle.exact.specs.Value.{val}
use Rattle.exact.proofs.Value.{abs_val}
use Rattle.exact.proofs.OrderLe.{le_val}
use Rattle.walk.specs.Expr.{num, value}
use Rattle.plasticity_rankine.specs.declared.RankinePlasticity.{RankinePlasticity}
use Rattle.plasticity_rankine.specs.declared.Sorted.{Sorted}
use Rattle.plasticity_rankine.specs.Sorting.{sorted_of}
use Rattle.plasticity_rankine.specs.Projection.{two, thrice, first_side, second_side, third_side, back_one, back_two, back_all}
use Rattle.rankine_surface.specs.Surface.{modulus_in, modulus, demanded, Under, FairIn, Fair, Strain}
use Rattle.rankine_surface.proofs.Scale.{On, also, wide, tight, reach, loose, down, add_on, sub_on, mul_on, div_on, Scale, Scales, exact, whole, L_big}
use Rattle.rankine_surface.proofs.Bounds.{times_le, plus_le, near_under, under_up, under_down, mean}

infixl 6 ◌⊕◌
infixl 6 ◌⊖◌
infixl 7 ◌⊗◌
infixl 7 ◌⊘◌
abbrev pub ◌⊕◌ : Float → Float → Float
x ⊕ y = add binary64 x y

abbrev pub ◌⊖◌ : Float → Float → Float
x ⊖ y = sub binary64 x y

abbrev pub ◌⊗◌ : Float → Float → Float
x ⊗ y = mul binary64 x y

abbrev pub ◌⊘◌ : Float → Float → Float
x ⊘ y = div binary64 x y

-- low ≤ mid ≤ high are e0, e1, e2 in some order
pub record Upwards (e0 e1 e2 : Float) (r : Sorted) : Type 0 where
  pub first : Strain e0
  pub second : Strain e1
  pub third : Strain e2
  pub low : Strain r.low
  pub mid : Strain r.mid
  pub high : Strain r.high
  pub low_mid : val r.low ≤ᶻ val r.mid
  pub mid_high : val r.mid ≤ᶻ val r.high
  pub sum : val e0 +ℤ val e1 +ℤ val e2 ≡ val r.low +ℤ val r.mid +ℤ val r.high

-- the exact principal stress that belongs to w
abbrev pub principal : RankinePlasticity → Sorted → Float → ℤ
principal law r w = val law.lambda *ℤ (val r.low +ℤ val r.mid +ℤ val r.high) +ℤ pos 2 *ℤ val law.mu *ℤ val w

pub record Held (law : RankinePlasticity) (s : Float) (r : Sorted) : Type 0 where
  pub low : Under demanded (principal law r r.low) (val s *ℤ pos L) (modulus law * L)
  pub mid : Under demanded (principal law r r.mid) (val s *ℤ pos L) (modulus law * L)
  pub high : Under demanded (principal law r r.high) (val s *ℤ pos L) (modulus law * L)

-- finite, and in -40 to 40, where both exp and ln of it answer
pub record Bounded (x : Float) : Type 0 where
  pub fine : Fin64 x
  pub size : mag x ≤ 40 * L

pub record OnYield (law : RankinePlasticity) (s : Float) (r : Sorted) : Type 0 where
  pub low : Bounded r.low
  pub mid : Bounded r.mid
  pub high : Bounded r.high
  pub held : Held law s r
  pub reaches : Under demanded (val s *ℤ pos L) (principal law r r.high) (modulus law * L)

-- ---- whole numbers only
-- mu is m, lambda is l, and the strains sum up to S: the stress of w
abbrev pub stress_at : ℕ → ℕ → ℤ → ℤ → ℤ
stress_at m l S w = pos l *ℤ S +ℤ pos (2 * m) *ℤ w

pub stress_mono : (m l : ℕ) (S v w : ℤ) → v ≤ᶻ w → stress_at m l S v ≤ᶻ stress_at m l S w
stress_mono m l S v w h = plus_le (pos l *ℤ S) (pos l *ℤ S) (pos (2 * m) *ℤ v) (pos (2 * m) *ℤ w) (le_refl _) (go v w (2 * m) h)
  where
    go : (v w : ℤ) (k : ℕ) → v ≤ᶻ w → pos k *ℤ v ≤ᶻ pos k *ℤ w
    go v w k h = omega (arith, *-parts (pos k) v, *-parts (pos k) w, mul-le-mul_left k h)

-- in however many axes the k highest strains became z: R is the sum of the others
module _ (k m l D : ℕ) (R S z σ : ℤ) (divisor : D ≡ 2 * m + k * l) (sum : S ≡ R +ℤ pos k *ℤ z) where
  pub highest : (K e : ℕ) → abs (z *ℤ pos D -ℤ (σ -ℤ pos l *ℤ R)) * 2 ^ 53 ≤ e * K → T (leb e 512)
      → Under demanded (stress_at m l S z) σ K × Under demanded σ (stress_at m l S z) K
  highest K e h t = near_under (stress_at m l S z) σ e K (rw same at h) t
    where
      same : z *ℤ pos D -ℤ (σ -ℤ pos l *ℤ R) ≡ stress_at m l S z -ℤ σ
      same =
          rw (divisor, sum)
          (ring 6 (pos m, (pos l, (pos k, (R, (z, (σ, tt)))))) (var 4 :* (con (pos 2) :* var 0 :+ var 2 :* var 1) :- (var 5 :- var 1 :* var 3))
          (var 1 :* (var 3 :+ var 2 :* var 4) :+ con (pos 2) :* var 0 :* var 4 :- var 5) tt)

  -- one that was not moved, b: its stress is a mean of a moved one's and of the side of its test
  pub unmoved : (K : ℕ) (b : ℤ) → 0 < m → Under demanded (stress_at m l S z) σ K → Under demanded (pos D *ℤ b +ℤ pos l *ℤ R) σ K
      → Under demanded (stress_at m l S b) σ K
  unmoved K b o h i = mean (stress_at m l S z) (pos D *ℤ b +ℤ pos l *ℤ R) (stress_at m l S b) σ (k * l) (2 * m) K (omega arith) weights h i
    where
      weights : stress_at m l S b *ℤ pos (k * l + 2 * m) ≡ stress_at m l S z *ℤ pos (k * l) +ℤ (pos D *ℤ b +ℤ pos l *ℤ R) *ℤ pos (2 * m)
      weights =
          rw (divisor, sum)
          (ring 6 (pos m, (pos l, (pos k, (R, (z, (b, tt))))))
          ((var 1 :* (var 3 :+ var 2 :* var 4) :+ con (pos 2) :* var 0 :* var 5) :* (var 2 :* var 1 :+ con (pos 2) :* var 0))
          ((var 1 :* (var 3 :+ var 2 :* var 4) :+ con (pos 2) :* var 0 :* var 4) :* (var 2 :* var 1)
          :+ ((con (pos 2) :* var 0 :+ var 2 :* var 1) :* var 5 :+ var 1 :* var 3) :* (con (pos 2) :* var 0))
          tt)

-- all k became z
pub levelled : (k m l D K e : ℕ) (S z σ : ℤ) → D ≡ 2 * m + k * l → S ≡ pos k *ℤ z → abs (z *ℤ pos D -ℤ σ) * 2 ^ 53 ≤ e * K → T (leb e 512)
    → Under demanded (stress_at m l S z) σ K × Under demanded σ (stress_at m l S z) K
levelled k m l D K e S z σ divisor sum h t = near_under (stress_at m l S z) σ e K (rw same at h) t
  where
    same : z *ℤ pos D -ℤ σ ≡ stress_at m l S z -ℤ σ
    same =
        rw (divisor, sum)
        (ring 5 (pos m, (pos l, (pos k, (z, (σ, tt))))) (var 3 :* (con (pos 2) :* var 0 :+ var 2 :* var 1) :- var 4)
        (var 1 :* (var 2 :* var 3) :+ con (pos 2) :* var 0 :* var 3 :- var 4) tt)

-- ---- three axes
abbrev P : ℕ → ℕ → ℤ → ℤ → ℤ → ℤ → ℤ
P m l x y z w = stress_at m l (x +ℤ y +ℤ z) w

record Four (m l K : ℕ) (x y z σ : ℤ) : Type 0 where
  low : Under demanded (P m l x y z x) σ K
  mid : Under demanded (P m l x y z y) σ K
  high : Under demanded (P m l x y z z) σ K
  reaches : Under demanded σ (P m l x y z z) K

one_moved : (m l K e : ℕ) (c b z σ : ℤ) → 0 < m → abs (z *ℤ pos (2 * m + l) -ℤ (σ -ℤ pos l *ℤ (c +ℤ b))) * 2 ^ 53 ≤ e * K → T (leb e 512)
    → Under demanded (pos (2 * m + l) *ℤ b +ℤ pos l *ℤ (c +ℤ b)) σ K → c ≤ᶻ b → Four m l K c b z σ
one_moved m l K e c b z σ o h t k w =
    let S = c +ℤ b +ℤ z in
    let d : 2 * m + l ≡ 2 * m + 1 * l = omega arith in
    let q : S ≡ c +ℤ b +ℤ pos 1 *ℤ z = ring 3 (c, (b, (z, tt))) (var 0 :+ var 1 :+ var 2) (var 0 :+ var 1 :+ con (pos 1) :* var 2) tt in
    let n = highest 1 m l (2 * m + l) (c +ℤ b) S z σ d q K e h t in
    let mb = unmoved 1 m l (2 * m + l) (c +ℤ b) S z σ d q K b o n.0 k in
    record { low = under_down (P m l c b z c) (P m l c b z b) σ K (stress_mono m l S c b w) mb; mid = mb; high = n.0; reaches = n.1 }

two_moved : (m l K e : ℕ) (c z σ : ℤ) → 0 < m → abs (z *ℤ pos (2 * m + 2 * l) -ℤ (σ -ℤ pos l *ℤ c)) * 2 ^ 53 ≤ e * K → T (leb e 512)
    → Under demanded (pos (2 * m + 3 * l) *ℤ c) σ K → Four m l K c z z σ
two_moved m l K e c z σ o h t k =
    let S = c +ℤ z +ℤ z in
    let q : S ≡ c +ℤ pos 2 *ℤ z = ring 2 (c, (z, tt)) (var 0 :+ var 1 :+ var 1) (var 0 :+ con (pos 2) :* var 1) tt in
    let side =
    ring 3 (pos m, (pos l, (c, tt))) ((con (pos 2) :* var 0 :+ con (pos 3) :* var 1) :* var 2)
    ((con (pos 2) :* var 0 :+ con (pos 2) :* var 1) :* var 2 :+ var 1 :* var 2) tt in
    let n = highest 2 m l (2 * m + 2 * l) c S z σ refl q K e h t in
    record { low = unmoved 2 m l (2 * m + 2 * l) c S z σ refl q K c o n.0 (rw side at k); mid = n.0; high = n.0; reaches = n.1 }

all_moved : (m l K e : ℕ) (z σ : ℤ) → abs (z *ℤ pos (2 * m + 3 * l) -ℤ σ) * 2 ^ 53 ≤ e * K → T (leb e 512) → Four m l K z z z σ
all_moved m l K e z σ h t =
    let q : z +ℤ z +ℤ z ≡ pos 3 *ℤ z = ring 1 (z, tt) (var 0 :+ var 0 :+ var 0) (con (pos 3) :* var 0) tt in
    let n = levelled 3 m l (2 * m + 3 * l) K e (z +ℤ z +ℤ z) z σ refl q h t in
    record { low = n.0; mid = n.0; high = n.0; reaches = n.1 }

-- ---- constants
two_val : val two ≡ pos (2 * L)
unfolding val mag L of_bits
two_val = refl

thrice_val : val thrice ≡ pos (3 * L)
unfolding val mag L of_bits
thrice_val = refl

two_fine : Fin64 two
unfolding of_bits fits
two_fine = (tt, tt)

thrice_fine : Fin64 thrice
unfolding of_bits fits
thrice_fine = (tt, tt)

mag_of : (x : Float) (k : ℕ) → val x ≡ pos k → mag x ≡ k
mag_of x k e = sym (abs_val x) ∙ ap abs e ∙ abs_pos k

pub two_on : On L 1 two (pos (2 * L)) 2 0
two_on = also two_val (whole L 2 two_fine (le_of_eq (mag_of two (2 * L) two_val)))

thrice_on : On L 1 thrice (pos (3 * L)) 3 0
thrice_on = also thrice_val (whole L 3 thrice_fine (le_of_eq (mag_of thrice (3 * L) thrice_val)))

non_neg : (x : Float) → pos 0 ≤ᶻ val x → val x ≡ pos (mag x)
non_neg x h = go (val x) h ∙ ap pos (abs_val x)
  where
    go : (z : ℤ) → pos 0 ≤ᶻ z → z ≡ pos (abs z)
    go (pos k) h = ap pos (sym (abs_pos k))
    go (negsuc k) h = absurd (omega arith)

-- a constant times a modulus
pub times_on : {k x : Float} {W m : ℕ} (c : ℕ) → L ≤ W → W ≤ 2 ^ 60 * L → c * m ≤ 1 * W → On L 1 k (pos (c * L)) c 0 → On W 1 x (pos m) 1 0
    → T (leb ((0 + c + 1) * (0 + 1 + 1)) (2 ^ 50)) → On W 1 (k ⊗ x) (pos (c * m)) 1 (0 * 1 + c * 0 + c * 1 + 3)
times_on {W = W} {m = m} c l r h i j t =
    tight 1 (rw (abs_pos (c * m)) h)
    (down c (pos m) (mul_on (record { tiny = mul-le-mul_left L (le_trans (lit≤ tt) (le_trans L_big l)); room = omega (arith, mul-le-mul_left L r) }) i j t))

-- the sum of two moduli, on its own scale
pub sum_on : {x y : Float} {A B e f : ℕ} → A + B ≤ 2 ^ 60 * L → On (A + B) 1 x (pos A) 1 e → On (A + B) 1 y (pos B) 1 f → T (leb (e + f + 1 + 1 + 2) (2 ^ 50))
    → On (A + B) 1 (x ⊕ y) (pos (A + B)) 1 (e + f + 1 + 1)
sum_on {A = A} {B = B} h i j t = add_on (record { some = lit≤ tt; room = omega arith }) 1 i j (rw (abs_pos (A + B)) (omega arith)) t

-- sizes that add up
pub add_up : {W D : ℕ} (o : Scale W D) {x y : Float} {X Y : ℤ} {B C e f : ℕ} → On W D x X B e → On W D y Y C f → T (leb (e + f + B + C + 2) (2 ^ 50))
    → On W D (x ⊕ y) (X +ℤ Y) (B + C) (e + f + (B + C) + 1)
add_up {W} o {X = X} {Y = Y} {B = B} {C = C} i j t = add_on o (B + C) i j (omega (arith, abs-+ X Y, i.size, j.size)) t

pub sub_up : {W D : ℕ} (o : Scale W D) {x y : Float} {X Y : ℤ} {B C e f : ℕ} → On W D x X B e → On W D y Y C f → T (leb (e + f + B + C + 2) (2 ^ 50))
    → On W D (x ⊖ y) (X -ℤ Y) (B + C) (e + f + (B + C) + 1)
sub_up {W} o {X = X} {Y = Y} {B = B} {C = C} i j t = sub_on o (B + C) i j (omega (arith, abs-+ X (neg_ℤ Y), abs_neg Y, i.size, j.size)) t

pub strains : Scale L 1
strains = record { some = lit≤ tt; room = omega arith }

pub strain_on : {x : Float} → Strain x → On L 1 x (val x) 4 0
strain_on i = whole L 4 i.fine i.size

module _ {d : ℕ} {law : RankinePlasticity} {s : Float} (g : FairIn d law s) where
  pub mu_is : val law.mu ≡ pos (mag law.mu)
  mu_is = non_neg law.mu (omega (arith, g.ranges.mu_low))

  pub la_is : val law.lambda ≡ pos (mag law.lambda)
  la_is = non_neg law.lambda g.ranges.la_low

  pub mu_least : L ≤ mag law.mu
  mu_least = omega (arith, rw mu_is at g.ranges.mu_low)

  pub mu_most : mag law.mu ≤ 2 ^ 40 * L
  mu_most = omega (arith, rw mu_is at g.ranges.mu_high)

  pub la_most : mag law.lambda ≤ 2 ^ 40 * L
  la_most = omega (arith, rw la_is at g.ranges.la_high)

  mu_on : (W : ℕ) → mag law.mu ≤ 1 * W → On W 1 law.mu (pos (mag law.mu)) 1 0
  mu_on W h = also mu_is (whole W 1 g.mu_fine h)

  la_on : (W : ℕ) → mag law.lambda ≤ 1 * W → On W 1 law.lambda (pos (mag law.lambda)) 1 0
  la_on W h = also la_is (whole W 1 g.la_fine h)

  -- the thrice divisors
  pub den1 : On (2 * mag law.mu + mag law.lambda) 1 (two ⊗ law.mu ⊕ law.lambda) (pos (2 * mag law.mu + mag law.lambda)) 1 7
  den1 = let W = 2 * mag law.mu + mag law.lambda in
      sum_on (omega (arith, mu_most, la_most))
      (times_on 2 (omega (arith, mu_least)) (omega (arith, mu_most, la_most)) (omega arith) two_on (mu_on W (omega arith)) tt) (la_on W (omega arith)) tt

  pub den2 : On (2 * mag law.mu + 2 * mag law.lambda) 1 (two ⊗ law.mu ⊕ two ⊗ law.lambda) (pos (2 * mag law.mu + 2 * mag law.lambda)) 1 12
  den2 = let W = 2 * mag law.mu + 2 * mag law.lambda in
      sum_on (omega (arith, mu_most, la_most))
      (times_on 2 (omega (arith, mu_least)) (omega (arith, mu_most, la_most)) (omega arith) two_on (mu_on W (omega arith)) tt)
      (times_on 2 (omega (arith, mu_least)) (omega (arith, mu_most, la_most)) (omega arith) two_on (la_on W (omega arith)) tt) tt

-- scales, in two or three axes
module _ {d : ℕ} (some_axes : T (leb 2 d)) (few : T (leb d 3)) {law : RankinePlasticity} {s : Float} (g : FairIn d law s) where
  wider : 2 * mag law.lambda ≤ d * mag law.lambda
  wider = mul-le-mul_right (mag law.lambda) (leb→le 2 d some_axes)

  pub M_room : modulus_in d law ≤ 2 ^ 60 * L
  M_room = omega (arith, mu_most g, la_most g, mul-le-mul_right (mag law.lambda) (leb→le d 3 few))

  pub stress : Scale (modulus_in d law * L) L
  stress = record { some = L_pos; room = omega (arith, mul-le-mul_right L M_room) }

  pub products : Scales (modulus_in d law) L
  products =
      record {
        tiny = omega (arith, mul-le-mul_right {m = 2 ^ 53} L (le_trans (lit≤ tt) (le_trans L_big (mu_least g))));
        room = omega (arith, mul-le-mul_right L M_room);
      }

  pub s_on : On (modulus_in d law * L) L s (val s *ℤ pos L) 4 0
  s_on = exact (modulus_in d law * L) L 4 g.s_fine (omega (arith, mul-le-mul_right L g.ranges.s_size))

  pub mu2_on : On (modulus_in d law) 1 (two ⊗ law.mu) (pos (2 * mag law.mu)) 1 5
  mu2_on = times_on 2 (omega (arith, mu_least g)) M_room (omega arith) two_on (mu_on g (modulus_in d law) (omega arith)) tt

  pub la_M : On (modulus_in d law) 1 law.lambda (pos (mag law.lambda)) 1 0
  la_M = la_on g (modulus_in d law) (omega (arith, wider))

  pub den1_M : On (modulus_in d law) 1 (two ⊗ law.mu ⊕ law.lambda) (pos (2 * mag law.mu + mag law.lambda)) 1 7
  den1_M = wide (modulus_in d law) (omega (arith, wider)) (den1 g)

  -- a test that passed
  pub tested : {t : Float} {X : ℤ} {B e : ℕ} → On (modulus_in d law * L) L t X B e → T (leb e 512) → T (le t s)
      → Under demanded X (val s *ℤ pos L) (modulus_in d law * L)
  tested {t} {X} {B} {e} i c h =
      let K = modulus_in d law * L in
      under_up X (val t *ℤ pos L) (val s *ℤ pos L) K (near_under (val t *ℤ pos L) X e K i.near c).1
      (times_le (val t) (val s) L (le_val t s i.fine g.s_fine h))

  -- a quotient by a divisor that is at least a third of the modulus
  pub worked : {z : Float} {X : ℤ} {B e : ℕ} (D : ℕ) → modulus_in d law ≤ 3 * D → 0 < D → On (modulus_in d law * L) D z X B e → T (leb B 12) → T (leb e 512)
      → Bounded z
  worked {z} {B = B} {e = e} D h o i b c =
      record { fine = i.fine; size = go (mag z) (modulus_in d law) (leb→le B 12 b) h (reach i (le_trans (leb→le e 512 c) (lit≤ tt))) }
    where
      go : (m M : ℕ) → B ≤ 12 → M ≤ 3 * D → m * D ≤ (B + 1) * (M * L) → m ≤ 40 * L
      go m M b h k = le_of_mul-le-mul_right {k = D} (omega (arith, mul-le-mul_right (M * L) b, mul-le-mul_right L h)) o

-- a strain that came
pub came : {x : Float} → Strain x → Bounded x
came i = record { fine = i.fine; size = le_trans i.size (mul-le-mul_right L (lit≤ tt)) }

module _ {law : RankinePlasticity} {s : Float} (g : Fair law s) where
  den3 : On (modulus law) 1 (two ⊗ law.mu ⊕ thrice ⊗ law.lambda) (pos (modulus law)) 1 13
  den3 = let W = modulus law in
      sum_on (omega (arith, mu_most g, la_most g))
      (times_on 2 (omega (arith, mu_least g)) (omega (arith, mu_most g, la_most g)) (omega arith) two_on (mu_on g W (omega arith)) tt)
      (times_on 3 (omega (arith, mu_least g)) (omega (arith, mu_most g, la_most g)) (omega arith) thrice_on (la_on g W (omega arith)) tt) tt

  module _ {e0 e1 e2 : Float} {r : Sorted} (d : Upwards e0 e1 e2 r) where
    S_on : On L 1 (e0 ⊕ e1 ⊕ e2) (val r.low +ℤ val r.mid +ℤ val r.high) 12 22
    S_on = also d.sum (add_up strains (add_up strains (strain_on d.first) (strain_on d.second) tt) (strain_on d.third) tt)

    Sa_on : On L 1 (e0 ⊕ e1 ⊕ e2 ⊖ r.high) (val r.low +ℤ val r.mid) 8 31
    Sa_on =
        let q = ring 3 (val r.low, (val r.mid, (val r.high, tt))) (var 0 :+ var 1 :+ var 2 :- var 2) (var 0 :+ var 1) tt in
        also q
        (sub_on strains 8 S_on (strain_on d.high)
        (rw q (omega (arith, abs-+ (val r.low) (val r.mid), abs_val r.low, abs_val r.mid, d.low.size, d.mid.size))) tt)

    Sab_on : On L 1 (e0 ⊕ e1 ⊕ e2 ⊖ r.high ⊖ r.mid) (val r.low) 4 36
    Sab_on =
        let q = ring 2 (val r.low, (val r.mid, tt)) (var 0 :+ var 1 :- var 1) (var 0) tt in
        also q (sub_on strains 4 Sa_on (strain_on d.mid) (rw q (omega (arith, abs_val r.low, d.low.size))) tt)

    -- the tests, and the quotients
    t1_on : On (modulus law * L) L (law.lambda ⊗ (e0 ⊕ e1 ⊕ e2) ⊕ two ⊗ law.mu ⊗ r.high)
        (pos (mag law.lambda) *ℤ (val r.low +ℤ val r.mid +ℤ val r.high) +ℤ pos (2 * mag law.mu) *ℤ val r.high) 16 81
    t1_on = add_up (stress tt tt g) (mul_on (products tt tt g) (la_M tt tt g) S_on tt) (mul_on (products tt tt g) (mu2_on tt tt g) (strain_on d.high) tt) tt

    t2_on : On (modulus law * L) L ((two ⊗ law.mu ⊕ law.lambda) ⊗ r.mid ⊕ law.lambda ⊗ (e0 ⊕ e1 ⊕ e2 ⊖ r.high))
        (pos (2 * mag law.mu + mag law.lambda) *ℤ val r.mid +ℤ pos (mag law.lambda) *ℤ (val r.low +ℤ val r.mid)) 12 90
    t2_on = add_up (stress tt tt g) (mul_on (products tt tt g) (den1_M tt tt g) (strain_on d.mid) tt) (mul_on (products tt tt g) (la_M tt tt g) Sa_on tt) tt

    q1 : On (modulus law * L) (2 * mag law.mu + mag law.lambda) ((s ⊖ law.lambda ⊗ (e0 ⊕ e1 ⊕ e2 ⊖ r.high)) ⊘ (two ⊗ law.mu ⊕ law.lambda))
        (val s *ℤ pos L -ℤ pos (mag law.lambda) *ℤ (val r.low +ℤ val r.mid)) 12 309
    q1 = div_on (M_room tt tt g) (omega (arith, mu_least g)) (omega arith) (sub_up (stress tt tt g) (s_on tt tt g) (mul_on (products tt tt g) (la_M tt tt g) Sa_on tt) tt) (loose 16 tt (den1 g)) tt

    t3_on : On (modulus law * L) L ((two ⊗ law.mu ⊕ thrice ⊗ law.lambda) ⊗ r.low) (pos (modulus law) *ℤ val r.low) 4 59
    t3_on = mul_on (products tt tt g) den3 (strain_on d.low) tt

    q2 : On (modulus law * L) (2 * mag law.mu + 2 * mag law.lambda)
        ((s ⊖ law.lambda ⊗ (e0 ⊕ e1 ⊕ e2 ⊖ r.high ⊖ r.mid)) ⊘ (two ⊗ law.mu ⊕ two ⊗ law.lambda))
        (val s *ℤ pos L -ℤ pos (mag law.lambda) *ℤ val r.low) 8 238
    q2 = div_on (M_room tt tt g) (omega (arith, mu_least g)) (omega arith) (sub_up (stress tt tt g) (s_on tt tt g) (mul_on (products tt tt g) (la_M tt tt g) Sab_on tt) tt) (loose 16 tt (den2 g)) tt

    q3 : On (modulus law * L) (modulus law) (s ⊘ (two ⊗ law.mu ⊕ thrice ⊗ law.lambda)) (val s *ℤ pos L) 4 118
    q3 = div_on (M_room tt tt g) (omega (arith, mu_least g)) (omega arith) (s_on tt tt g) (loose 16 tt den3) tt

  yields : {r : Sorted} → Bounded r.low → Bounded r.mid → Bounded r.high
      → Four (mag law.mu) (mag law.lambda) (modulus law * L) (val r.low) (val r.mid) (val r.high) (val s *ℤ pos L) → OnYield law s r
  yields a b c f =
      record {
        low = a;
        mid = b;
        high = c;
        held = record
            { low = rw (mu_is g, la_is g) f.low; mid = rw (mu_is g, la_is g) f.mid; high = rw (mu_is g, la_is g) f.high };
        reaches = rw (mu_is g, la_is g) f.reaches;
      }

  module _ {e0 e1 e2 : Float} {r : Sorted} (d : Upwards e0 e1 e2 r) where
    pub untouched : T (le (value (first_side law (num (e0 ⊕ e1 ⊕ e2)) (num r.high))) s) → Held law s r
    untouched h =
        let K = modulus law * L in
        let x = val r.low in
        let y = val r.mid in
        let z = val r.high in
        let u : Under demanded (P (mag law.mu) (mag law.lambda) x y z z) (val s *ℤ pos L) K = tested tt tt g (t1_on d) tt h in
        let v : Under demanded (P (mag law.mu) (mag law.lambda) x y z y) (val s *ℤ pos L) K =
        under_down (P (mag law.mu) (mag law.lambda) x y z y) (P (mag law.mu) (mag law.lambda) x y z z) (val s *ℤ pos L) K
        (stress_mono (mag law.mu) (mag law.lambda) (x +ℤ y +ℤ z) y z d.mid_high) u in
        record {
          low =
              rw (mu_is g, la_is g)
              (under_down (P (mag law.mu) (mag law.lambda) x y z x) (P (mag law.mu) (mag law.lambda) x y z y) (val s *ℤ pos L) K
              (stress_mono (mag law.mu) (mag law.lambda) (x +ℤ y +ℤ z) x y d.low_mid) v);
          mid = rw (mu_is g, la_is g) v;
          high = rw (mu_is g, la_is g) u;
        }

    some : 0 < mag law.mu
    some = omega (arith, mu_least g, L_pos)

    pub one_back : T (le (value (second_side law (num (e0 ⊕ e1 ⊕ e2)) (num r.high) (num r.mid))) s)
        → OnYield law s (sorted_of r.low r.mid (value (back_one law (num s) (num (e0 ⊕ e1 ⊕ e2)) (num r.high))))
    one_back h =
        yields (came d.low) (came d.mid) (worked tt tt g (2 * mag law.mu + mag law.lambda) (omega arith) (omega (arith, some)) (q1 d) tt tt)
        (one_moved (mag law.mu) (mag law.lambda) (modulus law * L) 309 (val r.low) (val r.mid)
        (val ((s ⊖ law.lambda ⊗ (e0 ⊕ e1 ⊕ e2 ⊖ r.high)) ⊘ (two ⊗ law.mu ⊕ law.lambda))) (val s *ℤ pos L) some (q1 d).near tt (tested tt tt g (t2_on d) tt h)
        d.low_mid)

    pub two_back : T (le (value (third_side law (num r.low))) s)
        → OnYield law s (sorted_of r.low (value (back_two law (num s) (num (e0 ⊕ e1 ⊕ e2)) (num r.high) (num r.mid))) (value (back_two law (num s) (num (e0 ⊕ e1 ⊕ e2)) (num r.high) (num r.mid))))
    two_back h =
        let z = worked tt tt g (2 * mag law.mu + 2 * mag law.lambda) (omega arith) (omega (arith, some)) (q2 d) tt tt in
        yields (came d.low) z z
        (two_moved (mag law.mu) (mag law.lambda) (modulus law * L) 238 (val r.low)
        (val ((s ⊖ law.lambda ⊗ (e0 ⊕ e1 ⊕ e2 ⊖ r.high ⊖ r.mid)) ⊘ (two ⊗ law.mu ⊕ two ⊗ law.lambda))) (val s *ℤ pos L) some (q2 d).near tt
        (tested tt tt g (t3_on d) tt h))

    pub all_back : OnYield law s (sorted_of (value (back_all law (num s))) (value (back_all law (num s))) (value (back_all law (num s))))
    all_back =
        let z = worked tt tt g (modulus law) (omega arith) (omega (arith, some)) (q3 d) tt tt in
        yields z z z
        (all_moved (mag law.mu) (mag law.lambda) (modulus law * L) 118 (val (s ⊘ (two ⊗ law.mu ⊕ thrice ⊗ law.lambda))) (val s *ℤ pos L)
        (q3 d).near tt)
