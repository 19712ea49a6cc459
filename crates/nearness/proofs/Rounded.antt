-- A test in floats that never errs on the side of acceptance: rounding moves the sum by less than m / 2 ^ 44. Assumes nothing.
use mathlib.Core.Path.{◌≡◌, refl, sym, ap, ◌∙◌, subst}
use mathlib.Core.Bool.{Bool, true, false}
use mathlib.Core.List.{List, [], ◌∷◌}
use Prim.Native.Nat.{ℕ, zero, suc, ◌+◌, ◌*◌, ◌^◌, ◌≤◌, ◌<◌}
use native.Mathlib.Nat.{le_refl, le_trans, le_of_eq, add-le-add, mul-le-mul, mul-le-mul_right, le_of_mul-le-mul_right}
use native.Mathlib.Omega.{arith}
use lib.Dec.{T, leb, leb→le, le→leb, lit≤}
use lib.IntN.{ℤ, pos, negsuc, neg_ℤ, ◌+ℤ◌, ◌-ℤ◌, ◌*ℤ◌}
use lib.ListN.{length, get_or}
use lib.Ieee.{Float, nan, binary64, neg, add, mul, le, fits, of_bits}
use Rattle.exact.specs.Units.{L, mag, sgn, Fin64}
use Rattle.exact.proofs.Units.{L_pos}
use lib.Ieee.Bits.{is_true}
use Rattle.exact.proofs.Positives.{neg_mag}
use Rattle.exact.specs.Integers.{p, n, ◌≤ᶻ◌, abs}
use Rattle.exact.proofs.Integers.{ext, +-parts, neg-*, *-comm, *1, abs_is, abs-+, abs-*, abs-*pos, abs_pos}
use Rattle.exact.proofs.Ring.{ring, var, con, ◌:+◌, ◌:-◌, ◌:*◌}
use Rattle.exact.specs.Value.{val, signed}
use Rattle.exact.proofs.Value.{abs_val, add_val, mul_val}
use Rattle.exact.proofs.OrderLe.{le_val, between_finite}
use Rattle.exact.proofs.Normal.{above_positive, below_positive}
use Rattle.numbers.specs.Floats.{finite}
use Rattle.numbers.proofs.Laws.{finite_is}
use Rattle.tensor.proofs.Axes.{entries}
use Rattle.nearness.specs.Near.{exact_sum, near}
use Rattle.nearness.specs.Quick.{Tame, Bounded, RowBounded, Sound, two, fourfold}
use Rattle.exact.proofs.Distances.{neg_val, neg_fine, abs_shift, abs_back}

-- z, times P, is X up to e M P / 2 ^ 53, and z is at most B M
pub record Close (M P : ℕ) (z : Float) (X : ℤ) (B e : ℕ) : Type 0 where
  pub fine : Fin64 z
  pub size : mag z ≤ B * M
  pub near : abs (val z *ℤ pos P -ℤ X) * 2 ^ 53 ≤ e * (M * P)

pub itself : (M P B : ℕ) (z : Float) → Fin64 z → mag z ≤ B * M → Close M P z (val z *ℤ pos P) B 0
itself M P B z f h = record { fine = f; size = h; near = rw (ring 2 (val z, (pos P, tt)) (var 0 :* var 1 :- var 0 :* var 1) (con (pos 0)) tt, abs_pos 0) (omega arith) }

-- ---- products
scale_fits : (B K S : ℕ) → K ≤ 2 ^ 60 * S → 2 * B + 1 ≤ 1024 → 2 * B * K ≤ 2 ^ 1023 * S
scale_fits B K S h c = le_trans {m = 2 ^ 80 * S} (omega (arith, mul-le-mul_right K c)) (mul-le-mul_right S (lit≤ tt))

-- a product's own error
own_error : (B M L q a : ℕ) → q ≤ 2 * B * (M * L) → a * 2 ^ 53 ≤ q + L * 2 ^ 52 → 2 ^ 60 ≤ M → a * 2 ^ 53 ≤ (2 * B + 1) * (M * L)
own_error B M L q a h k s = omega (arith, mul-le-mul_right L s)

own_size : (B K z q a : ℕ) → q ≤ 2 * B * K → a * 2 ^ 53 ≤ (2 * B + 1) * K → 2 * B + 1 ≤ 1024 → z ≤ q + a → z ≤ (2 * B + 1) * K
own_size B K z q a h k c w = omega (arith, mul-le-mul_right K c)

product_error : (B M L P e t A b y : ℕ) → t ≤ A * P + b * y → A * 2 ^ 53 ≤ (2 * B + 1) * (M * L) → b * 2 ^ 53 ≤ e * (M * P) → y ≤ 2 * L → t * 2 ^ 53 ≤ (2 * e + 2 * B + 1) * (M * (P * L))
product_error B M L P e t A b y h k l w = omega (arith, mul-le-mul_right P k, mul-le-mul l w)

apart : (z x y X : ℤ) (P : ℕ) → abs (z *ℤ pos (P * L) -ℤ X *ℤ y) ≤ abs (z *ℤ pos L -ℤ x *ℤ y) * P + abs (x *ℤ pos P -ℤ X) * abs y
apart z x y X P =
    rw (
      ← abs-*pos (z *ℤ pos L -ℤ x *ℤ y) P,
      ← abs-* (x *ℤ pos P -ℤ X) y,
      ring 6 (z, (x, (y, (X, (pos P, (pos L, tt)))))) (var 0 :* (var 4 :* var 5) :- var 3 :* var 2)
          ((var 0 :* var 5 :- var 1 :* var 2) :* var 4 :+ (var 1 :* var 4 :- var 3) :* var 2) tt,
    )
    (abs-+ ((z *ℤ pos L -ℤ x *ℤ y) *ℤ pos P) ((x *ℤ pos P -ℤ X) *ℤ y))

-- ---- sums
sum_fits : (B C M a b : ℕ) → a ≤ B * M → b ≤ C * M → M ≤ 2 ^ 60 * L → B + C ≤ 1024 → a + b ≤ 2 ^ 1023 * L
sum_fits B C M a b h k r c = le_trans {m = 2 ^ 80 * L} (omega (arith, mul-le-mul_right M c)) (mul-le-mul_right L (lit≤ tt))

sum_size : (B C M x y s z d : ℕ) → x ≤ B * M → y ≤ C * M → s ≤ x + y → d * 2 ^ 53 ≤ s → z ≤ s + d → B + C ≤ 1024 → z ≤ (B + C + 1) * M
sum_size B C M x y s z d h k l w u c = omega (arith, mul-le-mul_right M c)

sum_error : (B C M P e f x y s d t a b : ℕ) → x ≤ B * M → y ≤ C * M → s ≤ x + y → d * 2 ^ 53 ≤ s → t ≤ d * P + a + b → a * 2 ^ 53 ≤ e * (M * P) → b * 2 ^ 53 ≤ f * (M * P)
    → t * 2 ^ 53 ≤ (e + f + B + C) * (M * P)
sum_error B C M P e f x y s d t a b h k l w u g i = omega (arith, mul-le-mul_right P h, mul-le-mul_right P k, mul-le-mul_right P l, mul-le-mul_right P w)

together : (z x y X Y : ℤ) (P : ℕ) → abs (z *ℤ pos P -ℤ (X +ℤ Y)) ≤ abs (z -ℤ (x +ℤ y)) * P + abs (x *ℤ pos P -ℤ X) + abs (y *ℤ pos P -ℤ Y)
together z x y X Y P =
    rw (
      ← abs-*pos (z -ℤ (x +ℤ y)) P,
      ring 6 (z, (x, (y, (X, (Y, (pos P, tt)))))) (var 0 :* var 5 :- (var 3 :+ var 4))
          ((var 0 :- (var 1 :+ var 2)) :* var 5 :+ (var 1 :* var 5 :- var 3) :+ (var 2 :* var 5 :- var 4)) tt,
    )
    (le_trans (abs-+ ((z -ℤ (x +ℤ y)) *ℤ pos P +ℤ (x *ℤ pos P -ℤ X)) (y *ℤ pos P -ℤ Y)) (add-le-add (abs-+ ((z -ℤ (x +ℤ y)) *ℤ pos P) (x *ℤ pos P -ℤ X)) (le_refl (abs (y *ℤ pos P -ℤ Y)))))

near_enough : (e M S D d a : ℕ) → D ≤ d * S + a → d * 2 ^ 41 ≤ M → a * 2 ^ 53 ≤ e * (M * S) → e ≤ 4096 → D * 2 ^ 40 ≤ M * S
near_enough e M S D d a h k l c = le_of_mul-le-mul_right {k = 2 ^ 13} (omega (arith, mul-le-mul_right S k, mul-le-mul_right (M * S) c)) (omega arith)

module _ {M : ℕ} (o : Tame M) where
  pub times : {P : ℕ} {x : Float} {X : ℤ} {B e : ℕ} (y : Float) → Close M P x X B e → Fin64 y → mag y ≤ 2 * L → T (leb (2 * B + 1) 1024)
      → Close M (P * L) (mul binary64 x y) (X *ℤ val y) (2 * B + 1) (2 * e + 2 * B + 1)
  times {P} {x} {X} {B} {e} y i f h t =
      let z = mul binary64 x y in
      let c : 2 * B + 1 ≤ 1024 = leb→le (2 * B + 1) 1024 t in
      let q : mag x * mag y ≤ 2 * B * (M * L) = le_trans (mul-le-mul i.size h) (le_of_eq (flat B M L)) in
      let v = mul_val x y i.fine f (le_trans q (scale_fits B (M * L) (L * L) (le_trans (mul-le-mul_right L o.room) (le_of_eq (over L))) c)) in
      let a = own_error B M L (mag x * mag y) (abs (val z *ℤ pos L -ℤ val x *ℤ val y)) q v.near o.some in
      record {
        fine = v.fine;
        size = le_of_mul-le-mul_right {k = L} (le_trans (own_size B (M * L) (mag z * L) (mag x * mag y) (abs (val z *ℤ pos L -ℤ val x *ℤ val y)) q a c (rw (abs-*pos (val z) L, abs_val z, abs-* (val x) (val y), abs_val x, abs_val y) at (abs_shift (val z *ℤ pos L) (val x *ℤ val y)))) (le_of_eq (flat' (2 * B + 1) M L))) L_pos;
        near = product_error B M L P e _ (abs (val z *ℤ pos L -ℤ val x *ℤ val y)) (abs (val x *ℤ pos P -ℤ X)) (mag y) (rw (abs_val y) at (apart (val z) (val x) (val y) X P)) a i.near h;
      }
    where
      flat : (B M L : ℕ) → B * M * (2 * L) ≡ 2 * B * (M * L)
      flat B M L = omega arith

      flat' : (B M L : ℕ) → B * (M * L) ≡ B * M * L
      flat' B M L = omega arith

      over : (L : ℕ) → 2 ^ 60 * L * L ≡ 2 ^ 60 * (L * L)
      over L = omega arith

  pub plus : {P : ℕ} {x y : Float} {X Y : ℤ} {B C e f : ℕ} → Close M P x X B e → Close M P y Y C f → T (leb (B + C) 1024)
      → Close M P (add binary64 x y) (X +ℤ Y) (B + C + 1) (e + f + B + C)
  plus {P} {x} {y} {X} {Y} {B} {C} {e} {f} i j t =
      let z = add binary64 x y in
      let c : B + C ≤ 1024 = leb→le (B + C) 1024 t in
      let v = add_val x y i.fine j.fine (sum_fits B C M (mag x) (mag y) i.size j.size o.room c) in
      let s = rw (abs_val x, abs_val y) at (abs-+ (val x) (val y)) in
      record {
        fine = v.fine;
        size = sum_size B C M (mag x) (mag y) (abs (val x +ℤ val y)) (mag z) (abs (val z -ℤ (val x +ℤ val y))) i.size j.size s v.near (rw (abs_val z) at (abs_shift (val z) (val x +ℤ val y))) c;
        near = sum_error B C M P e f (mag x) (mag y) (abs (val x +ℤ val y)) (abs (val z -ℤ (val x +ℤ val y))) _ (abs (val x *ℤ pos P -ℤ X)) (abs (val y *ℤ pos P -ℤ Y)) i.size j.size s v.near (together (val z) (val x) (val y) X Y P) i.near j.near;
      }

  pub enough : {d : Float} {D : ℤ} {B e : ℕ} → Close M (L * L) d D B e → T (leb e 4096) → mag d * 2 ^ 41 ≤ M → abs D * 2 ^ 40 ≤ M * (L * L)
  enough {d} {D} {B} {e} i t h = near_enough e M (L * L) (abs D) (mag d) (abs (val d *ℤ pos (L * L) -ℤ D)) (rw (abs-*pos (val d) (L * L), abs_val d) at (abs_back (val d *ℤ pos (L * L)) D)) h i.near (leb→le e 4096 t)

-- ---- the tests
within_both : (z : ℤ) (k : ℕ) → neg_ℤ (pos k) ≤ᶻ z → z ≤ᶻ pos k → abs z ≤ k
within_both z k h l = rw (abs_is z) (go z k h l)
  where
    go : (z : ℤ) (k : ℕ) → neg_ℤ (pos k) ≤ᶻ z → z ≤ᶻ pos k → p z + n z ≤ k
    go (pos a) k h l = omega arith
    go (negsuc a) zero h l = omega arith
    go (negsuc a) (suc k) h l = omega arith

within_signed : (z : ℤ) (s : Bool) (k : ℕ) → neg_ℤ (signed s k) ≤ᶻ z → z ≤ᶻ signed s k → abs z ≤ k
within_signed z false k h l = within_both z k h l
within_signed z true zero h l = within_both z zero h l
within_signed z true (suc k) h l = absurd (omega arith)

pub naught_fine : Fin64 (of_bits binary64 0)
unfolding of_bits fits
naught_fine = (tt, tt)

pub naught_val : val (of_bits binary64 0) ≡ pos 0
unfolding val mag L of_bits
naught_val = refl

-- -t ≤ x and x ≤ t, so that t is not below 0
pub bounded : (x t : Float) → T (fits binary64 x) → T (le (neg t) x) → T (le x t) → Fin64 t → Fin64 x × (mag x ≤ mag t)
unfolding val
bounded x t f b c g =
    let h : Fin64 x = (between_finite (neg t) x t (neg_fine t g).0 g.0 b c, f) in
    (h, rw (abs_val x) at (within_signed (val x) (sgn t) (mag t) (rw (neg_val t g) at (le_val (neg t) x (neg_fine t g) h b)) (le_val x t h g c)))

pub bounded_finite : (x t : Float) → Bounded x t → finite x ≡ true
bounded_finite x t h = finite_is x ∙ is_true _ h.0.0

abbrev pub lowest : Float
lowest = of_bits binary64 0x0170_0000_0000_0000

abbrev pub highest : Float
highest = of_bits binary64 0x43b0_0000_0000_0000

ends_fine : Fin64 lowest × Fin64 highest
unfolding of_bits fits
ends_fine = ((tt, tt), (tt, tt))

lowest_is : (2 ^ 60 ≤ mag lowest) × (sgn lowest ≡ false) × (0 < mag lowest)
unfolding of_bits mag L
lowest_is = (lit≤ tt, refl, lit≤ tt)

highest_is : (mag highest ≤ 2 ^ 60 * L) × (sgn highest ≡ false)
unfolding of_bits mag L
highest_is = (lit≤ tt, refl)

pub tame : (m : Float) → T (fits binary64 m) → T (le lowest m) → T (le m highest) → Fin64 m × Tame (mag m)
tame m f a b =
    let g : Fin64 m = (between_finite lowest m highest ends_fine.0.0 ends_fine.1.0 a b, f) in
    let l = above_positive lowest m ends_fine.0 g lowest_is.1 lowest_is.2 a in
    (g, record { some = le_trans lowest_is.0 l.1; room = le_trans (below_positive m highest g ends_fine.1 l.0 highest_is.1 b) highest_is.0 })

-- 2 ^ -42
abbrev pub tiny : Float
tiny = of_bits binary64 0x3d50_0000_0000_0000

tiny_fine : Fin64 tiny
unfolding of_bits fits
tiny_fine = (tt, tt)

tiny_is : mag tiny * 2 ^ 42 ≡ L
unfolding of_bits mag L
tiny_is = refl

halved : (z K a Q L : ℕ) → K * 2 ^ 42 ≡ Q → z ≤ K + a → a * 2 ^ 53 ≤ K + L * 2 ^ 52 → 2 ^ 60 * L ≤ Q → z * 2 ^ 41 ≤ Q
halved z K a Q L e h k s = omega arith

pub part : (m : Float) → Fin64 m → Tame (mag m) → Fin64 (mul binary64 m tiny) × (mag (mul binary64 m tiny) * 2 ^ 41 ≤ mag m)
part m f o =
    let z = mul binary64 m tiny in
    let k = mag tiny in
    let v = mul_val m tiny f tiny_fine (le_trans (mul-le-mul o.room (below k L tiny_is)) (le_trans (le_of_eq (over L)) (mul-le-mul_right (L * L) (lit≤ {m = 2 ^ 60} {n = 2 ^ 1023} tt)))) in
    (v.fine, le_of_mul-le-mul_right {k = L} (go (mag m) k L (mag z) (abs (val z *ℤ pos L -ℤ val m *ℤ val tiny)) tiny_is (rw (abs-*pos (val z) L, abs_val z, abs-* (val m) (val tiny), abs_val m, abs_val tiny) at (abs_shift (val z *ℤ pos L) (val m *ℤ val tiny))) v.near o.some) L_pos)
  where
    go : (M k L z a : ℕ) → k * 2 ^ 42 ≡ L → z * L ≤ M * k + a → a * 2 ^ 53 ≤ M * k + L * 2 ^ 52 → 2 ^ 60 ≤ M → z * 2 ^ 41 * L ≤ M * L
    go M k L z a e h w s = le_trans (le_of_eq (swap z L)) (halved (z * L) (M * k) a (M * L) L (sym (assoc M k) ∙ ap (λ (x : ℕ). M * x) e) h w (mul-le-mul_right L s))
      where
        swap : (z L : ℕ) → z * 2 ^ 41 * L ≡ z * L * 2 ^ 41
        swap z L = omega arith

        assoc : (M k : ℕ) → M * (k * 2 ^ 42) ≡ M * k * 2 ^ 42
        assoc M k = omega arith

    below : (k L : ℕ) → k * 2 ^ 42 ≡ L → k ≤ L
    below k L e = omega arith

    over : (L : ℕ) → 2 ^ 60 * L * L ≡ 2 ^ 60 * (L * L)
    over L = omega arith

two_is : mag two ≡ 2 * L
unfolding of_bits mag L
two_is = refl

pub two_fine : Fin64 two
unfolding of_bits fits
two_fine = (tt, tt)

-- 4 m
pub quad : (m : Float) → Fin64 m → Tame (mag m) → Fin64 (add binary64 (add binary64 m m) (add binary64 m m)) × (mag (add binary64 (add binary64 m m) (add binary64 m m)) ≤ 7 * mag m)
quad m f o =
    let i = itself (mag m) 1 1 m f (omega arith) in
    let j = plus o i i tt in
    let k = plus o j j tt in
    (k.fine, k.size)

regroup : (a b c d : ℤ) → a +ℤ b +ℤ c +ℤ d ≡ a +ℤ (b +ℤ (c +ℤ pos 0)) +ℤ d
regroup a b c d = ext _ _ (omega (arith, +-parts (a +ℤ b +ℤ c) d, +-parts (a +ℤ b) c, +-parts a b, +-parts (a +ℤ (b +ℤ (c +ℤ pos 0))) d, +-parts a (b +ℤ (c +ℤ pos 0)), +-parts b (c +ℤ pos 0), +-parts c (pos 0)))

abbrev Bound : Float → ℕ → Type 0
Bound x k = Fin64 x × (mag x ≤ k)

module _ (u₀ u₁ u₂ s₀ s₁ s₂ v₀ v₁ v₂ f m : Float) (fm : Fin64 m) (o : Tame (mag m)) where
  term : (u s v : Float) → Bound u (mag two) → Bound s (7 * mag m) → Bound v (mag two) → Close (mag m) (L * L) (mul binary64 (mul binary64 s u) v) (val u *ℤ val s *ℤ val v) 31 61
  term u s v hu hs hv =
      subst (λ (X : ℤ). Close (mag m) (L * L) (mul binary64 (mul binary64 s u) v) X 31 61) (turn (val u) (val s) (val v))
      (subst (λ (P : ℕ). Close (mag m) P (mul binary64 (mul binary64 s u) v) (val s *ℤ pos 1 *ℤ val u *ℤ val v) 31 61) (ones L)
      (times o v (times o u (itself (mag m) 1 7 s hs.0 hs.1) hu.0 (rw two_is at hu.1) tt) hv.0 (rw two_is at hv.1) tt))
    where
      ones : (L : ℕ) → 1 * L * L ≡ L * L
      ones L = omega arith

      turn : (u s v : ℤ) → s *ℤ pos 1 *ℤ u *ℤ v ≡ u *ℤ s *ℤ v
      turn u s v = ap (λ (x : ℤ). x *ℤ v) (ap (λ (x : ℤ). x *ℤ u) (*1 s) ∙ *-comm s u)

  abbrev d : Float
  d = add binary64 (add binary64 (add binary64 (mul binary64 (mul binary64 s₀ u₀) v₀) (mul binary64 (mul binary64 s₁ u₁) v₁)) (mul binary64 (mul binary64 s₂ u₂) v₂)) (neg f)

  pub surely_near : Bound u₀ (mag two) → Bound u₁ (mag two) → Bound u₂ (mag two) → Bound s₀ (7 * mag m) → Bound s₁ (7 * mag m) → Bound s₂ (7 * mag m) → Bound v₀ (mag two) → Bound v₁ (mag two) → Bound v₂ (mag two) → Bound f (mag m)
      → mag d * 2 ^ 41 ≤ mag m → near (u₀ ∷ u₁ ∷ u₂ ∷ []) (s₀ ∷ s₁ ∷ s₂ ∷ []) (v₀ ∷ v₁ ∷ v₂ ∷ []) f (mag m) ≡ true
  unfolding near
  surely_near hu₀ hu₁ hu₂ hs₀ hs₁ hs₂ hv₀ hv₁ hv₂ hf hd =
      let b₀ = term u₀ s₀ v₀ hu₀ hs₀ hv₀ in
      let b₁ = term u₁ s₁ v₁ hu₁ hs₁ hv₁ in
      let b₂ = term u₂ s₂ v₂ hu₂ hs₂ hv₂ in
      let g = itself (mag m) (L * L) 1 (neg f) (neg_fine f hf.0) (rw (neg_mag f) (le_trans hf.1 (le_of_eq (same (mag m))))) in
      let r = enough o (plus o (plus o (plus o b₀ b₁ tt) b₂ tt) g tt) tt hd in
      let z = exact_sum (u₀ ∷ u₁ ∷ u₂ ∷ []) (s₀ ∷ s₁ ∷ s₂ ∷ []) (v₀ ∷ v₁ ∷ v₂ ∷ []) -ℤ val f *ℤ pos (L * L) in
      is_true (leb (abs z * 2 ^ 40) (mag m * (L * L))) (le→leb (abs z * 2 ^ 40) (mag m * (L * L)) (subst (λ (z : ℤ). abs z * 2 ^ 40 ≤ mag m * (L * L)) (ap (λ (z : ℤ). val u₀ *ℤ val s₀ *ℤ val v₀ +ℤ val u₁ *ℤ val s₁ *ℤ val v₁ +ℤ val u₂ *ℤ val s₂ *ℤ val v₂ +ℤ z) (ap (λ (y : ℤ). y *ℤ pos (L * L)) (neg_val f hf.0) ∙ neg-* (val f) (pos (L * L))) ∙ regroup (val u₀ *ℤ val s₀ *ℤ val v₀) (val u₁ *ℤ val s₁ *ℤ val v₁) (val u₂ *ℤ val s₂ *ℤ val v₂) (neg_ℤ (val f *ℤ pos (L * L)))) r))
    where
      same : (M : ℕ) → M ≡ 1 * M
      same M = omega arith

-- ---- the tests together
pub yes : {b : Bool} → b ≡ true → T b
yes e = subst T (sym e) tt

abbrev pub sum_of : List Float → List Float → List Float → Float → Float
sum_of u s v f =
    add binary64
    (add binary64
    (add binary64 (mul binary64 (mul binary64 (get_or s 0 nan) (get_or u 0 nan)) (get_or v 0 nan)) (mul binary64 (mul binary64 (get_or s 1 nan) (get_or u 1 nan)) (get_or v 1 nan)))
    (mul binary64 (mul binary64 (get_or s 2 nan) (get_or u 2 nan)) (get_or v 2 nan)))
    (neg f)

pub surely_is : (u s v : List Float) (f m : Float) → length u ≡ 3 → length s ≡ 3 → length v ≡ 3 → Sound u s v m → Bounded f m
    → (Fin64 (mul binary64 m tiny) → Bounded (sum_of u s v f) (mul binary64 m tiny)) → near u s v f (mag m) ≡ true
surely_is u s v f m lu ls lv h hf hd =
    let g = h.scale in
    let a = h.left in
    let b = h.right in
    let q = quad m g.0 g.1 in
    let c = h.sigma in
    let e = part m g.0 g.1 in
    let d = hd e.0 in
    sym (λ i. near (entries nan u lu i) (entries nan s ls i) (entries nan v lv i) f (mag m))
    ∙ surely_near (get_or u 0 nan) (get_or u 1 nan) (get_or u 2 nan) (get_or s 0 nan) (get_or s 1 nan) (get_or s 2 nan) (get_or v 0 nan) (get_or v 1 nan) (get_or v 2 nan) f m g.0 g.1
    a.at0 a.at1 a.at2 (c.at0.0, le_trans c.at0.1 q.1) (c.at1.0, le_trans c.at1.1 q.1) (c.at2.0, le_trans c.at2.1 q.1) b.at0 b.at1 b.at2 hf
    (le_trans (mul-le-mul_right (2 ^ 41) d.1) e.1)
