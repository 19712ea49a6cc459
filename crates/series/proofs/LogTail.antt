-- The logarithm of 1 + r for r up to 1 / 240, by five terms of its series: exp (r + r^3 / 3 + r^5 / 5) over exp (r^2 / 2 + r^4 / 4) is
-- 1 + r but for 2^-49 of it. Assumes nothing.
use mathlib.Core.Path.{◌≡◌, refl, ap, ◌∙◌, subst₂}
use mathlib.Core.Bool.{Bool, false}
use mathlib.Core.List.{List, [], ◌∷◌}
use Prim.Native.Nat.{ℕ, zero, suc, ◌+◌, ◌-◌, ◌*◌, ◌^◌, ◌≤◌, ◌<◌}
use native.Mathlib.Nat.{le_refl, mul-pos, mul-one, mul_assoc, zero-lt-suc, mul-le-mul_right, mul-le-mul_left, pow-suc, pow-le-pow_left, one-le-pow, zero-mul, zero-add, mul-zero, add-zero, sub-add_cancel}
use native.Mathlib.Omega.{arith}
use lib.Pow.{pow-add}
use lib.Dec.{T, leb, ltb, leb→le, ltb→lt}
use Rattle.exact.proofs.Both.{both, both_left, both_right}
use Rattle.series.specs.Exponential.{num, den}
use Rattle.series.specs.Remainder.{Above, Under}
use Rattle.series.proofs.Remainder.{above}
use Rattle.series.proofs.Powers.{pow1, pow2, pow3, pow4, pow5}
use Rattle.series.proofs.Bounds.{above_add, under_add}
use Rattle.series.proofs.Scale.{above_scale, under_scale}

-- r = m / q:  r + r^3 / 3 + r^5 / 5 and r^2 / 2 + r^4 / 4, over 60 q^5
abbrev pub risen : ℕ → ℕ → ℕ
risen q m = 60 * (m * q ^ 4) + 20 * (m ^ 3 * q ^ 2) + 12 * m ^ 5

abbrev pub fallen : ℕ → ℕ → ℕ
fallen q m = 30 * (m ^ 2 * q ^ 3) + 15 * (m ^ 4 * q)

abbrev pub whole : ℕ → ℕ
whole q = 60 * q ^ 5

-- (q + m) / q is exp (risen / whole) over exp (fallen / whole), but for 2^-49 of it, from both sides
pub record LogTail (q m : ℕ) : Type 0 where
  pub x : ℕ
  pub y : ℕ
  pub u : ℕ
  pub w : ℕ
  pub some : (0 < x) × (0 < y) × (0 < u) × (0 < w)
  pub above : Above (risen q m) (whole q) x y
  pub under : Under (fallen q m) (whole q) u w
  pub high : x * w * q * 2 ^ 49 ≤ (q + m) * (2 ^ 49 + 1) * (y * u)
  pub x' : ℕ
  pub y' : ℕ
  pub u' : ℕ
  pub w' : ℕ
  pub some' : (0 < x') × (0 < y') × (0 < u') × (0 < w')
  pub above' : Above (fallen q m) (whole q) x' y'
  pub under' : Under (risen q m) (whole q) u' w'
  pub low : (q + m) * 2 ^ 49 * (w' * x') ≤ u' * y' * q * (2 ^ 49 + 1)

-- ---- forms of degree d: c0 q^d + c1 q^(d-1) m + .. + cd m^d
abbrev Form : ℕ → Type 0
Form zero = ℕ
Form (suc d) = ℕ × Form d

-- from the first coefficients, the others 0
abbrev form : (d : ℕ) → List ℕ → Form d
form zero [] = 0
form zero (c ∷ cs) = c
form (suc d) [] = (0, form d [])
form (suc d) (c ∷ cs) = (c, form d cs)

abbrev add : (d : ℕ) → Form d → Form d → Form d
add zero a b = a + b
add (suc d) (a, f) (b, g) = (a + b, add d f g)

abbrev scale : (d : ℕ) → ℕ → Form d → Form d
scale zero k a = k * a
scale (suc d) k (a, f) = (k * a, scale d k f)

-- times q
abbrev up : (d : ℕ) → Form d → Form (suc d)
up zero a = (a, 0)
up (suc d) (a, f) = (a, up d f)

-- b + a, which computes where b is a variable
abbrev sum : ℕ → ℕ → ℕ
sum b zero = b
sum b (suc a) = suc (sum b a)

-- times q^a
abbrev ups : (b a : ℕ) → Form b → Form (sum b a)
ups b zero f = f
ups b (suc a) f = up (sum b a) (ups b a f)

abbrev times : (a b : ℕ) → Form a → Form b → Form (sum b a)
times zero b c g = scale b c g
times (suc a) b (c, f) g = add (suc (sum b a)) (scale (suc (sum b a)) c (ups b (suc a) g)) (0, times a b f g)

-- f ≤ g + k q^d where 240 m ≤ q: what is left over at one place counts 240 fold at the next
abbrev less : (d e : ℕ) → Form d → Form e → ℕ → Bool
less zero zero a b k = leb a (b + k)
less zero (suc e) a g k = false
less (suc d) zero f b k = false
less (suc d) (suc e) (a, f) (b, g) k = both (leb a (b + k)) (less d e f g (240 * (b + k - a)))

module _ (q m : ℕ) where
  abbrev power : ℕ → ℕ
  power zero = 1
  power (suc d) = power d * q

  -- the value of a form
  abbrev at : (d : ℕ) → Form d → ℕ
  at zero c = c
  at (suc d) (c, f) = c * power (suc d) + m * at d f

  power_pos : 0 < q → (d : ℕ) → 0 < power d
  power_pos h zero = zero-lt-suc 0
  power_pos h (suc d) = mul-pos (power_pos h d) h

  at_add : (d : ℕ) (f g : Form d) → at d (add d f g) ≡ at d f + at d g
  at_add zero a b = refl
  at_add (suc d) (a, f) (b, g) = omega (arith, ap (λ x. m * x) (at_add d f g))

  at_scale : (d k : ℕ) (f : Form d) → at d (scale d k f) ≡ k * at d f
  at_scale zero k a = refl
  at_scale (suc d) k (a, f) = omega (arith, ap (λ x. m * x) (at_scale d k f))

  at_up : (d : ℕ) (f : Form d) → at (suc d) (up d f) ≡ q * at d f
  at_up zero a = omega arith
  at_up (suc d) (a, f) = omega (arith, ap (λ x. m * x) (at_up d f))

  at_ups : (b a : ℕ) (f : Form b) → at (sum b a) (ups b a f) ≡ power a * at b f
  at_ups b zero f = omega arith
  at_ups b (suc a) f = omega (arith, at_up (sum b a) (ups b a f), ap (λ x. q * x) (at_ups b a f))

  at_times : (a b : ℕ) (f : Form a) (g : Form b) → at (sum b a) (times a b f g) ≡ at a f * at b g
  at_times zero b c g = at_scale b c g
  at_times (suc a) b (c, f) g =
      at_add (suc (sum b a)) (scale (suc (sum b a)) c (ups b (suc a) g)) (0, times a b f g)
      ∙ omega (arith, at_scale (suc (sum b a)) c (ups b (suc a) g), ap (λ x. c * x) (at_ups b (suc a) g), ap (λ x. m * x) (at_times a b f g))

  less_plain : (a b k P x y : ℕ) → a ≤ b + k → 240 * m ≤ q → x ≤ y + 240 * (b + k - a) * P → a * (P * q) + m * x ≤ b * (P * q) + m * y + k * (P * q)
  less_plain a b k P x y h r t =
      let s = b + k - a in
      let e : s + a ≡ b + k = sub-add_cancel h in
      omega (arith, mul-le-mul_left m t, mul-le-mul_right (s * P) r, ap (λ z. z * (P * q)) e)

  at_less : (d e : ℕ) (f : Form d) (g : Form e) (k : ℕ) → 240 * m ≤ q → T (less d e f g k) → (power d ≡ power e) × (at d f ≤ at e g + k * power d)
  at_less zero zero a b k r t = (refl, omega (arith, leb→le a (b + k) t))
  at_less zero (suc e) a g k r t = absurd t
  at_less (suc d) zero f b k r t = absurd t
  at_less (suc d) (suc e) (a, f) (b, g) k r t =
      let l = leb a (b + k) in
      let n = less d e f g (240 * (b + k - a)) in
      let i = at_less d e f g (240 * (b + k - a)) r (both_right l n t) in
      (ap (λ x. x * q) i.0, rw (← i.0) (less_plain a b k (power d) (at d f) (at e g) (leb→le a (b + k) (both_left l n t)) r i.1))

-- ---- products of factors: a factor is a form by its degree and its first coefficients
abbrev Factor : Type 0
Factor = ℕ × List ℕ

abbrev degree : List Factor → ℕ
degree [] = 0
degree ((d, cs) ∷ fs) = sum (degree fs) d

abbrev product : (fs : List Factor) → Form (degree fs)
product [] = 1
product ((d, cs) ∷ fs) = times d (degree fs) (form d cs) (product fs)

-- the first coefficient alone, and whether it is positive
abbrev lead : Factor → Factor
lead (d, []) = (d, [])
lead (d, c ∷ cs) = (d, c ∷ [])

abbrev rises : Factor → Bool
rises (d, []) = false
rises (d, c ∷ cs) = ltb 0 c

module _ (q m : ℕ) where
  unfoldable of : Factor → ℕ
  of (d, cs) = at q m d (form d cs)

  abbrev all : List Factor → ℕ
  all [] = 1
  all (f ∷ fs) = of f * all fs

  at_product : (fs : List Factor) → at q m (degree fs) (product fs) ≡ all fs
  unfolding of
  at_product [] = refl
  at_product ((d, cs) ∷ fs) = at_times q m d (degree fs) (form d cs) (product fs) ∙ ap (λ x. of (d, cs) * x) (at_product fs)

  bounded : (fs gs : List Factor) → 240 * m ≤ q → T (less (degree fs) (degree gs) (product fs) (product gs) 0) → all fs ≤ all gs
  bounded fs gs r t = omega (arith, at_product fs, at_product gs, (at_less q m (degree fs) (degree gs) (product fs) (product gs) 0 r t).1)

  of_pos : (f : Factor) → 0 < q → T (rises f) → 0 < of f
  unfolding of
  of_pos (d, []) hq t = absurd t
  of_pos (zero, c ∷ cs) hq t = ltb→lt 0 c t
  of_pos (suc d, c ∷ cs) hq t = omega (arith, mul-pos (ltb→lt 0 c t) (power_pos q m hq (suc d)))

-- ---- bounds on exp (r^k / k), each the factor over its first coefficient
abbrev over1 : Factor
over1 = (6, 720 ∷ 720 ∷ 360 ∷ 120 ∷ 30 ∷ 6 ∷ 2 ∷ [])

abbrev over2 : Factor
over2 = (6, 48 ∷ 0 ∷ 24 ∷ 0 ∷ 6 ∷ 0 ∷ 2 ∷ [])

abbrev over3 : Factor
over3 = (6, 18 ∷ 0 ∷ 0 ∷ 6 ∷ 0 ∷ 0 ∷ 2 ∷ [])

abbrev over4 : Factor
over4 = (8, 32 ∷ 0 ∷ 0 ∷ 0 ∷ 8 ∷ 0 ∷ 0 ∷ 0 ∷ 2 ∷ [])

abbrev over5 : Factor
over5 = (10, 50 ∷ 0 ∷ 0 ∷ 0 ∷ 0 ∷ 10 ∷ 0 ∷ 0 ∷ 0 ∷ 0 ∷ 2 ∷ [])

abbrev below1 : Factor
below1 = (5, 120 ∷ 120 ∷ 60 ∷ 20 ∷ 5 ∷ 1 ∷ [])

abbrev below2 : Factor
below2 = (4, 8 ∷ 0 ∷ 4 ∷ 0 ∷ 1 ∷ [])

abbrev below3 : Factor
below3 = (3, 3 ∷ 0 ∷ 0 ∷ 1 ∷ [])

abbrev below4 : Factor
below4 = (4, 4 ∷ 0 ∷ 0 ∷ 0 ∷ 1 ∷ [])

abbrev below5 : Factor
below5 = (5, 5 ∷ 0 ∷ 0 ∷ 0 ∷ 0 ∷ 1 ∷ [])

pow6 : (h : ℕ) → h ^ 6 ≡ h * h * h * h * h * h
pow6 h = pow-suc h 5 ∙ ap (λ x. x * h) (pow5 h)

whole_pos : (q : ℕ) → 0 < q → 0 < whole q
whole_pos q h = mul-pos (zero-lt-suc 59) (one-le-pow 5 q h)

module _ (q m : ℕ) (hq : 0 < q) where
  -- exp (p / whole) is at most the factor f over its first coefficient, and at least
  abbrev AboveBy : Factor → ℕ → Type 0
  AboveBy f p = Above p (whole q) (of q m f) (of q m (lead f))

  abbrev UnderBy : Factor → ℕ → Type 0
  UnderBy f p = Under p (whole q) (of q m f) (of q m (lead f))

  -- by n terms of the series at p / s, where s c is whole
  from_above : (f : Factor) (n p s c : ℕ) {P : ℕ} → p * c ≡ P → s * c ≡ whole q → 0 < s → p ≤ s → num p s n * (suc n * s) + 2 * p ^ suc n ≡ of q m f → den s (suc n) ≡ of q m (lead f) → AboveBy f P
  from_above f n p s c hP hS hs h e g =
      let x = of q m f in
      let y = of q m (lead f) in
      subst₂ (λ (a b : ℕ). Above a b x y) hP hS (above_scale p s c x y (above p s n x y hs (omega arith) (rw (e, g) (le_refl (x * y)))))

  from_below : (f : Factor) (n p s c : ℕ) {P : ℕ} → p * c ≡ P → s * c ≡ whole q → num p s n ≡ of q m f → den s n ≡ of q m (lead f) → UnderBy f P
  from_below f n p s c hP hS e g =
      let x = of q m f in
      let y = of q m (lead f) in
      subst₂ (λ (a b : ℕ). Under a b x y) hP hS (under_scale p s c x y (n, rw (e, g) (le_refl (x * y))))

  above1 : m ≤ q → AboveBy over1 (60 * (m * q ^ 4))
  unfolding num den of
  above1 h = from_above over1 5 m q (60 * q ^ 4) (omega arith) (omega (arith, pow-suc q 4))
      hq h (rw (pow1 m, pow2 m, pow3 m, pow4 m, pow5 m, pow6 m) (omega arith)) (omega arith)

  above2 : m ≤ q → AboveBy over2 (30 * (m ^ 2 * q ^ 3))
  unfolding num den of
  above2 h = from_above over2 2 (m ^ 2) (2 * q ^ 2) (30 * q ^ 3) (omega arith) (omega (arith, pow-add q 2 3))
      (mul-pos (zero-lt-suc 1) (one-le-pow 2 q hq)) (omega (arith, pow-le-pow_left h 2))
      (rw (pow1 (m ^ 2), pow2 (m ^ 2), pow3 (m ^ 2), pow2 m, pow2 q) (omega arith)) (rw (pow2 q) (omega arith))

  above3 : m ≤ q → AboveBy over3 (20 * (m ^ 3 * q ^ 2))
  unfolding num den of
  above3 h = from_above over3 1 (m ^ 3) (3 * q ^ 3) (20 * q ^ 2) (omega arith) (omega (arith, pow-add q 3 2))
      (mul-pos (zero-lt-suc 2) (one-le-pow 3 q hq)) (omega (arith, pow-le-pow_left h 3))
      (rw (pow1 (m ^ 3), pow2 (m ^ 3), pow3 m, pow3 q) (omega arith)) (rw (pow3 q) (omega arith))

  above4 : m ≤ q → AboveBy over4 (15 * (m ^ 4 * q))
  unfolding num den of
  above4 h = from_above over4 1 (m ^ 4) (4 * q ^ 4) (15 * q) (omega arith) (omega (arith, pow-suc q 4))
      (mul-pos (zero-lt-suc 3) (one-le-pow 4 q hq)) (omega (arith, pow-le-pow_left h 4))
      (rw (pow1 (m ^ 4), pow2 (m ^ 4), pow4 m, pow4 q) (simp (zero-mul, zero-add) (omega arith))) (rw (pow4 q) (omega arith))

  above5 : m ≤ q → AboveBy over5 (12 * m ^ 5)
  unfolding num den of
  above5 h = from_above over5 1 (m ^ 5) (5 * q ^ 5) 12 (omega arith) (omega arith)
      (mul-pos (zero-lt-suc 4) (one-le-pow 5 q hq)) (omega (arith, pow-le-pow_left h 5))
      (rw (pow1 (m ^ 5), pow2 (m ^ 5), pow5 m, pow5 q) (simp (zero-mul, zero-add) (omega arith))) (rw (pow5 q) (simp (zero-mul, zero-add, mul-zero, add-zero) (omega arith)))

  under1 : UnderBy below1 (60 * (m * q ^ 4))
  unfolding num den of
  under1 = from_below below1 5 m q (60 * q ^ 4) (omega arith) (omega (arith, pow-suc q 4))
      (rw (pow1 m, pow2 m, pow3 m, pow4 m, pow5 m) (omega arith)) (omega arith)

  under2 : UnderBy below2 (30 * (m ^ 2 * q ^ 3))
  unfolding num den of
  under2 = from_below below2 2 (m ^ 2) (2 * q ^ 2) (30 * q ^ 3) (omega arith) (omega (arith, pow-add q 2 3))
      (rw (pow1 (m ^ 2), pow2 (m ^ 2), pow2 m, pow2 q) (omega arith)) (rw (pow2 q) (omega arith))

  under3 : UnderBy below3 (20 * (m ^ 3 * q ^ 2))
  unfolding num den of
  under3 = from_below below3 1 (m ^ 3) (3 * q ^ 3) (20 * q ^ 2) (omega arith) (omega (arith, pow-add q 3 2))
      (rw (pow1 (m ^ 3), pow3 m, pow3 q) (omega arith)) (rw (pow3 q) (omega arith))

  under4 : UnderBy below4 (15 * (m ^ 4 * q))
  unfolding num den of
  under4 = from_below below4 1 (m ^ 4) (4 * q ^ 4) (15 * q) (omega arith) (omega (arith, pow-suc q 4))
      (rw (pow1 (m ^ 4), pow4 m, pow4 q) (omega arith)) (rw (pow4 q) (omega arith))

  under5 : UnderBy below5 (12 * m ^ 5)
  unfolding num den of
  under5 = from_below below5 1 (m ^ 5) (5 * q ^ 5) 12 (omega arith) (omega arith)
      (rw (pow1 (m ^ 5), pow5 m, pow5 q) (omega arith)) (rw (pow5 q) (omega arith))

  above_both : (f g : Factor) (p r : ℕ) → AboveBy f p → AboveBy g r → Above (p + r) (whole q) (of q m f * of q m g) (of q m (lead f) * of q m (lead g))
  above_both f g p r a b = above_add p r (whole q) (of q m f) (of q m (lead f)) (of q m g) (of q m (lead g)) (whole_pos q hq) a b

  under_both : (f g : Factor) (p r : ℕ) → UnderBy f p → UnderBy g r → Under (p + r) (whole q) (of q m f * of q m g) (of q m (lead f) * of q m (lead g))
  under_both f g p r a b = under_add p r (whole q) (of q m f) (of q m (lead f)) (of q m g) (of q m (lead g)) (whole_pos q hq) a b

  above_three : (f g k : Factor) (p r t : ℕ) → AboveBy f p → AboveBy g r → AboveBy k t → Above (p + r + t) (whole q) (of q m f * of q m g * of q m k) (of q m (lead f) * of q m (lead g) * of q m (lead k))
  above_three f g k p r t a b c = above_add (p + r) t (whole q) (of q m f * of q m g) (of q m (lead f) * of q m (lead g)) (of q m k) (of q m (lead k)) (whole_pos q hq) (above_both f g p r a b) c

  under_three : (f g k : Factor) (p r t : ℕ) → UnderBy f p → UnderBy g r → UnderBy k t → Under (p + r + t) (whole q) (of q m f * of q m g * of q m k) (of q m (lead f) * of q m (lead g) * of q m (lead k))
  under_three f g k p r t a b c = under_add (p + r) t (whole q) (of q m f * of q m g) (of q m (lead f) * of q m (lead g)) (of q m k) (of q m (lead k)) (whole_pos q hq) (under_both f g p r a b) c

-- ---- the two sides compared
-- a q + b m
abbrev line : ℕ → ℕ → Factor
line a b = (1, a ∷ b ∷ [])

line_is : (q m a b : ℕ) → of q m (line a b) ≡ a * q + b * m
unfolding of
line_is q m a b = omega arith

six : (a b c d e t : ℕ) → a * (b * (c * (d * (e * (t * 1))))) ≡ a * b * c * (d * e) * t
six a b c d e t = simp (mul-one, mul_assoc)

compared : (q m : ℕ) (a b c d e t a' b' c' d' e' t' : Factor) → 240 * m ≤ q
    → (let fs : List Factor = a ∷ b ∷ c ∷ d ∷ e ∷ t ∷ [] in let gs : List Factor = a' ∷ b' ∷ c' ∷ d' ∷ e' ∷ t' ∷ [] in T (less (degree fs) (degree gs) (product fs) (product gs) 0))
    → (let v = of q m in v a * v b * v c * (v d * v e) * v t ≤ v a' * v b' * v c' * (v d' * v e') * v t')
compared q m a b c d e t a' b' c' d' e' t' r z =
    let v = of q m in
    subst₂ (λ (i j : ℕ). i ≤ j) (six (v a) (v b) (v c) (v d) (v e) (v t)) (six (v a') (v b') (v c') (v d') (v e') (v t'))
    (bounded q m (a ∷ b ∷ c ∷ d ∷ e ∷ t ∷ []) (a' ∷ b' ∷ c' ∷ d' ∷ e' ∷ t' ∷ []) r z)

high_plain : (q m k x w B t s : ℕ) → t ≡ k * q + 0 * m → s ≡ (k + 1) * q + (k + 1) * m → x * w * t ≤ B * s → x * w * q * k ≤ (q + m) * (k + 1) * B
high_plain q m k x w B t s e f h = omega (arith, rw (e, f) at h)

low_plain : (q m k A u y t s : ℕ) → t ≡ k * q + k * m → s ≡ (k + 1) * q + 0 * m → A * t ≤ u * y * s → (q + m) * k * A ≤ u * y * q * (k + 1)
low_plain q m k A u y t s e f h = omega (arith, rw (e, f) at h)

pub log_tail : (q m : ℕ) → 0 < q → 240 * m ≤ q → LogTail q m
log_tail q m hq r =
    let h : m ≤ q = omega arith in
    let k = 2 ^ 49 in
    let v = of q m in
    let l : Factor → ℕ = λ f. of q m (lead f) in
    let s : (f : Factor) → T (rises f) → 0 < of q m f = λ f t. of_pos q m f hq t in
    record {
      x = v over1 * v over3 * v over5;
      y = l over1 * l over3 * l over5;
      u = v below2 * v below4;
      w = l below2 * l below4;
      some = (
        mul-pos (mul-pos (s over1 tt) (s over3 tt)) (s over5 tt),
        mul-pos (mul-pos (s (lead over1) tt) (s (lead over3) tt)) (s (lead over5) tt),
        mul-pos (s below2 tt) (s below4 tt),
        mul-pos (s (lead below2) tt) (s (lead below4) tt),
      );
      above = above_three q m hq over1 over3 over5 (60 * (m * q ^ 4)) (20 * (m ^ 3 * q ^ 2)) (12 * m ^ 5) (above1 q m hq h) (above3 q m hq h) (above5 q m hq h);
      under = under_both q m hq below2 below4 (30 * (m ^ 2 * q ^ 3)) (15 * (m ^ 4 * q)) (under2 q m hq) (under4 q m hq);
      high = high_plain q m k (v over1 * v over3 * v over5) (l below2 * l below4) (l over1 * l over3 * l over5 * (v below2 * v below4)) (v (line k 0)) (v (line (k + 1) (k + 1)))
          (line_is q m k 0) (line_is q m (k + 1) (k + 1))
          (compared q m over1 over3 over5 (lead below2) (lead below4) (line k 0) (lead over1) (lead over3) (lead over5) below2 below4 (line (k + 1) (k + 1)) r tt);
      x' = v over2 * v over4;
      y' = l over2 * l over4;
      u' = v below1 * v below3 * v below5;
      w' = l below1 * l below3 * l below5;
      some' = (
        mul-pos (s over2 tt) (s over4 tt),
        mul-pos (s (lead over2) tt) (s (lead over4) tt),
        mul-pos (mul-pos (s below1 tt) (s below3 tt)) (s below5 tt),
        mul-pos (mul-pos (s (lead below1) tt) (s (lead below3) tt)) (s (lead below5) tt),
      );
      above' = above_both q m hq over2 over4 (30 * (m ^ 2 * q ^ 3)) (15 * (m ^ 4 * q)) (above2 q m hq h) (above4 q m hq h);
      under' = under_three q m hq below1 below3 below5 (60 * (m * q ^ 4)) (20 * (m ^ 3 * q ^ 2)) (12 * m ^ 5) (under1 q m hq) (under3 q m hq) (under5 q m hq);
      low = low_plain q m k (l below1 * l below3 * l below5 * (v over2 * v over4)) (v below1 * v below3 * v below5) (l over2 * l over4) (v (line k k)) (v (line (k + 1) 0))
          (line_is q m k k) (line_is q m (k + 1) 0)
          (compared q m (lead below1) (lead below3) (lead below5) over2 over4 (line k k) below1 below3 below5 (lead over2) (lead over4) (line (k + 1) 0) r tt);
    }
