-- The order of floats: of two numbers one is at most the other or above it, and "below" is transitive. Assumes nothing.
use Rattle.std.proofs.Common.{◌≡◌, ℕ, zero, suc, ◌+◌, ◌*◌, ◌<◌, Bool, true, false, not, ◌&&◌, ◌||◌, eqb, ltb, sym, refl, true≢false, zero-lt-suc, lt_of_mul-lt-mul_right, mul-lt-mul_of_pos_right, mul-pos, arith, ltb-false, ltb-true, le-ltb, lt-ltb, eq-eqb, ne_eqb, eqb-true}
use mathlib.Core.Bool.{false≢true}
use borrow.Author.Tests.{eqb-false}
use lib.Ieee.{Float, nan, inf, fin, up, down, below, level, lt, eq, le}
use lib.Ieee.Fits.{down_pos}
use Rattle.numbers.specs.Floats.{is_number}

-- ---- at most, or above
-- s tells whether a and b are one
at_most : (a b : ℕ) (s : Bool) → (s ≡ true → a ≡ b) → (s ≡ false → a ≡ b → ⊥) → ltb a b || (s && true) ≡ not (ltb b a)
at_most a b true f g = let h = f refl in rw (le-ltb a b (omega arith), le-ltb b a (omega arith)) refl
at_most a b false f g = go (ltb b a) refl
  where
    go : (t : Bool) → ltb b a ≡ t → ltb a b || false ≡ not t
    go true e = let h = ltb-true b a e in rw (le-ltb a b (omega arith)) refl
    go false e = let h = ltb-false b a e in let q = g refl in rw (lt-ltb a b (omega arith)) refl

-- of a number from 0 up and one up to 0
crossing : (a b : ℕ) (s t : Bool) → eqb a b ≡ s → eqb a 0 ≡ t → s && t ≡ not (ltb 0 (b + a))
crossing a b true true e f = let p = eqb-true a b e in let q = eqb-true a 0 f in rw (le-ltb 0 (b + a) (omega arith)) refl
crossing a b true false e f = let q = eqb-false a 0 f in rw (lt-ltb 0 (b + a) (omega arith)) refl
crossing a b false t e f = let p = eqb-false a b e in rw (lt-ltb 0 (b + a) (omega arith)) refl

crossed : (a b : ℕ) (t : Bool) → ltb 0 (a + b) ≡ t → t || (eqb a b && eqb a 0) ≡ true
crossed a b true e = refl
crossed a b false e = let h = ltb-false 0 (a + b) e in rw (eq-eqb a b (omega arith), eq-eqb a 0 (omega arith)) refl

signed : (s t : Bool) (a b : ℕ) → below s a t b || level s a t b ≡ not (below t b s a)
signed false false a b = at_most a b (eqb a b) (eqb-true a b) (eqb-false a b)
signed false true a b = crossing a b (eqb a b) (eqb a 0) refl refl
signed true false a b = crossed a b (ltb 0 (a + b)) refl
signed true true a b = at_most b a (eqb a b) (λ e. sym (eqb-true a b e)) (λ e q. eqb-false a b e (sym q))

pub le_not_lt : (x y : Float) → is_number x ≡ true → is_number y ≡ true → le x y ≡ not (lt y x)
unfolding le lt eq is_number
le_not_lt nan y p q = absurd (false≢true p)
le_not_lt (inf s) nan p q = absurd (false≢true q)
le_not_lt (inf true) (inf true) p q = refl
le_not_lt (inf true) (inf false) p q = refl
le_not_lt (inf false) (inf true) p q = refl
le_not_lt (inf false) (inf false) p q = refl
le_not_lt (inf true) (fin t n d) p q = refl
le_not_lt (inf false) (fin t n d) p q = refl
le_not_lt (fin s m e) nan p q = absurd (false≢true q)
le_not_lt (fin s m e) (inf true) p q = refl
le_not_lt (fin s m e) (inf false) p q = refl
le_not_lt (fin s m e) (fin t n d) p q = signed s t (m * up e * down d) (n * up d * down e)

-- what is below another is a number, and the other too
pub lt_left : (x y : Float) → lt x y ≡ true → is_number x ≡ true
unfolding lt is_number
lt_left nan y h = h
lt_left (inf s) y h = refl
lt_left (fin s m e) y h = refl

pub lt_right : (x y : Float) → lt x y ≡ true → is_number y ≡ true
unfolding lt is_number
lt_right nan y h = absurd (false≢true h)
lt_right (inf s) nan h = h
lt_right (inf s) (inf t) h = refl
lt_right (inf s) (fin t n d) h = refl
lt_right (fin s m e) nan h = h
lt_right (fin s m e) (inf t) h = refl
lt_right (fin s m e) (fin t n d) h = refl

-- ---- below what is below
positive : (n p x : ℕ) → 0 < p → x < n * p → 0 < n
positive zero p x h l = absurd (omega arith)
positive (suc n) p x h l = zero-lt-suc n

-- k / p < x / q < n / r
over : (k x n p q r : ℕ) → 0 < p → 0 < q → 0 < r → k * q < x * p → x * r < n * q → k * r < n * p
over k x n p q r P Q R h i = lt_of_mul-lt-mul_right q (omega (arith, mul-lt-mul_of_pos_right h R, mul-lt-mul_of_pos_right i P))

module _ (k x n p q r : ℕ) (P : 0 < p) (Q : 0 < q) (R : 0 < r) where
  below_trans : (s t u : Bool) → below s (k * q) t (x * p) ≡ true → below t (x * r) u (n * q) ≡ true → below s (k * r) u (n * p) ≡ true
  below_trans false false false h i = lt-ltb (k * r) (n * p) (over k x n p q r P Q R (ltb-true (k * q) (x * p) h) (ltb-true (x * r) (n * q) i))
  below_trans false false true h i = absurd (false≢true i)
  below_trans false true u h i = absurd (false≢true h)
  below_trans true false false h i = let l = mul-pos (positive n q (x * r) Q (ltb-true (x * r) (n * q) i)) P in lt-ltb 0 (k * r + n * p) (omega arith)
  below_trans true false true h i = absurd (false≢true i)
  below_trans true true false h i = let l = mul-pos (positive k q (x * p) Q (ltb-true (x * p) (k * q) h)) R in lt-ltb 0 (k * r + n * p) (omega arith)
  below_trans true true true h i = lt-ltb (n * p) (k * r) (over n x k r q p R Q P (ltb-true (n * q) (x * r) i) (ltb-true (x * p) (k * q) h))

pub lt_trans : (x y z : Float) → lt x y ≡ true → lt y z ≡ true → lt x z ≡ true
unfolding lt
lt_trans nan y z h i = absurd (false≢true h)
lt_trans (inf s) nan z h i = absurd (false≢true h)
lt_trans (inf false) (inf t) z h i = absurd (false≢true h)
lt_trans (inf true) (inf true) z h i = absurd (false≢true h)
lt_trans (inf true) (inf false) nan h i = absurd (false≢true i)
lt_trans (inf true) (inf false) (inf u) h i = absurd (false≢true i)
lt_trans (inf true) (inf false) (fin u n d) h i = refl
lt_trans (inf s) (fin t m e) nan h i = absurd (false≢true i)
lt_trans (inf s) (fin t m e) (inf u) h i = rw (h, i) refl
lt_trans (inf s) (fin t m e) (fin u n d) h i = h
lt_trans (fin s k c) nan z h i = absurd (false≢true h)
lt_trans (fin s k c) (inf true) z h i = absurd (false≢true h)
lt_trans (fin s k c) (inf false) nan h i = absurd (false≢true i)
lt_trans (fin s k c) (inf false) (inf u) h i = absurd (false≢true i)
lt_trans (fin s k c) (inf false) (fin u n d) h i = absurd (false≢true i)
lt_trans (fin s k c) (fin t m e) nan h i = absurd (false≢true i)
lt_trans (fin s k c) (fin t m e) (inf u) h i = i
lt_trans (fin s k c) (fin t m e) (fin u n d) h i = below_trans (k * up c) (m * up e) (n * up d) (down c) (down e) (down d) (down_pos c) (down_pos e) (down_pos d) s t u h i
