-- Which sums and differences are numbers.
use mathlib.Core.Bool.{Bool, true, false, ◌&&◌, beq, cond, true≢false}
use mathlib.Core.Path.{◌≡◌, refl, sym, ◌∙◌}
use Prim.Native.Nat.{ℕ, zero, suc, ◌+◌, ◌-◌, ◌*◌, ◌^◌}
use lib.Dec.{ltb}
use lib.Ieee as Ieee
use lib.Ieee.{Float, Format, nan, inf, fin, binary64}
use Rattle.numbers.specs.Floats.{finite, is_number, max_of, min_of}
use Rattle.exact.specs.RootOf.{sqrt_of}
use Rattle.tensor.specs.Matrix as tensor
use Rattle.tensor.specs.Matrix.{add, sub}

pub zero_finite : finite tensor.zero ≡ true
unfolding finite Ieee.of_bits
zero_finite = refl

-- ---- rounding gives no NaN
pub picked_number : (b : Bool) (x y : Float) → is_number x ≡ true → is_number y ≡ true → is_number (cond b x y) ≡ true
picked_number true x y h i = h
picked_number false x y h i = i

-- of two numbers
pub max_number : (x y : Float) → is_number x ≡ true → is_number y ≡ true → is_number (max_of x y) ≡ true
max_number x y h i = rw i (picked_number (Ieee.lt y x) x y h i)

odd_number : (d : ℕ) (s : Bool) (q k l : ℕ) → is_number (Ieee.odd d s q k l) ≡ true
unfolding is_number Ieee.odd
odd_number d s zero k l = refl
odd_number d s (suc q) k l = refl

infinite_number : (s : Bool) → is_number (inf s) ≡ true
unfolding is_number
infinite_number s = refl

units_number : (f : Format) (s : Bool) (q k : ℕ) → is_number (Ieee.units f s q k) ≡ true
unfolding Ieee.units
units_number f s q k =
    picked_number (ltb (q * 2 ^ k) (2 ^ (Ieee.low f + suc (Ieee.emax f)))) (Ieee.odd (suc (Ieee.prec f)) s q k (Ieee.low f)) (inf s)
    (odd_number (suc (Ieee.prec f)) s q k (Ieee.low f)) (infinite_number s)

round_number : (f : Format) (s : Bool) (n d : ℕ) → is_number (Ieee.round f s n d) ≡ true
unfolding Ieee.round
round_number f s n d = units_number f s _ _

sum_number : (f : Format) (s : Bool) (a : ℕ) (t : Bool) (b c : ℕ) → is_number (Ieee.sum f s a t b c) ≡ true
unfolding Ieee.sum
sum_number f s a t b c =
    let x = Ieee.round f s (a + b) c in
    let y = Ieee.round f t (b - a) c in
    let z = Ieee.round f (s && ltb b a) (a - b) c in
    picked_number (beq s t) x (cond (ltb a b) y z) (round_number f s (a + b) c)
    (picked_number (ltb a b) y z (round_number f t (b - a) c) (round_number f (s && ltb b a) (a - b) c))

-- a number and a finite one have a number as their sum and difference
pub add_number : (x y : Float) → is_number x ≡ true → finite y ≡ true → is_number (add x y) ≡ true
unfolding finite is_number Ieee.add
add_number nan y h i = h
add_number (inf s) nan h i = i
add_number (inf s) (inf t) h i = absurd (true≢false (sym i))
add_number (inf s) (fin t n d) h i = refl
add_number (fin s m e) nan h i = i
add_number (fin s m e) (inf t) h i = refl
add_number (fin s m e) (fin t n d) h i = sum_number binary64 s (m * Ieee.up e * Ieee.down d) t (n * Ieee.up d * Ieee.down e) (Ieee.down e * Ieee.down d)

neg_finite : (y : Float) → finite (Ieee.neg y) ≡ finite y
unfolding finite Ieee.neg
neg_finite nan = refl
neg_finite (inf s) = refl
neg_finite (fin s m e) = refl

pub sub_number : (x y : Float) → is_number x ≡ true → finite y ≡ true → is_number (sub x y) ≡ true
unfolding Ieee.sub
sub_number x y h i = add_number x (Ieee.neg y) h (neg_finite y ∙ i)

-- and a finite one less a number
pub neg_number : (y : Float) → is_number (Ieee.neg y) ≡ is_number y
unfolding is_number Ieee.neg
neg_number nan = refl
neg_number (inf s) = refl
neg_number (fin s m e) = refl

finite_add : (x y : Float) → finite x ≡ true → is_number y ≡ true → is_number (add x y) ≡ true
unfolding finite is_number Ieee.add
finite_add nan y h i = h
finite_add (inf s) nan h i = i
finite_add (inf s) (inf t) h i = absurd (true≢false (sym h))
finite_add (inf s) (fin t n d) h i = refl
finite_add (fin s m e) nan h i = i
finite_add (fin s m e) (inf t) h i = refl
finite_add (fin s m e) (fin t n d) h i = sum_number binary64 s (m * Ieee.up e * Ieee.down d) t (n * Ieee.up d * Ieee.down e) (Ieee.down e * Ieee.down d)

pub finite_sub : (x y : Float) → finite x ≡ true → is_number y ≡ true → is_number (sub x y) ≡ true
unfolding Ieee.sub
finite_sub x y h i = finite_add x (Ieee.neg y) h (neg_number y ∙ i)

pub root_number : (x : Float) → is_number (sqrt_of x) ≡ true
unfolding sqrt_of
root_number x = round_number binary64 _ _ _
