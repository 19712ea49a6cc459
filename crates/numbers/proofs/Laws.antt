-- Laws of the numbers: what the code's tests say of the definitions of specs/. Assumes nothing.
use Rattle.std.proofs.Common.{◌≡◌, ℕ, zero, suc, ◌+◌, ◌*◌, ◌/◌, ◌%◌, ◌^◌, ◌<◌, ◌≤◌, Bool, true, false, cond, not, ◌&&◌, ◌||◌, T, eqb, leb, sym, refl, ◌∙◌, subst, le-ltb, lt-ltb, eq-eqb}
use lib.Ieee.Bits.{nan_bits_is, nan_bits_above}
use lib.Ieee as Ieee
use lib.Ieee.{Float, nan, inf, fin, up, down, lt, eq, neg, is_nan, binary64, of_bits, to_bits, nan_bits, div, odd, of_fields}
use lib.Ieee.Scale as Scale
use Rattle.numbers.specs.Floats.{finite, is_number}

pub eq_self : (x : Float) → eq x x ≡ is_number x
unfolding eq is_number
eq_self nan = refl
eq_self (inf true) = refl
eq_self (inf false) = refl
eq_self (fin true m e) = rw (eq-eqb (m * up e * down e) (m * up e * down e) refl)
eq_self (fin false m e) = rw (eq-eqb (m * up e * down e) (m * up e * down e) refl)

-- below an infinity and above the other
pub within : (x : Float) → lt (inf true) x && lt x (inf false) ≡ finite x
unfolding lt finite
within nan = refl
within (inf true) = refl
within (inf false) = refl
within (fin s m e) = refl

pub above : (x : Float) → lt (inf true) x ≡ true → lt x (inf false) ≡ finite x
unfolding lt finite
above nan p = refl
above (inf true) p = sym p
above (inf false) p = refl
above (fin s m e) p = refl

pub finite_number : (x : Float) → finite x ≡ true → is_number x ≡ true
unfolding finite is_number
finite_number nan h = h
finite_number (inf s) h = refl
finite_number (fin s m e) h = refl

pub number_not_nan : (x : Float) → eq x x ≡ true → T (not (is_nan x))
unfolding eq is_nan
number_not_nan nan p = subst T (sym p) tt
number_not_nan (inf s) p = tt
number_not_nan (fin s m e) p = tt

pub no_number : (x : Float) → is_number x ≡ false → x ≡ nan
unfolding is_number
no_number nan q = refl
no_number (inf s) q = absurd (subst T q tt)
no_number (fin s m e) q = absurd (subst T q tt)

pub nan_is : (x : Float) → is_nan x ≡ true → x ≡ nan
unfolding is_nan
nan_is nan q = refl
nan_is (inf s) q = absurd (subst T (sym q) tt)
nan_is (fin s m e) q = absurd (subst T (sym q) tt)

-- what differs from itself has the pattern that `to_bits` gives the NaN
pub other_bits : (x : Float) → eq x x ≡ false → 0x7ff8_0000_0000_0000 ≡ to_bits binary64 x
unfolding to_bits
other_bits x p = rw (no_number x (rw eq_self at p)) refl

pub zero_over_zero : div binary64 (of_bits binary64 0) (of_bits binary64 0) ≡ nan
unfolding div of_bits
zero_over_zero = refl

pub above_inf : (n : ℕ) → 0x7ff0_0000_0000_0000 < n % 0x8000_0000_0000_0000 → of_bits binary64 n ≡ nan
above_inf n h = nan_is (of_bits binary64 n) (sym (nan_bits_is binary64 n) ∙ nan_bits_above binary64 n ∙ lt-ltb 0x7ff0_0000_0000_0000 (n % 0x8000_0000_0000_0000) h)

pub not_above_inf : (n : ℕ) → n % 0x8000_0000_0000_0000 ≤ 0x7ff0_0000_0000_0000 → T (not (nan_bits binary64 n))
not_above_inf n h = rw (nan_bits_above binary64 n, le-ltb 0x7ff0_0000_0000_0000 (n % 0x8000_0000_0000_0000) h) tt

pub and_both : (a b : Bool) → a && b ≡ true → (a ≡ true) × (b ≡ true)
and_both true b p = (refl, p)
and_both false b p = absurd (subst T (sym p) tt)

finite_odd : (d : ℕ) (s : Bool) (q k l : ℕ) → finite (odd d s q k l) ≡ true
unfolding odd finite
finite_odd d s zero k l = refl
finite_odd d s (suc q) k l = refl

finite_top : (b c s : Bool) (x : Float) → finite x ≡ true → finite (cond b (cond c (inf s) nan) x) ≡ not b
unfolding finite
finite_top true true s x h = refl
finite_top true false s x h = refl
finite_top false c s x h = h

finite_fields : (s : Bool) (x t : ℕ) → finite (of_fields binary64 s x t) ≡ not (eqb x 2047)
unfolding of_fields
finite_fields s zero t = finite_odd 53 s t 0 1074
finite_fields s (suc x) t = finite_top (eqb (suc x) 2047) (eqb t 0) s (odd 53 s (2 ^ 52 + t) x 1074) (finite_odd 53 s (2 ^ 52 + t) x 1074)

-- a pattern is a finite number's where the exponent's field is not all ones
pub finite_bits : (n : ℕ) → finite (of_bits binary64 n) ≡ not (eqb (n % 2 ^ 63 / 2 ^ 52) 2047)
unfolding of_bits
finite_bits n = finite_fields (leb (2 ^ 63) n) (n % 2 ^ 63 / 2 ^ 52) (n % 2 ^ 52)

-- the library's own test is the same
pub finite_is : (x : Float) → finite x ≡ Scale.finite x
unfolding finite
finite_is nan = refl
finite_is (inf s) = refl
finite_is (fin s m e) = refl
