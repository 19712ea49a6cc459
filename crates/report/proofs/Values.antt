-- The column of one value, and its whole number, from its pattern. Assumes nothing.
use Rattle.std.proofs.Common.{◌≡◌, ℕ, zero, suc, ◌+◌, ◌-◌, ◌*◌, ◌/◌, ◌%◌, ◌^◌, ◌<◌, ◌≤◌, Bool, true, false, cond, not, ◌&&◌, eqb, leb, List, [], ◌∷◌, ℤ, pos, negsuc, ◌+ℤ◌, neg_ℤ, sym, refl, ap, ◌∙◌, subst, le_trans, mod-eq_of_lt, arith, eq-eqb, ne_eqb, le-leb}
use lib.Ieee.{Float, binary64, of_bits}
use borrow.Author.Tests.{lt-leb}
use Rattle.exact.proofs.Integers.{+0}
use Rattle.exact.specs.Units.{mag, sgn}
use Rattle.exact.specs.Value.{val, signed}
use Rattle.exact.specs.Fields.{sign_at, exponent_at, digits_at}
use Rattle.exact.proofs.Cut.{Unpacked, unpacked}
use Rattle.numbers.specs.Floats.{finite}
use Rattle.numbers.proofs.Laws.{finite_bits}
use Rattle.report.specs.Whole.{down, whole_of, within, is_counted, is_outside, is_not_finite}
use Rattle.report.specs.Column.{those, word, first_from, sum_of, column_of}
use Rattle.report.specs.declared.column.Column.{Column}
use Rattle.report.proofs.Columns.{same_column}
use Rattle.report.proofs.Patterns.{cut_le, size_cut, next_cut, zero_size, some_size, size_le, size_gt}

-- ---- the column of one value, by its kind
abbrev pub one_not_finite : Column
one_not_finite = record { count = 0; least = 0; greatest = 0; total = 0; outside = 0; not_finite = 1 }

abbrev pub one_outside : Column
one_outside = record { count = 0; least = 0; greatest = 0; total = 0; outside = 1; not_finite = 0 }

abbrev pub one_counted : ℕ → Column
one_counted w = record { count = 1; least = w; greatest = w; total = w; outside = 0; not_finite = 0 }

module _ (x : Float) where
  pub not_finite_one : finite x ≡ false → column_of (x ∷ []) ≡ one_not_finite
  unfolding column_of those is_counted is_outside is_not_finite word sum_of
  not_finite_one e = rw e refl

  pub outside_one : finite x ≡ true → within x ≡ false → column_of (x ∷ []) ≡ one_outside
  unfolding column_of those is_counted is_outside is_not_finite word sum_of
  outside_one e f = rw (e, f) refl

  pub counted_one : finite x ≡ true → within x ≡ true → column_of (x ∷ []) ≡ one_counted (word (whole_of x))
  unfolding column_of those is_counted is_outside is_not_finite first_from sum_of
  counted_one e f = rw (e, f, +0 (whole_of x)) refl

-- ---- kinds by patterns
pub bits_not_finite : (n : ℕ) → 0x7ff0_0000_0000_0000 ≤ n % 2 ^ 63 → finite (of_bits binary64 n) ≡ false
bits_not_finite n h = finite_bits n ∙ ap not (eq-eqb (n % 2 ^ 63 / 2 ^ 52) 2047 (omega arith))

pub bits_finite : (n : ℕ) → n % 2 ^ 63 < 0x7ff0_0000_0000_0000 → finite (of_bits binary64 n) ≡ true
bits_finite n h = finite_bits n ∙ ap not (ne_eqb (n % 2 ^ 63 / 2 ^ 52) 2047 (λ e. omega arith))

pub bits_within : (n : ℕ) → n % 2 ^ 63 ≤ 0x4130_0000_0000_0000 → within (of_bits binary64 n) ≡ true
unfolding within
bits_within n h = le-leb (mag (of_bits binary64 n)) (2 ^ 1094) (size_le n h)

pub bits_outside : (n : ℕ) → n % 2 ^ 63 < 0x7ff0_0000_0000_0000 → 0x4130_0000_0000_0000 < n % 2 ^ 63 → within (of_bits binary64 n) ≡ false
unfolding within
bits_outside n h g = lt-leb (mag (of_bits binary64 n)) (2 ^ 1094) (size_gt n (omega arith) g)

-- ---- the whole number
whole_plus : (s : Bool) (m : ℕ) → s ≡ false → down (signed s m) ≡ pos (m / 2 ^ 1044)
whole_plus s m e = ap (λ (t : Bool). down (signed t m)) e

whole_minus : (s : Bool) (m u : ℕ) → s ≡ true → m ≡ suc u → down (signed s m) ≡ negsuc (u / 2 ^ 1044)
whole_minus s m u e f = ap (λ (t : Bool). down (signed t m)) e ∙ ap (λ (k : ℕ). down (neg_ℤ (pos k))) f

whole_zero : (s : Bool) (m : ℕ) → m ≡ 0 → down (signed s m) ≡ pos (0 / 2 ^ 1044)
whole_zero false m f = ap (λ (k : ℕ). down (pos k)) f
whole_zero true m f = ap (λ (k : ℕ). down (neg_ℤ (pos k))) f

module _ (n : ℕ) (h : n % 2 ^ 63 ≤ 0x4130_0000_0000_0000) where
  low_exponent : exponent_at n < 1044
  low_exponent = omega arith

  sign_is : sgn (of_bits binary64 n) ≡ sign_at n
  sign_is = (unpacked n (omega arith)).sign

  digits_same : 2 ^ 52 + n % 2 ^ 63 % 2 ^ 52 ≡ 2 ^ 52 + digits_at n
  digits_same = omega arith

  pub whole_above : n < 2 ^ 63 → (2 ^ 52 + n % 2 ^ 63 % 2 ^ 52) * 2 ^ exponent_at n / 2 ^ 1045 ≡ word (whole_of (of_bits binary64 n))
  unfolding whole_of val word
  whole_above g =
      let x = of_bits binary64 n in
      let m = 2 ^ 52 + digits_at n in
      let q = m * 2 ^ exponent_at n / 2 ^ 1045 in
      let k : q ≤ m = cut_le m (exponent_at n) (omega arith) in
      ap (λ v. v * 2 ^ exponent_at n / 2 ^ 1045) digits_same
      ∙ sym (mod-eq_of_lt (few q m k (omega arith)))
      ∙ ap (λ v. v % 2 ^ 64) (size_cut n (omega arith))
      ∙ ap word (sym (whole_plus (sgn x) (mag x) (sign_is ∙ lt-leb (2 ^ 63) n g)))
    where
      few : (q m : ℕ) → q ≤ m → m < 2 ^ 53 → q < 2 ^ 64
      few q m k l = omega arith

  pub whole_at_zero : n % 2 ^ 63 ≡ 0 → 0 ≡ word (whole_of (of_bits binary64 n))
  unfolding whole_of val word
  whole_at_zero z = ap word (sym (whole_zero (sgn (of_bits binary64 n)) (mag (of_bits binary64 n)) (zero_size n z)))

  pub whole_below : 2 ^ 63 ≤ n → (n % 2 ^ 63 ≡ 0 → ⊥)
      → 0xffff_ffff_ffff_ffff - (2 ^ 52 + n % 2 ^ 63 % 2 ^ 52 - 1) * 2 ^ exponent_at n / 2 ^ 1045 ≡ word (whole_of (of_bits binary64 n))
  unfolding whole_of val word
  whole_below g z =
      let x = of_bits binary64 n in
      let m = 2 ^ 52 + digits_at n - 1 in
      let u = mag x - 1 in
      let s = some_size n (omega arith) z in
      let f : mag x ≡ suc u = one_less (mag x) s in
      let q = m * 2 ^ exponent_at n / 2 ^ 1045 in
      let k : q ≤ m = cut_le m (exponent_at n) (omega arith) in
      ap (λ v. 0xffff_ffff_ffff_ffff - (v - 1) * 2 ^ exponent_at n / 2 ^ 1045) digits_same
      ∙ ap (λ v. 0xffff_ffff_ffff_ffff - v) (sym (mod-eq_of_lt (few q m k (omega arith))))
      ∙ ap (λ v. 0xffff_ffff_ffff_ffff - v % 2 ^ 64) (next_cut n u low_exponent f)
      ∙ ap word (sym (whole_minus (sgn x) (mag x) u (sign_is ∙ le-leb (2 ^ 63) n g) f))
    where
      one_less : (v : ℕ) → 0 < v → v ≡ suc (v - 1)
      one_less v l = omega arith

      few : (q m : ℕ) → q ≤ m → m < 2 ^ 53 → q < 2 ^ 64
      few q m k l = omega arith
