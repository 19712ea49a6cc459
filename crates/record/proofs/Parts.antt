-- A finite float's pattern, and what is finite of a finite record. Assumes nothing.
use mathlib.Core.Path.{◌≡◌, refl, sym, subst, ◌∙◌}
use mathlib.Core.Bool.{Bool, true, false, not, ◌&&◌}
use mathlib.Core.List.{List}
use Prim.Native.Nat.{ℕ, ◌+◌, ◌/◌, ◌%◌, ◌^◌, ◌<◌, ◌≤◌}
use native.Mathlib.Omega.{arith}
use lib.Dec.{T, eqb}
use lib.ListN.{length, get_or}
use lib.Bits.{bit_and, bit_or, and_le_l, and_le_r, or_lt, or_add_and}
use borrow.Author.Tests.{ltb-true, ltb-false, lt-ltb, le-ltb, eq-eqb, ne_eqb}
use lib.Ieee.{Float, nan, inf, fin, is_nan, binary64, of_bits, nan_bits}
use lib.Ieee.Bits.{nan_bits_is}
use Rattle.numbers.specs.Floats.{finite}
use Rattle.numbers.proofs.Laws.{and_both, finite_bits}
use Rattle.tensor.proofs.Axes.{of_one}
use Rattle.tensor.specs.declared.Rows.{Rows}
use Rattle.tensor.specs.Finite.{row_finite, mat_finite, rows_finite}
use Rattle.plasticity.specs.State.{scalars_finite, state_finite, inputs_finite}
use Rattle.record.specs.Layout.{layout, place, place_f, place_sigma, place_determinant, float_at, row_at, mat_at, rows_at, u_at, vt_at, state_at, record_finite, low}

-- the upper half of a pattern with no sign, its exponent one more, is low where that exponent was not all ones
below_ones : (m h : ℕ) → h < 2 ^ 31 → m / 2 ^ 52 ≡ h / 2 ^ 20 → low (h + 2 ^ 20) ≡ not (eqb (m / 2 ^ 52) 2047)
below_ones m h k e = go (low (h + 2 ^ 20)) refl
  where
    go : (b : Bool) → low (h + 2 ^ 20) ≡ b → b ≡ not (eqb (m / 2 ^ 52) 2047)
    go true q = let l = ltb-true (h + 2 ^ 20) (2 ^ 31) q in rw (ne_eqb (m / 2 ^ 52) 2047 (λ g. absurd (omega arith))) refl
    go false q = let l = ltb-false (h + 2 ^ 20) (2 ^ 31) q in rw (eq-eqb (m / 2 ^ 52) 2047 (omega arith)) refl

-- its exponent stands whole in the upper half
same_exponent : (n : ℕ) → n % 2 ^ 63 / 2 ^ 52 ≡ n / 2 ^ 32 % 2 ^ 31 / 2 ^ 20
same_exponent n = omega arith

pub lifted : (n : ℕ) → low (n / 2 ^ 32 % 2 ^ 31 + 2 ^ 20) ≡ finite (of_bits binary64 n)
lifted n = below_ones (n % 2 ^ 63) (n / 2 ^ 32 % 2 ^ 31) (omega arith) (same_exponent n) ∙ sym (finite_bits n)

-- an OR is low where both are
pub or_low : (a b : ℕ) → low (bit_or a b) ≡ low a && low b
or_low a b = go (low a) (low b) refl refl
  where
    sum : bit_or a b + bit_and a b ≡ a + b
    sum = or_add_and a b

    go : (p q : Bool) → low a ≡ p → low b ≡ q → low (bit_or a b) ≡ p && q
    go true true p q = lt-ltb (bit_or a b) (2 ^ 31) (or_lt 31 a b (ltb-true a (2 ^ 31) p) (ltb-true b (2 ^ 31) q))
    go true false p q = le-ltb (bit_or a b) (2 ^ 31) (omega (arith, sum, and_le_l a b, ltb-false b (2 ^ 31) q))
    go false d p q = le-ltb (bit_or a b) (2 ^ 31) (omega (arith, sum, and_le_r a b, ltb-false a (2 ^ 31) p))

pub finite_number : (x : Float) → finite x ≡ true → T (not (is_nan x))
unfolding finite is_nan
finite_number nan f = subst T (sym f) tt
finite_number (inf s) f = tt
finite_number (fin s m e) f = tt

pub no_nan : (n : ℕ) → finite (of_bits binary64 n) ≡ true → T (not (nan_bits binary64 n))
no_nan n f = subst (λ (b : Bool). T (not b)) (sym (nan_bits_is binary64 n)) (finite_number (of_bits binary64 n) f)

-- ---- where a test holds its parts hold
three_parts : (a b c : Bool) → a && b && c ≡ true → (a ≡ true) × (b ≡ true) × (c ≡ true)
three_parts a b c q =
    let t = and_both (a && b) c q in
    let u = and_both a b t.0 in
    (u.0, u.1, t.1)

-- of a row, and of three rows
pub entries_parts : (v : List Float) → length v ≡ 3 → row_finite v ≡ true → (finite (get_or v 0 nan) ≡ true) × (finite (get_or v 1 nan) ≡ true) × (finite (get_or v 2 nan) ≡ true)
entries_parts v h q = three_parts (finite (get_or v 0 nan)) (finite (get_or v 1 nan)) (finite (get_or v 2 nan)) (of_one row_finite nan v h ∙ q)

pub rows_parts : (m : Rows) → rows_finite m ≡ true → (row_finite m.r0 ≡ true) × (row_finite m.r1 ≡ true) × (row_finite m.r2 ≡ true)
rows_parts m q = three_parts (row_finite m.r0) (row_finite m.r1) (row_finite m.r2) q

-- whether part k of a record, a scalar, is finite
abbrev Scalar : List ℕ → ℕ → Bool
Scalar r k = finite (float_at r (place layout k))

module _ (r : List ℕ) where
  pub row_parts : (at : ℕ) → row_finite (row_at r at) ≡ true → (finite (float_at r at) ≡ true) × (finite (float_at r (at + 1)) ≡ true) × (finite (float_at r (at + 2)) ≡ true)
  row_parts at q = three_parts (finite (float_at r at)) (finite (float_at r (at + 1))) (finite (float_at r (at + 2))) q

  pub mat_parts : (at : ℕ) → mat_finite (mat_at r at) ≡ true
      → (row_finite (row_at r at) ≡ true) × (row_finite (row_at r (at + 3)) ≡ true) × (row_finite (row_at r (at + 6)) ≡ true)
  mat_parts at q = three_parts (row_finite (row_at r at)) (row_finite (row_at r (at + 3))) (row_finite (row_at r (at + 6))) q

  -- all but the determinant are the inputs of a law
  pub record_inputs : record_finite r ≡ true → inputs_finite (u_at r) (vt_at r) (state_at r) ≡ true
  record_inputs q = (and_both (inputs_finite (u_at r) (vt_at r) (state_at r)) (finite (float_at r place_determinant)) q).0

  pub record_parts : record_finite r ≡ true → (mat_finite (u_at r) ≡ true) × (mat_finite (vt_at r) ≡ true) × (state_finite (state_at r) ≡ true)
  record_parts q = three_parts (mat_finite (u_at r)) (mat_finite (vt_at r)) (state_finite (state_at r)) (record_inputs q)

  pub state_parts : record_finite r ≡ true → (rows_finite (rows_at r place_f) ≡ true) × (row_finite (row_at r place_sigma) ≡ true) × (scalars_finite (state_at r).scalars ≡ true)
  state_parts q = three_parts (rows_finite (rows_at r place_f)) (row_finite (row_at r place_sigma)) (scalars_finite (state_at r).scalars) (record_parts q).2

  pub scalars_parts : record_finite r ≡ true
      → ((Scalar r 4 ≡ true) × (Scalar r 5 ≡ true) × (Scalar r 6 ≡ true)) × ((Scalar r 7 ≡ true) × (Scalar r 8 ≡ true) × (Scalar r 9 ≡ true))
  scalars_parts q =
      let t = three_parts (Scalar r 4 && Scalar r 5 && Scalar r 6 && Scalar r 7) (Scalar r 8) (Scalar r 9) (state_parts q).2 in
      let u = and_both (Scalar r 4 && Scalar r 5 && Scalar r 6) (Scalar r 7) t.0 in
      (three_parts (Scalar r 4) (Scalar r 5) (Scalar r 6) u.0, (u.1, t.1, t.2))
