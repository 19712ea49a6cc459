-- A record whose F is diagonal with finite entries of at least 0, which neither 1 nor 11 refuses: its factors are stored, with these entries bit
-- by bit as sigma (ticket 6). Zeros of either sign may stand beside the diagonal. Assumes nothing.
use mathlib.Core.Path.{◌≡◌, refl, ap, ◌∙◌}
use mathlib.Core.Bool.{true, false}
use mathlib.Core.List.{List}
use Prim.Native.Nat.{ℕ, ◌+◌, ◌^◌, ◌<◌}
use native.Mathlib.Omega.{arith}
use lib.ListN.{length, get_or, set, length-set}
use lib.Seq.{get_or-set_same, get_or-set_other}
use lib.Ieee as Ieee
use lib.Ieee.{Float, nan, binary64}
use lib.Ieee.Bits.{to_bits-of_bits}
use Rattle.numbers.specs.Floats.{finite}
use Rattle.tensor.specs.Matrix.{zero, three}
use Rattle.tensor.specs.declared.Rows.{Rows}
use Rattle.plasticity.specs.declared.Outcome.TheVariants.{Stored}
use Rattle.record.specs.Layout.{floats, place_f, place_u, place_sigma, place_vt, float_at, rows_at, bits, put_row, put_rows, record_finite, determinant_right}
use Rattle.record.proofs.Parts.{finite_number, rows_parts, row_parts, state_parts}
use Rattle.factors.specs.declared.Factors.{Factors}
use Rattle.factors.specs.Sweeps.{identity_rows}
use Rattle.factors.specs.Diagonal.{Zero}
use Rattle.factors.proofs.Diagonal.{diagonal_factored}
use Rattle.particles.specs.Pass.{Worked}
use Rattle.factored_particles.specs.Factored.{factors_at, put_factors, with_factors, factor_refusal, factor_law}
use Rattle.factored_particles.proofs.Fourteen.{stored}

-- nothing but zeros beside the diagonal, and nothing below 0 on it
pub record DiagonalAt (r : List ℕ) : Type 0 where
  pub beside_1 : Zero (float_at r 1)
  pub beside_2 : Zero (float_at r 2)
  pub beside_3 : Zero (float_at r 3)
  pub beside_5 : Zero (float_at r 5)
  pub beside_6 : Zero (float_at r 6)
  pub beside_7 : Zero (float_at r 7)
  pub on_0 : Ieee.le zero (float_at r 0) ≡ true
  pub on_4 : Ieee.le zero (float_at r 4) ≡ true
  pub on_8 : Ieee.le zero (float_at r 8) ≡ true

-- ---- the words of a row that was put, and those before it
word_before : (r : List ℕ) (at j : ℕ) (v : List Float) → j < at → get_or (put_row r at v) j 0 ≡ get_or r j 0
word_before r at j v h =
    let x = set r at (bits (get_or v 0 nan)) in
    let y = set x (at + 1) (bits (get_or v 1 nan)) in
    get_or-set_other y (at + 2) j _ 0 (λ e. omega arith) ∙ get_or-set_other x (at + 1) j _ 0 (λ e. omega arith) ∙ get_or-set_other r at j _ 0 (λ e. omega arith)

words_before : (r : List ℕ) (at j : ℕ) (m : Rows) → j < at → get_or (put_rows r at m) j 0 ≡ get_or r j 0
words_before r at j m h =
    word_before (put_row (put_row r at m.r0) (at + 3) m.r1) (at + 6) j m.r2 (omega arith)
    ∙ word_before (put_row r at m.r0) (at + 3) j m.r1 (omega arith) ∙ word_before r at j m.r0 h

words_at : (r : List ℕ) (at : ℕ) (v : List Float) → at + 2 < length r
    → (get_or (put_row r at v) at 0 ≡ bits (get_or v 0 nan)) × (get_or (put_row r at v) (at + 1) 0 ≡ bits (get_or v 1 nan)) × (get_or (put_row r at v) (at + 2) 0 ≡ bits (get_or v 2 nan))
words_at r at v h =
    let a = bits (get_or v 0 nan) in
    let b = bits (get_or v 1 nan) in
    let c = bits (get_or v 2 nan) in
    let x = set r at a in
    let y = set x (at + 1) b in (
      get_or-set_other y (at + 2) at c 0 (λ e. omega arith) ∙ get_or-set_other x (at + 1) at b 0 (λ e. omega arith) ∙ get_or-set_same r at a 0 (omega arith),
      get_or-set_other y (at + 2) (at + 1) c 0 (λ e. omega arith) ∙ get_or-set_same x (at + 1) b 0 (simp length-set (omega arith)),
      get_or-set_same y (at + 2) c 0 (simp length-set (omega arith)),
    )

-- ---- each word of the list is a u64
module _ (r : List ℕ) (long : length r ≡ floats) (words : (k : ℕ) → get_or r k 0 < 2 ^ 64) (f : record_finite r ≡ true) (d : determinant_right r ≡ true) (g : DiagonalAt r) where
  abbrev own : Factors
  own = record { u = identity_rows; sigma = three (float_at r 0) (float_at r 4) (float_at r 8); vt = identity_rows }

  on_diagonal : (finite (float_at r 0) ≡ true) × (finite (float_at r 4) ≡ true) × (finite (float_at r 8) ≡ true)
  on_diagonal =
      let p = rows_parts (rows_at r place_f) (state_parts r f).0 in
      ((row_parts r 0 p.0).0, (row_parts r 3 p.1).1, (row_parts r 6 p.2).2)

  factors_are : factors_at r ≡ record { refusal = 0; factors = own }
  factors_are =
      diagonal_factored (float_at r 0) (float_at r 4) (float_at r 8) (float_at r 1) (float_at r 2) (float_at r 3) (float_at r 5) (float_at r 6) (float_at r 7) g.beside_1 g.beside_2 g.beside_3
      g.beside_5 g.beside_6 g.beside_7 on_diagonal.0 on_diagonal.1 on_diagonal.2 g.on_0 g.on_4 g.on_8

  unrefused : factor_refusal r ≡ 0
  unfolding factor_refusal
  unrefused = rw (f, d, factors_are) refl

  written : with_factors r ≡ put_factors r own
  unfolding with_factors
  written = ap (λ x. put_factors r x.factors) factors_are

  -- accepted
  pub diagonal_stored : factor_law r ≡ record { outcome = Stored zero; failed = false; after = put_factors r own }
  diagonal_stored = stored r unrefused ∙ ap (λ (l : List ℕ). record { outcome = Stored zero; failed = false; after = l }) written

  same_word : (k : ℕ) → finite (float_at r k) ≡ true → bits (float_at r k) ≡ get_or r k 0
  same_word k h = to_bits-of_bits binary64 (get_or r k 0) (words k) (finite_number (float_at r k) h)

  -- with those bits as sigma
  pub diagonal_sigma : let after = (factor_law r).after in
      (get_or after place_sigma 0 ≡ get_or r 0 0) × (get_or after (place_sigma + 1) 0 ≡ get_or r 4 0) × (get_or after (place_sigma + 2) 0 ≡ get_or r 8 0)
  diagonal_sigma =
      let q = put_rows r place_u identity_rows in
      let s = three (float_at r 0) (float_at r 4) (float_at r 8) in
      let w = words_at q place_sigma s (simp length-set (omega arith)) in
      let e : (j : ℕ) → get_or (factor_law r).after j 0 ≡ get_or (put_factors r own) j 0 = λ j. ap (λ (v : Worked). get_or v.after j 0) diagonal_stored in (
        e place_sigma ∙ words_before (put_row q place_sigma s) place_vt place_sigma identity_rows (omega arith) ∙ w.0 ∙ same_word 0 on_diagonal.0,
        e (place_sigma + 1) ∙ words_before (put_row q place_sigma s) place_vt (place_sigma + 1) identity_rows (omega arith) ∙ w.1 ∙ same_word 4 on_diagonal.1,
        e (place_sigma + 2) ∙ words_before (put_row q place_sigma s) place_vt (place_sigma + 2) identity_rows (omega arith) ∙ w.2 ∙ same_word 8 on_diagonal.2,
      )
