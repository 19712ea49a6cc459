-- What is read of a record with our own factors: its F as it came, and at U's, sigma's and V^T's places the factors after the last sweep, which
-- pass the check there, by the record's own bits (ticket 6). Assumes nothing.
use mathlib.Core.Path.{◌≡◌, ap, ◌∙◌}
use mathlib.Core.Bool.{true}
use mathlib.Core.List.{List, [], ◌∷◌}
use Prim.Native.Nat.{ℕ, ◌+◌, ◌<◌}
use native.Mathlib.Omega.{arith}
use lib.Dec.{T}
use lib.ListN.{length, get_or, length-set}
use lib.Ieee.{Float, nan, binary64, fits}
use lib.Ieee.Bits.{of_bits-fits}
use Rattle.tensor.proofs.Axes.{entries}
use Rattle.tensor.specs.declared.Rows.{Rows}
use Rattle.record.specs.Layout.{floats, place_f, place_u, place_sigma, place_vt, float_at, row_at, rows_at, mat_at, put_row, put_rows}
use Rattle.record.proofs.Places.{row_same, row_beside}
use Rattle.factors.specs.declared.Factors.{Factors}
use Rattle.factors.specs.Sweeps.{factors_of}
use Rattle.factors.specs.Check.{accepted_of}
use Rattle.factors.proofs.Entries.{Row, AllRows, FactorRows, of_three, factor_rows}
use Rattle.factored_particles.specs.Factored.{with_factors, put_factors}
use Rattle.factored_particles.proofs.Fourteen.{checked, written}

-- the factors of a record's F: three rows of three, each an f64
pub own_rows : (r : List ℕ) → FactorRows (factors_of (mat_at r place_f))
own_rows r =
    let o : (k : ℕ) → T (fits binary64 (float_at r k)) = λ k. of_bits-fits binary64 (get_or r k 0) in
    factor_rows (mat_at r place_f)
    (record { row0 = of_three _ _ _ (o 0) (o 1) (o 2); row1 = of_three _ _ _ (o 3) (o 4) (o 5); row2 = of_three _ _ _ (o 6) (o 7) (o 8) })

-- ---- a row that was put, and one before it
row_back : (r : List ℕ) (at : ℕ) (v : List Float) → at + 2 < length r → Row v → row_at (put_row r at v) at ≡ v
row_back r at v h w = row_same r at v h w.f64 ∙ entries nan v w.long

rows_beside : (r : List ℕ) (i at : ℕ) (m : Rows) → at + 2 < i → row_at (put_rows r i m) at ≡ row_at r at
rows_beside r i at m h =
    row_beside (put_row (put_row r i m.r0) (i + 3) m.r1) (i + 6) at m.r2 (omega arith)
    ∙ row_beside (put_row r i m.r0) (i + 3) at m.r1 (omega arith) ∙ row_beside r i at m.r0 h

rows_back : (r : List ℕ) (at : ℕ) (m : Rows) → at + 8 < length r → AllRows m → rows_at (put_rows r at m) at ≡ m
rows_back r at m h w =
    let p = put_row r at m.r0 in
    let q = put_row p (at + 3) m.r1 in
    let a : row_at (put_rows r at m) at ≡ m.r0 =
    row_beside q (at + 6) at m.r2 (omega arith) ∙ row_beside p (at + 3) at m.r1 (omega arith) ∙ row_back r at m.r0 (omega arith) w.row0 in
    let b : row_at (put_rows r at m) (at + 3) ≡ m.r1 = row_beside q (at + 6) (at + 3) m.r2 (omega arith) ∙ row_back p (at + 3) m.r1 (simp length-set (omega arith)) w.row1 in
    let c : row_at (put_rows r at m) (at + 6) ≡ m.r2 = row_back q (at + 6) m.r2 (simp length-set (omega arith)) w.row2 in
    rw (a, b, c)

rows_kept : (r : List ℕ) (i at : ℕ) (m : Rows) → at + 8 < i → rows_at (put_rows r i m) at ≡ rows_at r at
rows_kept r i at m h = rw (rows_beside r i at m (omega arith), rows_beside r i (at + 3) m (omega arith), rows_beside r i (at + 6) m (omega arith))

rows_by_row : (r : List ℕ) (i at : ℕ) (v : List Float) → at + 8 < i → rows_at (put_row r i v) at ≡ rows_at r at
rows_by_row r i at v h = rw (row_beside r i at v (omega arith), row_beside r i (at + 3) v (omega arith), row_beside r i (at + 6) v (omega arith))

-- ---- the factors as a record has them
abbrev pub factors_in : List ℕ → Factors
factors_in r = record { u = rows_at r place_u; sigma = row_at r place_sigma; vt = rows_at r place_vt }

module _ (r : List ℕ) (x : Factors) (long : length r ≡ floats) (w : FactorRows x) where
  abbrev one : List ℕ
  one = put_rows r place_u x.u

  abbrev two : List ℕ
  two = put_row one place_sigma x.sigma

  factors_back : factors_in (put_factors r x) ≡ x
  factors_back =
      let a : rows_at (put_factors r x) place_u ≡ x.u =
      rows_kept two place_vt place_u x.vt (omega arith) ∙ rows_by_row one place_sigma place_u x.sigma (omega arith) ∙ rows_back r place_u x.u (omega arith) w.u in
      let b : row_at (put_factors r x) place_sigma ≡ x.sigma =
      rows_beside two place_vt place_sigma x.vt (omega arith) ∙ row_back one place_sigma x.sigma (simp length-set (omega arith)) w.sigma in
      let c : rows_at (put_factors r x) place_vt ≡ x.vt = rows_back two place_vt x.vt (simp length-set (omega arith)) w.vt in
      rw (a, b, c)

  f_kept : rows_at (put_factors r x) place_f ≡ rows_at r place_f
  f_kept = rows_kept two place_vt place_f x.vt (omega arith) ∙ rows_by_row one place_sigma place_f x.sigma (omega arith) ∙ rows_kept r place_u place_f x.u (omega arith)

-- ---- of a record whose factors pass the check
module _ (r : List ℕ) (long : length r ≡ floats) (c : checked r ≡ true) where
  abbrev own : Factors
  own = factors_of (mat_at r place_f)

  pub with_factors_case : (factors_in (with_factors r) ≡ own) × (rows_at (with_factors r) place_f ≡ rows_at r place_f)
  with_factors_case = (
    ap factors_in (written r c) ∙ factors_back r own long (own_rows r),
    ap (λ (q : List ℕ). rows_at q place_f) (written r c) ∙ f_kept r own long (own_rows r),
  )

  pub stored_checked : accepted_of (mat_at (with_factors r) place_f) (factors_in (with_factors r)) ≡ true
  stored_checked =
      let e : mat_at (with_factors r) place_f ≡ mat_at r place_f = ap (λ (q : Rows). q.r0 ∷ q.r1 ∷ q.r2 ∷ []) with_factors_case.1 in
      ap (λ (m : List (List Float)). accepted_of m (factors_in (with_factors r))) e ∙ ap (accepted_of (mat_at r place_f)) with_factors_case.0 ∙ c
