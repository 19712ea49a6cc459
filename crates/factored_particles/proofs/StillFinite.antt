-- Accepted factors leave a finite record finite: a factor that isn't finite misses the check. Assumes nothing.
use mathlib.Core.Path.{◌≡◌, refl, sym, ap, subst, ◌∙◌}
use mathlib.Core.Bool.{Bool, true, false, ◌&&◌, false≢true}
use mathlib.Core.List.{List, [], ◌∷◌}
use Prim.Native.Nat.{ℕ, zero, suc, ◌+◌}
use lib.Dec.{T}
use lib.ListN.{get_or, set}
use lib.Ieee.{Float, nan, binary64, of_bits, fits}
use lib.Ieee.Bits.{of_bits-to_bits}
use borrow.Author.Tests.{eq-eqb}
use Rattle.numbers.specs.Floats.{finite}
use Rattle.tensor.specs.Matrix as tensor
use Rattle.tensor.specs.Finite.{row_finite, mat_finite, rows_finite}
use Rattle.tensor.specs.declared.Rows.{Rows}
use Rattle.record.specs.Layout.{place_f, place_u, place_sigma, place_vt, float_at, rows_at, mat_at, bits, put_row, put_rows, record_finite}
use Rattle.record.proofs.Parts.{entries_parts, rows_parts, row_parts, mat_parts, record_parts, state_parts, scalars_parts}
use Rattle.factors.specs.declared.Factors.{Factors}
use Rattle.factors.specs.Sweeps.{factors_of}
use Rattle.factors.specs.Check.{near_all, orthogonal_of, largest_in, not_below, accepted_of}
use Rattle.factors.proofs.Entries.{Row, AllRows}
use Rattle.one_record.proofs.RecordLaws.{last_finite}
use Rattle.model.specs.declared.Ready.{Ready}
use Rattle.one_record.specs.declared.judged.Judge.{Judge}
use Rattle.one_record.specs.Judged.{finite_by}
use Rattle.one_record.specs.ReadyRecord.{ready_marked, ready_law}
use Rattle.factored_particles.specs.Factored.{with_factors, factor_refusal}
use Rattle.factored_particles.proofs.FactoredLaws.{Factored}
use Rattle.factored_particles.proofs.Fourteen as fourteen
use Rattle.factored_particles.proofs.ReadBack.{own_rows}

-- ---- what is written is finite, and so every place is that was
set_finite : (r : List ℕ) (i v : ℕ) → finite (of_bits binary64 v) ≡ true → (k : ℕ) → finite (float_at r k) ≡ true → finite (float_at (set r i v) k) ≡ true
set_finite [] i v f k h = h
set_finite (x ∷ r) zero v f zero h = f
set_finite (x ∷ r) zero v f (suc k) h = h
set_finite (x ∷ r) (suc i) v f zero h = h
set_finite (x ∷ r) (suc i) v f (suc k) h = set_finite r i v f k h

written_finite : (x : Float) → T (fits binary64 x) → finite x ≡ true → finite (of_bits binary64 (bits x)) ≡ true
written_finite x f h = ap finite (of_bits-to_bits binary64 x f) ∙ h

module _ (k : ℕ) where
  row_finite_lem : (r : List ℕ) (at : ℕ) (v : List Float) → Row v → row_finite v ≡ true → finite (float_at r k) ≡ true → finite (float_at (put_row r at v) k) ≡ true
  row_finite_lem r at v w h f =
      let p = entries_parts v w.long h in
      let x = set r at (bits (get_or v 0 nan)) in
      let y = set x (at + 1) (bits (get_or v 1 nan)) in
      set_finite y (at + 2) (bits (get_or v 2 nan)) (written_finite (get_or v 2 nan) (w.f64 2) p.2) k
      (set_finite x (at + 1) (bits (get_or v 1 nan)) (written_finite (get_or v 1 nan) (w.f64 1) p.1) k
      (set_finite r at (bits (get_or v 0 nan)) (written_finite (get_or v 0 nan) (w.f64 0) p.0) k f))

  rows_finite_lem : (r : List ℕ) (at : ℕ) (q : Rows) → AllRows q → rows_finite q ≡ true → finite (float_at r k) ≡ true → finite (float_at (put_rows r at q) k) ≡ true
  rows_finite_lem r at q w h f =
      let p = rows_parts q h in
      row_finite_lem (put_row (put_row r at q.r0) (at + 3) q.r1) (at + 6) q.r2 w.row2 p.2
      (row_finite_lem (put_row r at q.r0) (at + 3) q.r1 w.row1 p.1 (row_finite_lem r at q.r0 w.row0 p.0 f))

-- ---- a factor that isn't finite misses the check
after_first : (a b c d e f g h : Bool) → a && b && c && d && e && f && g && h ≡ true → (b ≡ true) × (c ≡ true) × (d ≡ true)
after_first true true true true e f g h q = (refl, refl, refl)
after_first true true true false e f g h q = absurd (false≢true q)
after_first true true false d e f g h q = absurd (false≢true q)
after_first true false c d e f g h q = absurd (false≢true q)
after_first false b c d e f g h q = absurd (false≢true q)

accepted_finite : (f : List (List Float)) (x : Factors) → accepted_of f x ≡ true → (rows_finite x.u ≡ true) × (row_finite x.sigma ≡ true) × (rows_finite x.vt ≡ true)
unfolding accepted_of
accepted_finite f x q =
    let u = tensor.of_rows x.u in
    let v = tensor.transpose_of (tensor.of_rows x.vt) in
    after_first (mat_finite f) (rows_finite x.u) (row_finite x.sigma) (rows_finite x.vt) (not_below x.sigma) (near_all u x.sigma v f (largest_in f)) (orthogonal_of u) (orthogonal_of v) q

module _ (r : List ℕ) (c : accepted_of (mat_at r place_f) (factors_of (mat_at r place_f)) ≡ true) where
  pub place_finite : (k : ℕ) → finite (float_at r k) ≡ true → finite (float_at (with_factors r) k) ≡ true
  place_finite k f =
      let x = factors_of (mat_at r place_f) in
      let w = own_rows r in
      let p = accepted_finite (mat_at r place_f) x c in
      subst (λ (q : List ℕ). finite (float_at q k) ≡ true) (sym (fourteen.written r c))
      (rows_finite_lem k (put_row (put_rows r place_u x.u) place_sigma x.sigma) place_vt x.vt w.vt p.2
      (row_finite_lem k (put_rows r place_u x.u) place_sigma x.sigma w.sigma p.1
      (rows_finite_lem k r place_u x.u w.u p.0 f)))

  pub still_finite : record_finite r ≡ true → record_finite (with_factors r) ≡ true
  still_finite q =
      let p = record_parts r q in
      let s = state_parts r q in
      let f = rows_parts (rows_at r place_f) s.0 in
      let f0 = row_parts r 0 f.0 in
      let f1 = row_parts r 3 f.1 in
      let f2 = row_parts r 6 f.2 in
      let u = mat_parts r 9 p.0 in
      let u0 = row_parts r 9 u.0 in
      let u1 = row_parts r 12 u.1 in
      let u2 = row_parts r 15 u.2 in
      let g = row_parts r 18 s.1 in
      let v = mat_parts r 21 p.1 in
      let v0 = row_parts r 21 v.0 in
      let v1 = row_parts r 24 v.1 in
      let v2 = row_parts r 27 v.2 in
      let x = scalars_parts r q in
      let at = place_finite in
      simp (
        at 0 f0.0,
        at 1 f0.1,
        at 2 f0.2,
        at 3 f1.0,
        at 4 f1.1,
        at 5 f1.2,
        at 6 f2.0,
        at 7 f2.1,
        at 8 f2.2,
        at 9 u0.0,
        at 10 u0.1,
        at 11 u0.2,
        at 12 u1.0,
        at 13 u1.1,
        at 14 u1.2,
        at 15 u2.0,
        at 16 u2.1,
        at 17 u2.2,
        at 18 g.0,
        at 19 g.1,
        at 20 g.2,
        at 21 v0.0,
        at 22 v0.1,
        at 23 v0.2,
        at 24 v1.0,
        at 25 v1.1,
        at 26 v1.2,
        at 27 v2.0,
        at 28 v2.1,
        at 29 v2.2,
        at 30 x.0.0,
        at 31 x.0.1,
        at 32 x.0.2,
        at 33 x.1.0,
        at 34 x.1.1,
        at 35 x.1.2,
        at 36 (last_finite r q),
      )

-- ---- a record that has its factors is not tested again
module _ {n : ℕ} (r s : List ℕ) (f : Factored r n s) (z : n ≡ 0) where
  pub factored_finite : record_finite s ≡ true
  factored_finite =
      let e = sym f.0 ∙ z in
      let t = fourteen.none_only r e in
      let w : s ≡ with_factors r = rw (eq-eqb (factor_refusal r) 0 e) at f.1 in
      ap record_finite w ∙ still_finite r t.2 t.0

  pub untested : (q : Ready) (j : Judge) → finite_by j ≡ true → ready_marked q j s ≡ ready_law q j s
  unfolding ready_law
  untested q j g = rw (g, factored_finite) refl
