-- What was put into a record is read back from it; and the determinant of the F that stands there. Assumes nothing.
use mathlib.Core.Path.{◌≡◌, refl, ap, ◌∙◌, sym, subst}
use mathlib.Core.Bool.{true}
use mathlib.Core.List.{List, [], ◌∷◌}
use Prim.Native.Nat.{ℕ, zero, suc, ◌+◌, ◌<◌, ◌≤◌}
use native.Mathlib.Omega.{arith}
use lib.Dec.{T}
use lib.ListN.{length, get_or, set, take, length-set}
use lib.Seq.{get_or-set_same, get_or-set_other, get_or-take}
use lib.Ieee.{Float, nan, binary64, of_bits, fits}
use lib.Ieee.Bits.{of_bits-to_bits}
use borrow.Author.Tests.{eq-eqb}
use denote.Array.{each}
use denote.Floats.{FloatOf}
use denote.Shadow.{shadow}
use mir.Val.{Val}
use Rattle.tensor.specs.Matrix.{three, det_of, of_rows}
use Rattle.tensor.specs.declared.Rows.{Rows}
use Rattle.record.specs.Layout.{floats, bare, place_f, place_u, place_sigma, place_vt, place_phase, place_plastic_determinant, place_plastic_hardening, place_elastic_hardening, place_log_gain, place_alpha, place_determinant, float_at, row_at, u_at, vt_at, state_at, bits, put_row, put_rows, determinant_at, determinant_right, filled}

-- a place that was written, and another
pub same : (r : List ℕ) (i : ℕ) (x : Float) → i < length r → T (fits binary64 x) → float_at (set r i (bits x)) i ≡ x
same r i x h f = ap (of_bits binary64) (get_or-set_same r i (bits x) 0 h) ∙ of_bits-to_bits binary64 x f

pub other : (r : List ℕ) (i j v : ℕ) → (j ≡ i → ⊥) → float_at (set r i v) j ≡ float_at r j
other r i j v h = ap (of_bits binary64) (get_or-set_other r i j v 0 h)

pub row_other : (r : List ℕ) (i at v : ℕ) → at + 2 < i → row_at (set r i v) at ≡ row_at r at
row_other r i at v h =
    rw (other r i at v (λ e. omega arith), other r i (at + 1) v (λ e. omega arith), other r i (at + 2) v (λ e. omega arith))

-- the entries of a row are f64
abbrev pub Row64 : List Float → Type 0
Row64 v = (i : ℕ) → T (fits binary64 (get_or v i nan))

-- of a row in a struct that is handed to code they are
nan_f64 : T (fits binary64 nan)
unfolding fits
nan_f64 = tt

pub row_f64 : (v : List Float) (us : List Val) → shadow (each Float (FloatOf binary64).own_val v us) → Row64 v
row_f64 [] us p i = nan_f64
row_f64 (x ∷ v) [] p i = absurd p
row_f64 (x ∷ v) (u ∷ us) p zero = subst T (sym p.0.1) tt
row_f64 (x ∷ v) (u ∷ us) p (suc i) = row_f64 v us p.1 i

abbrev pub entries_of : List Float → List Float
entries_of v = three (get_or v 0 nan) (get_or v 1 nan) (get_or v 2 nan)

pub row_same : (r : List ℕ) (at : ℕ) (v : List Float) → at + 2 < length r → Row64 v → row_at (put_row r at v) at ≡ entries_of v
row_same r at v h f =
    let x = get_or v 0 nan in
    let y = get_or v 1 nan in
    let z = get_or v 2 nan in
    let p = set r at (bits x) in
    let q = set p (at + 1) (bits y) in
    let a : float_at (put_row r at v) at ≡ x = other q (at + 2) at _ (λ e. omega arith) ∙ other p (at + 1) at _ (λ e. omega arith) ∙ same r at x (omega arith) (f 0) in
    let b : float_at (put_row r at v) (at + 1) ≡ y = other q (at + 2) (at + 1) _ (λ e. omega arith) ∙ same p (at + 1) y (simp length-set (omega arith)) (f 1) in
    let c : float_at (put_row r at v) (at + 2) ≡ z = same q (at + 2) z (simp length-set (omega arith)) (f 2) in
    rw (a, b, c)

pub row_beside : (r : List ℕ) (i at : ℕ) (v : List Float) → at + 2 < i → row_at (put_row r i v) at ≡ row_at r at
row_beside r i at v h =
    let p = set r i (bits (get_or v 0 nan)) in
    let q = set p (i + 1) (bits (get_or v 1 nan)) in
    row_other q (i + 2) at _ (omega arith) ∙ row_other p (i + 1) at _ (omega arith) ∙ row_other r i at _ h

-- ---- the determinant
by_rows : {a b c x y z : List Float} → a ≡ x → b ≡ y → c ≡ z → bits (det_of (three a b c)) ≡ bits (det_of (three x y z))
by_rows {a} {b} {c} {x} {y} {z} p q s =
    ap (λ (t : List Float). bits (det_of (three t b c))) p ∙ ap (λ (t : List Float). bits (det_of (three x t c))) q ∙ ap (λ (t : List Float). bits (det_of (three x y t))) s

pub determinant_other : (r : List ℕ) (i v : ℕ) → 8 < i → determinant_at (set r i v) ≡ determinant_at r
unfolding determinant_at
determinant_other r i v h = by_rows (row_other r i 0 v (omega arith)) (row_other r i 3 v (omega arith)) (row_other r i 6 v (omega arith))

pub determinant_row : (r : List ℕ) (i : ℕ) (v : List Float) → 8 < i → determinant_at (put_row r i v) ≡ determinant_at r
determinant_row r i v h =
    let p = set r i (bits (get_or v 0 nan)) in
    let q = set p (i + 1) (bits (get_or v 1 nan)) in
    determinant_other q (i + 2) _ (omega arith) ∙ determinant_other p (i + 1) _ (omega arith) ∙ determinant_other r i _ h

-- of an F that was written
pub determinant_put : (r : List ℕ) (f : Rows) → floats ≤ length r → Row64 f.r0 → Row64 f.r1 → Row64 f.r2
    → determinant_at (put_rows r place_f f) ≡ bits (det_of (of_rows f))
unfolding determinant_at
determinant_put r f h a b c =
    let p = put_row r 0 f.r0 in
    let q = put_row p 3 f.r1 in
    let x : row_at (put_rows r place_f f) 0 ≡ entries_of f.r0 = row_beside q 6 0 f.r2 (omega arith) ∙ row_beside p 3 0 f.r1 (omega arith) ∙ row_same r 0 f.r0 (omega arith) a in
    let y : row_at (put_rows r place_f f) 3 ≡ entries_of f.r1 = row_beside q 6 3 f.r2 (omega arith) ∙ row_same p 3 f.r1 (simp length-set (omega arith)) b in
    let z : row_at (put_rows r place_f f) 6 ≡ entries_of f.r2 = row_same q 6 f.r2 (simp length-set (omega arith)) c in
    by_rows x y z

-- a record with its determinant filled in, and any other place written
pub filled_right : (r : List ℕ) → place_determinant < length r → determinant_right (filled r) ≡ true
unfolding determinant_right
filled_right r h = eq-eqb _ _ (get_or-set_same r place_determinant (determinant_at r) 0 h ∙ sym (determinant_other r place_determinant (determinant_at r) (omega arith)))

pub right_other : (r : List ℕ) (i v : ℕ) → 8 < i → (place_determinant ≡ i → ⊥) → determinant_right (set r i v) ≡ determinant_right r
unfolding determinant_right
right_other r i v h k = rw (get_or-set_other r i place_determinant v 0 k, determinant_other r i v h)

-- ---- the floats before the determinant, by themselves
pub take_set : (n : ℕ) (l : List ℕ) (i v : ℕ) → take n (set l i v) ≡ set (take n l) i v
take_set zero l i v = refl
take_set (suc n) [] i v = refl
take_set (suc n) (x ∷ l) zero v = refl
take_set (suc n) (x ∷ l) (suc i) v = ap (λ (t : List ℕ). x ∷ t) (take_set n l i v)

pub take_row : (n : ℕ) (r : List ℕ) (at : ℕ) (v : List Float) → take n (put_row r at v) ≡ put_row (take n r) at v
take_row n r at v =
    let p = set r at (bits (get_or v 0 nan)) in
    let q = set p (at + 1) (bits (get_or v 1 nan)) in
    take_set n q (at + 2) _ ∙ ap (λ (t : List ℕ). set t (at + 2) (bits (get_or v 2 nan))) (take_set n p (at + 1) _ ∙ ap (λ (t : List ℕ). set t (at + 1) (bits (get_or v 1 nan))) (take_set n r at _))

module _ (r : List ℕ) where
  bare_float : (i : ℕ) → i < bare → float_at (take bare r) i ≡ float_at r i
  bare_float i h = ap (of_bits binary64) (get_or-take bare r i 0 h)

  bare_row : (at : ℕ) → at + 2 < bare → row_at (take bare r) at ≡ row_at r at
  bare_row at h = rw (bare_float at (omega arith), bare_float (at + 1) (omega arith), bare_float (at + 2) h)

  pub bare_u : u_at (take bare r) ≡ u_at r
  bare_u = rw (bare_row place_u (omega arith), bare_row (place_u + 3) (omega arith), bare_row (place_u + 6) (omega arith))

  pub bare_vt : vt_at (take bare r) ≡ vt_at r
  bare_vt = rw (bare_row place_vt (omega arith), bare_row (place_vt + 3) (omega arith), bare_row (place_vt + 6) (omega arith))

  pub bare_state : state_at (take bare r) ≡ state_at r
  bare_state =
      rw (
        bare_row place_f (omega arith),
        bare_row (place_f + 3) (omega arith),
        bare_row (place_f + 6) (omega arith),
        bare_row place_sigma (omega arith),
        bare_float place_phase (omega arith),
        bare_float place_plastic_determinant (omega arith),
        bare_float place_plastic_hardening (omega arith),
        bare_float place_elastic_hardening (omega arith),
        bare_float place_log_gain (omega arith),
        bare_float place_alpha (omega arith),
      )
