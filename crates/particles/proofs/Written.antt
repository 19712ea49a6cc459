-- What an update leaves: the determinant stays right, and the floats before it are those of the law by itself. Assumes nothing.
use mathlib.Core.Path.{◌≡◌, refl, ap, ◌∙◌}
use mathlib.Core.List.{List, [], ◌∷◌}
use Prim.Native.Nat.{ℕ, ◌+◌}
use native.Mathlib.Omega.{arith}
use mathlib.Core.Bool.{true, ◌&&◌}
use lib.Dec.{ltb}
use borrow.Author.Tests.{ltb-true}
use lib.ListN.{length, set, take, length-set}
use lib.Seq.{take-set-le}
use Rattle.numbers.proofs.Laws.{and_both}
use Rattle.plasticity.specs.declared.Outcome.{Outcome}
use Rattle.plasticity.specs.declared.Outcome.TheVariants.{Untouched, Stored, Refused}
use Rattle.plasticity.specs.declared.Scalars.{Scalars}
use Rattle.plasticity.specs.declared.State.{State}
use Rattle.record.specs.Layout.{layout, floats, bare, place, place_f, place_sigma, place_determinant, bits, determinant_at, determinant_right, put_row, put_rows, put_bare, put_shape}
use Rattle.record.proofs.Places.{filled_right, right_other, take_set, take_row}
use Rattle.model.specs.declared.Model.{Model}
use Rattle.model.specs.Rows.{row_of, acts_of}
use Rattle.model.specs.Named.{scalar_of, parts_written}
use Rattle.model.proofs.RowLaws.{aside, written_aside}
use Rattle.one_record.specs.RecordLaw.{put_scalars, kept}
use Rattle.particles.specs.Bare.{bare_kept}

-- of parts that stand behind F and before its determinant
module _ (x : Scalars) where
  parts_right : (parts : List ℕ) → aside parts ≡ true → (r : List ℕ) → determinant_right (parts_written layout parts r x) ≡ determinant_right r
  parts_right [] h r = refl
  parts_right (part ∷ parts) h r =
      let i = place layout part in
      let q = and_both (ltb 8 i && ltb i place_determinant) (aside parts) h in
      let between = and_both (ltb 8 i) (ltb i place_determinant) q.0 in
      let low = ltb-true i place_determinant between.1 in
      parts_right parts q.1 (set r i (bits (scalar_of x part))) ∙ right_other r i _ (ltb-true 8 i between.0) (λ e. omega (arith, low, e))

  take_parts : (n : ℕ) (parts r : List ℕ) → take n (parts_written layout parts r x) ≡ parts_written layout parts (take n r) x
  take_parts n [] r = refl
  take_parts n (part ∷ parts) r =
      let v = bits (scalar_of x part) in
      take_parts n parts (set r (place layout part) v) ∙ ap (λ (t : List ℕ). parts_written layout parts t x) (take_set n r (place layout part) v)

-- ---- what is kept
scalars_right : (m : Model) (r : List ℕ) (s : State) → determinant_right (put_scalars m r s) ≡ determinant_right r
scalars_right m r s = parts_right s.scalars (row_of (acts_of m).law).written (written_aside (acts_of m).law) r

pub kept_right : (m : Model) (o : Outcome) (r : List ℕ) (s : State) → length r ≡ floats → determinant_right r ≡ true → determinant_right (kept m o r s) ≡ true
kept_right m Untouched r s k h = h
kept_right m (Stored a) r s k h = scalars_right m (put_shape r s) s ∙ filled_right (put_bare r s) (simp length-set (omega arith))
kept_right m (Refused n) r s k h = h

-- ---- the floats before it
take_scalars : (n : ℕ) (m : Model) (r : List ℕ) (s : State) → take n (put_scalars m r s) ≡ put_scalars m (take n r) s
take_scalars n m r s = take_parts s.scalars n (row_of (acts_of m).law).written r

take_shape : (r : List ℕ) (s : State) → take bare (put_shape r s) ≡ put_bare (take bare r) s
take_shape r s =
    let p = put_row r place_f s.f.r0 in
    let q = put_row p (place_f + 3) s.f.r1 in
    take-set-le bare (put_bare r s) place_determinant (determinant_at (put_bare r s)) (omega arith)
    ∙ take_row bare (put_rows r place_f s.f) place_sigma s.sigma
    ∙ ap (λ (t : List ℕ). put_row t place_sigma s.sigma) (take_row bare q (place_f + 6) s.f.r2
    ∙ ap (λ (t : List ℕ). put_row t (place_f + 6) s.f.r2) (take_row bare p (place_f + 3) s.f.r1
    ∙ ap (λ (t : List ℕ). put_row t (place_f + 3) s.f.r1) (take_row bare r place_f s.f.r0)))

pub take_kept : (m : Model) (o : Outcome) (r : List ℕ) (s : State) → take bare (kept m o r s) ≡ bare_kept m o (take bare r) s
take_kept m Untouched r s = refl
take_kept m (Stored a) r s = take_scalars bare m (put_shape r s) s ∙ ap (λ (t : List ℕ). put_scalars m t s) (take_shape r s)
take_kept m (Refused n) r s = refl
