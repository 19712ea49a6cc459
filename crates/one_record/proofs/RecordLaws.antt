-- What holds of one record: an update writes the determinant of its F, and no scalar touches it; 1 comes first, then 11, then the law. Assumes nothing.
use mathlib.Core.Path.{◌≡◌, refl, sym, ap, ◌∙◌}
use mathlib.Core.Bool.{Bool, true, false, cond, ◌&&◌, false≢true}
use mathlib.Core.List.{List, [], ◌∷◌}
use Prim.Native.Nat.{ℕ, ◌<◌}
use native.Mathlib.Omega.{arith}
use lib.Dec.{ltb}
use borrow.Author.Tests.{ltb-true}
use lib.ListN.{length, get_or, set, length-set}
use lib.Seq.{get_or-set_same, get_or-set_other}
use Rattle.numbers.specs.Floats.{finite}
use Rattle.numbers.proofs.Laws.{and_both}
use Rattle.answers.specs.Refusals.{not_finite, wrong_determinant}
use Rattle.plasticity.specs.State.{inputs_finite, refused}
use Rattle.plasticity.specs.declared.Scalars.{Scalars}
use Rattle.plasticity.specs.declared.State.{State}
use Rattle.record.specs.Layout.{layout, floats, place, place_f, place_sigma, place_determinant, bits, float_at, u_at, vt_at, state_at, record_finite, determinant_at, determinant_right, put_rows, put_bare, put_shape}
use Rattle.record.proofs.Places.{determinant_row}
use Rattle.model.specs.declared.Model.{Model}
use Rattle.model.specs.Rows.{row_of, acts_of}
use Rattle.model.specs.Model.{model_finite}
use Rattle.model.specs.Named.{scalar_of, parts_written}
use Rattle.one_record.specs.RecordLaw.{put_scalars, updated_at, measured, law_at}
use Rattle.model.proofs.RowLaws.{aside, written_aside, not_finite_lem}

-- the determinant of the F that is written
pub bare_determinant : (r : List ℕ) (s : State) → determinant_at (put_bare r s) ≡ determinant_at (put_rows r place_f s.f)
bare_determinant r s = determinant_row (put_rows r place_f s.f) place_sigma s.sigma (omega arith)

pub shape_length : (r : List ℕ) (s : State) (v : ℕ) → length (set (put_bare r s) place_determinant v) ≡ length r
shape_length r s v = simp length-set

-- no scalar stands in its place
apart : (r : List ℕ) (i v : ℕ) → i < place_determinant → get_or (set r i v) place_determinant 0 ≡ get_or r place_determinant 0
apart r i v h = get_or-set_other r i place_determinant v 0 (λ e. omega arith)

-- of parts that stand behind F and before its determinant
module _ (x : Scalars) where
  parts_last : (parts : List ℕ) → aside parts ≡ true → (r : List ℕ) → get_or (parts_written layout parts r x) place_determinant 0 ≡ get_or r place_determinant 0
  parts_last [] h r = refl
  parts_last (part ∷ parts) h r =
      let i = place layout part in
      let q = and_both (ltb 8 i && ltb i place_determinant) (aside parts) h in
      let between = and_both (ltb 8 i) (ltb i place_determinant) q.0 in
      parts_last parts q.1 (set r i (bits (scalar_of x part))) ∙ apart r i _ (ltb-true i place_determinant between.1)

pub scalars_last : (m : Model) (r : List ℕ) (s : State) → get_or (put_scalars m r s) place_determinant 0 ≡ get_or r place_determinant 0
scalars_last m r s = parts_last s.scalars (row_of (acts_of m).law).written (written_aside (acts_of m).law) r

pub shape_last : (r : List ℕ) (s : State) → length r ≡ floats → get_or (put_shape r s) place_determinant 0 ≡ determinant_at (put_rows r place_f s.f)
shape_last r s k = get_or-set_same (put_bare r s) place_determinant (determinant_at (put_bare r s)) 0 (simp length-set (omega arith)) ∙ bare_determinant r s

-- a finite record's determinant is finite
pub last_finite : (r : List ℕ) → record_finite r ≡ true → finite (float_at r place_determinant) ≡ true
last_finite r f = (and_both (inputs_finite (u_at r) (vt_at r) (state_at r)) (finite (float_at r place_determinant)) f).1

-- ---- one record
module _ (m : Model) (r : List ℕ) where
  pub law_not_finite : record_finite r ≡ false → law_at m r ≡ refused not_finite (state_at r)
  unfolding law_at
  law_not_finite f = go (model_finite m) (record_finite r) f
    where
      go : (a b : Bool) → b ≡ false → cond (a && b) (cond (determinant_right r) (measured m r (updated_at m r)) (refused wrong_determinant (state_at r))) (refused not_finite (state_at r)) ≡ refused not_finite (state_at r)
      go true true h = absurd (false≢true (sym h))
      go true false h = refl
      go false b h = refl

  -- of finite parameters too
  pub law_finite : model_finite m ≡ true → record_finite r ≡ true
      → law_at m r ≡ cond (determinant_right r) (measured m r (updated_at m r)) (refused wrong_determinant (state_at r))
  unfolding law_at
  law_finite p f = rw (p, f) refl

  pub law_right : record_finite r ≡ true → determinant_right r ≡ true → law_at m r ≡ measured m r (updated_at m r)
  unfolding law_at updated_at
  law_right f d = go (model_finite m) refl
    where
      go : (b : Bool) → model_finite m ≡ b → law_at m r ≡ measured m r (updated_at m r)
      go true p = law_finite p f ∙ rw d refl
      go false p = rw (p, not_finite_lem (u_at r) (vt_at r) (state_at r) m (ap (λ (b : Bool). b && inputs_finite (u_at r) (vt_at r) (state_at r)) p), last_finite r f) refl

  pub law_wrong : record_finite r ≡ true → determinant_right r ≡ false → law_at m r ≡ refused (cond (model_finite m) wrong_determinant not_finite) (state_at r)
  unfolding law_at
  law_wrong f d = go (model_finite m) refl
    where
      go : (b : Bool) → model_finite m ≡ b → law_at m r ≡ refused (cond b wrong_determinant not_finite) (state_at r)
      go true p = law_finite p f ∙ rw d refl
      go false p = rw p refl
