-- A model made ready makes of one record, with a judge too, what the model makes of it. Assumes nothing.
use mathlib.Core.Path.{◌≡◌, refl, sym, ap, ◌∙◌}
use mathlib.Core.Bool.{Bool, true, false, cond, ◌&&◌}
use mathlib.Core.List.{List}
use mathlib.Core.Logic.{inl, inr}
use Prim.Native.Nat.{ℕ}
use lib.Ieee as Ieee
use lib.Ieee.{Float, binary64}
use Rattle.numbers.specs.Floats.{finite}
use Rattle.answers.specs.Refusals.{not_finite, no_number, wrong_determinant}
use Rattle.plasticity.specs.State.{refused}
use Rattle.plasticity.specs.declared.Outcome.{Outcome}
use Rattle.plasticity.specs.declared.Outcome.TheVariants.{Untouched, Stored, Refused}
use Rattle.plasticity.specs.declared.State.{State}
use Rattle.record.specs.Layout.{layout, place_determinant, float_at, u_at, vt_at, state_at, record_finite, determinant_right, put_shape}
use Rattle.record.proofs.Parts.{record_inputs}
use Rattle.model.specs.declared.Model.{Model}
use Rattle.model.specs.declared.Law.{Law}
use Rattle.model.specs.declared.Ready.TheVariants as ready
use Rattle.model.specs.Rows.{acts_of, prepared_of}
use Rattle.model.specs.Named.{named}
use Rattle.model.specs.Ready.{ready_of, parameters_ready}
use Rattle.one_record.specs.declared.judged.Judge.{Judge}
use Rattle.one_record.specs.RecordLaw.{kept, kept_by, updated_at, law_at, record_law}
use Rattle.one_record.specs.Judged.{finite_by, law_by}
use Rattle.one_record.specs.ReadyRecord.{shaped, ready_kept, ready_kept_by, ready_at, ready_law}
use Rattle.model.proofs.RowLaws.{ready_parameters, Lawful, ready_lawful, ready_update_lem}
use Rattle.one_record.proofs.RecordLaws.{scalars_last, law_right, law_wrong}
use Rattle.one_record.proofs.NotFinite.{refused_first, finite_first}

-- a refused model refuses
refused_at : (n : ℕ) (r : List ℕ) → (k : ℕ) × (ready_at (ready.Refused n) r ≡ refused k (state_at r))
unfolding ready_at
refused_at n r = go (determinant_right r) (finite (float_at r place_determinant)) (parameters_ready (ready.Refused n))
  where
    s : State
    s = state_at r

    go : (a b c : Bool) → (k : ℕ) × (cond a (cond b (refused n s) (refused no_number s)) (refused (cond c wrong_determinant not_finite) s) ≡ refused k s)
    go true true c = (n, refl)
    go true false c = (no_number, refl)
    go false b c = (cond c wrong_determinant not_finite, refl)

module _ (m : Model) (r : List ℕ) where
  kept_same : (prepared_of (ready_of m)).law ≡ (acts_of m).law → (o : Outcome) (s : State) → ready_kept (ready_of m) o r s ≡ kept m o r s
  kept_same h Untouched s = refl
  kept_same h (Stored a) s = ap (λ (l : Law). named layout l (put_shape r s) s.scalars) h
  kept_same h (Refused n) s = refl

  kept_by_lem : ready_kept_by (ready_of m) (ready_at (ready_of m) r) r ≡ kept_by m (ready_at (ready_of m) r) r
  kept_by_lem = go (ready_lawful m)
    where
      go : Lawful (ready_of m) m → ready_kept_by (ready_of m) (ready_at (ready_of m) r) r ≡ kept_by m (ready_at (ready_of m) r) r
      go (inl h) =
          let d = ready_at (ready_of m) r in
          ap (λ (l : List ℕ). record { outcome = d.outcome; failed = false; after = l }) (kept_same h d.outcome d.state)
      go (inr (n, e)) = let k = refused_at n r in rw (e, k.1) refl

  -- ---- no scalar touches the determinant
  last_same : (o : Outcome) (s : State) → float_at (kept m o r s) place_determinant ≡ float_at (shaped o r s) place_determinant
  last_same Untouched s = refl
  last_same (Stored a) s = ap (Ieee.of_bits binary64) (scalars_last m (put_shape r s) s)
  last_same (Refused n) s = refl

  at_same : record_finite r ≡ true → ready_at (ready_of m) r ≡ law_at m r
  unfolding ready_at updated_at
  at_same f = go (determinant_right r) refl
    where
      go : (b : Bool) → determinant_right r ≡ b → ready_at (ready_of m) r ≡ law_at m r
      go true d =
          let u = ready_update_lem (u_at r) (vt_at r) (state_at r) (record_inputs r f) m in
          let x = updated_at m r in
          (rw (d, u) refl) ∙ ap (λ (y : Float). cond (finite y) x (refused no_number x.state)) (sym (last_same x.outcome x.state)) ∙ sym (law_right m r f d)
      go false d = (rw (d, ready_parameters m) refl) ∙ sym (law_wrong m r f d)

  pub ready_law_lem : (j : Judge) → ready_law (ready_of m) j r ≡ law_by m j r
  unfolding ready_law record_law
  ready_law_lem j = go (finite_by j && record_finite r) refl
    where
      go : (b : Bool) → finite_by j && record_finite r ≡ b → ready_law (ready_of m) j r ≡ law_by m j r
      go true t =
          let f = finite_first m r j t in
          (rw (t, kept_by_lem, at_same f.0) refl) ∙ sym f.1
      go false t = (rw t refl) ∙ sym (refused_first m r j t)
