-- Models 0 to 3: a record whose determinant isn't finite is read like any other, and the law refuses it by 1. Assumes nothing.
use mathlib.Core.Path.{◌≡◌, refl, ap, ◌∙◌}
use mathlib.Core.Bool.{Bool, true, false, cond, ◌&&◌}
use mathlib.Core.List.{List, [], ◌∷◌, ◌++◌}
use Prim.Native.Nat.{ℕ, suc, ◌+◌, ◌*◌, ◌-◌, ◌≤◌, ◌<◌}
use native.Mathlib.Omega.{arith}
use native.Mathlib.Nat.{mul-le-mul_right}
use lib.Ieee as Ieee
use lib.Ieee.{binary64}
use lib.ListN.{length, take, drop, length-drop}
use lib.Seq.{length-take-le, get_or_at}
use Rattle.numbers.specs.Floats.{finite}
use Rattle.answers.specs.Refusals.{not_finite}
use Rattle.plasticity.specs.State.{inputs_finite}
use Rattle.plasticity.specs.declared.Updated.{Updated}
use Rattle.record.specs.Layout.{floats, bare, place_determinant, float_at, u_at, vt_at, state_at, record_finite, determinant_at}
use Rattle.model.specs.declared.Model.{Model}
use Rattle.model.specs.Fields.{model_of}
use Rattle.model.specs.Kinds.{whole}
use Rattle.particles.specs.Pass.{record_at}
use Rattle.one_record.specs.RecordLaw.{record_law, kept_by}
use Rattle.one_record.specs.Judged.{refused_record}
use Rattle.one_record.proofs.RecordLaws.{law_not_finite}
use Rattle.sheet.specs.declared.Header.{Header}
use Rattle.sheet.specs.Records.{sheet_floats, completed}
use Rattle.sheet.specs.Sheet.{header_of, words_in, records_of}
use Rattle.sheet.proofs.Steps.{words_length}
use Rattle.sheet.proofs.RecordLaws.{completed_length, each_at}
use Rattle.sheet_run.specs.Run.{law_of}

none : (b c : Bool) → c ≡ false → b && c ≡ false
none true c e = e
none false c e = refl

-- w: the record's floats in a sheet of the model
module _ (m : Model) (model : ℕ) (w : List ℕ) (h : whole model ≡ false) (n : length w ≡ bare) (f : finite (Ieee.of_bits binary64 (determinant_at w)) ≡ false) where
  completed_is : completed model w ≡ w ++ (determinant_at w ∷ [])
  unfolding completed
  completed_is = rw h refl

  last_is : float_at (w ++ (determinant_at w ∷ [])) place_determinant ≡ Ieee.of_bits binary64 (determinant_at w)
  last_is = ap (Ieee.of_bits binary64) (get_or_at w (determinant_at w) [] 0 place_determinant n)

  not_all : record_finite (completed model w) ≡ false
  not_all =
      let r = w ++ (determinant_at w ∷ []) in
      rw completed_is (none (inputs_finite (u_at r) (vt_at r) (state_at r)) (finite (float_at r place_determinant)) (ap finite last_is ∙ f))

  pub overflow_refused : record_law m (completed model w) ≡ refused_record not_finite (completed model w)
  unfolding record_law
  overflow_refused = ap (λ (d : Updated). kept_by m d (completed model w)) (law_not_finite m (completed model w) not_all)

-- record i of a sheet, as it is delivered
module _ (s : List ℕ) (i : ℕ) (k : whole (header_of s).model ≡ false) (l : i < (header_of s).count) where
  abbrev h : Header
  h = header_of s

  -- its floats in the sheet
  abbrev pub in_sheet : List ℕ
  in_sheet = take (sheet_floats h.model) (drop (i * sheet_floats h.model) (words_in s h))

  bare_floats : sheet_floats h.model ≡ bare
  unfolding sheet_floats
  bare_floats = rw k refl

  pub sheet_overflow : finite (Ieee.of_bits binary64 (determinant_at in_sheet)) ≡ false → law_of h (record_at (records_of s h) i) ≡ refused_record not_finite (record_at (records_of s h) i)
  sheet_overflow f =
      let n = words_length (h.count * sheet_floats h.model) (drop h.at s) in
      let p = mul-le-mul_right (sheet_floats h.model) l in
      let z = length-take-le (sheet_floats h.model) (drop (i * sheet_floats h.model) (words_in s h)) (rw (length-drop (i * sheet_floats h.model) (words_in s h)) (omega (arith, n, p))) in
      rw (each_at (completed h.model) (sheet_floats h.model) floats (completed_length h.model) (words_in s h) i h.count l (omega (arith, n)))
      (overflow_refused (model_of h.model h.parameters) h.model in_sheet k (z ∙ bare_floats) f)
