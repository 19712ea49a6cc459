-- What stands before the records ends inside the sheet, or is refused by a number from 4 to 7; and the header that it leads to.
use mathlib.Core.Path.{◌≡◌, refl, sym, ap, ◌∙◌}
use mathlib.Core.Bool.{Bool, true, false, cond}
use mathlib.Core.List.{List}
use Prim.Native.Nat.{ℕ, ◌≤◌}
use lib.ListN.{length}
use lib.Dec.{ltb}
use borrow.Author.Tests.{ltb-false}
use Rattle.model.specs.Kinds.{last, kinds_of}
use Rattle.sheet.specs.Sheet.{most, number_at, Fields, Got, Stopped, parameters_at, padded, Preamble, Open, Shut, after_count, after_parameters, after_model, preamble_from, preamble_of, as_header, records_end, closed, header_from, header_of}
use Rattle.sheet.specs.declared.Number.{Number}
use Rattle.sheet.specs.declared.Number.TheVariants.{Read as Number_as_Read, Refused as Number_as_Refused}
use Rattle.sheet.specs.declared.Header.{Header}
use Rattle.sheet.proofs.Bounds.{Refusal, not_0, is_6, is_7, Ends, ends, Stops, stops}

abbrev pub Closes : ℕ → Preamble → Type 0
Closes end (Open model bits count at) = (at ≤ end) × (count ≤ most)
Closes end (Shut n) = Refusal n

closes_count : (end model : ℕ) (bits : List ℕ) (x : Number) → Ends end x → Closes end (after_count model bits x)
closes_count end model bits (Number_as_Refused n) h = h
closes_count end model bits (Number_as_Read count at) h = tested (ltb most count) refl
  where
    tested : (b : Bool) → ltb most count ≡ b → Closes end (cond b (Shut 7) (Open model bits count at))
    tested true t = is_7
    tested false t = (h, ltb-false most count t)

module _ (s : List ℕ) where
  closes_fields : (model : ℕ) (f : Fields) → Stops f → Closes (length s) (after_parameters s model f)
  closes_fields model (Stopped n) h = h
  closes_fields model (Got ws at) h = closes_count (length s) model (padded ws) (number_at s at) (ends s at)

  closes_model : (x : Number) → Ends (length s) x → Closes (length s) (after_model s x)
  closes_model (Number_as_Refused n) h = h
  closes_model (Number_as_Read model at) h = tested (ltb last model)
    where
      tested : (b : Bool) → Closes (length s) (cond b (Shut 6) (after_parameters s model (parameters_at (kinds_of model) s at)))
      tested true = is_6
      tested false = closes_fields model (parameters_at (kinds_of model) s at) (stops (kinds_of model) s at)

  closes_from : (at : ℕ) → Closes (length s) (preamble_from s at)
  closes_from at = closes_model (number_at s at) (ends s at)

  pub closes : Closes (length s) (preamble_of s)
  unfolding preamble_of
  closes = closes_from 0

  -- FROM THE START the header by place is the sheet's
  pub from_start : header_from s 0 ≡ header_of s
  unfolding header_of preamble_of
  from_start = refl

  -- the header, from what stands before the records
  module _ (at : ℕ) (h : Header) where
    refused_by : (f : Preamble) → Closes (length s) f → h ≡ as_header f → (h.refusal ≡ 0 → ⊥) → h ≡ closed s f
    refused_by (Open model bits count at) c e n = absurd (n (ap (λ (x : Header). x.refusal) e))
    refused_by (Shut k) c e n = e

    inside_by : (f : Preamble) → Closes (length s) f → h ≡ as_header f → h.refusal ≡ 0 → (h.at ≤ length s) × (h.count ≤ most)
    inside_by (Open model bits count at) c e z = rw e c
    inside_by (Shut k) c e z = absurd (not_0 k c (sym (ap (λ (x : Header). x.refusal) e) ∙ z))

    read_by : (f : Preamble) → Closes (length s) f → h ≡ as_header f → h.refusal ≡ 0 → records_end s h.model h.parameters h.count h.at ≡ closed s f
    read_by (Open model bits count at) c e z = rw e
    read_by (Shut k) c e z = absurd (not_0 k c (sym (ap (λ (x : Header). x.refusal) e) ∙ z))

    module _ (e : h ≡ as_header (preamble_from s at)) where
      pub preamble_refused : (h.refusal ≡ 0 → ⊥) → h ≡ header_from s at
      preamble_refused n = refused_by (preamble_from s at) (closes_from at) e n

      pub preamble_inside : h.refusal ≡ 0 → (h.at ≤ length s) × (h.count ≤ most)
      preamble_inside z = inside_by (preamble_from s at) (closes_from at) e z

      pub preamble_read : h.refusal ≡ 0 → records_end s h.model h.parameters h.count h.at ≡ header_from s at
      preamble_read z = read_by (preamble_from s at) (closes_from at) e z
