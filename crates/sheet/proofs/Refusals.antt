-- Which refusals a sheet can meet, and how a sheet's refusal changes where more bytes follow it: only from 4, and from none to 7.
use mathlib.Core.Path.{◌≡◌, refl, sym, ◌∙◌}
use mathlib.Core.Logic.{◌⊎◌, inl, inr}
use mathlib.Core.Bool.{Bool, true, false, cond}
use mathlib.Core.List.{List, [], ◌∷◌, ◌++◌}
use Prim.Native.Nat.{ℕ, ◌+◌, ◌*◌, ◌-◌, ◌≤◌, ◌<◌}
use native.Mathlib.Omega.{arith}
use lib.ListN.{length, take, drop, length-append, length-drop, drop_of_length-le}
use lib.Seq.{drop-append-le, take-append-le}
use lib.Dec.{ltb, leb}
use borrow.Author.Tests.{leb-true, leb-false, ltb-false, lt-ltb, le-ltb}
use Rattle.model.specs.Kinds.{last, kinds_of}
use Rattle.sheet.specs.Records.{sheet_floats}
use Rattle.sheet.specs.Sheet.{most, number_at, first_group, second_group, word_of, word_at, checked, parameter_at, Fields, Got, Stopped, before, and_then, parameters_at, padded, refused_by, Preamble, Open, Shut, after_count, after_parameters, after_model, preamble_of, records_end, closed, header_of}
use Rattle.sheet.specs.declared.Number.{Number}
use Rattle.sheet.specs.declared.Number.TheVariants.{Read as Number_as_Read, Refused as Number_as_Refused}
use Rattle.sheet.specs.declared.Word.{Word}
use Rattle.sheet.specs.declared.Word.TheVariants.{Read as Word_as_Read, Refused as Word_as_Refused}
use Rattle.sheet.specs.declared.Header.{Header}
use Rattle.sheet.proofs.Bounds.{Refusal, not_0, is_4, is_6, is_7, Ends, ends, Stops, stops}

-- Each piece: it ends early, or what follows does not change it.
second_stable : (low at : ℕ) (l r : List ℕ) → (second_group low l at ≡ Number_as_Refused 4) ⊎ (second_group low (l ++ r) at ≡ second_group low l at)
second_stable low at [] r = inl refl
second_stable low at (high ∷ l) r = inr refl

by_test : (b : Bool) (z x y : Number) → (x ≡ Number_as_Refused 4) ⊎ (y ≡ x) → (cond b z x ≡ Number_as_Refused 4) ⊎ (cond b z y ≡ cond b z x)
by_test true z x y h = inr refl
by_test false z x y h = h

first_stable : (at : ℕ) (l r : List ℕ) → (first_group l at ≡ Number_as_Refused 4) ⊎ (first_group (l ++ r) at ≡ first_group l at)
first_stable at [] r = inl refl
first_stable at (low ∷ l) r = by_test (ltb low 128) _ _ _ (second_stable low at l r)

pub number_stable : (s r : List ℕ) (at : ℕ) → (number_at s at ≡ Number_as_Refused 4) ⊎ (number_at (s ++ r) at ≡ number_at s at)
unfolding number_at
number_stable s r at = by_place (leb at (length s)) refl
  where
    by_place : (b : Bool) → leb at (length s) ≡ b → (first_group (drop at s) at ≡ Number_as_Refused 4) ⊎ (first_group (drop at (s ++ r)) at ≡ first_group (drop at s) at)
    by_place true t = rw (drop-append-le at s r (leb-true at (length s) t)) (first_stable at (drop at s) r)
    by_place false t =
        let h = leb-false at (length s) t in
        let k : length s ≤ at = omega arith in
        inl (rw (drop_of_length-le s k))

word_stable : (s r : List ℕ) (at : ℕ) → (word_at s at ≡ Word_as_Refused 4) ⊎ (word_at (s ++ r) at ≡ word_at s at)
unfolding word_at
word_stable s r at = by_length (ltb (length (drop at s)) 8) refl
  where
    by_length : (b : Bool) → ltb (length (drop at s)) 8 ≡ b → (cond b (Word_as_Refused 4) (Word_as_Read (word_of (take 8 (drop at s))) (at + 8)) ≡ Word_as_Refused 4) ⊎ (cond (ltb (length (drop at (s ++ r))) 8) (Word_as_Refused 4) (Word_as_Read (word_of (take 8 (drop at (s ++ r)))) (at + 8)) ≡ cond b (Word_as_Refused 4) (Word_as_Read (word_of (take 8 (drop at s))) (at + 8)))
    by_length true t = inl refl
    by_length false t =
        let h = ltb-false (length (drop at s)) 8 t in
        let k : at ≤ length s = omega (arith, length-drop at s) in
        let m : 8 ≤ length (drop at s ++ r) = omega (arith, length-append (drop at s) r) in
        inr (rw (drop-append-le at s r k, le-ltb (length (drop at s ++ r)) 8 m, take-append-le 8 (drop at s) r h))

parameter_stable : (flag : Bool) (s r : List ℕ) (at : ℕ) → (parameter_at flag s at ≡ Word_as_Refused 4) ⊎ (parameter_at flag (s ++ r) at ≡ parameter_at flag s at)
unfolding parameter_at
parameter_stable flag s r at = of_word (word_stable s r at)
  where
    of_word : (word_at s at ≡ Word_as_Refused 4) ⊎ (word_at (s ++ r) at ≡ word_at s at) → (checked flag (word_at s at) ≡ Word_as_Refused 4) ⊎ (checked flag (word_at (s ++ r) at) ≡ checked flag (word_at s at))
    of_word (inl e) = inl (rw e)
    of_word (inr e) = inr (rw e)

before_stable : (w : ℕ) (f g : Fields) → (f ≡ Stopped 4) ⊎ (g ≡ f) → (before w f ≡ Stopped 4) ⊎ (before w g ≡ before w f)
before_stable w f g (inl e) = inl (rw e)
before_stable w f g (inr e) = inr (rw e)

then_stable : (x y : Word) (f g : ℕ → Fields) → (x ≡ Word_as_Refused 4) ⊎ (y ≡ x) → ((to : ℕ) → (f to ≡ Stopped 4) ⊎ (g to ≡ f to)) → (and_then x f ≡ Stopped 4) ⊎ (and_then y g ≡ and_then x f)
then_stable x y f g (inl e) h = inl (rw e)
then_stable (Word_as_Refused n) y f g (inr e) h = inr (rw e)
then_stable (Word_as_Read w to) y f g (inr e) h = rw e (before_stable w (f to) (g to) (h to))

pub parameters_stable : (flags : List Bool) (s r : List ℕ) (at : ℕ) → (parameters_at flags s at ≡ Stopped 4) ⊎ (parameters_at flags (s ++ r) at ≡ parameters_at flags s at)
unfolding parameters_at
parameters_stable [] s r at = inr refl
parameters_stable (flag ∷ flags) s r at =
    then_stable (parameter_at flag s at) (parameter_at flag (s ++ r) at) (λ to. parameters_at flags s to) (λ to. parameters_at flags (s ++ r) to) (parameter_stable flag s r at) (λ to. parameters_stable flags s r to)

-- a header, and that of the same sheet with more bytes: it ends early; or was read, and is refused by 7; or keeps its refusal
abbrev pub Later : Header → Header → Type 0
Later h k = (h.refusal ≡ 4) ⊎ (((h.refusal ≡ 0) × (k.refusal ≡ 7)) ⊎ (Refusal h.refusal × (k.refusal ≡ h.refusal)))

module _ (s r : List ℕ) (more : 0 < length r) where
  later_same : (n : ℕ) → Refusal n → Later (refused_by n) (refused_by n)
  later_same n h = inr (inr (h, refl))

  later_end : (model : ℕ) (bits : List ℕ) (count at : ℕ) → at ≤ length s → Later (records_end s model bits count at) (records_end (s ++ r) model bits count at)
  unfolding records_end
  later_end model bits count at h = by_lengths (ltb (length s - at) (count * sheet_floats model * 8)) (ltb (count * sheet_floats model * 8) (length s - at)) refl refl
    where
      ok : Header
      ok = record { refusal = 0; model = model; parameters = bits; count = count; at = at }

      longer : count * sheet_floats model * 8 ≤ length s - at → cond (ltb (length (s ++ r) - at) (count * sheet_floats model * 8)) (refused_by 4) (cond (ltb (count * sheet_floats model * 8) (length (s ++ r) - at)) (refused_by 7) ok) ≡ refused_by 7
      longer k =
          let n = length-append s r in
          let m : count * sheet_floats model * 8 < length (s ++ r) - at = omega arith in
          let l : count * sheet_floats model * 8 ≤ length (s ++ r) - at = omega arith in
          rw (le-ltb (length (s ++ r) - at) (count * sheet_floats model * 8) l, lt-ltb (count * sheet_floats model * 8) (length (s ++ r) - at) m)

      by_lengths : (b c : Bool) → ltb (length s - at) (count * sheet_floats model * 8) ≡ b → ltb (count * sheet_floats model * 8) (length s - at) ≡ c
          → Later (cond b (refused_by 4) (cond c (refused_by 7) ok)) (cond (ltb (length (s ++ r) - at) (count * sheet_floats model * 8)) (refused_by 4) (cond (ltb (count * sheet_floats model * 8) (length (s ++ r) - at)) (refused_by 7) ok))
      by_lengths true c t u = inl refl
      by_lengths false true t u = rw (longer (ltb-false (length s - at) (count * sheet_floats model * 8) t)) (later_same 7 is_7)
      by_lengths false false t u = rw (longer (ltb-false (length s - at) (count * sheet_floats model * 8) t)) (inr (inl (refl, refl)))

  later_count : (model : ℕ) (bits : List ℕ) (x y : Number) → (x ≡ Number_as_Refused 4) ⊎ (y ≡ x) → Ends (length s) x → Later (closed s (after_count model bits x)) (closed (s ++ r) (after_count model bits y))
  later_count model bits x y (inl e) h = inl (rw e)
  later_count model bits (Number_as_Refused n) y (inr e) h = rw e (later_same n h)
  later_count model bits (Number_as_Read count at) y (inr e) h = rw e (by_count (ltb most count))
    where
      by_count : (b : Bool) → Later (closed s (cond b (Shut 7) (Open model bits count at))) (closed (s ++ r) (cond b (Shut 7) (Open model bits count at)))
      by_count true = later_same 7 is_7
      by_count false = later_end model bits count at h

  later_parameters : (model : ℕ) (f g : Fields) → (f ≡ Stopped 4) ⊎ (g ≡ f) → Stops f → Later (closed s (after_parameters s model f)) (closed (s ++ r) (after_parameters (s ++ r) model g))
  later_parameters model f g (inl e) h = inl (rw e)
  later_parameters model (Stopped n) g (inr e) h = rw e (later_same n h)
  later_parameters model (Got ws at) g (inr e) h = rw e (later_count model (padded ws) (number_at s at) (number_at (s ++ r) at) (number_stable s r at) (ends s at))

  later_model : (x y : Number) → (x ≡ Number_as_Refused 4) ⊎ (y ≡ x) → Ends (length s) x → Later (closed s (after_model s x)) (closed (s ++ r) (after_model (s ++ r) y))
  later_model x y (inl e) h = inl (rw e)
  later_model (Number_as_Refused n) y (inr e) h = rw e (later_same n h)
  later_model (Number_as_Read model at) y (inr e) h = rw e (by_model (ltb last model))
    where
      by_model : (b : Bool) → Later (closed s (cond b (Shut 6) (after_parameters s model (parameters_at (kinds_of model) s at)))) (closed (s ++ r) (cond b (Shut 6) (after_parameters (s ++ r) model (parameters_at (kinds_of model) (s ++ r) at))))
      by_model true = later_same 6 is_6
      by_model false = later_parameters model _ _ (parameters_stable (kinds_of model) s r at) (stops (kinds_of model) s at)

  pub later : Later (header_of s) (header_of (s ++ r))
  unfolding header_of preamble_of
  later = later_model (number_at s 0) (number_at (s ++ r) 0) (number_stable s r 0) (ends s 0)

-- A sheet that is cut short anywhere is refused by 4.
pub cut_short : (s r : List ℕ) → 0 < length r → (header_of (s ++ r)).refusal ≡ 0 → (header_of s).refusal ≡ 4
cut_short s r h z = by_case (later s r h)
  where
    by_case : Later (header_of s) (header_of (s ++ r)) → (header_of s).refusal ≡ 4
    by_case (inl e) = e
    by_case (inr (inl e)) = absurd (not_0 7 is_7 (sym e.1 ∙ z))
    by_case (inr (inr e)) = absurd (not_0 (header_of s).refusal e.0 (sym e.1 ∙ z))

-- A sheet that is read, with anything after it, is refused by 7.
pub bytes_after : (s r : List ℕ) → 0 < length r → (header_of s).refusal ≡ 0 → (header_of (s ++ r)).refusal ≡ 7
bytes_after s r h z = by_case (later s r h)
  where
    by_case : Later (header_of s) (header_of (s ++ r)) → (header_of (s ++ r)).refusal ≡ 7
    by_case (inl e) = absurd (not_0 4 is_4 (sym e ∙ z))
    by_case (inr (inl e)) = e.1
    by_case (inr (inr e)) = absurd (not_0 (header_of s).refusal e.0 z)

-- No other number comes out.
pub refusal_known : (s : List ℕ) → ((header_of s).refusal ≡ 0) ⊎ Refusal (header_of s).refusal
refusal_known s = by_case (later s (0 ∷ []) (omega arith))
  where
    by_case : Later (header_of s) (header_of (s ++ (0 ∷ []))) → ((header_of s).refusal ≡ 0) ⊎ Refusal (header_of s).refusal
    by_case (inl e) = inr (rw e is_4)
    by_case (inr (inl e)) = inl e.0
    by_case (inr (inr e)) = inr e.0
