-- A header names one of the eight models, and each of its flags is one; a refused header names model 0.
use mathlib.Core.Path.{◌≡◌, refl, sym, ap, ◌∙◌, subst}
use mathlib.Core.Bool.{Bool, true, false, cond}
use mathlib.Core.List.{List, [], ◌∷◌, ◌++◌, append_assoc}
use Prim.Native.Nat.{ℕ, ◌+◌, ◌*◌, ◌-◌, ◌%◌, ◌≤◌}
use native.Mathlib.Omega.{arith}
use lib.ListN.{length, get_or, length-append}
use lib.Dec.{ltb, leb, eqb}
use borrow.Author.Tests.{ltb-false, le-leb}
use Rattle.record.specs.Layout.{floats}
use Rattle.model.specs.Kinds.{last, law_of, kinds_of, allowed, flags_allowed, model_known}
use Rattle.sheet.specs.Records.{sheet_floats}
use Rattle.sheet.specs.Sheet.{most, number_at, word_at, checked, parameter_at, Fields, Got, Stopped, before, and_then, parameters_at, padded, refused_by, Preamble, Open, Shut, after_count, after_parameters, after_model, preamble_from, preamble_of, as_header, records_end, closed, header_from, header_of, fitted, read_of}
use Rattle.sheet.specs.declared.Number.{Number}
use Rattle.sheet.specs.declared.Number.TheVariants.{Read as Number_as_Read, Refused as Number_as_Refused}
use Rattle.sheet.specs.declared.Word.{Word}
use Rattle.sheet.specs.declared.Word.TheVariants.{Read as Word_as_Read, Refused as Word_as_Refused}
use Rattle.sheet.specs.declared.Header.{Header}

abbrev pub Known : Header → Type 0
Known h = model_known h.model h.parameters ≡ true

pub refused_known : (n : ℕ) → Known (refused_by n)
unfolding model_known kinds_of law_of
refused_known n = refl

-- the flags among the words of a reading, behind some that stand before them
abbrev Flags : List Bool → List ℕ → Fields → Type 0
Flags flags front (Stopped n) = Unit {0}
Flags flags front (Got ws next) = (rest : List ℕ) → flags_allowed (length front) flags (front ++ (ws ++ rest)) ≡ true

-- what stands at its place
there : (front rest : List ℕ) (w : ℕ) → get_or (front ++ (w ∷ rest)) (length front) 0 ≡ w
there [] rest w = refl
there (x ∷ front) rest w = there front rest w

both_known : (model : ℕ) (bits : List ℕ) → model ≤ last → flags_allowed 0 (kinds_of model) bits ≡ true → model_known model bits ≡ true
unfolding model_known
both_known model bits k f = rw (le-leb model last k, f)

module _ (s : List ℕ) where
  flags_before : (flag : Bool) (flags : List Bool) (front : List ℕ) (w : ℕ) → allowed flag w ≡ true → (f : Fields) → Flags flags (front ++ (w ∷ [])) f → Flags (flag ∷ flags) front (before w f)
  flags_before flag flags front w a (Stopped n) h = tt
  flags_before flag flags front w a (Got ws next) h = λ rest.
      let e : length (front ++ (w ∷ [])) ≡ length front + 1 = length-append front (w ∷ []) in
      let g : (front ++ (w ∷ [])) ++ (ws ++ rest) ≡ front ++ (w ∷ (ws ++ rest)) = append_assoc front (w ∷ []) (ws ++ rest) in
      rw (there front (ws ++ rest) w, a) (rw (e, g) at (h rest))

  flags_then : (flag : Bool) (flags : List Bool) (front : List ℕ) (x : Word) → ((w next : ℕ) → Flags flags (front ++ (w ∷ [])) (parameters_at flags s next)) → Flags (flag ∷ flags) front (and_then (checked flag x) (λ next. parameters_at flags s next))
  flags_then flag flags front (Word_as_Refused n) h = tt
  flags_then flag flags front (Word_as_Read w next) h = by_flag (allowed flag w) refl
    where
      by_flag : (b : Bool) → allowed flag w ≡ b → Flags (flag ∷ flags) front (and_then (cond b (Word_as_Read w next) (Word_as_Refused 6)) (λ to. parameters_at flags s to))
      by_flag true a = flags_before flag flags front w a (parameters_at flags s next) (h w next)
      by_flag false a = tt

  flags_read : (flags : List Bool) (front : List ℕ) (at : ℕ) → Flags flags front (parameters_at flags s at)
  unfolding parameters_at parameter_at
  flags_read [] front at = λ rest. refl
  flags_read (flag ∷ flags) front at = flags_then flag flags front (word_at s at) (λ w next. flags_read flags (front ++ (w ∷ [])) next)

  known_count : (model : ℕ) (bits : List ℕ) → model_known model bits ≡ true → (n : Number) → Known (as_header (after_count model bits n))
  known_count model bits k (Number_as_Refused n) = refused_known n
  known_count model bits k (Number_as_Read count at) = by_count (ltb most count)
    where
      by_count : (b : Bool) → Known (as_header (cond b (Shut 7) (Open model bits count at)))
      by_count true = refused_known 7
      by_count false = k

  known_fields : (model : ℕ) → model ≤ last → (f : Fields) → Flags (kinds_of model) [] f → Known (as_header (after_parameters s model f))
  known_fields model k (Stopped n) h = refused_known n
  known_fields model k (Got ws at) h = known_count model (padded ws) (both_known model (padded ws) k (h _)) (number_at s at)

  known_model : (n : Number) → Known (as_header (after_model s n))
  known_model (Number_as_Refused n) = refused_known n
  known_model (Number_as_Read model at) = by_model (ltb last model) refl
    where
      by_model : (b : Bool) → ltb last model ≡ b → Known (as_header (cond b (Shut 6) (after_parameters s model (parameters_at (kinds_of model) s at))))
      by_model true e = refused_known 6
      by_model false e = known_fields model (ltb-false last model e) (parameters_at (kinds_of model) s at) (flags_read (kinds_of model) [] at)

  -- OF WHAT STANDS BEFORE THE RECORDS, whether or not they are there
  pub preamble_known : Known (as_header (preamble_of s))
  unfolding preamble_of
  preamble_known = known_model (number_at s 0)

  closed_known : (f : Preamble) → Known (as_header f) → Known (closed s f)
  unfolding records_end
  closed_known (Shut n) k = k
  closed_known (Open model bits count at) k = by_length (ltb (length s - at) (count * sheet_floats model * 8)) (ltb (count * sheet_floats model * 8) (length s - at))
    where
      by_length : (b c : Bool) → Known (cond b (refused_by 4) (cond c (refused_by 7) (record { refusal = 0; model = model; parameters = bits; count = count; at = at })))
      by_length true c = refused_known 4
      by_length false true = refused_known 7
      by_length false false = k

  -- OF THE HEADER
  pub header_known : Known (header_of s)
  unfolding header_of
  header_known = closed_known (preamble_of s) preamble_known

  -- AND OF WHAT IS READ INTO A ROOM
  pub read_known : (room : ℕ) → Known (read_of s room)
  unfolding read_of
  read_known room = by_room (eqb (room % floats) 0) (eqb (header_of s).refusal 0) (ltb room ((header_of s).count * floats))
    where
      by_room : (b c d : Bool) → Known (cond b (cond c (cond d (refused_by 8) (header_of s)) (header_of s)) (refused_by 8))
      by_room false c d = refused_known 8
      by_room true false d = header_known
      by_room true true true = refused_known 8
      by_room true true false = header_known
