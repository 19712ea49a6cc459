-- A number that is read ends inside the sheet, and every refusal of a reading is one from 4 to 7.
use mathlib.Core.Path.{◌≡◌, sym, ap, ◌∙◌, subst}
use mathlib.Core.Bool.{Bool, true, false, cond}
use mathlib.Core.List.{List, [], ◌∷◌}
use Prim.Native.Nat.{ℕ, suc, ◌+◌, ◌*◌, ◌-◌, ◌≤◌, ◌<◌}
use native.Mathlib.Omega.{arith}
use lib.ListN.{length, drop, length-drop}
use lib.Dec.{eqb, ltb, leb}
use Rattle.model.specs.Kinds.{allowed}
use Rattle.sheet.specs.Sheet.{number_at, first_group, second_group, word_at, checked, parameter_at, Fields, Got, Stopped, before, and_then, parameters_at, as_parameters, refused_by, after_count, after_parameters, as_header}
use Rattle.sheet.specs.declared.Number.{Number}
use Rattle.sheet.specs.declared.Number.TheVariants.{Read as Number_as_Read, Refused as Number_as_Refused}
use Rattle.sheet.specs.declared.Word.{Word}
use Rattle.sheet.specs.declared.Word.TheVariants.{Read as Word_as_Read, Refused as Word_as_Refused}
use Rattle.sheet.specs.declared.Parameters.{Parameters}

-- the refusals of a sheet in RULES, section 6
abbrev pub Refusal : ℕ → Type 0
Refusal n = (4 ≤ n) × (n ≤ 7)

pub not_0 : (n : ℕ) → Refusal n → n ≡ 0 → ⊥
not_0 n h e = omega arith

pub is_4 : Refusal 4
is_4 = omega arith

pub is_5 : Refusal 5
is_5 = omega arith

pub is_6 : Refusal 6
is_6 = omega arith

pub is_7 : Refusal 7
is_7 = omega arith

-- a value ends by a place
abbrev pub Ends : ℕ → Number → Type 0
Ends end (Number_as_Read v next) = next ≤ end
Ends end (Number_as_Refused n) = Refusal n

tested : (b : Bool) (end : ℕ) (x y : Number) → Ends end x → Ends end y → Ends end (cond b x y)
tested true end x y h k = h
tested false end x y h k = k

ends_second : (low at end : ℕ) (l : List ℕ) → at + 1 + length l ≤ end → Ends end (second_group low l at)
ends_second low at end [] h = is_4
ends_second low at end (high ∷ rest) h =
    let k : at + 2 ≤ end = omega arith in
    tested (leb 128 high) end _ _ is_5 (tested (eqb high 0) end _ (Number_as_Read (low - 128 + high * 128) (at + 2)) is_5 k)

ends_first : (at end : ℕ) (l : List ℕ) → (0 < length l → at + length l ≤ end) → Ends end (first_group l at)
ends_first at end [] h = is_4
ends_first at end (low ∷ rest) h =
    let k : at + suc (length rest) ≤ end = h (omega arith) in
    let m : at + 1 ≤ end = omega arith in
    tested (ltb low 128) end (Number_as_Read low (at + 1)) _ m (ends_second low at end rest (omega arith))

pub ends : (s : List ℕ) (at : ℕ) → Ends (length s) (number_at s at)
unfolding number_at
ends s at = ends_first at (length s) (drop at s) (λ p. omega (arith, p, length-drop at s))

pub number_inside : (s : List ℕ) (at v next : ℕ) → number_at s at ≡ Number_as_Read v next → next ≤ length s
number_inside s at v next e = subst (Ends (length s)) e (ends s at)

pub number_refused : (s : List ℕ) (at n : ℕ) → number_at s at ≡ Number_as_Refused n → n ≡ 0 → ⊥
number_refused s at n e = not_0 n (subst (Ends (length s)) e (ends s at))

abbrev Told : Word → Type 0
Told (Word_as_Read w next) = Unit {0}
Told (Word_as_Refused n) = Refusal n

told : (b : Bool) (x y : Word) → Told x → Told y → Told (cond b x y)
told true x y h k = h
told false x y h k = k

told_word : (s : List ℕ) (at : ℕ) → Told (word_at s at)
unfolding word_at
told_word s at = told (ltb (length (drop at s)) 8) _ _ is_4 tt

told_checked : (flag : Bool) (w : Word) → Told w → Told (checked flag w)
told_checked flag (Word_as_Read w next) h = told (allowed flag w) _ _ tt is_6
told_checked flag (Word_as_Refused n) h = h

told_parameter : (flag : Bool) (s : List ℕ) (at : ℕ) → Told (parameter_at flag s at)
unfolding parameter_at
told_parameter flag s at = told_checked flag (word_at s at) (told_word s at)

abbrev pub Stops : Fields → Type 0
Stops (Got ws at) = Unit {0}
Stops (Stopped n) = Refusal n

stops_before : (w : ℕ) (f : Fields) → Stops f → Stops (before w f)
stops_before w (Got ws at) h = tt
stops_before w (Stopped n) h = h

stops_then : (w : Word) (f : ℕ → Fields) → Told w → ((at : ℕ) → Stops (f at)) → Stops (and_then w f)
stops_then (Word_as_Read w at) f h k = stops_before w (f at) (k at)
stops_then (Word_as_Refused n) f h k = h

pub stops : (flags : List Bool) (s : List ℕ) (at : ℕ) → Stops (parameters_at flags s at)
unfolding parameters_at
stops [] s at = tt
stops (flag ∷ flags) s at = stops_then (parameter_at flag s at) (λ to. parameters_at flags s to) (told_parameter flag s at) (λ to. stops flags s to)

pub stopped_not_0 : (flags : List Bool) (s : List ℕ) (at n : ℕ) → parameters_at flags s at ≡ Stopped n → n ≡ 0 → ⊥
stopped_not_0 flags s at n e = not_0 n (subst Stops e (stops flags s at))

-- the two ways on from the parameters
refusal_is : (f : Fields) (p : Parameters) → p ≡ as_parameters f → p.refusal ≡ (as_parameters f).refusal
refusal_is f p e = ap (λ (q : Parameters). q.refusal) e

pub parameters_refused : (s : List ℕ) (model : ℕ) (f : Fields) (p : Parameters) → p ≡ as_parameters f → (p.refusal ≡ 0 → ⊥) → refused_by p.refusal ≡ as_header (after_parameters s model f)
parameters_refused s model (Got ws at) p e h = absurd (h (refusal_is (Got ws at) p e))
parameters_refused s model (Stopped n) p e h = ap refused_by (refusal_is (Stopped n) p e)

pub parameters_read : (s : List ℕ) (model : ℕ) (f : Fields) (p : Parameters) → p ≡ as_parameters f → p.refusal ≡ 0 → Stops f
    → as_header (after_count model p.bits (number_at s p.at)) ≡ as_header (after_parameters s model f)
parameters_read s model (Got ws at) p e h k = ap (λ (q : Parameters). as_header (after_count model q.bits (number_at s q.at))) e
parameters_read s model (Stopped n) p e h k = absurd (not_0 n k (sym (refusal_is (Stopped n) p e) ∙ h))
