-- Refusal 15 of a sheet in parts: the calls of a sheet, one after the other, and whether one of them was an end that told no refusal.
use Rattle.std.specs.Prelude.{◌≡◌, ◌⊎◌, List, [], ◌∷◌, ℕ}
use Rattle.sheet.specs.Spelling.{Below}
use Rattle.parts.specs.declared.Told.{Told}
use Rattle.parts.specs.Parts.{Work, works, parted, part_answer, end_answer}

pub data Call : Type 0 where
  Part : List ℕ → Call
  End : Call

abbrev pub end_told : Work → Told
end_told w = end_answer w.arrival w.records w.answers

-- what a call is answered by, and what it leaves
abbrev pub answer_of : Work → Call → ℕ
answer_of w (Part l) = (part_answer w l).refusal
answer_of w End = (end_told w).refusal

abbrev pub step_of : Work → Call → Work
step_of w (Part l) = parted w l
step_of w End = works (end_told w).arrival w.records w.answers

unfoldable pub steps : Work → List Call → Work
steps w [] = w
steps w (c ∷ cs) = steps (step_of w c) cs

-- the parts are of bytes
abbrev pub Bytes : List Call → Type 0
Bytes [] = Unit {0}
Bytes (Part l ∷ cs) = Below 256 l × Bytes cs
Bytes (End ∷ cs) = Bytes cs

-- an end among the calls told no refusal
abbrev pub EndedIn : Work → List Call → Type 0
EndedIn w [] = ⊥
EndedIn w (Part l ∷ cs) = EndedIn (parted w l) cs
EndedIn w (End ∷ cs) = (answer_of w End ≡ 0) ⊎ EndedIn (step_of w End) cs
