-- The bytes that are printed of a sheet (RULES, section 7).
use Rattle.std.specs.Prelude.{cond, List, ℕ, eqb, replicate}
use Rattle.answer_text.specs.Text.{sheet_text, refused_text}
use Rattle.sheet_run.specs.declared.Ran.{Ran}
use Rattle.sheet_run.specs.Run.{ran_of, ran_answers}
use Rattle.sheet_run.specs.Out.{out_of}
use Rattle.writer.specs.declared.Written.{Written}
use Rattle.writer.specs.declared.Written.TheVariants.{Length, Refused}

-- the refusal alone, or a line a particle
abbrev pub told : Ran → List ℕ → List ℕ
told ran answers = cond (eqb ran.refusal 0) (sheet_text ran.particles answers) (refused_text ran.refusal)

-- of a run with these rooms for records and answers
unfoldable pub answer_in : List ℕ → List ℕ → List ℕ → List ℕ
answer_in s records answers = told (ran_of s records answers) (ran_answers s records answers)

-- in rooms of zeros for 200 particles, of 37 words and of two answers
abbrev pub answer_text : List ℕ → List ℕ
answer_text s = answer_in s (replicate 7400 0) (replicate 400 0)

-- ---- how many bytes are written of the sheet with its updated records: none of a refused one
abbrev pub length_of : Written → ℕ
length_of (Length n) = n
length_of (Refused r) = 0

unfoldable pub updated_length : List ℕ → ℕ
updated_length s = length_of (out_of s (replicate 7400 0) (replicate 400 0) 59267)
