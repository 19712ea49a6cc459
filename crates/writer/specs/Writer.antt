-- Sheets out (RULES, section 7): the bytes are the spelling that a reading is proved against. Refusals in their order: 8, lists of a
-- wrong length; 6, an unknown model or a flag other than 0.0 and 1.0; 7, over 200 records; 9, a room shorter than the sheet.
use Rattle.std.specs.Prelude.{cond, ◌&&◌, List, ◌++◌, ℕ, ◌+◌, ◌/◌, ◌%◌, eqb, leb, length, take, drop}
use Rattle.answers.specs.Refusals.{wrong_length, unknown, too_many, no_room}
use Rattle.model.specs.Kinds.{parameters_fit, model_known}
use Rattle.record.specs.Layout.{floats}
use Rattle.sheet.specs.Records.{sheet_words}
use Rattle.sheet.specs.Sheet.{most}
use Rattle.sheet.specs.Spelling.{spell}
use Rattle.writer.specs.declared.Written.{Written}
use Rattle.writer.specs.declared.Written.TheVariants.{Length, Refused}

-- the bytes b stand in the room from a place on, and the others are as they were
abbrev pub put : List ℕ → ℕ → List ℕ → List ℕ
put room at b = take at room ++ (b ++ drop (at + length b) room)

-- how many records the words are
abbrev pub count_of : List ℕ → ℕ
count_of words = length words / floats

-- a list's records, each as the model's sheets have it
unfoldable pub sheet_of : ℕ → List ℕ → List ℕ → List ℕ
sheet_of model parameters words = spell model parameters (count_of words) (sheet_words model (count_of words) words)

-- 0 where nothing is refused; the room has so many bytes
unfoldable pub refusal_of : ℕ → List ℕ → List ℕ → ℕ → ℕ
refusal_of model parameters words room =
    cond (eqb (length words % floats) 0 && parameters_fit model parameters)
    (cond (model_known model parameters)
    (cond (leb (count_of words) most)
    (cond (leb (length (sheet_of model parameters words)) room) 0 no_room) too_many) unknown) wrong_length

abbrev pub answered_by : ℕ → ℕ → Written
answered_by refusal bytes = cond (eqb refusal 0) (Length bytes) (Refused refusal)

unfoldable pub written_of : ℕ → List ℕ → List ℕ → ℕ → Written
written_of model parameters words room = answered_by (refusal_of model parameters words room) (length (sheet_of model parameters words))

-- the sheet in front, where nothing is refused
unfoldable pub room_of : ℕ → List ℕ → List ℕ → List ℕ → List ℕ
room_of model parameters words room =
    cond (eqb (refusal_of model parameters words (length room)) 0) (put room 0 (sheet_of model parameters words)) room
