-- A sheet of bytes, read by place (RULES, sections 6 and 7): what is read, and the refusals 4 to 8 in reading order.
use Rattle.std.specs.Prelude.{Bool, true, false, cond, ◌||◌, List, [], ◌∷◌, ◌++◌, ℕ, zero, suc, ◌+◌, ◌*◌, ◌-◌, ◌%◌, length, take, drop, replicate, ltb, leb, eqb}
use Rattle.answers.specs.Refusals.{ends_early, not_shortest, unknown, too_many, wrong_length}
use Rattle.record.specs.Layout.{floats}
use Rattle.model.specs.Kinds.{last, places, kinds_of, allowed}
use Rattle.sheet.specs.Records.{sheet_floats, completed, list_words}
use Rattle.sheet.specs.declared.Number.{Number}
use Rattle.sheet.specs.declared.Number.TheVariants.{Read as Number_as_Read, Refused as Number_as_Refused}
use Rattle.sheet.specs.declared.Word.{Word}
use Rattle.sheet.specs.declared.Word.TheVariants.{Read as Word_as_Read, Refused as Word_as_Refused}
use Rattle.sheet.specs.declared.Place.{Place}
use Rattle.sheet.specs.declared.Place.TheVariants.{Next as Place_as_Next, Refused as Place_as_Refused}
use Rattle.sheet.specs.declared.Parameters.{Parameters}
use Rattle.sheet.specs.declared.Header.{Header}

-- how many particles a sheet may have
abbrev pub most : ℕ
most = 200

-- A number in groups of seven bits, low group first, the top bit of a byte set where more follows. 4 where a byte is wanted
-- and there is none; 5 where a third group would follow, or the second group is zero.
abbrev pub second_group : ℕ → List ℕ → ℕ → Number
second_group low [] at = Number_as_Refused ends_early
second_group low (high ∷ rest) at =
    cond (leb 128 high) (Number_as_Refused not_shortest)
    (cond (eqb high 0) (Number_as_Refused not_shortest)
    (Number_as_Read (low - 128 + high * 128) (at + 2)))

abbrev pub first_group : List ℕ → ℕ → Number
first_group [] at = Number_as_Refused ends_early
first_group (low ∷ rest) at = cond (ltb low 128) (Number_as_Read low (at + 1)) (second_group low rest at)

unfoldable pub number_at : List ℕ → ℕ → Number
number_at s at = first_group (drop at s) at

-- the number that bytes spell, low byte first
unfoldable pub word_of : List ℕ → ℕ
word_of [] = 0
word_of (b ∷ bs) = b + 256 * word_of bs

-- a float's bits: 8 bytes, or 4
unfoldable pub word_at : List ℕ → ℕ → Word
word_at s at = cond (ltb (length (drop at s)) 8) (Word_as_Refused ends_early) (Word_as_Read (word_of (take 8 (drop at s))) (at + 8))

-- n floats, one after the other
unfoldable pub words_of : ℕ → List ℕ → List ℕ
words_of zero l = []
words_of (suc n) l = word_of (take 8 l) ∷ words_of n (drop 8 l)

abbrev pub checked : Bool → Word → Word
checked flag (Word_as_Refused n) = Word_as_Refused n
checked flag (Word_as_Read w next) = cond (allowed flag w) (Word_as_Read w next) (Word_as_Refused unknown)

unfoldable pub parameter_at : Bool → List ℕ → ℕ → Word
parameter_at flag s at = checked flag (word_at s at)

-- the parameters read and the place after them, or the refusal that stopped the reading
pub data Fields : Type 0 where
  Got : List ℕ → ℕ → Fields
  Stopped : ℕ → Fields

abbrev pub before : ℕ → Fields → Fields
before w (Got ws at) = Got (w ∷ ws) at
before w (Stopped n) = Stopped n

abbrev pub and_then : Word → (ℕ → Fields) → Fields
and_then (Word_as_Refused n) next = Stopped n
and_then (Word_as_Read w at) next = before w (next at)

unfoldable pub parameters_at : List Bool → List ℕ → ℕ → Fields
parameters_at [] s at = Got [] at
parameters_at (flag ∷ flags) s at = and_then (parameter_at flag s at) (λ next. parameters_at flags s next)

-- in as many places as a model has parameters at most, 0 past the last
abbrev pub padded : List ℕ → List ℕ
padded ws = ws ++ replicate (places - length ws) 0

abbrev pub as_parameters : Fields → Parameters
as_parameters (Got ws at) = record { refusal = 0; bits = padded ws; at = at }
as_parameters (Stopped n) = record { refusal = n; bits = padded []; at = 0 }

abbrev pub refused_by : ℕ → Header
refused_by n = record { refusal = n; model = 0; parameters = padded []; count = 0; at = 0 }

-- What stands before the records: the model, its parameters in their places, the count, and the place of the first record; or the
-- refusal that stopped the reading.
pub data Preamble : Type 0 where
  Open : ℕ → List ℕ → ℕ → ℕ → Preamble
  Shut : ℕ → Preamble

abbrev pub after_count : ℕ → List ℕ → Number → Preamble
after_count model bits (Number_as_Refused n) = Shut n
after_count model bits (Number_as_Read count at) = cond (ltb most count) (Shut too_many) (Open model bits count at)

abbrev pub after_parameters : List ℕ → ℕ → Fields → Preamble
after_parameters s model (Stopped n) = Shut n
after_parameters s model (Got ws at) = after_count model (padded ws) (number_at s at)

abbrev pub after_model : List ℕ → Number → Preamble
after_model s (Number_as_Refused n) = Shut n
after_model s (Number_as_Read model at) =
    cond (ltb last model) (Shut unknown) (after_parameters s model (parameters_at (kinds_of model) s at))

-- from a place on, and from the start
abbrev pub preamble_from : List ℕ → ℕ → Preamble
preamble_from s at = after_model s (number_at s at)

unfoldable pub preamble_of : List ℕ → Preamble
preamble_of s = preamble_from s 0

-- as a header, whether or not the records are there
abbrev pub as_header : Preamble → Header
as_header (Open model bits count at) = record { refusal = 0; model = model; parameters = bits; count = count; at = at }
as_header (Shut n) = refused_by n

-- The records end the sheet: 4 where some are missing, 7 where bytes follow the last.
unfoldable pub records_end : List ℕ → ℕ → List ℕ → ℕ → ℕ → Header
records_end s model bits count at =
    cond (ltb (length s - at) (count * sheet_floats model * 8)) (refused_by ends_early)
    (cond (ltb (count * sheet_floats model * 8) (length s - at)) (refused_by too_many)
    (record { refusal = 0; model = model; parameters = bits; count = count; at = at }))

abbrev pub closed : List ℕ → Preamble → Header
closed s (Open model bits count at) = records_end s model bits count at
closed s (Shut n) = refused_by n

-- model number, parameters, count, then the length that the records take
abbrev pub header_from : List ℕ → ℕ → Header
header_from s at = closed s (preamble_from s at)

unfoldable pub header_of : List ℕ → Header
header_of s = closed s (preamble_of s)

-- A room that is no whole number of records is refused by 8 before anything is read, and one that is too short for the count
-- by 8 once the sheet itself is good.
abbrev pub fitted : Header → ℕ → Header
fitted h room = cond (eqb h.refusal 0) (cond (ltb room (h.count * floats)) (refused_by wrong_length) h) h

unfoldable pub read_of : List ℕ → ℕ → Header
read_of s room = cond (eqb (room % floats) 0) (fitted (header_of s) room) (refused_by wrong_length)

-- the floats of the records, as the sheet has them
abbrev pub words_in : List ℕ → Header → List ℕ
words_in s h = words_of (h.count * sheet_floats h.model) (drop h.at s)

-- and as `read` delivers them
abbrev pub records_of : List ℕ → Header → List ℕ
records_of s h = list_words h.model h.count (words_in s h)

-- the room afterwards: the records in front, where the sheet was read
abbrev pub filled : List ℕ → List ℕ → Header → List ℕ
filled s room h = cond (eqb h.refusal 0) (records_of s h ++ drop (h.count * floats) room) room

unfoldable pub room_of : List ℕ → List ℕ → List ℕ
room_of s room = filled s room (read_of s (length room))

-- One record by itself: 8 where the room is not of its size, 6 where no model has the number, then 4 where the sheet ends early.
unfoldable pub record_at : ℕ → List ℕ → ℕ → ℕ → Place
record_at model s at room =
    cond (eqb room floats)
    (cond (ltb last model) (Place_as_Refused unknown)
    (cond (ltb (length s - at) (sheet_floats model * 8)) (Place_as_Refused ends_early) (Place_as_Next (at + sheet_floats model * 8))))
    (Place_as_Refused wrong_length)

abbrev pub placed : Place → List ℕ → List ℕ → List ℕ
placed (Place_as_Next n) new old = new
placed (Place_as_Refused n) new old = old

unfoldable pub room_at : ℕ → List ℕ → ℕ → List ℕ → List ℕ
room_at model s at room = placed (record_at model s at (length room)) (completed model (words_of (sheet_floats model) (drop at s))) room
