-- What the reading, the run and the writing of a sheet leave of a host's lists (RULES, sections 6 and 7).
use Rattle.std.specs.Prelude.{cond, List, [], ◌∷◌, ◌++◌, ℕ, eqb, length, get_or}
use Rattle.sheet.specs.declared.Header.{Header}
use Rattle.sheet.specs.Sheet.{read_of, room_of}
use Rattle.sheet_run.specs.declared.Ran.{Ran}
use Rattle.sheet_run.specs.Run.{ran_of, ran_records, ran_answers}
use Rattle.writer.specs.declared.Written.{Written}
use Rattle.writer.specs.declared.Written.TheVariants.{Length, Refused}
use Rattle.writer.specs.Writer as writer
use Rattle.host_lists.specs.Refused.{has}
use Rattle.host_lists.specs.Called.{Called, called, sized_call}

-- the eight places of a header's parameters
abbrev pub eight_of : List ℕ → List ℕ
eight_of p =
    get_or p 0 0 ∷ get_or p 1 0 ∷ get_or p 2 0 ∷ get_or p 3 0 ∷ get_or p 4 0 ∷ get_or p 5 0 ∷ get_or p 6 0 ∷ get_or p 7 0 ∷ []

-- model, the eight parameters, count, and the place of the first record
abbrev pub header_words : Header → List ℕ
header_words h = h.model ∷ (eight_of h.parameters ++ (h.count ∷ h.at ∷ []))

-- a refused sheet writes nothing
abbrev pub header_room : Header → List ℕ → List ℕ
header_room h header = cond (eqb h.refusal 0) (header_words h) header

-- 8 where the header's room has not 11 places; else the reading: header and records
unfoldable pub read_by : List ℕ → List ℕ → List ℕ → Called
read_by s header xs =
    let h = read_of s (length xs) in
    sized_call (has 11 header) (called h.refusal (header_room h header ∷ room_of s xs ∷ [])) (header ∷ xs ∷ [])

-- particles, untouched, stored, refused
abbrev pub ran_counts : Ran → List ℕ → List ℕ
ran_counts ran counts =
    cond (eqb ran.refusal 0) (ran.particles ∷ ran.counts.untouched ∷ ran.counts.stored ∷ ran.counts.refused ∷ []) counts

-- 8 where the counts' room has not 4 places; else the run: records, answers and counts
unfoldable pub run_by : List ℕ → List ℕ → List ℕ → List ℕ → Called
run_by s xs out counts =
    let ran = ran_of s xs out in
    sized_call (has 4 counts) (called ran.refusal (ran_records s xs out ∷ ran_answers s xs out ∷ ran_counts ran counts ∷ [])) (xs ∷ out ∷ counts ∷ [])

-- the number of a refusal; a sheet that was written has its length beside 0
abbrev pub written_code : Written → ℕ
written_code (Length n) = 0
written_code (Refused n) = n

abbrev pub written_room : Written → List ℕ → List ℕ
written_room (Length n) written = n ∷ []
written_room (Refused n) written = written

-- 8 where the length's room has not 1 place; else the writing: bytes, and how many
unfoldable pub write_by : ℕ → List ℕ → List ℕ → List ℕ → List ℕ → Called
write_by model p words bytes written =
    let w = writer.written_of model p words (length bytes) in
    sized_call (has 1 written) (called (written_code w) (writer.room_of model p words bytes ∷ written_room w written ∷ [])) (bytes ∷ written ∷ [])
