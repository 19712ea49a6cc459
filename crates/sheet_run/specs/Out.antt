-- A sheet run and written again (RULES, sections 6 and 7): the spelling of its model, its parameters and its records after the pass.
use Rattle.std.specs.Prelude.{cond, List, ℕ, eqb}
use Rattle.sheet.specs.declared.Header.{Header}
use Rattle.sheet.specs.Sheet.{header_of}
use Rattle.sheet.specs.Spelling.{parameters_of}
use Rattle.sheet_run.specs.Run.{records_in, ran_of, ran_records}
use Rattle.writer.specs.declared.Written.{Written}
use Rattle.writer.specs.declared.Written.TheVariants.{Refused}
use Rattle.writer.specs.Writer.{written_of, room_of}

-- the header's model and parameters, and the records that it speaks of at the front of the words
unfoldable pub front_written : Header → List ℕ → ℕ → Written
front_written h words room = written_of h.model (parameters_of h) (records_in h words) room

unfoldable pub front_room : Header → List ℕ → List ℕ → List ℕ
front_room h words room = room_of h.model (parameters_of h) (records_in h words) room

-- a refusal of the run is the answer
abbrev pub out_of : List ℕ → List ℕ → List ℕ → ℕ → Written
out_of s xs out room =
    cond (eqb (ran_of s xs out).refusal 0) (front_written (header_of s) (ran_records s xs out) room) (Refused (ran_of s xs out).refusal)

-- and then nothing is written
abbrev pub out_room : List ℕ → List ℕ → List ℕ → List ℕ → List ℕ
out_room s xs out room = cond (eqb (ran_of s xs out).refusal 0) (front_room (header_of s) (ran_records s xs out) room) room
