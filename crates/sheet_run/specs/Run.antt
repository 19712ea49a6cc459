-- A sheet from its bytes to its answers (RULES, sections 6 and 7).
use Rattle.std.specs.Prelude.{cond, List, ◌++◌, ℕ, ◌*◌, eqb, length, take, drop}
use Rattle.answers.specs.Refusals.{wrong_length}
use Rattle.model.specs.Fields.{model_of}
use Rattle.particles.specs.declared.list.Passed.{Passed}
use Rattle.particles.specs.declared.list.Passed.TheVariants.{Done, Refused}
use Rattle.one_record.specs.RecordLaw.{record_law}
use Rattle.particles.specs.Pass.{Worked, well_sized, passed, pass_records, pass_answers}
use Rattle.record.specs.Layout.{floats}
use Rattle.sheet.specs.declared.Header.{Header}
use Rattle.sheet.specs.Sheet.{read_of, room_of}
use Rattle.sheet_run.specs.declared.Ran.{Ran}

-- beside a refusal all else is 0
abbrev pub stopped : ℕ → Ran
stopped n =
    record { refusal = n; particles = 0; counts = record { untouched = 0; stored = 0; refused = 0 } }

abbrev pub finished : ℕ → Passed → Ran
finished n (Done c) = record { refusal = 0; particles = n; counts = c }
finished n (Refused k) = stopped k

-- the law that a sheet names
abbrev pub law_of : Header → List ℕ → Worked
law_of h = record_law (model_of h.model h.parameters)

-- the particles' parts of the two rooms
abbrev pub records_in : Header → List ℕ → List ℕ
records_in h xs = take (h.count * floats) xs

abbrev pub answers_in : Header → List ℕ → List ℕ
answers_in h out = take (h.count * 2) out

-- the pass over these parts
unfoldable pub front_of : Header → List ℕ → List ℕ → Ran
front_of h xs out = finished h.count (passed (law_of h) (records_in h xs) (answers_in h out))

unfoldable pub front_records : Header → List ℕ → List ℕ → List ℕ
front_records h xs out = pass_records (law_of h) (records_in h xs) (answers_in h out) ++ drop (h.count * floats) xs

unfoldable pub front_answers : Header → List ℕ → List ℕ → List ℕ
front_answers h xs out = pass_answers (law_of h) (records_in h xs) (answers_in h out) ++ drop (h.count * 2) out

-- what the sheet's header leads to, with the records read into the room xs
abbrev pub ran_with : Header → List ℕ → List ℕ → Ran
ran_with h xs out = cond (eqb h.refusal 0) (front_of h xs out) (stopped h.refusal)

abbrev pub records_with : Header → List ℕ → List ℕ → List ℕ
records_with h xs out = cond (eqb h.refusal 0) (front_records h xs out) xs

abbrev pub answers_with : Header → List ℕ → List ℕ → List ℕ
answers_with h xs out = cond (eqb h.refusal 0) (front_answers h xs out) out

-- rooms that are no whole number of records, or have not two answers a record, are refused by 8 before anything is read
abbrev pub ran_of : List ℕ → List ℕ → List ℕ → Ran
ran_of s xs out = cond (well_sized xs out) (ran_with (read_of s (length xs)) (room_of s xs) out) (stopped wrong_length)

abbrev pub ran_records : List ℕ → List ℕ → List ℕ → List ℕ
ran_records s xs out = cond (well_sized xs out) (records_with (read_of s (length xs)) (room_of s xs) out) xs

abbrev pub ran_answers : List ℕ → List ℕ → List ℕ → List ℕ
ran_answers s xs out = cond (well_sized xs out) (answers_with (read_of s (length xs)) (room_of s xs) out) out
