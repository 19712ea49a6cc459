-- A sheet that comes in parts (RULES, section 7): one byte more, a part, the end. Before the records the bytes so far are read again by
-- the sheet's own reading; after that a record is read and worked when its last byte comes.
use Rattle.std.specs.Prelude.{◌≡◌, Bool, true, cond, ◌&&◌, List, [], ◌∷◌, ◌++◌, ℕ, suc, ◌+◌, ◌*◌, length, take, set, replicate, ltb, eqb}
use Rattle.answers.specs.Refusals.{ends_early, unknown, too_many, wrong_length, after_end}
use Rattle.record.specs.Layout.{floats}
use Rattle.model.specs.Kinds.{model_known}
use Rattle.plasticity.specs.declared.Outcome.{Outcome}
use Rattle.particles.specs.Pass.{Worked, code_of, value_of, record_at, replaced, answered}
use Rattle.sheet.specs.Records.{sheet_floats}
use Rattle.sheet.specs.Sheet.{most, refused_by, preamble_of, as_header, room_at}
use Rattle.sheet.specs.declared.Header.{Header}
use Rattle.sheet_run.specs.Run.{law_of}
use Rattle.parts.specs.declared.Arrival.{Arrival}
use Rattle.parts.specs.declared.Told.{Told}

-- how far the sheet has come, the lent records and the lent answers
pub record Work : Type 0 where
  pub arrival : Arrival
  pub records : List ℕ
  pub answers : List ℕ

abbrev pub works : Arrival → List ℕ → List ℕ → Work
works a xs out = record { arrival = a; records = xs; answers = out }

-- the bytes of the longest record, which are at most held
abbrev pub room : ℕ
room = floats * 8

-- the bytes held with one more
abbrev pub held_with : Arrival → ℕ → List ℕ
held_with a b = set a.held a.kept b

-- the same, with a number that answers every further call
abbrev pub stopped : Arrival → ℕ → Arrival
stopped a n = record { refusal = n; header = a.header; complete = a.complete; kept = a.kept; held = a.held }

-- ---- before the records: 4 means that more is wanted, another refusal is a fault
abbrev pub headed_by : Arrival → ℕ → Header → Arrival
headed_by a b h =
    cond (eqb h.refusal ends_early)
    (record { refusal = 0; header = h; complete = 0; kept = a.kept + 1; held = held_with a b })
    (record { refusal = h.refusal; header = h; complete = 0; kept = 0; held = held_with a b })

unfoldable pub headed : Arrival → ℕ → Arrival
headed a b = headed_by a b (as_header (preamble_of (take (a.kept + 1) (held_with a b))))

-- ---- in the records: a record is wanted, or the byte follows the last
abbrev pub wanted : Arrival → Bool
wanted a = ltb a.complete a.header.count && ltb a.complete most

-- with the byte it is not complete
abbrev pub short : Arrival → Bool
short a = ltb (a.kept + 1) (sheet_floats a.header.model * 8)

-- else 6, which no call of ours leads to: one of the eight models, and each flag is one
abbrev pub named : Header → Bool
named h = model_known h.model h.parameters

unfoldable pub recorded : Arrival → ℕ → Arrival
recorded a b =
    cond (wanted a)
    (cond (short a)
    (record { refusal = 0; header = a.header; complete = a.complete; kept = a.kept + 1; held = held_with a b })
    (cond (named a.header)
    (record { refusal = 0; header = a.header; complete = a.complete + 1; kept = 0; held = held_with a b })
    (stopped a unknown)))
    (stopped a too_many)

-- a record as the law leaves it, read from its bytes into its place
unfoldable pub worked_by : Header → List ℕ → List ℕ → Worked
worked_by h bytes r = law_of h (room_at h.model bytes 0 r)

abbrev pub answer_of : Outcome → List ℕ
answer_of o = code_of o ∷ value_of o ∷ []

-- record k is worked, in the lent lists
abbrev pub records_with : Header → ℕ → List ℕ → List ℕ → List ℕ
records_with h k bytes xs = replaced xs k (worked_by h bytes (record_at xs k)).after

abbrev pub answers_with : Header → ℕ → List ℕ → List ℕ → List ℕ → List ℕ
answers_with h k bytes xs out = answered out k (worked_by h bytes (record_at xs k)).outcome

unfoldable pub records_by : Arrival → ℕ → List ℕ → List ℕ
records_by a b xs =
    cond (wanted a) (cond (short a) xs (cond (named a.header) (records_with a.header a.complete (held_with a b) xs) xs)) xs

unfoldable pub answers_by : Arrival → ℕ → List ℕ → List ℕ → List ℕ
answers_by a b xs out =
    cond (wanted a) (cond (short a) out (cond (named a.header) (answers_with a.header a.complete (held_with a b) xs out) out)) out

-- ---- one byte more: nothing after a fault or the end; 7 where no room is left, which no call of ours leads to
abbrev pub took : Work → ℕ → Work
took w b =
    cond (eqb w.arrival.header.refusal 0)
    (works (recorded w.arrival b) (records_by w.arrival b w.records) (answers_by w.arrival b w.records w.answers))
    (works (headed w.arrival b) w.records w.answers)

unfoldable pub next : Work → ℕ → Work
next w b =
    cond (eqb w.arrival.refusal 0)
    (cond (ltb w.arrival.kept room) (took w b)
    (works (stopped w.arrival too_many) w.records w.answers))
    w

-- so many bytes more
unfoldable pub after : Work → List ℕ → Work
after w [] = w
after w (b ∷ bs) = after (next w b) bs

-- ---- the calls. Before the first byte
abbrev pub begun : Arrival
begun = record { refusal = 0; header = refused_by ends_early; complete = 0; kept = 0; held = replicate room 0 }

-- refusal 8: lists for exactly 200 particles, before all else and no fault
abbrev pub lent : List ℕ → List ℕ → Bool
lent xs out = eqb (length xs) (most * floats) && eqb (length out) (most * 2)

abbrev pub Lent : List ℕ → List ℕ → Type 0
Lent xs out = (length xs ≡ most * floats) × (length out ≡ most * 2)

-- a part
unfoldable pub parted : Work → List ℕ → Work
parted w l = cond (lent w.records w.answers) (after w l) w

abbrev pub told : ℕ → Arrival → Told
told n a = record { refusal = n; complete = a.complete; arrival = a }

abbrev pub part_answer : Work → List ℕ → Told
part_answer w l =
    cond (lent w.records w.answers) (told (after w l).arrival.refusal (after w l).arrival) (told wrong_length w.arrival)

-- the end: 4 where something is missing, told only here; else 15 to every further call
abbrev pub missing : Arrival → Bool
missing a = cond (eqb a.header.refusal 0) (ltb a.complete a.header.count) true

abbrev pub ended : Arrival → Told
ended a =
    cond (eqb a.refusal 0)
    (cond (missing a) (told ends_early (stopped a ends_early)) (told 0 (stopped a after_end)))
    (told a.refusal a)

abbrev pub end_answer : Arrival → List ℕ → List ℕ → Told
end_answer a xs out = cond (lent xs out) (ended a) (told wrong_length a)

-- ---- several parts, one after the other, and the bytes that they are cut from
unfoldable pub parted_all : Work → List (List ℕ) → Work
parted_all w [] = w
parted_all w (l ∷ ls) = parted_all (parted w l) ls

unfoldable pub joined : List (List ℕ) → List ℕ
joined [] = []
joined (l ∷ ls) = l ++ joined ls
