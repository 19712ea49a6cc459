-- The calls of a sheet in parts, their state a host's list of words (RULES, sections 6 and 7).
use Rattle.std.specs.Prelude.{Bool, cond, ◌&&◌, List, [], ◌∷◌, ℕ, eqb, length}
use Rattle.answers.specs.Refusals.{unknown, wrong_length}
use Rattle.parts.specs.declared.Arrival.{Arrival}
use Rattle.parts.specs.declared.Told.{Told}
use Rattle.parts.specs.Parts.{Work, works, named, begun, lent, parted, part_answer, end_answer}
use Rattle.parts_words.specs.Words.{state_length, state_words, arrival_at}

-- how many records are complete, and how many the sheet says it has, 0 before that is known
abbrev pub progress_length : ℕ
progress_length = 2

abbrev pub progress_of : Told → List ℕ
progress_of t = t.complete ∷ t.arrival.header.count ∷ []

-- the lent lists of a call
pub record Lists : Type 0 where
  pub state : List ℕ
  pub records : List ℕ
  pub answers : List ℕ
  pub progress : List ℕ

abbrev pub lists : List ℕ → List ℕ → List ℕ → List ℕ → Lists
lists state xs out p = record { state = state; records = xs; answers = out; progress = p }

-- 8 before all else
abbrev pub fits : Lists → Bool
fits c = eqb (length c.state) state_length && eqb (length c.progress) progress_length && lent c.records c.answers

-- what a state itself answers: a fault's number or 15; 6 where it names no model, which no call leaves; else 0
abbrev pub standing_of : Arrival → ℕ
standing_of a = cond (eqb a.refusal 0) (cond (named a.header) 0 unknown) a.refusal

abbrev pub stands_at : Lists → ℕ
stands_at c = standing_of (arrival_at c.state)

-- Beside 8 and beside what the state itself answers nothing is written.
abbrev pub goes : Lists → Bool
goes c = fits c && eqb (stands_at c) 0

abbrev pub work_at : Lists → Work
work_at c = works (arrival_at c.state) c.records c.answers

-- ---- the beginning
abbrev pub begin_code : List ℕ → ℕ
begin_code state = cond (eqb (length state) state_length) 0 wrong_length

abbrev pub begin_state : List ℕ → List ℕ
begin_state state = cond (eqb (length state) state_length) (state_words begun) state

-- ---- a part
abbrev pub part_told : Lists → List ℕ → Told
part_told c l = part_answer (work_at c) l

abbrev pub part_work : Lists → List ℕ → Work
part_work c l = parted (work_at c) l

abbrev pub part_code : Lists → List ℕ → ℕ
part_code c l = cond (fits c) (cond (eqb (stands_at c) 0) (part_told c l).refusal (stands_at c)) wrong_length

abbrev pub part_lists : Lists → List ℕ → Lists
part_lists c l =
    cond (goes c)
    (lists (state_words (part_told c l).arrival) (part_work c l).records (part_work c l).answers (progress_of (part_told c l)))
    c

-- ---- the end
abbrev pub end_told : Lists → Told
end_told c = end_answer (arrival_at c.state) c.records c.answers

abbrev pub end_code : Lists → ℕ
end_code c = cond (fits c) (cond (eqb (stands_at c) 0) (end_told c).refusal (stands_at c)) wrong_length

abbrev pub end_lists : Lists → Lists
end_lists c =
    cond (goes c) (lists (state_words (end_told c).arrival) c.records c.answers (progress_of (end_told c))) c

-- ---- calls, one after the other: a part in the host's own lists; a part or an end in lists that don't fit, which keep their bits
pub data Call : Type 0 where
  Part : List ℕ → Call
  Amiss : List ℕ → Lists → Call
  AmissEnd : Lists → Call

abbrev pub step_of : Lists → Call → Lists
step_of c (Part l) = part_lists c l
step_of c (Amiss l d) = c
step_of c (AmissEnd d) = c

unfoldable pub handed : Lists → List Call → Lists
handed c [] = c
handed c (k ∷ ks) = handed (step_of c k) ks

-- the parts among the calls
unfoldable pub parts_in : List Call → List (List ℕ)
parts_in [] = []
parts_in (Part l ∷ ks) = l ∷ parts_in ks
parts_in (Amiss l d ∷ ks) = parts_in ks
parts_in (AmissEnd d ∷ ks) = parts_in ks

-- how far a sheet has come, in a host's lists
abbrev pub carried : Work → List ℕ → Lists
carried w p = lists (state_words w.arrival) w.records w.answers p

-- the progress after a part, and after several
abbrev pub progress_by : Work → List ℕ → List ℕ → List ℕ
progress_by w l p = cond (eqb w.arrival.refusal 0) (progress_of (part_answer w l)) p

unfoldable pub progress_after : Work → List (List ℕ) → List ℕ → List ℕ
progress_after w [] p = p
progress_after w (l ∷ ls) p = progress_after (parted w l) ls (progress_by w l p)
