-- The pass over a list of records of any width by any step (RULES, sections 6 and 7; ticket 13).
use Rattle.std.specs.Prelude.{◌≡◌, Bool, true, cond, ◌&&◌, List, [], ◌∷◌, ◌++◌, ℕ, zero, suc, ◌+◌, ◌*◌, ◌/◌, eqb, length, set, take, drop}
use Rattle.std.specs.Float.Ieee as Ieee
use Rattle.std.specs.Float.{binary64}
use Rattle.numbers.specs.Floats.{finite}
use Rattle.answers.specs.Refusals.{wrong_length}
use Rattle.plasticity.specs.declared.Outcome.{Outcome}
use Rattle.plasticity.specs.declared.Outcome.TheVariants.{Untouched, Stored, Refused}
use Rattle.record.specs.Layout.{floats}
pub use Rattle.one_record.specs.RecordLaw.{Worked}
use Rattle.particles.specs.declared.list.Counts.{Counts}
use Rattle.particles.specs.declared.list.Passed.{Passed}
use Rattle.particles.specs.declared.list.Passed.TheVariants as passed_variants
use Rattle.particles.specs.declared.failure.FailureCounts.{FailureCounts}
use Rattle.particles.specs.declared.failure.PassedWithFailure.{PassedWithFailure}
use Rattle.particles.specs.declared.failure.PassedWithFailure.TheVariants as failure_variants

-- RULES' numbers of an outcome: 0, 1 or 2, and 0, the amount's bits or the refusal number
abbrev pub code_of : Outcome → ℕ
code_of Untouched = 0
code_of (Stored a) = 1
code_of (Refused n) = 2

abbrev pub value_of : Outcome → ℕ
value_of Untouched = 0
value_of (Stored a) = Ieee.to_bits binary64 a
value_of (Refused n) = n

-- the amount, where there is one, is finite
abbrev pub AmountFinite : Outcome → Type 0
AmountFinite Untouched = Unit {0}
AmountFinite (Stored a) = finite a ≡ true
AmountFinite (Refused n) = Unit {0}

-- the two answers of record i are written
abbrev pub answered : List ℕ → ℕ → Outcome → List ℕ
answered out i o = set (set out (i * 2) (code_of o)) (i * 2 + 1) (value_of o)

-- one record more
abbrev pub counted_if : ℕ → Bool → ℕ
counted_if n b = cond b (n + 1) n

abbrev pub counted : FailureCounts → Outcome → Bool → FailureCounts
counted c Untouched f = record { untouched = c.untouched + 1; stored = c.stored; refused = c.refused; failed = counted_if c.failed f }
counted c (Stored a) f = record { untouched = c.untouched; stored = c.stored + 1; refused = c.refused; failed = counted_if c.failed f }
counted c (Refused n) f = record { untouched = c.untouched; stored = c.stored; refused = c.refused + 1; failed = counted_if c.failed f }

-- the pass without verdicts answers the first three counts
abbrev pub three_of : FailureCounts → Counts
three_of c = record { untouched = c.untouched; stored = c.stored; refused = c.refused }

abbrev pub without_verdicts : PassedWithFailure → Passed
without_verdicts (failure_variants.Done c) = passed_variants.Done (three_of c)
without_verdicts (failure_variants.Refused n) = passed_variants.Refused n

-- ---- w is how many floats a record has
module _ (w : ℕ) where
  -- record i
  abbrev pub record_over : List ℕ → ℕ → List ℕ
  record_over l i = take w (drop (i * w) l)

  -- the list with r in its place
  abbrev pub replaced_over : List ℕ → ℕ → List ℕ → List ℕ
  replaced_over l i r = take (i * w) l ++ (r ++ drop w (drop (i * w) l))

  -- refusal 8: a list length that is no whole number of records, or an answer list that hasn't two places a particle
  abbrev pub whole_over : ℕ → Bool
  whole_over words = eqb (words / w * w) words

  abbrev pub sized_over : ℕ → ℕ → Bool
  sized_over words places = whole_over words && eqb (words / w * 2) places

  abbrev pub well_sized_over : List ℕ → List ℕ → Bool
  well_sized_over xs out = sized_over (length xs) (length out)

  module _ (step : List ℕ → Worked) where
    -- the first i records, each worked by itself
    unfoldable pub worked_over : List ℕ → ℕ → List ℕ
    worked_over l zero = []
    worked_over l (suc i) = worked_over l i ++ (step (record_over l i)).after

    -- their answers, two numbers a record
    unfoldable pub answers_over : List ℕ → ℕ → List ℕ
    answers_over l zero = []
    answers_over l (suc i) = answers_over l i ++ (code_of (step (record_over l i)).outcome ∷ value_of (step (record_over l i)).outcome ∷ [])

    unfoldable pub counts_over : List ℕ → ℕ → FailureCounts
    counts_over l zero = record { untouched = 0; stored = 0; refused = 0; failed = 0 }
    counts_over l (suc i) = counted (counts_over l i) (step (record_over l i)).outcome (step (record_over l i)).failed

    abbrev pub judged_over : List ℕ → List ℕ → PassedWithFailure
    judged_over xs out = cond (well_sized_over xs out) (failure_variants.Done (counts_over xs (length xs / w))) (failure_variants.Refused wrong_length)

    abbrev pub passed_over : List ℕ → List ℕ → Passed
    passed_over xs out = cond (well_sized_over xs out) (passed_variants.Done (three_of (counts_over xs (length xs / w)))) (passed_variants.Refused wrong_length)

    abbrev pub records_over : List ℕ → List ℕ → List ℕ
    records_over xs out = cond (well_sized_over xs out) (worked_over xs (length xs / w)) xs

    abbrev pub list_over : List ℕ → List ℕ → List ℕ
    list_over xs out = cond (well_sized_over xs out) (answers_over xs (length xs / w)) out

-- ---- three axes: a record's floats are `floats`
abbrev pub record_at : List ℕ → ℕ → List ℕ
record_at l i = record_over floats l i

abbrev pub replaced : List ℕ → ℕ → List ℕ → List ℕ
replaced l i r = replaced_over floats l i r

abbrev pub worked : (List ℕ → Worked) → List ℕ → ℕ → List ℕ
worked step l i = worked_over floats step l i

abbrev pub answers : (List ℕ → Worked) → List ℕ → ℕ → List ℕ
answers step l i = answers_over floats step l i

abbrev pub counts : (List ℕ → Worked) → List ℕ → ℕ → FailureCounts
counts step l i = counts_over floats step l i

abbrev pub whole_records : ℕ → Bool
whole_records words = whole_over floats words

abbrev pub sized : ℕ → ℕ → Bool
sized words places = sized_over floats words places

abbrev pub well_sized : List ℕ → List ℕ → Bool
well_sized xs out = well_sized_over floats xs out

abbrev pub passed_with_failure : (List ℕ → Worked) → List ℕ → List ℕ → PassedWithFailure
passed_with_failure step xs out = judged_over floats step xs out

abbrev pub pass_records : (List ℕ → Worked) → List ℕ → List ℕ → List ℕ
pass_records step xs out = records_over floats step xs out

abbrev pub pass_answers : (List ℕ → Worked) → List ℕ → List ℕ → List ℕ
pass_answers step xs out = list_over floats step xs out

abbrev pub passed : (List ℕ → Worked) → List ℕ → List ℕ → Passed
passed step xs out = passed_over floats step xs out
