-- The report over a list of records (RULES, section 7): refusal 8, then 16, and no other.
use Rattle.std.specs.Prelude.{ℕ, zero, suc, ◌+◌, ◌*◌, ◌/◌, Bool, cond, List, [], ◌∷◌, ◌++◌, length, ◌==◌, nat_le, Float}
use Rattle.answers.specs.Refusals.{wrong_length, too_long}
use Rattle.record.specs.Layout.{floats, float_at, place_plastic_determinant, place_plastic_hardening, place_elastic_hardening}
use Rattle.report.specs.Column.{column_of}
use Rattle.report.specs.Joined.{most, join_answers}
use Rattle.report.specs.declared.Report.{Report}
use Rattle.report.specs.declared.Reported.{Reported}
use Rattle.report.specs.declared.Reported.TheVariants.{Table, Refused}

-- the float at a place of each of the first i records
unfoldable pub values : ℕ → List ℕ → ℕ → List Float
values place l zero = []
values place l (suc i) = values place l i ++ (float_at l (i * floats + place) ∷ [])

abbrev pub table_of : List ℕ → ℕ → Report
table_of l i =
    record {
      plastic_hardening = column_of (values place_plastic_hardening l i);
      elastic_hardening = column_of (values place_elastic_hardening l i);
      plastic_determinant = column_of (values place_plastic_determinant l i);
    }

unfoldable pub report_of : List ℕ → Reported
report_of l =
    let i = length l / floats in
    cond (i * floats == length l) (cond (nat_le i most) (Table (table_of l i)) (Refused too_long)) (Refused wrong_length)

-- the report of no record
abbrev pub empty_report : Report
empty_report = table_of [] 0

-- a night in parts: their reports put together
unfoldable pub night_of : List (List ℕ) → Reported
night_of [] = Table empty_report
night_of (l ∷ ls) = join_answers (report_of l) (night_of ls)

-- and in one list
unfoldable pub whole_night : List (List ℕ) → List ℕ
whole_night [] = []
whole_night (l ∷ ls) = l ++ whole_night ls
