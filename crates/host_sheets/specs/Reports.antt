-- What the report and the joining of two leave of a host's list (RULES, sections 6 and 7).
use Rattle.std.specs.Prelude.{◌&&◌, List, [], ◌∷◌, ◌++◌, ℕ, ◌+◌, get_or}
use Rattle.report.specs.declared.column.Column.{Column}
use Rattle.report.specs.declared.Report.{Report}
use Rattle.report.specs.declared.Reported.{Reported}
use Rattle.report.specs.declared.Reported.TheVariants.{Table, Refused}
use Rattle.report.specs.Joined.{joined_of}
use Rattle.report.specs.Report.{report_of}
use Rattle.host_lists.specs.Refused.{has}
use Rattle.host_lists.specs.Called.{Called, called, sized_call}

-- a column's six numbers, and a report's eighteen: plastic hardening, elastic hardening, plastic determinant
abbrev pub column_words : Column → List ℕ
column_words c = c.count ∷ c.least ∷ c.greatest ∷ c.total ∷ c.outside ∷ c.not_finite ∷ []

abbrev pub report_words : Report → List ℕ
report_words r =
    column_words r.plastic_hardening ++ (column_words r.elastic_hardening ++ column_words r.plastic_determinant)

abbrev pub column_at : List ℕ → ℕ → Column
column_at l at =
    record {
      count = get_or l at 0;
      least = get_or l (at + 1) 0;
      greatest = get_or l (at + 2) 0;
      total = get_or l (at + 3) 0;
      outside = get_or l (at + 4) 0;
      not_finite = get_or l (at + 5) 0;
    }

abbrev pub report_at : List ℕ → Report
report_at l =
    record { plastic_hardening = column_at l 0; elastic_hardening = column_at l 6; plastic_determinant = column_at l 12 }

-- a refused report writes nothing
abbrev pub reported_in : Reported → List ℕ → Called
reported_in (Table r) room = called 0 (report_words r ∷ [])
reported_in (Refused n) room = called n (room ∷ [])

-- 8 where a report has not 18 places; else the refusal of the report, or the report
unfoldable pub report_by : List ℕ → List ℕ → Called
report_by records room = sized_call (has 18 room) (reported_in (report_of records) room) (room ∷ [])

unfoldable pub join_by : List ℕ → List ℕ → List ℕ → Called
join_by a b room =
    sized_call (has 18 a && has 18 b && has 18 room) (reported_in (joined_of (report_at a) (report_at b)) room) (room ∷ [])
