-- Two columns, and two reports, put together (RULES, section 7).
use Rattle.std.specs.Prelude.{ℕ, ◌+◌, ◌%◌, ◌^◌, Bool, true, false, cond, ◌&&◌, ◌==◌, nat_le, nat_lt}
use Rattle.answers.specs.Refusals.{too_long}
use Rattle.report.specs.Column.{first}
use Rattle.report.specs.declared.column.Column.{Column}
use Rattle.report.specs.declared.Report.{Report}
use Rattle.report.specs.declared.Reported.{Reported}
use Rattle.report.specs.declared.Reported.TheVariants.{Table, Refused}

-- the order of words in two's complement
abbrev pub lifted : ℕ → ℕ
lifted w = (w + 2 ^ 63) % 2 ^ 64

abbrev pub word_below : ℕ → ℕ → Bool
word_below v w = nat_lt (lifted v) (lifted w)

abbrev pub word_above : ℕ → ℕ → Bool
word_above v w = word_below w v

-- the first over those with a count, 0 where neither has one
abbrev pub of_both : (ℕ → ℕ → Bool) → ℕ → ℕ → ℕ → ℕ → ℕ
of_both before m n v w = cond (m == 0) (cond (n == 0) 0 w) (cond (n == 0) v (first before v w))

-- counts add, totals modulo 2^64
unfoldable pub join_columns : Column → Column → Column
join_columns a b =
    record {
      count = a.count + b.count;
      least = of_both word_below a.count b.count a.least b.least;
      greatest = of_both word_above a.count b.count a.greatest b.greatest;
      total = (a.total + b.total) % 2 ^ 64;
      outside = a.outside + b.outside;
      not_finite = a.not_finite + b.not_finite;
    }

-- how many records a column speaks of, and how many a report may
abbrev pub records_in : Column → ℕ
records_in c = c.count + c.outside + c.not_finite

abbrev pub most : ℕ
most = 4096

unfoldable pub together : Column → Column → Bool
together a b = nat_le (records_in a + records_in b) most

abbrev pub columns_joined : Report → Report → Report
columns_joined a b =
    record {
      plastic_hardening = join_columns a.plastic_hardening b.plastic_hardening;
      elastic_hardening = join_columns a.elastic_hardening b.elastic_hardening;
      plastic_determinant = join_columns a.plastic_determinant b.plastic_determinant;
    }

abbrev pub all_together : Report → Report → Bool
all_together a b =
    together a.plastic_hardening b.plastic_hardening
    && (together a.elastic_hardening b.elastic_hardening && together a.plastic_determinant b.plastic_determinant)

-- refusal 16: the records together pass 4,096
unfoldable pub joined_of : Report → Report → Reported
joined_of a b = cond (all_together a b) (Table (columns_joined a b)) (Refused too_long)

-- what two answers give together: a refusal is handed on
abbrev pub join_answers : Reported → Reported → Reported
join_answers (Table a) (Table b) = joined_of a b
join_answers (Table a) (Refused n) = Refused n
join_answers (Refused n) r = Refused n
