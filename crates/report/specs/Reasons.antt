-- Why a report is refused (RULES, section 6); no other number is given.
use Rattle.std.specs.Prelude.{◌≡◌, ℕ, ◌+◌, ◌*◌, ◌/◌, ◌<◌, List, length}
use Rattle.record.specs.Layout.{floats}
use Rattle.report.specs.Joined.{records_in, most}
use Rattle.report.specs.declared.Report.{Report}

abbrev pub Whole : List ℕ → Type 0
Whole l = length l / floats * floats ≡ length l

pub data Reason (l : List ℕ) : ℕ → Type 0 where
  -- 8: no whole number of records
  uneven : (Whole l → ⊥) → Reason l 8
  -- 16: over 4,096 of them
  over : Whole l → most < length l / floats → Reason l 16

-- of two reports put together: 16, where a column's records together pass 4,096
pub data JoinReason (a b : Report) : ℕ → Type 0 where
  plastic_hardening_case : most < records_in a.plastic_hardening + records_in b.plastic_hardening → JoinReason a b 16
  elastic_hardening_case : most < records_in a.elastic_hardening + records_in b.elastic_hardening → JoinReason a b 16
  plastic_determinant_case : most < records_in a.plastic_determinant + records_in b.plastic_determinant → JoinReason a b 16
