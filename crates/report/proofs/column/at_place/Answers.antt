-- `report::column::at_place` meets its contract: a value more is a column put to it.
use Rattle.std.proofs.Common.{ℕ, [], ◌∷◌, ap, ◌∙◌, ap₂, arith}
use lib.Ieee.{binary64, of_bits}
use Rattle.report.specs.Column.{column_of}
use Rattle.report.specs.Joined.{join_columns, records_in}
use Rattle.report.specs.Report.{values}
use Rattle.report.proofs.Reports.{column_records, records_at, column_next}
use Rattle.report.proofs.column.at_place.Goals as goal

pub loop-i-init : goal.loop-i-init
unfolding values
loop-i-init c = c.empty-c.ensures

-- the column so far, and the value's own
pub join-c-requires : goal.join-c-requires
join-c-requires c =
    let l = c.loop-i in
    let e = ap records_in l.invariant ∙ records_at c.args.place c.args.l.now l.i in
    let f = ap records_in c.of_value.ensures ∙ column_records (of_bits binary64 c.word.result ∷ []) in
    omega arith

pub loop-i-preserved : goal.loop-i-preserved
loop-i-preserved c =
    let l = c.loop-i in
    let v = c.of_value.ensures ∙ ap (λ (w : ℕ). column_of (of_bits binary64 w ∷ [])) c.word.ensures in
    c.join-c.ensures ∙ ap₂ join_columns l.invariant v ∙ column_next c.args.place c.args.l.now l.i
