-- `model::judged::mark` meets its contract: by the verdict's outcome and its mark.
use mathlib.Core.Path.{sym, ◌∙◌}
use Rattle.one_record.proofs.JudgedLaws.{marked_yes, marked_no, beside_left}
use Rattle.one_record.proofs.judged.mark.Goals as goal

pub keep-requires : goal.keep-requires
keep-requires c =
    let a = c.args in
    let p = c.requires in
    let d = a.x.updated in
    (p.0, rw c.outcome_by-o.ensures (beside_left a.v d.outcome a.r.now d.state a.x.determinant p.1))

pub returns-then-failed_by : goal.returns-then-failed_by
returns-then-failed_by c =
    let a = c.args in
    let f = sym c.failed_by.ensures ∙ c.if-failed_by.true in
    let e = marked_yes a.q a.r.now a.x.updated a.v c.outcome_by-o.ensures c.keep.ensures f in
    record { outcome = e.0; failed = e.1; «record» = rw c.bits_of.ensures e.2 }

pub returns-else-failed_by : goal.returns-else-failed_by
returns-else-failed_by c =
    let a = c.args in
    let f = sym c.failed_by.ensures ∙ c.if-failed_by.false in
    let e = marked_no a.q a.r.now a.x.updated a.v c.outcome_by-o.ensures c.keep.ensures f in
    record { outcome = e.0; failed = e.1; «record» = e.2 }
