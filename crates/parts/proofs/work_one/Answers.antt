-- `parts::work_one` meets its contract: the record is read, then the pass over it alone.
use Rattle.parts.proofs.OneRecord.{one_worked}
use Rattle.parts.proofs.work_one.Goals as goal

pub model_of-m-requires : goal.model_of-m-requires
model_of-m-requires c = c.requires.2

pub returns : goal.returns
returns c =
    let a = c.args in
    let q = c.requires in
    let p = c.pass.ensures in
    let m = c.model_of-m.ensures in
    let r = c.record_at.ensures.1 in
    let w = one_worked a.h a.bytes.now a.r.now a.out.now q.0 q.1 in
    record { r_after = rw (p.xs_after, r, m) w.0; out_after = rw (p.out_after, r, m) w.1 }
