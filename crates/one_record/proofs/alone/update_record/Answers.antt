-- `model::alone::update_record` meets its contract: what its calls ensure, on each path.
use borrow.Author.Tests.{eq-eqb, ne_eqb}
use Rattle.std.proofs.Common.{rules}
use Rattle.model.proofs.ReadyLaws.{ready_finite_lem}
use Rattle.one_record.proofs.ReadyRecordLaws.{ready_law_lem}
use Rattle.one_record.proofs.alone.update_record.Goals as goal

pub take_step-d-requires : goal.take_step-d-requires
take_step-d-requires c = (search rules, rw c.make_ready.ensures (ready_finite_lem _))

pub returns-then-r-eq-FLOATS : goal.returns-then-r-eq-FLOATS
returns-then-r-eq-FLOATS c =
    let s = c.take_step-d.ensures in
    let q = c.make_ready.ensures in
    let e = eq-eqb _ _ c.if-r-eq-FLOATS.true in
    record { value = simp (s.outcome, q, ready_law_lem, e); r_after = simp (s.«record», q, ready_law_lem, e) }

pub returns : goal.returns
returns c =
    let e = ne_eqb _ _ c.if-r-eq-FLOATS.false in
    record { value = simp e; r_after = simp e }
