-- `model::judged::take_step` meets its contract: 1 comes first.
use Rattle.numbers.proofs.Laws.{and_both}
use Rattle.record.specs.Layout.{record_finite}
use Rattle.one_record.specs.Judged.{finite_by}
use Rattle.one_record.specs.ReadyRecord.{ready_law}
use Rattle.one_record.proofs.judged.take_step.Goals as goal

pub finite_step-requires : goal.finite_step-requires
finite_step-requires c =
    let t = simp (c.all_finite.ensures, c.judge_finite.ensures) at c.if-judge_finite-all_finite.true in
    (c.requires.0, (and_both (finite_by c.args.j) (record_finite c.args.r.now) t).1, c.requires.1)

pub returns-then-judge_finite-all_finite : goal.returns-then-judge_finite-all_finite
unfolding ready_law
returns-then-judge_finite-all_finite c =
    let t = simp (c.all_finite.ensures, c.judge_finite.ensures) at c.if-judge_finite-all_finite.true in
    let k = c.finite_step.ensures in
    record { outcome = simp (k.outcome, t); failed = simp (k.failed, t); «record» = simp (k.«record», t) }

pub returns : goal.returns
unfolding ready_law
returns c =
    let t = simp (c.all_finite.ensures, c.judge_finite.ensures) at c.if-judge_finite-all_finite.false in
    record { outcome = simp t; failed = simp t; «record» = simp t }
