-- `parts::take` meets its contract: the bytes still to come lead where the whole part leads.
use Rattle.std.proofs.Common.{◌+◌, get_or, drop, ap, ◌∙◌}
use Rattle.parts.specs.Parts.{Work, works, next, after}
use Rattle.parts.proofs.Cases.{work_is, after_step, after_done}
use Rattle.parts.proofs.take.Goals as goal

pub loop-b-preserved : goal.loop-b-preserved
loop-b-preserved c =
    let l = c.loop-b in
    let e = c.byte-q.ensures in
    let bytes = c.args.bytes.now in
    let w = works l.q l.records l.answers in
    ap (λ (x : Work). after x (drop (l.b-index + 1) bytes)) (work_is (next w (get_or bytes l.b-index 0)) _ _ _ e.value e.records_after e.answers_after)
    ∙ after_step w bytes l.b-index c.loop-b-test.true ∙ l.invariant

pub returns : goal.returns
returns c =
    let l = c.loop-b in
    let d = after_done (works l.q l.records l.answers) c.args.bytes.now l.b-index c.loop-b-test.false ∙ l.invariant in
    record { value = ap (λ (x : Work). x.arrival) d; records_after = ap (λ (x : Work). x.records) d; answers_after = ap (λ (x : Work). x.answers) d }
