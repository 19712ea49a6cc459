-- `model::judged::finite_step` meets its contract: the law, the verdict on what it leaves, and the mark.
use mathlib.Core.Path.{◌∙◌}
use Rattle.one_record.proofs.judged.finite_step.Goals as goal

pub mark-requires : goal.mark-requires
mark-requires c = (c.requires.0, c.updated_record-x.ensures.determinant)

pub returns : goal.returns
returns c =
    let k = c.mark.ensures in
    let v = c.verdict-v.ensures in
    let u = c.updated_record-x.ensures.updated in
    record { outcome = k.outcome ∙ simp (v, u); failed = k.failed ∙ simp (v, u); «record» = k.«record» ∙ simp (v, u) }
