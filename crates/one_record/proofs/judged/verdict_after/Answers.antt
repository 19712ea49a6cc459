-- `model::judged::verdict_after` meets its contract: the principal stresses, and the verdict on them.
use Rattle.one_record.specs.Judged.{verdict_after}
use Rattle.one_record.proofs.JudgedLaws.{verdict_handed}
use Rattle.one_record.proofs.judged.verdict_after.Goals as goal

pub returns : goal.returns
unfolding verdict_after
returns c = simp (c.verdict_on.ensures, c.principal_stresses.ensures, verdict_handed)
