-- `record::finite::lifted` meets its contract: what its calls ensure, on each path.
use Rattle.record.proofs.Parts.{lifted}
use Rattle.record.proofs.finite.lifted.Goals as goal

pub returns : goal.returns
returns c = lifted c.args.n
