-- `record::finite::read_word` meets its contract: what its calls ensure, on each path.
use Rattle.record.proofs.Parts.{no_nan}
use Rattle.record.proofs.finite.read_word.Goals as goal

pub float_from_bits-result : goal.float_from_bits-result
float_from_bits-result c = no_nan c.args.n c.requires
