-- `record::finite::finite_bits` meets its contract: a finite float is no NaN.
use Rattle.record.proofs.Parts.{finite_number}
use Rattle.record.proofs.finite.finite_bits.Goals as goal

pub float_to_bits-result : goal.float_to_bits-result
float_to_bits-result c = finite_number c.args.x c.requires
