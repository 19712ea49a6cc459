-- `model::stored::write_state` meets its contract: what its calls ensure, on each path.
use Rattle.std.proofs.Common.{rules}
use Rattle.plasticity.proofs.Parts.{state_parts}
use Rattle.one_record.proofs.stored.write_state.Goals as goal

pub write_scalars-requires : goal.write_scalars-requires
write_scalars-requires c = (search rules, (state_parts c.args.s c.requires.1.1).2)

pub returns : goal.returns
returns c = simp (c.write_scalars.ensures, c.write_shape.ensures)
