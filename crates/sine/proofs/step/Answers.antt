-- `sine::step` meets its contract. Assumes nothing.
use Rattle.sine.proofs.Laws.{stepped}
use native.Mathlib.Nat.{lt_of_le_of_lt}
use Rattle.sine.proofs.step.Goals as goal

pub overflow_add-result : goal.overflow_add-result
overflow_add-result c = record { fits = lt_of_le_of_lt (stepped c.args.c c.args.h c.args.z c.mulhi.result c.mulhi.ensures c.ranges.z.fits).1 c.requires }

pub returns : goal.returns
returns c = (stepped c.args.c c.args.h c.args.z c.mulhi.result c.mulhi.ensures c.ranges.z.fits)
