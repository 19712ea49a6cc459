-- `record::finite::read_u` meets its contract: what its calls ensure, on each path.
use native.Mathlib.Omega.{arith}
use Rattle.record.proofs.Parts.{record_parts}
use Rattle.record.proofs.finite.read_u.Goals as goal

pub read_mat-requires : goal.read_mat-requires
read_mat-requires c = let h = c.requires.0 in (omega arith, (record_parts c.args.r.now c.requires.1).0)
