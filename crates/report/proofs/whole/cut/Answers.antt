-- `report::whole::cut` answers `m * 2 ^ e / 2 ^ 1045`.
use Rattle.std.proofs.Common.{◌-◌, arith}
use Rattle.report.proofs.Patterns.{low, gone}
use Rattle.report.proofs.whole.cut.Goals as goal

pub returns-then-s-lt64 : goal.returns-then-s-lt64
returns-then-s-lt64 c = let a = c.args in let q = c.requires in low a.m a.e (1045 - a.e) (omega arith)

pub returns-else-s-lt64 : goal.returns-else-s-lt64
returns-else-s-lt64 c = let a = c.args in let q = c.requires in gone a.m a.e (1045 - a.e) q.0 (omega arith) (omega (arith, c.if-s-lt64.false))
