-- `sheet::reading::records_end` meets its contract: each return is a case of `records_end`.
use Rattle.sheet.specs.Sheet.{records_end}
use Rattle.sheet.proofs.RecordLaws.{floats_most}
use native.Mathlib.Omega.{arith}
use native.Mathlib.Nat.{mul-le-mul}
use borrow.Author.Tests.{lt-ltb, le-ltb}
use Rattle.sheet.proofs.reading.records_end.Goals as goal

pub overflow_mul-wanted : goal.overflow_mul-wanted
overflow_mul-wanted c =
    let m = mul-le-mul c.requires.1 (floats_most c.args.model) in
    rw c.floats_of.ensures (omega arith)

pub overflow_mul-wanted-2 : goal.overflow_mul-wanted-2
overflow_mul-wanted-2 c =
    let m = mul-le-mul c.requires.1 (floats_most c.args.model) in
    rw c.floats_of.ensures (omega arith)

pub returns-then-left-wanted : goal.returns-then-left-wanted
unfolding records_end
returns-then-left-wanted c = rw (lt-ltb _ _ (rw c.floats_of.ensures at c.if-left-wanted.true)) c.refused.ensures

pub returns-then-wanted-left : goal.returns-then-wanted-left
unfolding records_end
returns-then-wanted-left c =
    rw (le-ltb _ _ (rw c.floats_of.ensures at c.if-left-wanted.false), lt-ltb _ _ (rw c.floats_of.ensures at c.if-wanted-left.true)) c.refused-then-wanted-left.ensures

pub returns : goal.returns
unfolding records_end
returns c = rw (le-ltb _ _ (rw c.floats_of.ensures at c.if-left-wanted.false), le-ltb _ _ (rw c.floats_of.ensures at c.if-wanted-left.false))
