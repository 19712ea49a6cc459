-- `square_root::digits::digit` meets its contract. Assumes nothing.
use Rattle.std.proofs.Common.{arith}
use Rattle.square_root.proofs.Laws.{one, nought}
use Rattle.square_root.proofs.digits.digit.Goals as goal

pub returns-then-d-lt9223372036854775808 : goal.returns-then-d-lt9223372036854775808
returns-then-d-lt9223372036854775808 c N k G =
    let s = c.args.s in
    one N k s G c.wrapping_sub_u64-d.result c.wrapping_sub_u64-d.ensures.value c.if-d-lt9223372036854775808.true

pub returns-else-d-lt9223372036854775808 : goal.returns-else-d-lt9223372036854775808
returns-else-d-lt9223372036854775808 c N k G =
    let s = c.args.s in
    nought N k s G c.wrapping_sub_u64-d.result c.wrapping_sub_u64-d.ensures.value (omega arith) c.if-d-lt9223372036854775808.false
