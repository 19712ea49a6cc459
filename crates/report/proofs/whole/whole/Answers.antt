-- `report::whole::whole` meets its contract: the digits of the size, or below zero those of the next size down.
use Rattle.std.proofs.Common.{ℕ, ◌-◌, ap, ◌∙◌, rules}
use Rattle.report.proofs.Values.{whole_above, whole_at_zero, whole_below}
use Rattle.report.proofs.whole.whole.Goals as goal

pub cut-requires : goal.cut-requires
cut-requires c = search rules

pub overflow_sub-result : goal.overflow_sub-result
overflow_sub-result c = search rules

pub returns-then-n-lt9223372036854775808 : goal.returns-then-n-lt9223372036854775808
returns-then-n-lt9223372036854775808 c = c.cut.ensures ∙ whole_above c.args.n c.requires c.if-n-lt9223372036854775808.true

pub returns-then-size-eq0 : goal.returns-then-size-eq0
returns-then-size-eq0 c = whole_at_zero c.args.n c.requires c.if-size-eq0.true

pub returns-else-size-eq0 : goal.returns-else-size-eq0
returns-else-size-eq0 c =
    ap (λ (v : ℕ). 0xffff_ffff_ffff_ffff - v) c.cut-else-size-eq0.ensures ∙ whole_below c.args.n c.requires c.if-n-lt9223372036854775808.false c.if-size-eq0.false
