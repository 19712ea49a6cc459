-- `report::column::of_value` meets its contract: by the kinds of patterns.
use Rattle.std.proofs.Common.{ℕ, sym, ap, ◌∙◌}
use lib.Ieee.{binary64, of_bits}
use Rattle.report.proofs.Values.{not_finite_one, outside_one, counted_one, one_counted, bits_not_finite, bits_finite, bits_within, bits_outside}
use Rattle.report.proofs.column.of_value.Goals as goal

pub returns-then-size-ge9218868437227405312 : goal.returns-then-size-ge9218868437227405312
returns-then-size-ge9218868437227405312 c = let n = c.args.n in sym (not_finite_one (of_bits binary64 n) (bits_not_finite n c.if-size-ge9218868437227405312.true))

pub returns-then-size-gt-BOUND : goal.returns-then-size-gt-BOUND
returns-then-size-gt-BOUND c =
    let n = c.args.n in
    sym (outside_one (of_bits binary64 n) (bits_finite n c.if-size-ge9218868437227405312.false) (bits_outside n c.if-size-ge9218868437227405312.false c.if-size-gt-BOUND.true))

pub returns : goal.returns
returns c =
    let n = c.args.n in
    ap (λ (w : ℕ). one_counted w) c.whole-k.ensures
    ∙ sym (counted_one (of_bits binary64 n) (bits_finite n c.if-size-ge9218868437227405312.false) (bits_within n c.if-size-gt-BOUND.false))
