-- `square_root::value` meets its contract: it asks itself where the sign is set, and then not again. Assumes nothing.
use Rattle.std.proofs.Common.{◌<◌, ap, ◌∙◌, subst}
use lib.Ieee.{neg}
use Rattle.exact.proofs.RootZero.{sqrt_zero}
use Rattle.exact.proofs.Patterns.{finite_not_nan}
use Rattle.square_root.proofs.Turned.{minus, unsigned, zero_mag, above_zero, turned_fine, turned_below, turned_root}
use Rattle.square_root.proofs.+value.Goals as goal

pub float_to_bits-n : goal.float_to_bits-n
float_to_bits-n t c = finite_not_nan c.args.x c.requires.0.0

pub positive-requires : goal.positive-requires
positive-requires t c =
    let f = c.requires.0 in
    let n = c.if-n-lt9223372036854775808.true in
    (f, unsigned c.args.x f n, above_zero c.args.x f n c.if-n-eq0.false)

pub value-requires : goal.value-requires
value-requires t c =
    let p = c.requires in
    let n = c.if-n-lt9223372036854775808.false in
    (subst (λ m. minus (neg c.args.x) < m) c.decreases (turned_below c.args.x p.0 p.1 n), turned_fine c.args.x p.0 p.1 n)

pub returns-then-n-eq0 : goal.returns-then-n-eq0
returns-then-n-eq0 t c =
    let f = c.requires.0 in
    sqrt_zero c.args.x f (zero_mag c.args.x f c.if-n-eq0.true)

pub returns-else-n-lt9223372036854775808 : goal.returns-else-n-lt9223372036854775808
returns-else-n-lt9223372036854775808 t c =
    let p = c.requires in
    ap neg c.value.ensures ∙ turned_root c.args.x p.0 p.1 c.if-n-lt9223372036854775808.false
