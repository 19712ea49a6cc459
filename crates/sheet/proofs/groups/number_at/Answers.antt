-- `sheet::groups::number_at` meets its contract: each return is a case of `number_at`.
use Rattle.sheet.proofs.Cases.{ended, one, cut, long, padding, two}
use native.Mathlib.Omega.{arith}
use Rattle.sheet.proofs.groups.number_at.Goals as goal

pub returns-then-s-at : goal.returns-then-s-at
returns-then-s-at c = ended _ _ c.if-s-at.true

pub returns-then-low-lt128 : goal.returns-then-low-lt128
returns-then-low-lt128 c = one _ _ _ c.if-s-at.false c.wide-low.ensures c.if-low-lt128.true

pub returns-then-s-next : goal.returns-then-s-next
returns-then-s-next c = cut _ _ _ c.if-s-at.false c.wide-low.ensures c.if-low-lt128.false c.if-s-next.true

pub returns-then-high-ge128 : goal.returns-then-high-ge128
returns-then-high-ge128 c = long _ _ _ c.if-s-at.false c.wide-low.ensures _ c.if-low-lt128.false c.if-s-next.false c.wide-high.ensures c.if-high-ge128.true

pub returns-then-high-eq0 : goal.returns-then-high-eq0
returns-then-high-eq0 c = padding _ _ _ c.if-s-at.false c.wide-low.ensures _ c.if-low-lt128.false c.if-s-next.false c.wide-high.ensures c.if-high-ge128.false c.if-high-eq0.true

pub overflow_add-result-2 : goal.overflow_add-result-2
overflow_add-result-2 c = record { fits = omega (arith, c.wide-low.ensures, c.shared_slice_known-2-1.given c.args.at) }

pub returns : goal.returns
returns c = two _ _ _ c.if-s-at.false c.wide-low.ensures _ c.if-low-lt128.false c.if-s-next.false c.wide-high.ensures c.if-high-ge128.false c.if-high-eq0.false
