-- `answers::first_refusal` answers `first_refusal low high a b c`.
use Rattle.answers.proofs.first_refusal.Goals as goal

pub returns-then-in_range-2 : goal.returns-then-in_range-2
returns-then-in_range-2 c =
    let t0 = simp c.in_range-then-in_range.ensures at c.if-in_range-2.true in
    let t1 = simp c.in_range.ensures at c.if-in_range.true in
    simp (c.refusal.ensures, t0, t1)

pub returns-else-in_range-2 : goal.returns-else-in_range-2
returns-else-in_range-2 c =
    let t0 = simp c.in_range-then-in_range.ensures at c.if-in_range-2.false in
    let t1 = simp c.in_range.ensures at c.if-in_range.true in
    simp (c.refusal-else-in_range-2.ensures, t0, t1)

pub returns-else-in_range : goal.returns-else-in_range
returns-else-in_range c =
    let t0 = simp c.in_range.ensures at c.if-in_range.false in
    simp (c.refusal-else-in_range.ensures, t0)
