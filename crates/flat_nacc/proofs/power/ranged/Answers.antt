-- `flat_nacc::power::ranged` answers `ranged low high x x`.
use Rattle.flat_nacc.proofs.power.ranged.Goals as goal

pub returns-then-in_range : goal.returns-then-in_range
returns-then-in_range c =
    let t0 = simp c.in_range.ensures at c.if-in_range.true in
    simp t0

pub returns-else-in_range : goal.returns-else-in_range
returns-else-in_range c =
    let t0 = simp c.in_range.ensures at c.if-in_range.false in
    simp (c.outside.ensures, t0)
