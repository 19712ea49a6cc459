-- `sine::sin_value` meets its contract. Assumes nothing.
use Rattle.sine.specs.Sine.{sin_of}
use Rattle.sine.proofs.sin_value.Goals as goal

pub returns-then-in_range : goal.returns-then-in_range
unfolding sin_of
returns-then-in_range c =
    let t0 = simp c.in_range.ensures at c.if-in_range.true in
    simp (c.short.ensures, t0)

pub returns : goal.returns
unfolding sin_of
returns c =
    let t0 = simp c.in_range.ensures at c.if-in_range.false in
    simp (c.at_eighth.ensures, c.eighth.ensures, c.bits_of-b.ensures, t0)
