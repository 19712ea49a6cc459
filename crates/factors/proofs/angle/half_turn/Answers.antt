-- `factors::angle::half_turn` meets its contract. Assumes nothing.
use Rattle.factors.specs.Turns.{half_turn_of, half_angle_of}
use Rattle.factors.proofs.angle.half_turn.Goals as goal

pub returns-then-tiny : goal.returns-then-tiny
unfolding half_turn_of
returns-then-tiny c =
    let t0 = simp c.tiny.ensures at c.if-tiny.true in
    simp (t0)

pub returns-then-size : goal.returns-then-size
unfolding half_turn_of half_angle_of
returns-then-size c =
    let t0 = simp c.tiny.ensures at c.if-tiny.false in
    let t1 = simp (c.size-2.ensures, c.size.ensures) at c.if-size.true in
    simp (c.steep.ensures, c.doubled.ensures, c.quarter.ensures, t0, t1)

pub returns-else-size : goal.returns-else-size
unfolding half_turn_of half_angle_of
returns-else-size c =
    let t0 = simp c.tiny.ensures at c.if-tiny.false in
    let t1 = simp (c.size-2.ensures, c.size.ensures) at c.if-size.false in
    simp (c.back.ensures, c.doubled-else-size.ensures, c.quarter-else-size.ensures, t0, t1)
