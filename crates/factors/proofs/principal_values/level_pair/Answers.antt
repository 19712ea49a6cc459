-- `factors::principal_values::level_pair` meets its contract. Assumes nothing.
use Rattle.factors.specs.Sweeps.{alike_of}
use Rattle.factors.specs.PrincipalValues.{level_pair_of}
use Rattle.factors.proofs.principal_values.level_pair.Goals as goal

pub returns-then-tiny : goal.returns-then-tiny
unfolding level_pair_of
returns-then-tiny c =
    let t0 = simp (c.tiny-2.ensures, c.tiny.ensures) at c.if-tiny.true in
    simp (c.next.ensures, c.tiny-2.ensures, c.tiny.ensures, t0)

pub returns : goal.returns
unfolding level_pair_of alike_of
returns c =
    let t0 = simp (c.tiny-2.ensures, c.tiny.ensures) at c.if-tiny.false in
    simp (c.next-2.ensures, c.both.ensures, c.half_turn-y.ensures, c.tiny-2.ensures, c.tiny.ensures, t0)
