-- `factors::sweep::pair` meets its contract. Assumes nothing.
use Rattle.factors.specs.Sweeps.{pair_of, alike_of, unlike_of}
use Rattle.factors.proofs.sweep.pair.Goals as goal

pub returns-then-tiny : goal.returns-then-tiny
unfolding pair_of
returns-then-tiny c =
    let t0 = simp (c.tiny-2.ensures, c.tiny.ensures) at c.if-tiny.true in
    simp (c.next.ensures, c.tiny-2.ensures, c.tiny.ensures, t0)

pub returns : goal.returns
unfolding pair_of alike_of unlike_of
returns c =
    let t0 = simp (c.tiny-2.ensures, c.tiny.ensures) at c.if-tiny.false in
    simp (c.next-2.ensures, c.both.ensures, c.after-2.ensures, c.back.ensures, c.after.ensures, c.half_turn-y.ensures, c.half_turn-x.ensures, c.tiny-2.ensures, c.tiny.ensures, t0)
