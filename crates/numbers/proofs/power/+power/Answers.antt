-- `numbers::power::power` meets its contract.
use Rattle.std.proofs.Common.{eq-eqb, ne_eqb}
use Rattle.numbers.proofs.Halves.{at_zero, halved}
use Rattle.numbers.proofs.power.+power.Goals as goal

pub returns-then-e-eq0 : goal.returns-then-e-eq0
returns-then-e-eq0 t c k h = at_zero k _ _ _ c.if-e-eq0.true

pub returns-then-e-eq1 : goal.returns-then-e-eq1
returns-then-e-eq1 t c k h =
    halved k c.args.r c.args.b c.args.e c.if-e-eq0.false h c.power.result (λ j g. rw (eq-eqb _ _ c.if-e-eq1.true) (c.power.ensures j g))

pub returns-else-e-eq1 : goal.returns-else-e-eq1
returns-else-e-eq1 t c k h =
    halved k c.args.r c.args.b c.args.e c.if-e-eq0.false h c.power-else-e-eq1.result (λ j g. rw (ne_eqb _ _ c.if-e-eq1.false) (c.power-else-e-eq1.ensures j g))
