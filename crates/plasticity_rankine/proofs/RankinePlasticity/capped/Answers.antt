-- The strength is a number.
use Rattle.numbers.proofs.Laws.{finite_number}
use Rattle.plasticity_rankine.proofs.RankinePlasticity.capped.Goals as goal

pub returns-then-h-self : goal.returns-then-h-self
returns-then-h-self c =
    simp (finite_number c.args.self.tensile_strength c.requires, c.if-h-self.true)

pub returns-else-h-self : goal.returns-else-h-self
returns-else-h-self c =
    simp (finite_number c.args.self.tensile_strength c.requires, c.if-h-self.false)
