-- `plasticity_nacc::NaccPlasticity::raised` answers `number_as (traced (raise_walk self (num x) j alpha))`.
use Rattle.plasticity_nacc.specs.Projection.{raise_walk}
use Rattle.plasticity_nacc.proofs.NaccPlasticity.raised.Goals as goal

pub returns-in-Value : goal.returns-in-Value
unfolding raise_walk
returns-in-Value c =
    let t0 = c.if-self.true in
    let t1 = simp c.ln_on_path.ensures at c.in-Value.is in
    simp (t0, t1)

pub returns-in-Refused : goal.returns-in-Refused
unfolding raise_walk
returns-in-Refused c =
    let t0 = c.if-self.true in
    let t1 = simp c.ln_on_path.ensures at c.in-Refused.is in
    simp (t0, t1)

pub returns-else-self : goal.returns-else-self
unfolding raise_walk
returns-else-self c =
    let t0 = c.if-self.false in
    simp (t0)
