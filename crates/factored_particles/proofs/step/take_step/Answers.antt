-- `factored_particles::step::take_step` meets its contract: by themselves or first.
use Rattle.factored_particles.proofs.FactoredLaws.{factor_unjudged}
use Rattle.factored_particles.proofs.step.take_step.Goals as goal

pub returns-then-alone : goal.returns-then-alone
returns-then-alone c =
    let u = c.unjudged.ensures in
    let st = c.alone.ensures in
    let t = c.if-alone.true in
    record { outcome = simp (u.outcome, st.0, t); failed = simp (u.failed, factor_unjudged, t); «record» = simp (st.1, t) }

pub returns-else-alone : goal.returns-else-alone
returns-else-alone c =
    let st = c.first.ensures in
    let t = c.if-alone.false in
    record { outcome = simp (st.outcome, t); failed = simp (st.failed, t); «record» = simp (st.«record», t) }
