-- `model::judged::verdict_on` meets its contract: a refused stress is handed on.
use borrow.Author.Tests.{eq-eqb, ne_eqb}
use mathlib.Core.Path.{refl}
use Rattle.one_record.proofs.judged.verdict_on.Goals as goal

pub returns-then-stresses-eq0 : goal.returns-then-stresses-eq0
returns-then-stresses-eq0 c = rw (eq-eqb _ 0 c.if-stresses-eq0.true) c.particle_failed.ensures

pub returns-else-stresses-eq0 : goal.returns-else-stresses-eq0
returns-else-stresses-eq0 c = rw (ne_eqb _ 0 c.if-stresses-eq0.false) refl
