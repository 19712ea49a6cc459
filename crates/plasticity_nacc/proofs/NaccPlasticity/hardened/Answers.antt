-- `plasticity_nacc::NaccPlasticity::hardened` answers `number_as (traced (hardened_walk (num d) self t alpha))`.
use Rattle.walk.specs.Expr.{num}
use Rattle.plasticity_nacc.proofs.Laws.{harden_law}
use Rattle.plasticity_nacc.proofs.NaccPlasticity.hardened.Goals as goal

pub returns-then-hardens : goal.returns-then-hardens
returns-then-hardens c =
    let a = c.args in
    let law = harden_law (num a.d) a.self a.t a.alpha c.requires.0 in
    let t0 = simp c.hardens.ensures at c.if-hardens.true in
    simp (c.hardening_step.ensures, t0, law)

pub returns-else-hardens : goal.returns-else-hardens
returns-else-hardens c =
    let a = c.args in
    let law = harden_law (num a.d) a.self a.t a.alpha c.requires.0 in
    let t0 = simp c.hardens.ensures at c.if-hardens.false in
    simp (t0, law)
