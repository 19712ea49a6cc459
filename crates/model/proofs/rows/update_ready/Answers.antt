-- `model::rows::update_ready` meets its contract: by the law. Made by tools/table from calls.toml: edit that, not this file.
use Rattle.numbers.proofs.Laws.{and_both}
use Rattle.plasticity_rankine.specs.Law as rankine
use Rattle.plasticity_nacc.specs.Law as nacc
use Rattle.model.proofs.rows.update_ready.Goals as goal

pub update_ready-requires : goal.update_ready-requires
update_ready-requires c =
    let p = c.requires in
    let t = simp c.in-Snow.is at p.0 in
    simp (t, p.1)

pub update_ready-requires-in-Rankine : goal.update_ready-requires-in-Rankine
update_ready-requires-in-Rankine c =
    let law = c.in-Rankine.p in
    let p = c.requires in
    let t = simp c.in-Rankine.is at p.0 in
    let b = and_both (rankine.parameters_finite law) (rankine.moduli_finite law) t in
    (simp (b.0, p.1), b.1)

pub update_ready-requires-in-DruckerPrager : goal.update_ready-requires-in-DruckerPrager
update_ready-requires-in-DruckerPrager c =
    let p = c.requires in
    let t = simp c.in-DruckerPrager.is at p.0 in
    simp (t, p.1)

pub update_ready-requires-in-Nacc : goal.update_ready-requires-in-Nacc
update_ready-requires-in-Nacc c =
    let law = c.in-Nacc.p in
    let p = c.requires in
    let t = simp c.in-Nacc.is at p.0 in
    let b = and_both (nacc.parameters_finite law) (nacc.moduli_finite law) t in
    (simp (b.0, p.1), b.1)

pub returns-in-Snow : goal.returns-in-Snow
returns-in-Snow c = simp (c.update_ready.ensures, c.in-Snow.is)

pub returns-in-Rankine : goal.returns-in-Rankine
returns-in-Rankine c = simp (c.update_ready-in-Rankine.ensures, c.in-Rankine.is)

pub returns-in-DruckerPrager : goal.returns-in-DruckerPrager
returns-in-DruckerPrager c = simp (c.update_ready-in-DruckerPrager.ensures, c.in-DruckerPrager.is)

pub returns-in-Nacc : goal.returns-in-Nacc
returns-in-Nacc c = simp (c.update_ready-in-Nacc.ensures, c.in-Nacc.is)

pub returns-in-Refused : goal.returns-in-Refused
returns-in-Refused c = simp (c.refuse.ensures, c.in-Refused.is)
