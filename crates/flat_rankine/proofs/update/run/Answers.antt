-- The logarithms are asked in index order, and the branch is followed; the softened strength is a number.
use Rattle.std.proofs.Common.{rules}
use mathlib.Core.Path.{◌≡◌, ◌∙◌}
use lib.ListN.{length}
use Rattle.numbers.specs.Floats.{finite}
use Rattle.walk.proofs.Every.{and_left, and_right}
use Rattle.plasticity_rankine.proofs.Laws.{soft_of}
use Rattle.plasticity_rankine.specs.Over as over
use Rattle.flat_rankine.proofs.Laws.{strained_law, run_whole}
use Rattle.flat_rankine.proofs.update.run.Goals as goal

pub projected-requires : goal.projected-requires
projected-requires c =
    let a = c.args in
    let h = a.s.scalars.plastic_hardening in
    let f = finite a.p.tensile_strength in
    simp c.soft_strength-soft.ensures (soft_of a.p h (and_left f (finite h) c.requires) (and_right f (finite h) c.requires))

pub followed-requires : goal.followed-requires
followed-requires c =
    let a = c.args in
    and_left (finite a.p.tensile_strength) (finite a.s.scalars.plastic_hardening) c.requires

pub returns-in-Value-ln_on_path : goal.returns-in-Value-ln_on_path
unfolding over.run_walk
returns-in-Value-ln_on_path c =
    let axes : length c.args.sigma ≡ 2 = search rules in
    let a = c.args in
    let h = a.s.scalars.plastic_hardening in
    let f = finite a.p.tensile_strength in
    let soft = soft_of a.p h (and_left f (finite h) c.requires) (and_right f (finite h) c.requires) in
    let whole = run_whole a.p a.sigma a.u a.vt a.s axes in
    let t0 = simp c.ln_on_path.ensures at c.in-Value.is in
    let t1 = simp c.ln_on_path-in-Value.ensures at c.in-Value-ln_on_path.is in
    (simp (c.followed.ensures, c.projected.ensures, c.soft_strength-soft.ensures, t0, t1, soft, strained_law)) ∙ whole

pub returns-in-Refused-ln_on_path : goal.returns-in-Refused-ln_on_path
unfolding over.run_walk
returns-in-Refused-ln_on_path c =
    let axes : length c.args.sigma ≡ 2 = search rules in
    let a = c.args in
    let whole = run_whole a.p a.sigma a.u a.vt a.s axes in
    let t0 = simp c.ln_on_path.ensures at c.in-Value.is in
    let t1 = simp c.ln_on_path-in-Value.ensures at c.in-Refused-ln_on_path.is in
    (simp (c.refuse.ensures, t0, t1)) ∙ whole

pub returns-in-Refused : goal.returns-in-Refused
unfolding over.run_walk
returns-in-Refused c =
    let axes : length c.args.sigma ≡ 2 = search rules in
    let a = c.args in
    let whole = run_whole a.p a.sigma a.u a.vt a.s axes in
    let t0 = simp c.ln_on_path.ensures at c.in-Refused.is in
    (simp (c.refuse-in-Refused.ensures, t0)) ∙ whole
