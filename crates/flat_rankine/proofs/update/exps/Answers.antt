-- The exponentials are asked in index order; the results are tested as the walk tests them.
use Rattle.std.proofs.Common.{rules}
use mathlib.Core.Path.{◌≡◌, ◌∙◌}
use lib.ListN.{length}
use Rattle.walk.proofs.Body.{store_law}
use Rattle.plasticity_rankine.specs.Over as over
use Rattle.flat.specs.Update.{in_two}
use Rattle.flat_rankine.proofs.Laws.{exps_whole}
use Rattle.flat_rankine.proofs.update.exps.Goals as goal

pub returns-in-Value-exp_on_path : goal.returns-in-Value-exp_on_path
unfolding over.exps_walk
returns-in-Value-exp_on_path c =
    let axes : length c.args.e ≡ 2 = search rules in
    let a = c.args in
    let whole = exps_whole a.e a.u a.vt a.h a.s axes in
    let t0 = simp c.exp_on_path.ensures at c.in-Value.is in
    let t1 = simp c.exp_on_path-in-Value.ensures at c.in-Value-exp_on_path.is in
    (simp (c.stored.ensures, c.is_finite.ensures, c.hardened-scalars.ensures, t0, t1, store_law in_two)) ∙ whole

pub returns-in-Refused-exp_on_path : goal.returns-in-Refused-exp_on_path
unfolding over.exps_walk
returns-in-Refused-exp_on_path c =
    let axes : length c.args.e ≡ 2 = search rules in
    let a = c.args in
    let whole = exps_whole a.e a.u a.vt a.h a.s axes in
    let t0 = simp c.exp_on_path.ensures at c.in-Value.is in
    let t1 = simp c.exp_on_path-in-Value.ensures at c.in-Refused-exp_on_path.is in
    (simp (c.refuse.ensures, t0, t1)) ∙ whole

pub returns-in-Refused : goal.returns-in-Refused
unfolding over.exps_walk
returns-in-Refused c =
    let axes : length c.args.e ≡ 2 = search rules in
    let a = c.args in
    let whole = exps_whole a.e a.u a.vt a.h a.s axes in
    let t0 = simp c.exp_on_path.ensures at c.in-Refused.is in
    (simp (c.refuse-in-Refused.ensures, t0)) ∙ whole
