-- `plasticity_nacc::surface::roots` answers `as_branch b (traced (roots_walk e alpha))`.
use Rattle.std.proofs.Common.{rules}
use mathlib.Core.Path.{◌∙◌}
use lib.Ieee.{nan}
use Rattle.tensor.proofs.Axes.{of_one}
use Rattle.reason.specs.Traced.{traced}
use Rattle.plasticity_nacc.specs.Projection.{roots_walk}
use Rattle.plasticity_nacc.specs.Inner.{as_branch}
use Rattle.plasticity_nacc.proofs.surface.roots.Goals as goal

pub returns-in-Value-sqrt_on_path-2 : goal.returns-in-Value-sqrt_on_path-2
unfolding roots_walk
returns-in-Value-sqrt_on_path-2 c =
    let a = c.args in
    let whole = of_one (λ e. as_branch a.b (traced (roots_walk e a.alpha))) nan a.e (search rules) in
    let t0 = simp c.sqrt_on_path.ensures at c.in-Value.is in
    let t1 = simp c.sqrt_on_path-in-Value.ensures at c.in-Value-sqrt_on_path.is in
    let t2 = simp c.sqrt_on_path-in-Value-sqrt_on_path.ensures at c.in-Value-sqrt_on_path-2.is in
    (simp (t0, t1, t2)) ∙ whole

pub returns-in-Refused-sqrt_on_path-2 : goal.returns-in-Refused-sqrt_on_path-2
unfolding roots_walk
returns-in-Refused-sqrt_on_path-2 c =
    let a = c.args in
    let whole = of_one (λ e. as_branch a.b (traced (roots_walk e a.alpha))) nan a.e (search rules) in
    let t0 = simp c.sqrt_on_path.ensures at c.in-Value.is in
    let t1 = simp c.sqrt_on_path-in-Value.ensures at c.in-Value-sqrt_on_path.is in
    let t2 = simp c.sqrt_on_path-in-Value-sqrt_on_path.ensures at c.in-Refused-sqrt_on_path-2.is in
    (simp (c.refused_step.ensures, t0, t1, t2)) ∙ whole

pub returns-in-Refused-sqrt_on_path : goal.returns-in-Refused-sqrt_on_path
unfolding roots_walk
returns-in-Refused-sqrt_on_path c =
    let a = c.args in
    let whole = of_one (λ e. as_branch a.b (traced (roots_walk e a.alpha))) nan a.e (search rules) in
    let t0 = simp c.sqrt_on_path.ensures at c.in-Value.is in
    let t1 = simp c.sqrt_on_path-in-Value.ensures at c.in-Refused-sqrt_on_path.is in
    (simp (c.refused_step-in-Refused-sqrt_on_path.ensures, t0, t1)) ∙ whole

pub returns-in-Refused : goal.returns-in-Refused
unfolding roots_walk
returns-in-Refused c =
    let a = c.args in
    let whole = of_one (λ e. as_branch a.b (traced (roots_walk e a.alpha))) nan a.e (search rules) in
    let t0 = simp c.sqrt_on_path.ensures at c.in-Refused.is in
    (simp (c.refused_step-in-Refused.ensures, t0)) ∙ whole
