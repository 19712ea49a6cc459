-- `flat_nacc::surface::roots` answers `shaped_of (result (roots_walk e alpha))`.
use Rattle.std.proofs.Common.{rules}
use mathlib.Core.Path.{◌∙◌}
use lib.Ieee.{nan}
use Rattle.walk.specs.Walk.{walk_result}
use Rattle.plasticity_nacc.specs.Projection.{roots_walk}
use Rattle.flat.proofs.Axes.{of_one}
use Rattle.flat_nacc.specs.Nacc.{shaped_of}
use Rattle.flat_nacc.proofs.surface.roots.Goals as goal

pub returns-in-Value-sqrt_on_path : goal.returns-in-Value-sqrt_on_path
unfolding roots_walk
returns-in-Value-sqrt_on_path c =
    let whole = of_one (λ e. shaped_of (walk_result (roots_walk e c.args.alpha))) nan c.args.e (search rules) in
    let t0 = simp c.sqrt_on_path.ensures at c.in-Value.is in
    let t1 = simp c.sqrt_on_path-in-Value.ensures at c.in-Value-sqrt_on_path.is in
    (simp (t0, t1)) ∙ whole

pub returns-in-Refused-sqrt_on_path : goal.returns-in-Refused-sqrt_on_path
unfolding roots_walk
returns-in-Refused-sqrt_on_path c =
    let whole = of_one (λ e. shaped_of (walk_result (roots_walk e c.args.alpha))) nan c.args.e (search rules) in
    let t0 = simp c.sqrt_on_path.ensures at c.in-Value.is in
    let t1 = simp c.sqrt_on_path-in-Value.ensures at c.in-Refused-sqrt_on_path.is in
    (simp (c.refused_step.ensures, t0, t1)) ∙ whole

pub returns-in-Refused : goal.returns-in-Refused
unfolding roots_walk
returns-in-Refused c =
    let whole = of_one (λ e. shaped_of (walk_result (roots_walk e c.args.alpha))) nan c.args.e (search rules) in
    let t0 = simp c.sqrt_on_path.ensures at c.in-Refused.is in
    (simp (c.refused_step-in-Refused.ensures, t0)) ∙ whole
