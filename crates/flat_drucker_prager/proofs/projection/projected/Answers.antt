-- `flat_drucker_prager::projection::projected` answers `projected_of (result (project_walk dim p sigma gain alpha))`.
use Rattle.std.proofs.Common.{rules}
use mathlib.Core.Path.{◌∙◌}
use lib.Ieee.{nan}
use Rattle.walk.specs.Walk.{asks, works, ln, walk_result}
use Rattle.flat.proofs.Axes.{of_one}
use Rattle.plasticity_drucker_prager.specs.Projection.{strain, strained_walk, project_walk}
use Rattle.flat_drucker_prager.specs.DruckerPrager.{dim, projected_of}
use Rattle.flat_drucker_prager.proofs.projection.projected.Goals as goal

pub returns-then-all_numbers : goal.returns-then-all_numbers
unfolding project_walk
returns-then-all_numbers c =
    let a = c.args in
    let whole = of_one (λ l. projected_of (walk_result (asks 6 ln l (λ logs. works 7 (strain dim logs a.gain) (λ e. strained_walk dim a.p a.sigma e a.alpha))))) nan a.sigma (search rules) in
    let t2 = simp c.ln_on_path.ensures at c.in-Value.is in
    let t1 = simp (c.ln_on_path-in-Value.ensures, c.ln_on_path.ensures) at c.in-Value-ln_on_path.is in
    let t0 = simp (c.all_numbers.ensures, c.strain-e.ensures, c.ln_on_path-in-Value.ensures, c.ln_on_path.ensures) at c.if-all_numbers.true in
    (simp (c.strained.ensures, c.strain-e.ensures, t2, t1, t0)) ∙ whole

pub returns-else-all_numbers : goal.returns-else-all_numbers
unfolding project_walk
returns-else-all_numbers c =
    let a = c.args in
    let whole = of_one (λ l. projected_of (walk_result (asks 6 ln l (λ logs. works 7 (strain dim logs a.gain) (λ e. strained_walk dim a.p a.sigma e a.alpha))))) nan a.sigma (search rules) in
    let t2 = simp c.ln_on_path.ensures at c.in-Value.is in
    let t1 = simp (c.ln_on_path-in-Value.ensures, c.ln_on_path.ensures) at c.in-Value-ln_on_path.is in
    let t0 = simp (c.all_numbers.ensures, c.strain-e.ensures, c.ln_on_path-in-Value.ensures, c.ln_on_path.ensures) at c.if-all_numbers.false in
    (simp (c.refused_projection.ensures, c.strain-e.ensures, t2, t1, t0)) ∙ whole

pub returns-in-Refused-ln_on_path : goal.returns-in-Refused-ln_on_path
unfolding project_walk
returns-in-Refused-ln_on_path c =
    let a = c.args in
    let whole = of_one (λ l. projected_of (walk_result (asks 6 ln l (λ logs. works 7 (strain dim logs a.gain) (λ e. strained_walk dim a.p a.sigma e a.alpha))))) nan a.sigma (search rules) in
    let t1 = simp c.ln_on_path.ensures at c.in-Value.is in
    let t0 = simp (c.ln_on_path-in-Value.ensures, c.ln_on_path.ensures) at c.in-Refused-ln_on_path.is in
    (simp (c.refused_projection-in-Refused-ln_on_path.ensures, t1, t0)) ∙ whole

pub returns-in-Refused : goal.returns-in-Refused
unfolding project_walk
returns-in-Refused c =
    let a = c.args in
    let whole = of_one (λ l. projected_of (walk_result (asks 6 ln l (λ logs. works 7 (strain dim logs a.gain) (λ e. strained_walk dim a.p a.sigma e a.alpha))))) nan a.sigma (search rules) in
    let t0 = simp c.ln_on_path.ensures at c.in-Refused.is in
    (simp (c.refused_projection-in-Refused.ensures, t0)) ∙ whole
