-- The logarithms are asked in index order, and the strain is worked.
use Rattle.std.proofs.Common.{rules}
use mathlib.Core.Path.{◌≡◌, sym, ap, ◌∙◌}
use lib.ListN.{length}
use Rattle.walk.specs.Walk.{ln, works, unnoted}
use Rattle.walk.proofs.Three.{asks_read}
use Rattle.reason.specs.Traced.{reached, stopped}
use Rattle.plasticity_drucker_prager.specs.Alpha.{dim}
use Rattle.plasticity_drucker_prager.specs.Projection.{strain, strained_walk, project_walk, walked_of}
use Rattle.plasticity_drucker_prager.proofs.DruckerPragerPlasticity.projected.Goals as goal

pub returns-then-all_numbers : goal.returns-then-all_numbers
unfolding project_walk
returns-then-all_numbers c =
    let axes : length c.args.sigma ≡ 3 = search rules in
    let a = c.args in
    let t = simp (c.all_numbers.ensures, c.strain-e.ensures) at c.if-all_numbers.true in
    (simp (c.strained.ensures, c.strain-e.ensures, t))
    ∙ ap walked_of (asks_read stopped unnoted (λ q x. reached x) tt 6 ln a.sigma (λ logs. works 7 (strain dim logs a.gain) (λ e. strained_walk dim a.self a.sigma e a.alpha)) _ axes (sym c.logs_on_path.ensures ∙ c.in-Values.is))

pub returns-else-all_numbers : goal.returns-else-all_numbers
unfolding project_walk
returns-else-all_numbers c =
    let axes : length c.args.sigma ≡ 3 = search rules in
    let a = c.args in
    let t = simp (c.all_numbers.ensures, c.strain-e.ensures) at c.if-all_numbers.false in
    (simp (c.refused_projection.ensures, t))
    ∙ ap walked_of (asks_read stopped unnoted (λ q x. reached x) tt 6 ln a.sigma (λ logs. works 7 (strain dim logs a.gain) (λ e. strained_walk dim a.self a.sigma e a.alpha)) _ axes (sym c.logs_on_path.ensures ∙ c.in-Values.is))

pub returns-in-Refused : goal.returns-in-Refused
unfolding project_walk
returns-in-Refused c =
    let axes : length c.args.sigma ≡ 3 = search rules in
    let a = c.args in
    c.refused_projection-in-Refused.ensures
    ∙ ap walked_of (asks_read stopped unnoted (λ q x. reached x) tt 6 ln a.sigma (λ logs. works 7 (strain dim logs a.gain) (λ e. strained_walk dim a.self a.sigma e a.alpha)) _ axes (sym c.logs_on_path.ensures ∙ c.in-Refused.is))
