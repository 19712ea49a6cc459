-- `flat_drucker_prager::projection::surface` answers `surfaced_of gamma (result (asks 15 exp b (λ new. end new)))`.
use Rattle.std.proofs.Common.{rules}
use mathlib.Core.Path.{◌∙◌}
use lib.Ieee.{nan}
use Rattle.walk.specs.Walk.{exp, asks, end, walk_result}
use Rattle.flat.proofs.Axes.{of_one}
use Rattle.flat_drucker_prager.specs.DruckerPrager.{surfaced_of}
use Rattle.flat_drucker_prager.proofs.projection.surface.Goals as goal

pub returns-in-Value-exp_on_path : goal.returns-in-Value-exp_on_path
returns-in-Value-exp_on_path c =
    let a = c.args in
    let whole = of_one (λ b. surfaced_of a.gamma (walk_result (asks 15 exp b (λ new. end new)))) nan a.b (search rules) in
    let t0 = simp c.exp_on_path-in-Value.ensures at c.in-Value-exp_on_path.is in
    let t1 = simp c.exp_on_path.ensures at c.in-Value.is in
    (simp (t0, t1)) ∙ whole

pub returns-in-Refused-exp_on_path : goal.returns-in-Refused-exp_on_path
returns-in-Refused-exp_on_path c =
    let a = c.args in
    let whole = of_one (λ b. surfaced_of a.gamma (walk_result (asks 15 exp b (λ new. end new)))) nan a.b (search rules) in
    let t0 = simp c.exp_on_path-in-Value.ensures at c.in-Refused-exp_on_path.is in
    let t1 = simp c.exp_on_path.ensures at c.in-Value.is in
    (simp (c.refused_projection.ensures, t0, t1)) ∙ whole

pub returns-in-Refused : goal.returns-in-Refused
returns-in-Refused c =
    let a = c.args in
    let whole = of_one (λ b. surfaced_of a.gamma (walk_result (asks 15 exp b (λ new. end new)))) nan a.b (search rules) in
    let t0 = simp c.exp_on_path.ensures at c.in-Refused.is in
    (simp (c.refused_projection-in-Refused.ensures, t0)) ∙ whole
