-- The logarithms are asked in index order, and the branch is followed; the softened strength is a number.
use Rattle.std.proofs.Common.{rules}
use mathlib.Core.Path.{◌≡◌, sym, ◌∙◌}
use lib.ListN.{length}
use Rattle.walk.specs.Walk.{ln}
use Rattle.walk.proofs.Three.{asks_read}
use Rattle.reason.specs.declared.Reason.TheVariants.{Refused}
use Rattle.reason.specs.Reason.{untold}
use Rattle.reason.specs.Why.{tells_test}
use Rattle.plasticity_rankine.specs.Over as over
use Rattle.plasticity_rankine.specs.Rankine.{strained_walk}
use Rattle.plasticity_rankine.proofs.Laws.{strength_finite, soft_number}
use Rattle.plasticity_rankine.proofs.Why.{strained_why}
use Rattle.plasticity_rankine.proofs.RankinePlasticity.run_reason.Goals as goal

pub projected-requires : goal.projected-requires
projected-requires c =
    let a = c.args in
    simp c.soft_strength-soft.ensures (soft_number a.self a.u a.vt a.s c.requires)

pub followed_reason-requires : goal.followed_reason-requires
followed_reason-requires c =
    let a = c.args in
    strength_finite a.self a.u a.vt a.s c.requires

pub returns-in-Values : goal.returns-in-Values
unfolding over.run_walk
returns-in-Values c =
    let axes : length c.args.sigma ≡ 3 = search rules in
    let a = c.args in
    let soft = soft_number a.self a.u a.vt a.s c.requires in
    (simp (c.followed_reason.ensures, c.projected.ensures, c.soft_strength-soft.ensures, strained_why, soft))
    ∙ asks_read Refused tells_test (λ q x. q) untold 2 ln a.sigma (λ e. strained_walk a.self e a.u a.vt a.s) _ axes (sym c.logs_on_path.ensures ∙ c.in-Values.is)

pub returns-in-Refused : goal.returns-in-Refused
unfolding over.run_walk
returns-in-Refused c =
    let axes : length c.args.sigma ≡ 3 = search rules in
    let a = c.args in
    asks_read Refused tells_test (λ q x. q) untold 2 ln a.sigma (λ e. strained_walk a.self e a.u a.vt a.s) _ axes (sym c.logs_on_path.ensures ∙ c.in-Refused.is)
