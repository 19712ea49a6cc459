-- The logarithms are asked in index order, and the branch is followed; the softened strength is a number.
use Rattle.std.proofs.Common.{rules}
use mathlib.Core.Path.{◌≡◌, sym, ap, ◌∙◌}
use lib.ListN.{length}
use Rattle.walk.specs.Walk.{ln, given, refused, unnoted}
use Rattle.walk.proofs.Three.{asks_read}
use Rattle.walk.specs.Update.{updated_of}
use Rattle.plasticity_rankine.specs.Over as over
use Rattle.plasticity_rankine.specs.Rankine.{strained_walk}
use Rattle.plasticity_rankine.proofs.Laws.{strength_finite, soft_number, strained_law}
use Rattle.plasticity_rankine.proofs.RankinePlasticity.run.Goals as goal

pub projected-requires : goal.projected-requires
projected-requires c =
    let a = c.args in
    simp c.soft_strength-soft.ensures (soft_number a.self a.u a.vt a.s c.requires)

pub followed-requires : goal.followed-requires
followed-requires c =
    let a = c.args in
    strength_finite a.self a.u a.vt a.s c.requires

pub returns-in-Values : goal.returns-in-Values
unfolding over.run_walk
returns-in-Values c =
    let axes : length c.args.sigma ≡ 3 = search rules in
    let a = c.args in
    let soft = soft_number a.self a.u a.vt a.s c.requires in
    (simp (c.followed.ensures, c.projected.ensures, c.soft_strength-soft.ensures, strained_law, soft))
    ∙ ap (updated_of a.s) (asks_read (λ m n. refused m) unnoted (λ q x. given x) tt 2 ln a.sigma (λ e. strained_walk a.self e a.u a.vt a.s) _ axes (sym c.logs_on_path.ensures ∙ c.in-Values.is))

pub returns-in-Refused : goal.returns-in-Refused
unfolding over.run_walk
returns-in-Refused c =
    let axes : length c.args.sigma ≡ 3 = search rules in
    let a = c.args in
    c.refuse.ensures ∙ ap (updated_of a.s) (asks_read (λ m n. refused m) unnoted (λ q x. given x) tt 2 ln a.sigma (λ e. strained_walk a.self e a.u a.vt a.s) _ axes (sym c.logs_on_path.ensures ∙ c.in-Refused.is))
