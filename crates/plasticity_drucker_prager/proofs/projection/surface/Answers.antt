-- The exponentials are asked in index order.
use Rattle.std.proofs.Common.{rules}
use mathlib.Core.Path.{◌≡◌, sym, ap, ◌∙◌}
use lib.ListN.{length}
use Rattle.walk.specs.Walk.{exp, end, unnoted}
use Rattle.walk.proofs.Three.{asks_read}
use Rattle.reason.specs.Traced.{reached, stopped}
use Rattle.plasticity_drucker_prager.specs.Projection.{surface, surface_walk, walked_of}
use Rattle.plasticity_drucker_prager.proofs.projection.surface.Goals as goal

pub returns-in-Values : goal.returns-in-Values
unfolding surface_walk
returns-in-Values c =
    let axes : length c.args.b ≡ 3 = search rules in
    let a = c.args in
    ap walked_of (asks_read stopped unnoted (λ q x. reached x) tt 15 exp a.b (λ sigma. end (record { way = surface a.gamma a.norm; sigma = sigma; dq = a.gamma })) _ axes (sym c.exps_on_path.ensures ∙ c.in-Values.is))

pub returns-in-Refused : goal.returns-in-Refused
unfolding surface_walk
returns-in-Refused c =
    let axes : length c.args.b ≡ 3 = search rules in
    let a = c.args in
    c.refused_projection.ensures
    ∙ ap walked_of (asks_read stopped unnoted (λ q x. reached x) tt 15 exp a.b (λ sigma. end (record { way = surface a.gamma a.norm; sigma = sigma; dq = a.gamma })) _ axes (sym c.exps_on_path.ensures ∙ c.in-Refused.is))
