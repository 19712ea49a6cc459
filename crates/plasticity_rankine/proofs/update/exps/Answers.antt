-- The exponentials are asked in index order.
use Rattle.std.proofs.Common.{rules}
use mathlib.Core.Path.{◌≡◌, sym, ap, ◌∙◌}
use lib.ListN.{length}
use Rattle.walk.specs.Expr.{num}
use Rattle.walk.specs.Walk.{exp, given, refused, unnoted}
use Rattle.walk.proofs.Three.{asks_read}
use Rattle.walk.specs.Update.{updated_of}
use Rattle.plasticity_rankine.specs.Over as over
use Rattle.plasticity_rankine.specs.Rankine.{store_walk}
use Rattle.plasticity_rankine.proofs.update.exps.Goals as goal

pub returns-in-Values : goal.returns-in-Values
unfolding over.exps_walk
returns-in-Values c =
    let axes : length c.args.e ≡ 3 = search rules in
    let a = c.args in
    c.store.ensures ∙ ap (updated_of a.s) (asks_read (λ m n. refused m) unnoted (λ q x. given x) tt 9 exp a.e (λ sigma. store_walk a.u sigma a.vt (num a.h) a.s) _ axes (sym c.exps_on_path.ensures ∙ c.in-Values.is))

pub returns-in-Refused : goal.returns-in-Refused
unfolding over.exps_walk
returns-in-Refused c =
    let axes : length c.args.e ≡ 3 = search rules in
    let a = c.args in
    c.refuse.ensures ∙ ap (updated_of a.s) (asks_read (λ m n. refused m) unnoted (λ q x. given x) tt 9 exp a.e (λ sigma. store_walk a.u sigma a.vt (num a.h) a.s) _ axes (sym c.exps_on_path.ensures ∙ c.in-Refused.is))
