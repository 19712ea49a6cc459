-- The answer is the power's, called by itself; a value lies within the distance.
use mathlib.Core.Path.{sym, subst, ap, ◌∙◌}
use lib.Dec.{T}
use Rattle.answers.specs.Range.{bare}
use Rattle.answers.proofs.Values.{bare_near}
use Rattle.series.specs.ThirdsNear.{CbrtNear}
use Rattle.thirds.specs.Thirds.{cbrt_of, cbrt_ranged, low, high}
use Rattle.thirds.proofs.Products.{small}
use Rattle.thirds.proofs.Near.{plus_one, cbrt_near}
use Rattle.answers.proofs.Values.{bare_path}
use Rattle.thirds.proofs.cbrt.Goals as goal

pub returns : goal.returns
unfolding cbrt_of
returns c =
    let x = c.args.x in
    let e = c.bare.ensures ∙ ap (bare x) c.power_on_path.ensures ∙ bare_path x (cbrt_ranged x) in
    (e, λ v h. bare_near low high x v (cbrt_of x) (CbrtNear x) (cbrt_near x (subst T (sym c.well_formed.0.1) tt)) (sym e ∙ h))

pub power_on_path-requires : goal.power_on_path-requires
power_on_path-requires c = small plus_one
