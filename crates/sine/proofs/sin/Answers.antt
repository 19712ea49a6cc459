-- The answer is the function's, called by itself; a value lies within the distance.
use mathlib.Core.Path.{sym, subst, ap, ◌∙◌}
use lib.Dec.{T}
use Rattle.answers.specs.Range.{bare}
use Rattle.answers.proofs.Values.{bare_near, bare_path}
use Rattle.series.specs.SinNear.{SinNear}
use Rattle.sine.specs.Sine.{sin_of, sin_ranged, low, high}
use Rattle.sine.proofs.Near.{sin_near}
use Rattle.sine.proofs.sin.Goals as goal

pub returns : goal.returns
returns c =
    let x = c.args.x in
    let e = c.bare.ensures ∙ ap (bare x) c.sin_on_path.ensures ∙ bare_path x (sin_ranged x) in
    (e, λ v h. bare_near low high x v (sin_of x) (SinNear x) (sin_near x (subst T (sym c.well_formed.0.1) tt)) (sym e ∙ h))
