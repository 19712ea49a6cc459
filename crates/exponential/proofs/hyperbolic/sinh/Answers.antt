-- The answer is the function's, called by itself; a value lies within the distance.
use mathlib.Core.Path.{sym, subst, ap, ◌∙◌}
use lib.Dec.{T}
use Rattle.answers.specs.Range.{bare}
use Rattle.answers.proofs.Values.{bare_near}
use Rattle.series.specs.SinhNear.{SinhNear}
use Rattle.exponential.specs.Worked.{low, high}
use Rattle.exponential.specs.Sinh.{sinh_of}
use Rattle.exponential.proofs.SinhClose.{sinh_near}
use Rattle.exponential.proofs.hyperbolic.sinh.Goals as goal

pub returns : goal.returns
returns c =
    let x = c.args.x in
    let e = c.bare.ensures ∙ ap (bare x) c.sinh_ranged.ensures in
    (e, λ v h. bare_near low high x v (sinh_of x) (SinhNear x) (sinh_near x (subst T (sym c.well_formed.0.1) tt)) (sym e ∙ h))
