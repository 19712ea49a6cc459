-- The answer is the function's, called by itself; a value lies within the distance.
use mathlib.Core.Path.{sym, subst, ap, ◌∙◌}
use lib.Dec.{T}
use Rattle.answers.specs.Range.{bare}
use Rattle.answers.proofs.Values.{bare_near}
use Rattle.series.specs.ExpNear.{ExpNear}
use Rattle.exponential.specs.Worked.{exp_of, low, high}
use Rattle.exponential.proofs.Near.{exp_near}
use Rattle.exponential.proofs.exp.Goals as goal

pub returns : goal.returns
returns c =
    let x = c.args.x in
    let e = c.bare.ensures ∙ ap (bare x) c.exp_ranged.ensures in
    (e, λ v h. bare_near low high x v (exp_of x) (ExpNear x) (exp_near x (subst T (sym c.well_formed.0.1) tt)) (sym e ∙ h))
