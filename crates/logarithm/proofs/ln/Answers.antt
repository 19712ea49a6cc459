-- The answer is the function's, called by itself; a value lies within the distance.
use mathlib.Core.Path.{sym, subst, ap, ◌∙◌}
use lib.Dec.{T}
use Rattle.answers.specs.Range.{bare}
use Rattle.answers.proofs.Values.{bare_near}
use Rattle.series.specs.LogNear.{LogNear}
use Rattle.logarithm.specs.Worked.{ln_of, low, high}
use Rattle.logarithm.proofs.Laws.{ln_near}
use Rattle.logarithm.proofs.ln.Goals as goal

pub returns : goal.returns
returns c =
    let x = c.args.x in
    let e = c.bare.ensures ∙ ap (bare x) c.ln_ranged.ensures in
    (e, λ v h. bare_near low high x v (ln_of x) (LogNear x) (ln_near x (subst T (sym c.well_formed.0.1) tt)) (sym e ∙ h))
