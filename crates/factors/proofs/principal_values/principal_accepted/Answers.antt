-- `factors::principal_values::principal_accepted` meets its contract. Assumes nothing.
use mathlib.Core.Path.{sym, ap, ◌∙◌}
use Rattle.factors.specs.PrincipalValues.{mirrored_accepted, principal_accepted}
use Rattle.factors.proofs.principal_values.principal_accepted.Goals as goal

pub returns-then-surely : goal.returns-then-surely
unfolding principal_accepted
returns-then-surely c =
    sym (c.surely.ensures c.if-surely.true (λ h. (c.largest-m.ensures h).units)) ∙ ap (λ g. mirrored_accepted g c.args.x) c.mirrored-g.ensures

pub returns : goal.returns
unfolding principal_accepted
returns c =
    c.exactly.ensures (λ h. (c.largest-m.ensures h).units) ∙ ap (λ g. mirrored_accepted g c.args.x) c.mirrored-g.ensures
