-- `factors::principal_values::surely` meets its contract. Assumes nothing.
use mathlib.Core.Path.{ap, ◌∙◌}
use Rattle.numbers.proofs.Laws.{and_both}
use Rattle.tensor.specs.Matrix.{transpose_of}
use Rattle.factors.proofs.Passed.{Threes, principal_pass}
use Rattle.std.proofs.Common.{rules}
use Rattle.factors.proofs.principal_values.surely.Goals as goal

pub returns : goal.returns
returns c = λ h e.
    let x = c.args.x in
    let l : Threes x.axes = let g = c.well_formed.1.0.1.1.1.0 in record { at0 = search (rules, g); at1 = search (rules, g); at2 = search (rules, g) } in
    let n = c.surely_near in
    let k = and_both n.result c.surely_orthogonal.result h in
    let o = c.surely_orthogonal.ensures k.1 in
    principal_pass c.args.g c.args.m e x _ (c.transpose-q.ensures ∙ ap transpose_of c.of_rows.ensures) l o (n.ensures k.0 o.small o.small)
