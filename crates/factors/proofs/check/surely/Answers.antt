-- `factors::check::surely` meets its contract. Assumes nothing.
use mathlib.Core.Path.{sym, ap, ◌∙◌}
use mathlib.Core.Bool.{◌&&◌}
use Rattle.numbers.proofs.Laws.{and_both}
use Rattle.tensor.specs.Matrix.{transpose_of}
use Rattle.factors.proofs.Passed.{Threes, factors_pass}
use Rattle.std.proofs.Common.{rules}
use Rattle.factors.proofs.check.surely.Goals as goal

pub returns : goal.returns
returns c = λ h e.
    let x = c.args.x in
    let l : Threes x.vt = let g = c.well_formed.1.0.1.1.1.1.0 in record { at0 = search (rules, g); at1 = search (rules, g); at2 = search (rules, g) } in
    let v = c.surely_orthogonal-2 in
    let u = c.surely_orthogonal in
    let n = c.surely_near in
    let b = c.not_below in
    let k = and_both (b.result && n.result && u.result) v.result h in
    let j = and_both (b.result && n.result) u.result k.0 in
    let i = and_both b.result n.result j.0 in
    let ou = u.ensures j.1 in
    let ov = v.ensures k.1 in
    factors_pass c.args.f c.args.m e x _ _ c.of_rows-u.ensures (c.transpose-v.ensures ∙ ap transpose_of c.of_rows.ensures) l (sym b.ensures ∙ i.0) ou ov (n.ensures i.1 ou.small ov.small)
