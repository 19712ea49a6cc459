-- `nearness::quick::bounded_rows` meets its contract. Assumes nothing.
use mathlib.Core.Path.{◌≡◌, sym, ◌∙◌}
use mathlib.Core.Bool.{◌&&◌}
use mathlib.Core.List.{[]}
use lib.ListN.{length}
use Rattle.numbers.proofs.Laws.{and_both}
use Rattle.tensor.proofs.Axes.{of_one}
use Rattle.tensor.specs.Finite.{mat_finite}
use Rattle.std.proofs.Common.{rules}
use Rattle.nearness.proofs.quick.bounded_rows.Goals as goal

pub returns : goal.returns
returns c = λ h g.
    let m = c.args.m in
    let l : length m ≡ 3 = search rules in
    let a = c.bounded_row in
    let b = c.bounded_row-2 in
    let d = c.bounded_row-3 in
    let k = and_both (a.result && b.result) d.result h in
    let j = and_both a.result b.result k.0 in
    let x = a.ensures j.0 g in
    let y = b.ensures j.1 g in
    let z = d.ensures k.1 g in
    record { row0 = x; row1 = y; row2 = z; fine = sym (of_one mat_finite [] m l) ∙ (λ i. x.fine i && y.fine i && z.fine i) }
