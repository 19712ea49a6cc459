-- `nearness::quick::bounded_row` meets its contract. Assumes nothing.
use mathlib.Core.Path.{◌≡◌, sym, ◌∙◌}
use mathlib.Core.Bool.{◌&&◌}
use lib.ListN.{length, get_or}
use lib.Ieee.{nan}
use Rattle.numbers.proofs.Laws.{and_both}
use Rattle.tensor.proofs.Axes.{of_one}
use Rattle.tensor.specs.Finite.{row_finite}
use Rattle.nearness.proofs.Rounded.{bounded_finite}
use Rattle.std.proofs.Common.{rules}
use Rattle.nearness.proofs.quick.bounded_row.Goals as goal

pub returns : goal.returns
returns c = λ h g.
    let s = c.args in
    let l : length s.a ≡ 3 = search rules in
    let a = c.bounded in
    let b = c.bounded-2 in
    let d = c.bounded-3 in
    let k = and_both (a.result && b.result) d.result h in
    let j = and_both a.result b.result k.0 in
    let x = a.ensures j.0 g in
    let y = b.ensures j.1 g in
    let z = d.ensures k.1 g in
    record {
      at0 = x;
      at1 = y;
      at2 = z;
      fine = sym (of_one row_finite nan s.a l) ∙ (λ i. bounded_finite (get_or s.a 0 nan) s.t x i && bounded_finite (get_or s.a 1 nan) s.t y i && bounded_finite (get_or s.a 2 nan) s.t z i);
    }
