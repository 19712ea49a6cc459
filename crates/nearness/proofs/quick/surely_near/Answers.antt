-- `nearness::quick::surely_near` meets its contract. Assumes nothing.
use mathlib.Core.Path.{◌≡◌, sym, ◌∙◌}
use mathlib.Core.Bool.{◌&&◌}
use mathlib.Core.List.{List, []}
use lib.ListN.{length}
use lib.Ieee.{Float}
use Rattle.exact.specs.Units.{mag}
use Rattle.numbers.proofs.Laws.{and_both}
use Rattle.tensor.proofs.Axes.{of_two}
use Rattle.nearness.specs.Near.{near_all}
use Rattle.nearness.specs.Quick.{RowBounded, SoundRow, two}
use Rattle.nearness.proofs.Rounded.{quad}
use Rattle.std.proofs.Common.{rules}
use Rattle.nearness.proofs.quick.surely_near.Goals as goal

pub returns : goal.returns
unfolding near_all
returns c = λ h u v.
    let a = c.args in
    let lu : length a.u ≡ 3 = search rules in
    let lf : length a.f ≡ 3 = search (rules, c.well_formed.1.1.1.0) in
    let z = c.row_close-3 in
    let y = c.row_close-2 in
    let x = c.row_close in
    let f = c.bounded_rows in
    let w = c.bounded_row in
    let t = c.tame in
    let k = and_both (t.result && w.result && f.result && x.result && y.result) z.result h in
    let j = and_both (t.result && w.result && f.result && x.result) y.result k.0 in
    let i = and_both (t.result && w.result && f.result) x.result j.0 in
    let e = and_both (t.result && w.result) f.result i.0 in
    let d = and_both t.result w.result e.0 in
    let g = t.ensures d.0 in
    let s = w.ensures d.1 (quad a.m g.0 g.1).0 in
    let b = f.ensures e.1 g.0 in
    let sound : (r : List Float) → RowBounded r two → SoundRow r a.s a.v a.m = λ r l. record { scale = g; sigma = s; left = l; right = v } in
    record {
      near = sym (of_two (λ u f. near_all u a.s a.v f (mag a.m)) [] [] a.u a.f lu lf)
          ∙ (λ n. x.ensures i.1 (sound _ u.row0) b.row0 n && y.ensures j.1 (sound _ u.row1) b.row1 n && z.ensures k.1 (sound _ u.row2) b.row2 n);
      sigma = s;
      whole = b;
    }
