-- `nearness::quick::surely_orthogonal` meets its contract. Assumes nothing.
use mathlib.Core.Path.{◌≡◌, sym, ◌∙◌}
use mathlib.Core.Bool.{◌&&◌}
use mathlib.Core.List.{[]}
use lib.ListN.{length, get_or}
use Rattle.numbers.proofs.Laws.{and_both}
use Rattle.tensor.proofs.Axes.{of_one}
use Rattle.tensor.specs.Matrix.{zero, one}
use Rattle.nearness.specs.Near.{orthogonal_of}
use Rattle.nearness.proofs.Rounded.{two_fine}
use Rattle.nearness.proofs.Sounds.{orthogonal_six, unit_sound, on_diagonal, off_diagonal, of_unit}
use Rattle.std.proofs.Common.{rules}
use Rattle.nearness.proofs.quick.surely_orthogonal.Goals as goal

pub returns : goal.returns
returns c = λ h.
    let u = c.args.u in
    let l : length u ≡ 3 = search rules in
    let b = c.bounded_rows in
    let x1 = c.close in
    let x2 = c.close-2 in
    let x3 = c.close-3 in
    let x4 = c.close-4 in
    let x5 = c.close-5 in
    let x6 = c.close-6 in
    let k6 = and_both (b.result && x1.result && x2.result && x3.result && x4.result && x5.result) x6.result h in
    let k5 = and_both (b.result && x1.result && x2.result && x3.result && x4.result) x5.result k6.0 in
    let k4 = and_both (b.result && x1.result && x2.result && x3.result) x4.result k5.0 in
    let k3 = and_both (b.result && x1.result && x2.result) x3.result k4.0 in
    let k2 = and_both (b.result && x1.result) x2.result k3.0 in
    let k1 = and_both b.result x1.result k2.0 in
    let g = b.ensures k1.0 two_fine in
    record {
      near = sym (of_one orthogonal_of [] u l) ∙ sym (orthogonal_six (get_or u 0 []) (get_or u 1 []) (get_or u 2 []))
          ∙ (λ i. of_unit (get_or u 0 []) (get_or u 0 []) one (x1.ensures k1.1 (unit_sound g.row0 g.row0) on_diagonal) i && of_unit (get_or u 0 []) (get_or u 1 []) zero (x2.ensures k2.1 (unit_sound g.row0 g.row1) off_diagonal) i
          && of_unit (get_or u 0 []) (get_or u 2 []) zero (x3.ensures k3.1 (unit_sound g.row0 g.row2) off_diagonal) i && of_unit (get_or u 1 []) (get_or u 1 []) one (x4.ensures k4.1 (unit_sound g.row1 g.row1) on_diagonal) i
          && of_unit (get_or u 1 []) (get_or u 2 []) zero (x5.ensures k5.1 (unit_sound g.row1 g.row2) off_diagonal) i && of_unit (get_or u 2 []) (get_or u 2 []) one (x6.ensures k6.1 (unit_sound g.row2 g.row2) on_diagonal) i);
      small = g;
    }
