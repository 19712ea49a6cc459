-- `nearness::quick::row_close` meets its contract. Assumes nothing.
use mathlib.Core.Path.{◌≡◌, sym, ◌∙◌}
use mathlib.Core.Bool.{◌&&◌}
use mathlib.Core.List.{[]}
use lib.ListN.{length}
use lib.Ieee.{nan}
use Rattle.exact.specs.Units.{mag}
use Rattle.numbers.proofs.Laws.{and_both}
use Rattle.tensor.proofs.Axes.{of_two}
use Rattle.nearness.specs.Near.{near_row}
use Rattle.nearness.proofs.Sounds.{sound0, sound1, sound2}
use Rattle.std.proofs.Common.{rules}
use Rattle.nearness.proofs.quick.row_close.Goals as goal

pub returns : goal.returns
unfolding near_row
returns c = λ h o b.
    let a = c.args in
    let lv : length a.v ≡ 3 = search rules in
    let lf : length a.f ≡ 3 = search rules in
    let x = c.close in
    let y = c.close-2 in
    let z = c.close-3 in
    let k = and_both (x.result && y.result) z.result h in
    let j = and_both x.result y.result k.0 in
    sym (of_two (λ v f. near_row a.u a.s v f (mag a.m)) [] nan a.v a.f lv lf)
    ∙ (λ i. x.ensures j.0 (sound0 o) b.at0 i && y.ensures j.1 (sound1 o) b.at1 i && z.ensures k.1 (sound2 o) b.at2 i)
