-- `factors::check::largest` meets its contract. Assumes nothing.
use mathlib.Core.Path.{◌≡◌, subst, ap₂, ◌∙◌}
use mathlib.Core.List.{[]}
use lib.ListN.{length}
use Rattle.tensor.proofs.Axes.{of_one}
use Rattle.tensor.specs.Finite.{row_finite}
use Rattle.factors.specs.Check.{Size, larger, largest_in}
use Rattle.factors.proofs.Sizes.{size_own, of_size, each0, each1, each2}
use Rattle.std.proofs.Common.{rules}
use Rattle.factors.proofs.check.largest.Goals as goal

pub returns : goal.returns
unfolding largest_in
returns c = λ h.
    let a = c.args.m in
    let l : length a ≡ 3 = search rules in
    let x = c.largest_of.ensures (each0 row_finite [] a l h) in
    let y = c.largest_of-2.ensures (each1 row_finite [] a l h) in
    let z = c.largest_of-3.ensures (each2 row_finite [] a l h) in
    let w = c.larger.ensures (size_own x) (size_own y) in
    subst (λ k. Size k c.larger-2.result) (of_one largest_in [] a l)
    (of_size (w.units ∙ ap₂ larger x.units y.units) z.units (c.larger-2.ensures (size_own w) (size_own z)))
