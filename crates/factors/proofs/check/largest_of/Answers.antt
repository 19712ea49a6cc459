-- `factors::check::largest_of` meets its contract. Assumes nothing.
use mathlib.Core.Path.{◌≡◌, subst, ap₂, ◌∙◌}
use lib.Ieee.{nan}
use lib.ListN.{length}
use Rattle.tensor.proofs.Axes.{of_one}
use Rattle.numbers.specs.Floats.{finite}
use Rattle.factors.specs.Check.{Size, larger, largest_of}
use Rattle.factors.proofs.Sizes.{size_own, of_size, each0, each1, each2}
use Rattle.std.proofs.Common.{rules}
use Rattle.factors.proofs.check.largest_of.Goals as goal

pub returns : goal.returns
unfolding largest_of
returns c = λ h.
    let a = c.args.a in
    let l : length a ≡ 3 = search rules in
    let x = c.magnitude.ensures (each0 finite nan a l h) in
    let y = c.magnitude-2.ensures (each1 finite nan a l h) in
    let z = c.magnitude-3.ensures (each2 finite nan a l h) in
    let w = c.larger.ensures (size_own x) (size_own y) in
    subst (λ k. Size k c.larger-2.result) (of_one largest_of nan a l)
    (of_size (w.units ∙ ap₂ larger x.units y.units) z.units (c.larger-2.ensures (size_own w) (size_own z)))
