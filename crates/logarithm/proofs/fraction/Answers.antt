-- `logarithm::fraction` meets its contract. Assumes nothing.
use mathlib.Core.Path.{ap, ◌∙◌}
use lib.Ieee as Ieee
use lib.Ieee.{binary64}
use Rattle.logarithm.specs.Worked.{part_of, left_of, fraction_of}
use Rattle.logarithm.proofs.fraction.Goals as goal

pub returns : goal.returns
unfolding fraction_of
returns c =
    let f = c.factor-f.result in
    let n = c.args.n in
    ap (λ l. Ieee.add binary64 f.log l) (c.part.ensures ∙ ap part_of c.rest.ensures) ∙ ap (left_of n) c.factor-f.ensures
