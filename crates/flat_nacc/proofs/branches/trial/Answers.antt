-- `flat_nacc::branches::trial` answers `stressed_of p w p0 j sigma`.
use Rattle.std.proofs.Common.{rules}
use mathlib.Core.Path.{◌∙◌}
use lib.Ieee.{nan}
use Rattle.walk.specs.Matrix.{total}
use Rattle.plasticity_nacc.specs.Formulas.{trial_of}
use Rattle.flat.proofs.Axes.{of_one}
use Rattle.flat_nacc.specs.Nacc.{stressed_of}
use Rattle.flat_nacc.proofs.branches.trial.Goals as goal

pub returns : goal.returns
unfolding trial_of total
returns c =
    let whole = of_one (λ l. stressed_of c.args.p c.args.w c.args.p0 c.args.j l) nan c.args.sigma (search rules) in
    (simp (c.pressure.ensures, c.stressed-b.ensures, c.stressed-a.ensures)) ∙ whole
