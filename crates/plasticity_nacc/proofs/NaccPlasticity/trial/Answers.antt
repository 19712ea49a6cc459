-- `plasticity_nacc::NaccPlasticity::trial` answers `stressed_of (dim_of three_axes) self w p0 j sigma`.
use Rattle.std.proofs.Common.{rules}
use mathlib.Core.Path.{◌∙◌}
use lib.Ieee.{nan}
use Rattle.tensor.proofs.Axes.{of_one}
use Rattle.walk.specs.Matrix.{total}
use Rattle.plasticity_nacc.specs.Axes.{three_axes, dim_of}
use Rattle.plasticity_nacc.specs.Formulas.{trial_of, stressed_of}
use Rattle.plasticity_nacc.proofs.NaccPlasticity.trial.Goals as goal

pub returns : goal.returns
unfolding trial_of total
returns c =
    let whole = of_one (λ l. stressed_of (dim_of three_axes) c.args.self c.args.w c.args.p0 c.args.j l) nan c.args.sigma (search rules) in
    (simp (c.pressure.ensures, c.stressed-c.ensures, c.stressed-b.ensures, c.stressed-a.ensures)) ∙ whole
