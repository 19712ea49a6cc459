-- `exponential::hyperbolic::growth` meets its contract. Assumes nothing.
use mathlib.Core.Path.{sym, ap, ◌∙◌, subst}
use lib.Dec.{T}
use Rattle.exponential.specs.Worked.{Sized, exp_of}
use Rattle.exponential.specs.Sinh.{growth_of}
use Rattle.exponential.proofs.SinhClose.{size_sized}
use Rattle.exponential.proofs.hyperbolic.growth.Goals as goal

pub exp_value-requires : goal.exp_value-requires
exp_value-requires c = subst Sized (sym c.size.ensures) (size_sized c.args.x (subst T (sym c.well_formed.0.1) tt) c.requires)

pub returns : goal.returns
unfolding growth_of
returns c = c.exp_value.ensures ∙ ap exp_of c.size.ensures
