-- `plasticity_drucker_prager::DruckerPragerPlasticity::new` answers `new_of young_modulus poisson_ratio`.
use Rattle.std.proofs.Common.{rules}
use Rattle.plasticity_drucker_prager.proofs.DruckerPragerPlasticity.new.Goals as goal

pub lame_lambda_mu-requires : goal.lame_lambda_mu-requires
lame_lambda_mu-requires c = search rules

pub made-requires : goal.made-requires
made-requires c = search rules

pub returns : goal.returns
returns c =
    simp (c.made.ensures, c.lame_lambda_mu.ensures)
