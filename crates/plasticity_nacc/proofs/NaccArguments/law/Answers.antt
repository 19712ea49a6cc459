-- `plasticity_nacc::NaccArguments::law` answers `law_of self`.
use Rattle.std.proofs.Common.{rules}
use Rattle.plasticity_nacc.proofs.NaccArguments.law.Goals as goal

pub shear_modulus-requires : goal.shear_modulus-requires
shear_modulus-requires c = search rules

pub bulk_modulus-requires : goal.bulk_modulus-requires
bulk_modulus-requires c = search rules

pub returns : goal.returns
returns c =
    simp (c.bulk_modulus.ensures, c.shear_modulus.ensures)
