-- The answer is the power's, asked inside a law.
use Rattle.thirds.specs.Thirds.{inv_cbrt_of}
use Rattle.thirds.proofs.Products.{small}
use Rattle.thirds.proofs.Near.{minus_one}
use Rattle.thirds.proofs.inv_cbrt_on_path.Goals as goal

pub returns : goal.returns
unfolding inv_cbrt_of
returns c = c.power_on_path.ensures

pub power_on_path-requires : goal.power_on_path-requires
power_on_path-requires c = small minus_one
