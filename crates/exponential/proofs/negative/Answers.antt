-- `exponential::negative` meets its contract. Assumes nothing.
use mathlib.Core.Path.{sym, subst}
use lib.Dec.{T}
use Rattle.exponential.proofs.Unpacking.{no_nan, sign_is}
use Rattle.exponential.proofs.negative.Goals as goal

pub float_to_bits-result : goal.float_to_bits-result
float_to_bits-result c = no_nan c.args.x (subst T (sym c.well_formed.0.1) tt) c.requires

pub returns : goal.returns
returns c = sign_is c.args.x (subst T (sym c.well_formed.0.1) tt) c.requires
