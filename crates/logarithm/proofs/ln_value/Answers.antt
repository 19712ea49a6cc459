-- `logarithm::ln_value` meets its contract. Assumes nothing.
use mathlib.Core.Path.{sym, ap₂, subst}
use lib.Dec.{T}
use lib.Ieee as Ieee
use lib.Ieee.{binary64}
use Rattle.logarithm.specs.Worked.{ln_of, ln2}
use Rattle.logarithm.proofs.Laws.{no_nan}
use Rattle.logarithm.proofs.ln_value.Goals as goal

pub float_to_bits-n : goal.float_to_bits-n
float_to_bits-n c = no_nan c.args.x (subst T (sym c.well_formed.0.1) tt) c.requires

pub returns : goal.returns
unfolding ln_of
returns c = ap₂ (λ k l. Ieee.add binary64 (Ieee.mul binary64 k ln2) l) c.exponent.ensures c.fraction.ensures
