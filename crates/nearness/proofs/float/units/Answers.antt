-- `nearness::float::units` meets its contract. Assumes nothing.
use mathlib.Core.Path.{sym, subst}
use lib.Dec.{T}
use native.Mathlib.Omega.{arith}
use Rattle.nearness.proofs.Bits.{of_top, of_normal, of_small, of_zero}
use Rattle.nearness.proofs.float.units.Goals as goal

pub returns-then-e-eq2047 : goal.returns-then-e-eq2047
returns-then-e-eq2047 c = of_top _ _ (subst T (sym c.well_formed.0.1) tt) c.bits_of-b.ensures c.if-e-eq2047.true

pub returns-then-e-gt0 : goal.returns-then-e-gt0
returns-then-e-gt0 c = of_normal _ _ (subst T (sym c.well_formed.0.1) tt) c.bits_of-b.ensures c.if-e-eq2047.false c.if-e-gt0.true

pub returns-then-t-eq0 : goal.returns-then-t-eq0
returns-then-t-eq0 c = of_zero _ _ (subst T (sym c.well_formed.0.1) tt) c.bits_of-b.ensures (omega arith) c.if-t-eq0.true

pub returns-else-t-eq0 : goal.returns-else-t-eq0
returns-else-t-eq0 c = of_small _ _ (subst T (sym c.well_formed.0.1) tt) c.bits_of-b.ensures (omega arith)
