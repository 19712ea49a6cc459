-- `fixed_point::mulhi` meets its contract. Assumes nothing.
use Rattle.fixed_point.proofs.Halves.{upper}
use Rattle.fixed_point.proofs.mulhi.Goals as goal

pub returns : goal.returns
returns c = upper _ _ _ c.both_halves-p.ensures.value c.both_halves-p.ensures.low_fits
