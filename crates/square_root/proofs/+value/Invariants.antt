-- the sign is set in x, and not in -x
use Rattle.square_root.proofs.Turned.{minus}
use Rattle.square_root.proofs.+value.Given as goal

abbrev pub decreases-value : goal.decreases-value
decreases-value l = minus l.x
