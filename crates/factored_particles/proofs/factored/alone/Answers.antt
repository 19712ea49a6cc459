-- `factored_particles::factored::alone` meets its contract: by the factors' number.
use Rattle.factored_particles.proofs.FactoredLaws.{alone_taken, alone_refused}
use Rattle.factored_particles.proofs.factored.alone.Goals as goal

pub returns-then-n-eq0 : goal.returns-then-n-eq0
returns-then-n-eq0 c = let f = c.factor-n.ensures in alone_taken c.args.r.now (f.0, f.1) c.if-n-eq0.true

pub returns-else-n-eq0 : goal.returns-else-n-eq0
returns-else-n-eq0 c = let f = c.factor-n.ensures in alone_refused c.args.r.now (f.0, f.1) c.if-n-eq0.false
