-- `exponential::entries::power` meets its contract. Assumes nothing.
use mathlib.Core.Path.{sym}
use Rattle.exact.proofs.Match.{beyond, past}
use Rattle.exponential.specs.Entries.{power_entries}
use Rattle.exponential.proofs.entries.power.Goals as goal

pub returns-in_default : goal.returns-in_default
returns-in_default c = sym (past power_entries 4454955558597105 c.args.j (beyond c.args.j 127 c.in_default.in_default-own.rest))
