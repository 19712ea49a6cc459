-- `model::record_law::wrong` meets its contract: 1 where the parameters aren't finite.
use mathlib.Core.Path.{sym, ◌∙◌}
use Rattle.one_record.proofs.record_law.wrong.Goals as goal

pub returns-then-parameters_ready : goal.returns-then-parameters_ready
returns-then-parameters_ready c = simp (sym c.parameters_ready.ensures ∙ c.if-parameters_ready.true)

pub returns-else-parameters_ready : goal.returns-else-parameters_ready
returns-else-parameters_ready c = simp (sym c.parameters_ready.ensures ∙ c.if-parameters_ready.false)
