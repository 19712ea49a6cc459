-- `model::rows::model_finite` meets its contract: a model made ready knows it.
use Rattle.model.proofs.RowLaws.{ready_parameters}
use Rattle.model.proofs.rows.model_finite.Goals as goal

pub returns : goal.returns
returns c = rw (c.parameters_ready.ensures, c.make_ready.ensures) (ready_parameters c.args.m)
