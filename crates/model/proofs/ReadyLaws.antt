-- A model made ready is finite, knows whether its parameters were, and updates a finite record as the model does: with the rows, in `RowLaws`.
pub use Rattle.model.proofs.RowLaws.{ready_finite_lem, ready_parameters, Lawful, ready_lawful, ready_update_lem}
