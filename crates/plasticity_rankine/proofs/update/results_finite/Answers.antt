-- Test by test.
use Rattle.plasticity_rankine.proofs.update.results_finite.Goals as goal

pub returns : goal.returns
returns c =
    simp (c.is_finite.ensures, c.row_finite.ensures, c.mat_finite.ensures)
