-- Test by test.
use Rattle.plasticity_snow.proofs.results_finite.Goals as goal

pub returns : goal.returns
returns c =
    simp (c.is_finite-2.ensures, c.is_finite.ensures, c.row_finite.ensures, c.mat_finite.ensures)
