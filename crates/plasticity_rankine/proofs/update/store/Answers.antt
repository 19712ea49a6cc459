-- The results are tested as the walk tests them.
use Rattle.plasticity_rankine.proofs.Laws.{store_law}
use Rattle.plasticity_rankine.proofs.update.store.Goals as goal

pub returns-then-results_finite : goal.returns-then-results_finite
returns-then-results_finite c =
    let t0 = simp (c.results_finite.ensures, c.recompose-f.ensures) at c.if-results_finite.true in
    simp (c.state_of.ensures, c.results_finite.ensures, c.recompose-f.ensures, t0, store_law)

pub returns-else-results_finite : goal.returns-else-results_finite
returns-else-results_finite c =
    let t0 = simp (c.results_finite.ensures, c.recompose-f.ensures) at c.if-results_finite.false in
    simp (c.refuse.ensures, c.results_finite.ensures, c.recompose-f.ensures, t0, store_law)
