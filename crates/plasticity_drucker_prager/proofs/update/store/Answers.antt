-- `plasticity_drucker_prager::update::store` answers `updated_of s (result (store_walk u sigma vt (num d) (num hardening) (num gain) dq s))`.
use Rattle.plasticity_drucker_prager.proofs.Laws.{store_law}
use Rattle.plasticity_drucker_prager.proofs.update.store.Goals as goal

pub returns-then-finite_results : goal.returns-then-finite_results
returns-then-finite_results c =
    let f = c.recompose-f.ensures in
    let t0 = simp (c.finite_results.ensures, f) at c.if-finite_results.true in
    simp (c.state_of.ensures, f, store_law, t0)

pub returns-else-finite_results : goal.returns-else-finite_results
returns-else-finite_results c =
    let f = c.recompose-f.ensures in
    let t0 = simp (c.finite_results.ensures, f) at c.if-finite_results.false in
    simp (c.refuse.ensures, store_law, t0)
