-- `flat_drucker_prager::update::run` answers `updated_of s (result (run_walk p u vt s))`.
use Rattle.plasticity_drucker_prager.proofs.Laws.{alpha_then}
use Rattle.flat_drucker_prager.proofs.Laws.{way_then}
use Rattle.plasticity_drucker_prager.specs.Over as over
use Rattle.flat_drucker_prager.proofs.update.run.Goals as goal

pub returns-then-stays : goal.returns-then-stays
unfolding over.run_walk
returns-then-stays c =
    let t0 = simp c.stays.ensures at c.if-stays.true in
    simp (c.untouched.ensures, t0, alpha_then)

pub returns-in-Value : goal.returns-in-Value
unfolding over.run_walk
returns-in-Value c =
    let t0 = simp c.alpha_on_path.ensures at c.in-Value.is in
    let t1 = simp c.stays.ensures at c.if-stays.false in
    simp (c.followed.ensures, c.projected-q.ensures, t0, t1, alpha_then, way_then)

pub returns-in-Refused : goal.returns-in-Refused
unfolding over.run_walk
returns-in-Refused c =
    let t0 = simp c.alpha_on_path.ensures at c.in-Refused.is in
    let t1 = simp c.stays.ensures at c.if-stays.false in
    simp (c.refuse.ensures, t0, t1, alpha_then)
