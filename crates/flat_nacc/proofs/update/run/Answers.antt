-- `flat_nacc::update::run` answers `updated_of s (result (run_walk p u vt s))`.
use Rattle.flat_nacc.proofs.Laws.{run_law}
use Rattle.flat_nacc.proofs.update.run.Goals as goal

pub returns : goal.returns
returns c =
    simp (c.followed.ensures, c.steps.ensures, run_law)
