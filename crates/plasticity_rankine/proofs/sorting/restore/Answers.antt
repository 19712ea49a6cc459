-- `plasticity_rankine::sorting::restore` answers `restore_of (indexes_of k) r`.
use Rattle.plasticity_rankine.proofs.sorting.restore.Goals as goal

pub returns-in-R012 : goal.returns-in-R012
returns-in-R012 c =
    let t0 = c.in-R012.is in
    simp (t0)

pub returns-in-R021 : goal.returns-in-R021
returns-in-R021 c =
    let t0 = c.in-R021.is in
    simp (t0)

pub returns-in-R102 : goal.returns-in-R102
returns-in-R102 c =
    let t0 = c.in-R102.is in
    simp (t0)

pub returns-in-R120 : goal.returns-in-R120
returns-in-R120 c =
    let t0 = c.in-R120.is in
    simp (t0)

pub returns-in-R201 : goal.returns-in-R201
returns-in-R201 c =
    let t0 = c.in-R201.is in
    simp (t0)

pub returns-in-R210 : goal.returns-in-R210
returns-in-R210 c =
    let t0 = c.in-R210.is in
    simp (t0)
