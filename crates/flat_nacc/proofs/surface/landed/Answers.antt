-- `flat_nacc::surface::landed` answers `shaped_of (result (works 28 (spread (num k) s (num norm) t.mean) (λ e. roots_walk e alpha)))`.
use Rattle.flat_nacc.proofs.surface.landed.Goals as goal

pub returns-then-all_numbers : goal.returns-then-all_numbers
returns-then-all_numbers c =
    let t0 = simp (c.all_numbers.ensures, c.spread-e.ensures) at c.if-all_numbers.true in
    simp (c.roots.ensures, c.spread-e.ensures, t0)

pub returns-else-all_numbers : goal.returns-else-all_numbers
returns-else-all_numbers c =
    let t0 = simp (c.all_numbers.ensures, c.spread-e.ensures) at c.if-all_numbers.false in
    simp (c.refused_step.ensures, c.spread-e.ensures, t0)
