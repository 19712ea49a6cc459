-- `plasticity::scalars_finite` answers `scalars_finite s`.
use Rattle.plasticity.proofs.scalars_finite.Goals as goal

pub returns : goal.returns
returns c =
    simp (c.is_finite-6.ensures, c.is_finite-5.ensures, c.is_finite-4.ensures, c.is_finite-3.ensures, c.is_finite-2.ensures, c.is_finite.ensures)
