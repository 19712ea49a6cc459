-- `flat_snow::store` answers `kept_of u sigma vt (finite d && finite hardening) (scalars_of d hardening s.scalars) hardening s`.
use Rattle.flat_snow.proofs.store.Goals as goal

pub returns : goal.returns
returns c =
    simp (c.stored.ensures, c.is_finite-2.ensures, c.is_finite.ensures)
