-- `eos_monaghan_sph::pressure::inputs_finite` answers `inputs_finite law mass volume density`.
use Rattle.eos_monaghan_sph.proofs.pressure.inputs_finite.Goals as goal

pub returns : goal.returns
returns c =
    simp (c.is_finite-6.ensures, c.is_finite-5.ensures, c.is_finite-4.ensures, c.is_finite-3.ensures, c.is_finite-2.ensures, c.is_finite.ensures)
