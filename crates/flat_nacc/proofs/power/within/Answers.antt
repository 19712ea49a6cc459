-- `flat_nacc::power::within` answers `within_of x`.
use Rattle.flat_nacc.proofs.power.within.Goals as goal

pub returns : goal.returns
returns c =
    simp (c.on_path.ensures, c.ranged.ensures)
