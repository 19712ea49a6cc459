-- `solid::corotated_linear::stress` meets its contract: the steps with the stored determinant.
use Rattle.solid.proofs.Passed.{passed}
use Rattle.solid.proofs.CorotatedStored.{sigma_finite, kirchhoff_stored}
use Rattle.solid.proofs.corotated_linear.stress.Goals as goal

pub read_state-s-requires : goal.read_state-s-requires
read_state-s-requires c = let k = passed _ c.args.r.now c.requires in (k.long, k.fine)

pub read_u-u-requires : goal.read_u-u-requires
read_u-u-requires c = let k = passed _ c.args.r.now c.requires in (k.long, k.fine)

pub read_vt-vt-requires : goal.read_vt-vt-requires
read_vt-vt-requires c = let k = passed _ c.args.r.now c.requires in (k.long, k.fine)

pub kirchhoff-requires : goal.kirchhoff-requires
kirchhoff-requires c =
    simp (c.read_state-s.ensures, sigma_finite c.args.law c.args.r.now c.requires)

pub returns : goal.returns
returns c =
    simp (c.kirchhoff.ensures, c.of_rows-f.ensures, c.float-j.ensures, c.read_vt-vt.ensures, c.read_u-u.ensures, c.read_state-s.ensures, kirchhoff_stored c.args.law c.args.r.now c.requires)
