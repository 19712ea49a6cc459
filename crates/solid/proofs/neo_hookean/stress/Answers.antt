-- `solid::neo_hookean::stress` meets its contract: the steps with the stored determinant.
use Rattle.solid.proofs.Passed.{passed}
use Rattle.solid.proofs.NeoHookeanStored.{kirchhoff_stored}
use Rattle.solid.proofs.neo_hookean.stress.Goals as goal

pub read_state-s-requires : goal.read_state-s-requires
read_state-s-requires c = let k = passed _ c.args.r.now c.requires in (k.long, k.fine)

pub returns : goal.returns
returns c =
    simp (c.kirchhoff.ensures, c.of_rows-f.ensures, c.float-j.ensures, c.read_state-s.ensures, kirchhoff_stored c.args.law c.args.r.now c.requires)
