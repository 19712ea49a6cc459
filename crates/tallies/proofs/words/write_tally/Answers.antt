-- `tallies::words::write_tally` meets its contract: the part is lent.
use Prim.Native.Nat.{◌*◌}
use native.Mathlib.Nat.{add-sub_cancel_left}
use Rattle.tallies.specs.Words.{fields}
use Rattle.tallies.proofs.words.write_tally.Goals as goal

pub returns : goal.returns
returns c =
    let z = c.args.z in
    simp (c.write_five.ensures, add-sub_cancel_left (z * fields) fields)
