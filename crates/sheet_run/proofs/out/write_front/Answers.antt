-- `sheet_run::out::write_front` meets its contract: the writer's answer over the two front parts.
use native.Mathlib.Omega.{arith}
use lib.ListN.{length-take}
use Rattle.sheet_run.specs.Out.{front_written, front_room}
use Rattle.sheet_run.proofs.out.write_front.Goals as goal

pub slice_bounds-write-end : goal.slice_bounds-write-end
slice_bounds-write-end c =
    let e = c.parameters_of-n.ensures in
    let p = c.requires.1 in
    simp length-take (omega (arith, e, p))

pub slice_bounds-write-end-2 : goal.slice_bounds-write-end-2
slice_bounds-write-end-2 c = let p = c.requires.0 in simp length-take (omega (arith, p))

pub returns : goal.returns
unfolding front_written front_room
returns c =
    let w = c.write.ensures in
    let e = c.parameters_of-n.ensures in
    record { value = simp (w.value, e); room_after = simp (w.room_after, e) }
