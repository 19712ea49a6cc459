-- `sheet_run::pass_front` meets its contract: the pass over the parts that the header speaks of.
use lib.ListN.{length-take}
use native.Mathlib.Omega.{arith}
use Rattle.sheet_run.specs.Run.{front_of, front_records, front_answers}
use Rattle.sheet_run.proofs.pass_front.Goals as goal

pub model_of-m-requires : goal.model_of-m-requires
model_of-m-requires c = c.requires.2

pub slice_bounds-pass-end-2 : goal.slice_bounds-pass-end-2
slice_bounds-pass-end-2 c =
    let h = c.requires in
    simp length-take (omega arith)

pub slice_bounds-pass-end-4 : goal.slice_bounds-pass-end-4
slice_bounds-pass-end-4 c =
    let h = c.requires in
    simp length-take (omega arith)

pub returns : goal.returns
unfolding front_of front_records front_answers
returns c =
    let e = c.pass-passed.ensures in
    let m = c.model_of-m.ensures in
    record { value = simp (c.outcome.ensures, e.value, m); records_after = simp (e.xs_after, m); answers_after = simp (e.out_after, m) }
