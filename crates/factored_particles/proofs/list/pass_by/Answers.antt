-- `factored_particles::list::pass_by` meets its contract: by the sizes.
use mathlib.Core.Path.{sym, ◌∙◌}
use Prim.Native.Nat.{◌*◌, ◌/◌}
use lib.Dec.{eqb}
use lib.ListN.{length}
use borrow.Author.Tests.{eqb-true}
use Rattle.numbers.proofs.Laws.{and_both}
use Rattle.record.specs.Layout.{floats}
use Rattle.factored_particles.proofs.StepLaws.{own_finite, own_law_lem}
use Rattle.factored_particles.proofs.list.pass_by.Goals as goal

pub pass_all-requires : goal.pass_all-requires
pass_all-requires c =
    let a = c.args in
    let w = sym c.well_sized.ensures ∙ c.if-well_sized.true in
    let t = and_both (eqb (length a.xs.now / floats * floats) (length a.xs.now)) (eqb (length a.xs.now / floats * 2) (length a.out.now)) w in
    (sym (eqb-true _ _ t.0), sym (eqb-true _ _ t.1), rw c.ready_for.ensures (own_finite a.s))

pub returns-then-well_sized : goal.returns-then-well_sized
returns-then-well_sized c =
    let e = c.pass_all.ensures in
    let t = sym c.well_sized.ensures ∙ c.if-well_sized.true in
    let l = own_law_lem c.args.s in
    let f = c.ready_for.ensures in
    record { value = simp (e.tallies, f, l, t); xs_after = simp (e.records, f, l, t); out_after = simp (e.answers, f, l, t) }

pub returns-else-well_sized : goal.returns-else-well_sized
returns-else-well_sized c = let t = sym c.well_sized.ensures ∙ c.if-well_sized.false in record { value = simp t; xs_after = simp t; out_after = simp t }
