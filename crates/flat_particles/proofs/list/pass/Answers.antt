-- `flat_particles::list::pass` meets its contract: by the sizes.
use mathlib.Core.Path.{sym, ◌∙◌}
use Prim.Native.Nat.{◌*◌, ◌/◌}
use lib.Dec.{eqb}
use lib.ListN.{length}
use borrow.Author.Tests.{eqb-true}
use Rattle.numbers.proofs.Laws.{and_both}
use Rattle.flat_particles.specs.Layout.{floats}
use Rattle.flat_particles.proofs.list.pass.Goals as goal

pub pass_all-requires : goal.pass_all-requires
pass_all-requires c =
    let a = c.args in
    let w = sym c.well_sized.ensures ∙ c.if-well_sized.true in
    let t = and_both (eqb (length a.xs.now / floats * floats) (length a.xs.now)) (eqb (length a.xs.now / floats * 2) (length a.out.now)) w in
    (sym (eqb-true _ _ t.0), sym (eqb-true _ _ t.1))

pub returns-then-well_sized : goal.returns-then-well_sized
returns-then-well_sized c =
    let e = c.pass_all.ensures in
    let t = sym c.well_sized.ensures ∙ c.if-well_sized.true in
    record { value = simp (e.tallies, t); xs_after = simp (e.records, t); out_after = simp (e.answers, t) }

pub returns-else-well_sized : goal.returns-else-well_sized
returns-else-well_sized c = let t = sym c.well_sized.ensures ∙ c.if-well_sized.false in record { value = simp t; xs_after = simp t; out_after = simp t }
