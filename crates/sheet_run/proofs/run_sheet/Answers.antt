-- `sheet_run::run_sheet` meets its contract: what its calls ensure, on each path.
use mathlib.Core.Path.{◌≡◌, sym, ◌∙◌}
use Prim.Native.Nat.{◌*◌, ◌/◌}
use native.Mathlib.Omega.{arith}
use lib.Dec.{eqb}
use lib.ListN.{length}
use borrow.Author.Tests.{eq-eqb, ne_eqb, eqb-true}
use Rattle.numbers.proofs.Laws.{and_both}
use Rattle.record.specs.Layout.{floats}
use Rattle.sheet.specs.Sheet.{read_of}
use Rattle.sheet.proofs.Known.{read_known}
use Rattle.sheet_run.proofs.Rooms.{read_fits, room_length}
use Rattle.sheet_run.proofs.run_sheet.Goals as goal

pub returns-then-h-ne0 : goal.returns-then-h-ne0
returns-then-h-ne0 c =
    let r = c.read-h.ensures in
    let t = sym c.well_sized.ensures ∙ c.if-well_sized.true in
    let z = simp r.0 at (ne_eqb _ _ c.if-h-ne0.true) in
    record { value = simp (c.refused.ensures, r.0, t, z); records_after = simp (r.1, t, z); answers_after = simp (t, z) }

pub pass_front-requires : goal.pass_front-requires
pass_front-requires c =
    let a = c.args in
    let r = c.read-h.ensures in
    let t = and_both (eqb (length a.records.now / floats * floats) (length a.records.now)) (eqb (length a.records.now / floats * 2) (length a.answers.now)) (sym c.well_sized.ensures ∙ c.if-well_sized.true) in
    let e : length a.records.now / floats * 2 ≡ length a.answers.now = eqb-true _ _ t.1 in
    let z : (read_of a.s.now (length a.records.now)).refusal ≡ 0 = rw r.0 at c.if-h-ne0.false in
    let f = read_fits a.s.now (length a.records.now) z in
    (rw (r.0, r.1, room_length a.s.now a.records.now) f, rw r.0 (omega arith), rw r.0 (read_known a.s.now (length a.records.now)))

pub returns-then-well_sized : goal.returns-then-well_sized
returns-then-well_sized c =
    let f = c.pass_front.ensures in
    let r = c.read-h.ensures in
    let t = sym c.well_sized.ensures ∙ c.if-well_sized.true in
    let z = simp r.0 at (eq-eqb _ _ c.if-h-ne0.false) in
    record { value = simp (f.value, r.0, r.1, t, z); records_after = simp (f.records_after, r.0, r.1, t, z); answers_after = simp (f.answers_after, r.0, r.1, t, z) }

pub returns : goal.returns
returns c =
    let t = sym c.well_sized.ensures ∙ c.if-well_sized.false in
    record { value = simp (c.refused-2.ensures, t); records_after = simp t; answers_after = simp t }
