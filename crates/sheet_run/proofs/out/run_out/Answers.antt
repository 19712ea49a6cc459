-- `sheet_run::out::run_out` meets its contract: the run's refusal, or the sheet of its header and of the records that it left.
use mathlib.Core.Path.{◌≡◌}
use borrow.Author.Tests.{eq-eqb, ne_eqb}
use Rattle.sheet_run.specs.Run.{ran_of}
use Rattle.sheet_run.proofs.Fits.{records_fit, header_read, parameters_fit, ran_length}
use Rattle.sheet_run.proofs.out.run_out.Goals as goal

pub returns-then-ran-ne0 : goal.returns-then-ran-ne0
returns-then-ran-ne0 c =
    let r = c.run_sheet-ran.ensures in
    let z = simp r.value at (ne_eqb _ _ c.if-ran-ne0.true) in
    record { value = simp (r.value, z); room_after = simp z; records_after = r.records_after; answers_after = r.answers_after }

pub write_front-requires : goal.write_front-requires
write_front-requires c =
    let a = c.args in
    let r = c.run_sheet-ran.ensures in
    let h = c.header-h.ensures in
    let z : (ran_of a.s.now a.records.now a.answers.now).refusal ≡ 0 = rw r.value at c.if-ran-ne0.false in
    let l = ran_length a.s.now a.records.now a.answers.now z in (
      rw (h, r.records_after, l) (records_fit a.s.now a.records.now a.answers.now z),
      rw h (parameters_fit a.s.now (header_read a.s.now a.records.now a.answers.now z)),
    )

pub returns : goal.returns
returns c =
    let f = c.write_front.ensures in
    let h = c.header-h.ensures in
    let r = c.run_sheet-ran.ensures in
    let z = simp r.value at (eq-eqb _ _ c.if-ran-ne0.false) in
    record {
      value = simp (f.value, h, r.records_after, z);
      room_after = simp (f.room_after, h, r.records_after, z);
      records_after = r.records_after;
      answers_after = r.answers_after;
    }
