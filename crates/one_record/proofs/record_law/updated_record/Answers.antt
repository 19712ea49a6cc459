-- `model::record_law::updated_record` meets its contract: 11 before the law, and then its determinant.
use mathlib.Core.Path.{◌≡◌, ap, ◌∙◌}
use mathlib.Core.Bool.{true}
use Rattle.plasticity.specs.State.{inputs_finite}
use borrow.Author.Tests.{eq-eqb, ne_eqb}
use Rattle.record.specs.Layout.{determinant_at, determinant_right}
use Rattle.record.proofs.Parts.{record_inputs}
use Rattle.model.proofs.StoredFinite.{stored_finite}
use Rattle.one_record.specs.declared.record_law.Left.{Left}
use Rattle.one_record.specs.ReadyRecord.{ready_at}
use Rattle.one_record.proofs.record_law.updated_record.Goals as goal

pub update_ready-requires : goal.update_ready-requires
update_ready-requires c = (
  c.requires.2,
  rw (c.read_state-s.ensures, c.read_vt.ensures, c.read_u.ensures) (record_inputs c.args.r.now c.requires.1),
)

pub measured-requires : goal.measured-requires
measured-requires c a e =
    let u = c.read_u.result in
    let vt = c.read_vt.result in
    let st = c.read_state-s.result in
    let i : inputs_finite u vt st ≡ true = rw (c.read_state-s.ensures, c.read_vt.ensures, c.read_u.ensures) (record_inputs c.args.r.now c.requires.1) in
    let q = c.update_ready.ensures in
    rw q (stored_finite u vt st i a c.args.q (rw q at e)).0

pub returns-then-r-determinant_with : goal.returns-then-r-determinant_with
unfolding ready_at determinant_right determinant_at
returns-then-r-determinant_with c =
    let r = c.args.r.now in
    let st = c.read_state-s.ensures in
    let d = c.determinant_with.ensures.0 in
    let t = simp (d, st) at c.if-r-determinant_with.true in
    let e = c.measured.ensures in record {
      updated = e.updated r c.requires.0 c.requires.1
          ∙ simp (c.update_ready.ensures, c.read_vt.ensures, c.read_u.ensures, st, eq-eqb _ _ t);
      determinant = e.determinant r c.requires.0;
    }

pub returns-else-r-determinant_with : goal.returns-else-r-determinant_with
unfolding ready_at determinant_right determinant_at
returns-else-r-determinant_with c =
    let r = c.args.r.now in
    let st = c.read_state-s.ensures in
    let d = c.determinant_with.ensures.0 in
    let t = simp (d, st) at c.if-r-determinant_with.false in
    let u = c.unstored.ensures in
    let n = c.wrong.ensures in record { updated = ap (λ (x : Left). x.updated) u ∙ n ∙ simp (st, ne_eqb _ _ t); determinant = rw (u, n) tt }
