-- 11 before the law, and then the determinant that it would store.
use mathlib.Core.Path.{sym, ◌∙◌}
use Rattle.record_why.specs.Why.{record_reason}
use Rattle.record_why.proofs.Laws.{right_reason}
use Rattle.record_why.proofs.finite_reason.Goals as goal

pub returns-then-determinant_right : goal.returns-then-determinant_right
returns-then-determinant_right c =
    let t = sym c.determinant_right.ensures ∙ c.if-determinant_right.true in
    c.reason_with.ensures
    ∙ (simp (c.record_number.ensures, c.reason_of-q.ensures, c.read_vt.ensures, c.read_u.ensures, c.read_state-s.ensures))
    ∙ right_reason c.args.m c.args.r.now c.requires.1 t

pub returns-else-determinant_right : goal.returns-else-determinant_right
unfolding record_reason
returns-else-determinant_right c = let t = sym c.determinant_right.ensures ∙ c.if-determinant_right.false in simp t
