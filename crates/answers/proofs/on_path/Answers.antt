-- `answers::on_path` answers `on_path x e`.
use Rattle.answers.proofs.on_path.Goals as goal

pub returns-then-is_number : goal.returns-then-is_number
returns-then-is_number c =
    let t0 = simp c.is_number.ensures at c.if-is_number.true in
    simp (c.is_number.ensures, t0)

pub returns-else-is_number : goal.returns-else-is_number
returns-else-is_number c =
    let t0 = simp c.is_number.ensures at c.if-is_number.false in
    simp (c.is_number.ensures, t0)
