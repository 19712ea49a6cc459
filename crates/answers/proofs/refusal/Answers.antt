-- `answers::refusal` answers `refusal_of low high a`.
use Rattle.answers.proofs.refusal.Goals as goal

pub returns-then-is_number : goal.returns-then-is_number
returns-then-is_number c =
    let t0 = simp c.is_number.ensures at c.if-is_number.true in
    simp (c.side.ensures, t0)

pub returns-else-is_number : goal.returns-else-is_number
returns-else-is_number c =
    let t0 = simp c.is_number.ensures at c.if-is_number.false in
    simp t0
