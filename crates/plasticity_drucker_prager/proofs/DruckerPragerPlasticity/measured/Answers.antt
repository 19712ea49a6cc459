-- `plasticity_drucker_prager::DruckerPragerPlasticity::measured` answers `measured_of self prev grown dq x`.
use Rattle.walk.proofs.Expr.{zero_number}
use Rattle.plasticity_drucker_prager.specs.DruckerPrager.{measured_of}
use Rattle.plasticity_drucker_prager.proofs.DruckerPragerPlasticity.measured.Goals as goal

pub returns-in-Value-ln_on_path : goal.returns-in-Value-ln_on_path
unfolding measured_of
returns-in-Value-ln_on_path c =
    let t4 = simp c.is_number.ensures at c.if-is_number.true in
    let t3 = simp (c.is_number-then-is_number.ensures, c.corrected-new.ensures) at c.if-is_number-2.true in
    let t2 = simp (c.is_number-then-is_number-2.ensures, c.corrected-new.ensures) at c.if-is_number-3.true in
    let t1 = simp c.ln_on_path.ensures at c.in-Value.is in
    let t0 = simp (c.ln_on_path-in-Value.ensures, c.corrected-new.ensures, t3) at c.in-Value-ln_on_path.is in
    simp (c.corrected-new.ensures, t4, t3, t2, t1, t0, zero_number)

pub returns-in-Refused-ln_on_path : goal.returns-in-Refused-ln_on_path
unfolding measured_of
returns-in-Refused-ln_on_path c =
    let t4 = simp c.is_number.ensures at c.if-is_number.true in
    let t3 = simp (c.is_number-then-is_number.ensures, c.corrected-new.ensures) at c.if-is_number-2.true in
    let t2 = simp (c.is_number-then-is_number-2.ensures, c.corrected-new.ensures) at c.if-is_number-3.true in
    let t1 = simp c.ln_on_path.ensures at c.in-Value.is in
    let t0 = simp (c.ln_on_path-in-Value.ensures, c.corrected-new.ensures, t3) at c.in-Refused-ln_on_path.is in
    simp (t4, t3, t2, t1, t0, zero_number)

pub returns-in-Refused : goal.returns-in-Refused
unfolding measured_of
returns-in-Refused c =
    let t3 = simp c.is_number.ensures at c.if-is_number.true in
    let t2 = simp (c.is_number-then-is_number.ensures, c.corrected-new.ensures) at c.if-is_number-2.true in
    let t1 = simp (c.is_number-then-is_number-2.ensures, c.corrected-new.ensures) at c.if-is_number-3.true in
    let t0 = simp c.ln_on_path.ensures at c.in-Refused.is in
    simp (t3, t2, t1, t0, zero_number)

pub returns-else-is_number-3 : goal.returns-else-is_number-3
unfolding measured_of
returns-else-is_number-3 c =
    let t2 = simp c.is_number.ensures at c.if-is_number.true in
    let t1 = simp (c.is_number-then-is_number.ensures, c.corrected-new.ensures) at c.if-is_number-2.true in
    let t0 = simp (c.is_number-then-is_number-2.ensures, c.corrected-new.ensures) at c.if-is_number-3.false in
    simp (t2, t1, t0, zero_number)

pub returns-else-is_number-2 : goal.returns-else-is_number-2
unfolding measured_of
returns-else-is_number-2 c =
    let t1 = simp c.is_number.ensures at c.if-is_number.true in
    let t0 = simp (c.is_number-then-is_number.ensures, c.corrected-new.ensures) at c.if-is_number-2.false in
    simp (t1, t0, zero_number)

pub returns-else-is_number : goal.returns-else-is_number
unfolding measured_of
returns-else-is_number c =
    let t0 = simp c.is_number.ensures at c.if-is_number.false in
    simp (t0, zero_number)
