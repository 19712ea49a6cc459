-- Arm by arm.
use Rattle.record_why.proofs.listed.reason_words.Goals as goal

pub returns-in-Tested : goal.returns-in-Tested
returns-in-Tested c =
    let t0 = c.in-Tested.is in
    simp (c.bits_of-in-Tested.ensures, c.bits_of.ensures, c.branch-law.ensures, c.held_number.ensures, t0)

pub returns-in-Zeros : goal.returns-in-Zeros
returns-in-Zeros c =
    let t0 = c.in-Zeros.is in
    simp (c.bits_of-in-Zeros-3.ensures, c.bits_of-in-Zeros-2.ensures, c.bits_of-in-Zeros.ensures, c.branch-law-in-Zeros.ensures, c.held_number-in-Zeros.ensures, t0)

pub returns-in-Flagged : goal.returns-in-Flagged
returns-in-Flagged c =
    let t0 = c.in-Flagged.is in
    simp (c.branch-law-in-Flagged.ensures, c.held_number-in-Flagged.ensures, t0)

pub returns-in-Clamped : goal.returns-in-Clamped
returns-in-Clamped c =
    let t0 = c.in-Clamped.is in
    simp (c.bound_number-in-Clamped-2.ensures, c.bound_number-in-Clamped.ensures, c.bound_number.ensures, t0)

pub returns-in-Refused : goal.returns-in-Refused
returns-in-Refused c =
    let t0 = c.in-Refused.is in
    simp (t0)
