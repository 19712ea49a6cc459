-- Arm by arm.
use Rattle.record_why.proofs.listed.words.Goals as goal

pub returns-in-Told : goal.returns-in-Told
returns-in-Told c =
    let t0 = c.in-Told.is in
    simp (c.reason_words.ensures, c.law_of.ensures, t0)

pub returns-in-Parameter : goal.returns-in-Parameter
returns-in-Parameter c =
    let t0 = c.in-Parameter.is in
    simp (t0)

pub returns-in-Record : goal.returns-in-Record
returns-in-Record c =
    let t0 = c.in-Record.is in
    simp (t0)

pub returns-in-Refused : goal.returns-in-Refused
returns-in-Refused c =
    let t0 = c.in-Refused.is in
    simp (t0)
