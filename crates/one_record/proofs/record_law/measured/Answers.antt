-- `model::record_law::measured` meets its contract: by the outcome, and by the determinant that would be stored.
use mathlib.Core.Path.{sym, ◌∙◌}
use native.Mathlib.Omega.{arith}
use Rattle.one_record.proofs.RecordLaws.{last_finite, bare_determinant, shape_last}
use Rattle.one_record.proofs.record_law.measured.Goals as goal

pub returns-in-Untouched : goal.returns-in-Untouched
returns-in-Untouched c = let u = c.unstored.ensures in let t = c.in-Untouched.is in record { updated = λ r k f. simp (u, t, last_finite r f); determinant = λ r k. rw (u, t) tt }

pub returns-then-word_finite : goal.returns-then-word_finite
returns-then-word_finite c =
    let s = c.args.d.state in
    let t = c.in-Stored.is in
    let f = sym c.word_finite.ensures ∙ c.if-word_finite.true in record { updated = λ r k q. let d = c.determinant_with-w.ensures.1 r (omega arith) in simp (t, shape_last r s k, ← d, f); determinant = λ r k. rw t (c.determinant_with-w.ensures.1 r (omega arith) ∙ sym (bare_determinant r s), c.requires _ t) }

pub returns-else-word_finite : goal.returns-else-word_finite
returns-else-word_finite c =
    let s = c.args.d.state in
    let u = c.unstored-else-word_finite.ensures in
    let f = sym c.word_finite.ensures ∙ c.if-word_finite.false in record { updated = λ r k q. let d = c.determinant_with-w.ensures.1 r (omega arith) in simp (u, c.in-Stored.is, shape_last r s k, ← d, f); determinant = λ r k. rw u tt }

pub returns-in-Refused : goal.returns-in-Refused
returns-in-Refused c = let u = c.unstored-in-Refused.ensures in let t = c.in-Refused.is in record { updated = λ r k f. simp (u, t, last_finite r f); determinant = λ r k. rw (u, t) tt }
