-- What comes before a solid law's own refusals where it is asked of a record (RULES, section 6; ticket 3: "8 now speaks of 37; 11, stored determinant wrong, after 1"). 1 is over the law's floats and all of the record's.
use Rattle.std.specs.Prelude.{Bool, cond, ◌&&◌, List, ℕ, eqb, length}
use Rattle.answers.specs.Refusals.{not_finite, wrong_length, wrong_determinant}
use Rattle.record.specs.Layout.{floats, record_finite, determinant_right}

-- ok tells whether the law's floats are finite, answer is the law's
unfoldable pub of_record : {A : Type 0} → (ℕ → A) → Bool → List ℕ → A → A
of_record refused ok r answer =
    cond (eqb (length r) floats)
    (cond (ok && record_finite r)
    (cond (determinant_right r) answer (refused wrong_determinant))
    (refused not_finite))
    (refused wrong_length)

-- the number alone, 0 where the law is asked
abbrev pub refusal_of : Bool → List ℕ → ℕ
refusal_of ok r = of_record (λ n. n) ok r 0
