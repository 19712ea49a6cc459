-- Our own factors (ticket 6; RULES, section 7): U, sigma and V^T worked out from F, by themselves or before a step.
use Rattle.std.specs.Prelude.{Bool, false, cond, List, ℕ, eqb, length}
use Rattle.answers.specs.Refusals.{not_finite, wrong_length, wrong_determinant}
use Rattle.tensor.specs.Matrix.{zero}
use Rattle.plasticity.specs.declared.Outcome.{Outcome}
use Rattle.plasticity.specs.declared.Outcome.TheVariants.{Untouched, Stored, Refused}
use Rattle.record.specs.Layout.{floats, place_f, place_u, place_sigma, place_vt, mat_at, record_finite, determinant_right, put_row, put_rows}
use Rattle.factors.specs.declared.Factors.{Factors}
use Rattle.factors.specs.declared.FactorsAnswer.{FactorsAnswer}
use Rattle.factors.specs.Answers.{factored_of}
use Rattle.particles.specs.Pass.{Worked}
use Rattle.one_record.specs.Judged.{refused_record}

-- of the F that stands in a record
abbrev pub factors_at : List ℕ → FactorsAnswer
factors_at r = factored_of (mat_at r place_f)

-- "On acceptance only U, sigma and V^T are written"
abbrev pub put_factors : List ℕ → Factors → List ℕ
put_factors r x = put_rows (put_row (put_rows r place_u x.u) place_sigma x.sigma) place_vt x.vt

unfoldable pub with_factors : List ℕ → List ℕ
with_factors r = put_factors r (factors_at r).factors

-- 1 over all the record's floats, also those about to be overwritten, then 11, then 14; 0 where the factors are accepted
unfoldable pub factor_refusal : List ℕ → ℕ
factor_refusal r = cond (record_finite r) (cond (determinant_right r) (factors_at r).refusal wrong_determinant) not_finite

-- by themselves: stored, with the amount 0.0
unfoldable pub factor_law : List ℕ → Worked
factor_law r =
    cond (eqb (factor_refusal r) 0)
    (record { outcome = Stored zero; failed = false; after = with_factors r })
    (refused_record (factor_refusal r) r)

-- one record by itself: 8 where the list is no record
abbrev pub factor_outcome : List ℕ → Outcome
factor_outcome r = cond (eqb (length r) floats) (factor_law r).outcome (Refused wrong_length)

abbrev pub factor_after : List ℕ → List ℕ
factor_after r = cond (eqb (length r) floats) (factor_law r).after r

-- a step that refuses leaves the record with all its bits, the factors that it had too
abbrev pub held_by : Outcome → List ℕ → List ℕ → List ℕ
held_by Untouched old new = new
held_by (Stored a) old new = new
held_by (Refused n) old new = old

abbrev pub or_as_it_came : List ℕ → Worked → Worked
or_as_it_came r w = record { outcome = w.outcome; failed = w.failed; after = held_by w.outcome r w.after }

-- before a step, whose own inputs are finite or not: that step on the record with these factors
unfoldable pub factored_law : Bool → (List ℕ → Worked) → List ℕ → Worked
factored_law inputs step r =
    cond inputs
    (cond (eqb (factor_refusal r) 0) (or_as_it_came r (step (with_factors r))) (refused_record (factor_refusal r) r))
    (refused_record not_finite r)
