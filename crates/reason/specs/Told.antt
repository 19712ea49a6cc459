-- The number that refuses, of a reason and of an outcome.
use Rattle.std.specs.Prelude.{ℕ}
use Rattle.plasticity.specs.declared.Outcome.{Outcome}
use Rattle.plasticity.specs.declared.Outcome.TheVariants as outcome
use Rattle.reason.specs.declared.Reason.{Reason}
use Rattle.reason.specs.declared.Reason.TheVariants.{Tested, Zeros, Flagged, Clamped, Refused}

-- the refusal's number, 0 where there is none
abbrev pub reason_number : Reason → ℕ
reason_number (Tested t h a b) = 0
reason_number (Zeros t h a b c) = 0
reason_number (Flagged t h) = 0
reason_number (Clamped a b c) = 0
reason_number (Refused n k) = n

abbrev pub outcome_number : Outcome → ℕ
outcome_number outcome.Untouched = 0
outcome_number (outcome.Stored a) = 0
outcome_number (outcome.Refused n) = n
