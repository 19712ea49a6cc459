-- Why a walk ends as it does, worked step by step as the code works it: r is the last test's so far.
use Rattle.std.specs.Prelude.{Bool, ℕ}
use Rattle.walk.specs.Expr.{values}
use Rattle.walk.specs.Walk.{Test, compared, Walk, answer_of, read}
use Rattle.reason.specs.declared.Reason.{Reason}
use Rattle.reason.specs.declared.Reason.TheVariants.{Refused}
use Rattle.reason.specs.Reason.{compared_as}

-- a test of section 5's branches takes the place of the one before it
abbrev pub tells_test : Reason → ℕ → Test → Bool → Reason
tells_test r n t held = compared_as n held (values (compared t))

-- by what is made of the last test and of the walk's end
abbrev pub why_by : {A : Type 0} → (Reason → A → Reason) → Reason → Walk A → Reason
why_by ends r w = read answer_of Refused tells_test ends r w

abbrev pub why : {A : Type 0} → Reason → Walk A → Reason
why r w = why_by (λ q a. q) r w
