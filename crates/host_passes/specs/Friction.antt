-- NACC's parameter m of a friction angle, by the number of axes (RULES, sections 5 and 6).
use Rattle.std.specs.Prelude.{cond, ℕ, eqb, Float}
use Rattle.answers.specs.Refusals.{unknown}
use Rattle.answers.specs.declared.Answer.{Answer}
use Rattle.answers.specs.declared.Answer.TheVariants.{Refused}
use Rattle.numbers.specs.Constants.{two, three}
use Rattle.plasticity_nacc.specs.Friction.{friction_of}

-- in two axes or three; of any other number of axes 6
unfoldable pub nacc_friction : ℕ → Float → Answer
nacc_friction axes angle = cond (eqb axes 2) (friction_of two angle) (cond (eqb axes 3) (friction_of three angle) (Refused unknown))
