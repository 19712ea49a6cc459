-- The law of what `new` answers on two axes is the Rust's with d = 2: it is refused where that is, by the same number.
use mathlib.Core.Bool.{Bool, true, false, cond, ◌&&◌}
use mathlib.Core.Path.{◌≡◌, refl}
use Rattle.numbers.specs.Constants.{two}
use Rattle.answers.specs.declared.Answer.{Answer}
use Rattle.answers.specs.declared.Answer.TheVariants as answers
use Rattle.plasticity_nacc.specs.declared.NaccArguments.{NaccArguments}
use Rattle.plasticity_nacc.specs.declared.Made.TheVariants as made
use Rattle.plasticity_nacc.specs.Law as law
use Rattle.plasticity_nacc.specs.Friction as friction
use Rattle.flat_nacc.specs.Angle.{framed_of, entered_of, new_of, as_law}

module _ (a : NaccArguments) where
  framed_law : (x : Answer) → as_law (framed_of a x) ≡ friction.framed_of (law.law_of a) x
  unfolding framed_of friction.framed_of
  framed_law (answers.Value m) = refl
  framed_law (answers.Refused n) = refl

  by_tests : (e m : Bool) → as_law (entered_of a (cond e (cond m (made.Law (law.law_of a)) (made.Refused 3)) (made.Refused 1)))
      ≡ friction.angled_of two (cond e (cond m (made.Law (law.law_of a)) (made.Refused 3)) (made.Refused 1))
  unfolding entered_of friction.angled_of
  by_tests true true = framed_law (friction.friction_steps two a.m)
  by_tests true false = refl
  by_tests false m = refl

  pub new_law : as_law (new_of a) ≡ friction.angled_of two (law.made_of a)
  unfolding law.made_of
  new_law = by_tests (law.elastic_finite a && law.parameters_finite (law.law_of a)) (law.moduli_finite (law.law_of a))
