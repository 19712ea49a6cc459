-- NACC made by a friction angle on two axes (RULES, section 5; plasticity_nacc.rs, `new` with DIM = 2): the arguments of `with_m` with the angle's m.
use Rattle.std.specs.Prelude.{Float}
use Rattle.numbers.specs.Constants.{two}
use Rattle.answers.specs.declared.Answer.{Answer}
use Rattle.answers.specs.declared.Answer.TheVariants as answers
use Rattle.plasticity_nacc.specs.declared.NaccArguments.{NaccArguments}
use Rattle.plasticity_nacc.specs.declared.Made.{Made}
use Rattle.plasticity_nacc.specs.declared.Made.TheVariants as made
use Rattle.plasticity_nacc.specs.Law.{arguments_of, law_of, made_of}
use Rattle.plasticity_nacc.specs.Friction.{friction_steps}
use Rattle.flat_nacc.specs.declared.Angled.{Angled}
use Rattle.flat_nacc.specs.declared.Angled.TheVariants.{Arguments, Refused}

unfoldable pub framed_of : NaccArguments → Answer → Angled
framed_of a (answers.Value m) =
    Arguments (arguments_of a.young_modulus a.poisson_ratio a.cohesion a.hardening_enabled a.hardening_factor m)
framed_of a (answers.Refused n) = Refused n

-- once `with_m` has taken the angle in m's place: 1, then 3 for a modulus, then the angle's steps
unfoldable pub entered_of : NaccArguments → Made → Angled
entered_of a (made.Law p) = framed_of a (friction_steps two a.m)
entered_of a (made.Refused n) = Refused n

abbrev pub new_of : NaccArguments → Angled
new_of a = entered_of a (made_of a)

-- the law that the update makes of what `new` answers
abbrev pub as_law : Angled → Made
as_law (Arguments a) = made.Law (law_of a)
as_law (Refused n) = made.Refused n
