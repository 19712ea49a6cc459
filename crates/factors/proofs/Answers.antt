-- 14 exactly where the check is missed.
use mathlib.Core.Path.{◌≡◌}
use mathlib.Core.Bool.{true, false}
use mathlib.Core.List.{List}
use lib.Ieee.{Float}
use Rattle.answers.specs.Refusals.{not_accepted}
use Rattle.tensor.specs.Answer.{refused_vector}
use Rattle.factors.specs.Sweeps.{factors_of}
use Rattle.factors.specs.Check.{accepted_of}
use Rattle.factors.specs.PrincipalValues.{principal_of, principal_accepted}
use Rattle.factors.specs.Answers.{refused_factors, factored_of, principals_of}

module _ (f : List (List Float)) where
  pub factors_accepted : accepted_of f (factors_of f) ≡ true → factored_of f ≡ record { refusal = 0; factors = factors_of f }
  unfolding factored_of
  factors_accepted h = simp h

  pub factors_refused : accepted_of f (factors_of f) ≡ false → factored_of f ≡ refused_factors not_accepted
  unfolding factored_of
  factors_refused h = simp h

  pub principals_accepted : principal_accepted f (principal_of f) ≡ true → principals_of f ≡ record { refusal = 0; vector = (principal_of f).values }
  unfolding principals_of
  principals_accepted h = simp h

  pub principals_refused : principal_accepted f (principal_of f) ≡ false → principals_of f ≡ refused_vector not_accepted
  unfolding principals_of
  principals_refused h = simp h
