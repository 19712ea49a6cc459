-- What a walk answers with the step that refused (RULES, section 6; ticket 8): what the code of a law is held to inside.
use Rattle.std.specs.Prelude.{ℕ, Float}
use Rattle.walk.specs.Walk.{Walk, Ended, given, refused, answer_of, read, unnoted}
use Rattle.reason.specs.declared.Number.{Number}
use Rattle.reason.specs.declared.Number.TheVariants as number

-- where it ends, or the refusal's number and its step
pub data Traced (A : Type 0) : Type 0 where
  reached : A → Traced A
  stopped : ℕ → ℕ → Traced A

-- as `result`, each refusal with its step
abbrev pub traced : {A : Type 0} → Walk A → Traced A
traced w = read answer_of stopped unnoted (λ r a. reached a) tt w

-- without the step, and a refusal that came without one
abbrev pub untraced : {A : Type 0} → Traced A → Ended A
untraced (reached a) = given a
untraced (stopped m n) = refused m

abbrev pub stepless : {A : Type 0} → Ended A → Traced A
stepless (given a) = reached a
stepless (refused m) = stopped m 0

abbrev pub number_as : Traced Float → Number
number_as (reached x) = number.Value x
number_as (stopped m n) = number.Refused m n

-- one after the other
abbrev pub onwards : {A B : Type 0} → Traced A → (A → Traced B) → Traced B
onwards (reached a) k = k a
onwards (stopped m n) k = stopped m n

-- by what is made of its end, or of the refusal and its step
abbrev pub follow : {A B : Type 0} → (ℕ → ℕ → B) → (A → B) → Traced A → B
follow stop k (reached a) = k a
follow stop k (stopped m n) = stop m n
