-- NACC's friction m of an angle, and `new`, in d axes (RULES, sections 5 and 6; plasticity_nacc.rs).
use Rattle.std.specs.Prelude.{[], ◌∷◌, Float}
use Rattle.std.specs.Float.{binary64}
use Rattle.std.specs.Float.Ieee.{of_bits}
use Rattle.numbers.specs.Constants as constants
use Rattle.answers.specs.declared.Answer.{Answer}
use Rattle.answers.specs.declared.Answer.TheVariants as answers
use Rattle.walk.specs.Expr.{Expr, num, ◌-ᵉ◌, ◌*ᵉ◌, ◌/ᵉ◌}
use Rattle.walk.specs.Constants.{two}
use Rattle.walk.specs.Walk.{Walk, sin, root, inputs, ask, walk_result, answer_as}
use Rattle.walk.specs.Answers.{returned}
use Rattle.plasticity_nacc.specs.declared.Made.{Made}
use Rattle.plasticity_nacc.specs.declared.Made.TheVariants.{Law, Refused}
use Rattle.plasticity_nacc.specs.declared.NaccPlasticity.{NaccPlasticity}

-- the Rust's literals, which are no dimension
abbrev three : Expr
three = num constants.three

abbrev six : Expr
six = num (of_bits binary64 0x4018_0000_0000_0000)

-- root(2/3) 2 sin f / (3 - sin f) d / root(2/(6 - d))
unfoldable pub friction_walk : Float → Float → Walk Float
friction_walk d angle =
    ask 2 sin (num angle) (λ s.
    ask 3 root (two /ᵉ three) (λ r.
    ask 4 root (two /ᵉ (six -ᵉ num d)) (λ q.
    returned 5 (r *ᵉ two *ᵉ s /ᵉ (three -ᵉ s) *ᵉ num d /ᵉ q))))

-- as steps of `new`
abbrev pub friction_steps : Float → Float → Answer
friction_steps d angle = answer_as (walk_result (friction_walk d angle))

-- as a call by itself
unfoldable pub friction_call : Float → Float → Walk Float
friction_call d angle = inputs (d ∷ angle ∷ []) (friction_walk d angle)

abbrev pub friction_of : Float → Float → Answer
friction_of d angle = answer_as (walk_result (friction_call d angle))

-- the law with another friction
unfoldable pub framed_of : NaccPlasticity → Answer → Made
framed_of p (answers.Value m) =
    Law (record {
      mu = p.mu;
      kappa = p.kappa;
      hardening_enabled = p.hardening_enabled;
      hardening_factor = p.hardening_factor;
      cohesion = p.cohesion;
      friction = m;
    })
framed_of p (answers.Refused n) = Refused n

-- `new`: the law that `with_m` makes with the friction angle in m's place; the angle's steps come after the moduli
unfoldable pub angled_of : Float → Made → Made
angled_of d (Law p) = framed_of p (friction_steps d p.friction)
angled_of d (Refused n) = Refused n
