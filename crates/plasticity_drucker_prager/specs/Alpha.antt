-- The slope of the Drucker-Prager cone at a hardening q (plasticity_drucker_prager.rs, `alpha`; RULES, sections 5 and 6).
use Rattle.std.specs.Prelude.{[], ◌∷◌, ◌++◌, Float}
use Rattle.numbers.specs.Constants as constants
use Rattle.answers.specs.declared.Answer.{Answer}
use Rattle.walk.specs.Expr.{Expr, num, neg, ◌+ᵉ◌, ◌-ᵉ◌, ◌*ᵉ◌, ◌/ᵉ◌, value}
pub use Rattle.walk.specs.Constants.{two}
use Rattle.walk.specs.Walk.{Walk, exp, sin, root, inputs, ask, work, results, end, ◌then◌, walk_result, answer_as}
use Rattle.plasticity_drucker_prager.specs.declared.DruckerPragerPlasticity.{DruckerPragerPlasticity}
use Rattle.plasticity_drucker_prager.specs.Law as law
use Rattle.plasticity_drucker_prager.specs.Law.{parameters_of}

-- the Rust's literal
abbrev three : Expr
three = num constants.three

-- three, the number of axes here
abbrev pub dim : Expr
dim = num law.dim

-- as steps of the law
unfoldable pub alpha_walk : DruckerPragerPlasticity → Float → Walk Float
alpha_walk p hardening =
    let q = num hardening in
    ask 2 exp (neg (num p.h2) *ᵉ q) (λ e.
    ask 3 sin (num p.h0 +ᵉ (num p.h1 *ᵉ q -ᵉ num p.h3) *ᵉ e) (λ s.
    ask 4 root (two /ᵉ three) (λ r.
    work 5 (r *ᵉ (two *ᵉ s) /ᵉ (three -ᵉ s)) (λ a.
    end (value a)))))

-- as a call by itself
unfoldable pub alpha_call : DruckerPragerPlasticity → Float → Walk Float
alpha_call p q = inputs (parameters_of p ++ (q ∷ [])) (alpha_walk p q then (λ a. results 19 ((num a ∷ []) ∷ []) (end a)))

abbrev pub alpha_of : DruckerPragerPlasticity → Float → Answer
alpha_of p q = answer_as (walk_result (alpha_call p q))
