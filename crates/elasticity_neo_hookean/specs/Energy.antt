-- The neo-Hookean law's energies (RULES, section 5: "`elastic_energy_density` below j = 1 makes the *volumetric* part tensile; `pos_energy` from j = 1 up multiplies by phase and not by `phase_coeff`"), and the first
-- one's second mode (ticket 14: "below j = 1 the deviatoric part is tensile, from j = 1 up both are, and `phase_coeff` multiplies the tensile part at every j").
use Rattle.std.specs.Prelude.{Bool, false, cond, List, [], ◌∷◌, Float}
use Rattle.answers.specs.declared.Answer.{Answer}
use Rattle.tensor.specs.Matrix as tensor
use Rattle.walk.specs.Expr.{Expr, num, ◌+ᵉ◌, ◌-ᵉ◌, ◌*ᵉ◌, ◌/ᵉ◌}
use Rattle.walk.specs.Walk.{Walk, ln, minus_third, minus_two_thirds, less, at_most, inputs, ask, work, split, end, ◌then◌, walk_result, answer_as}
use Rattle.walk.specs.Tensor.{one, rows, turned, times, scaled, determinant}
use Rattle.decomposed.specs.Formulas.{trace}
use Rattle.walk.specs.Power.{power}
use Rattle.walk.specs.Answers.{matrix, returned}
use Rattle.elasticity_neo_hookean.specs.Law.{two, dim, floats, coefficient, bulk, cauchy_green}
use Rattle.elasticity_neo_hookean.specs.declared.NeoHookeanElasticity.{NeoHookeanElasticity}

-- p is the law, h the elastic hardening, d the determinant of F, worked or stored (ticket 3), j its number, k the bulk modulus times h, l the logarithm of j.

-- both energies: q is the square of j
abbrev pub volumetric_energy : Expr → Expr → Expr → Expr
volumetric_energy k q l = k /ᵉ two *ᵉ ((q -ᵉ one) /ᵉ two -ᵉ l)

-- ---- elastic_energy_density: here 2/3 multiplies mu h
abbrev pub kappa : NeoHookeanElasticity → Float → Expr
kappa p h = two /ᵉ dim *ᵉ (num p.mu *ᵉ num h) +ᵉ num p.lambda *ᵉ num h

-- A^T A, where A is F times w, the power -1/3 of j
abbrev pub stretch : Expr → List (List Float) → List (List Expr)
stretch w f = times (turned (scaled w (rows f))) (scaled w (rows f))

abbrev pub deviatoric_energy : NeoHookeanElasticity → Float → List (List Float) → Expr
deviatoric_energy p h s = num p.mu *ᵉ num h /ᵉ two *ᵉ (trace (rows s) -ᵉ dim)

-- j and the two parts: all that the split takes, the same in both modes
pub record Parts : Type 0 where
  pub j : Expr
  pub deviatoric : Expr
  pub volumetric : Expr

unfoldable pub parts_from : NeoHookeanElasticity → Float → List (List Float) → Expr → Walk Parts
parts_from p h f d =
    work 1 (kappa p h) (λ k.
    work 2 d (λ j.
    ask 3 minus_third j (λ w.
    matrix 4 (stretch w f) (λ s.
    ask 5 ln j (λ l.
    end (record { j = j; deviatoric = deviatoric_energy p h s; volumetric = volumetric_energy k (power j 2) l }))))))

unfoldable pub parts_walk : NeoHookeanElasticity → Float → List (List Float) → Walk Parts
parts_walk p h f = parts_from p h f (determinant f)

-- below j = 1 the tensile part is the volumetric one, with one split for stress and energy the deviatoric one; c is the phase's coefficient
abbrev pub below : Bool → Expr → Expr → Expr → Expr
below one_split c dev vol = cond one_split (c *ᵉ dev +ᵉ vol) (c *ᵉ vol +ᵉ dev)

-- from j = 1 up both parts are tensile, and 0 is added
abbrev pub sum_walk : Bool → Expr → Parts → Walk Float
sum_walk one_split c q =
    let dev = q.deviatoric in
    let vol = q.volumetric in
    split 6 (at_most one q.j) (returned 7 (c *ᵉ (vol +ᵉ dev) +ᵉ num tensor.zero)) (returned 7 (below one_split c dev vol))

unfoldable pub energy_from : Bool → NeoHookeanElasticity → Float → Float → List (List Float) → Expr → Walk Float
energy_from one_split p phase h f d = parts_from p h f d then sum_walk one_split (coefficient phase)

unfoldable pub energy_steps : Bool → NeoHookeanElasticity → Float → Float → List (List Float) → Walk Float
energy_steps one_split p phase h f = parts_walk p h f then sum_walk one_split (coefficient phase)

unfoldable pub energy_walk_in : Bool → NeoHookeanElasticity → Float → Float → List (List Float) → Walk Float
energy_walk_in one_split p phase h f = inputs (floats p (phase ∷ h ∷ []) f) (energy_steps one_split p phase h f)

abbrev pub elastic_energy_density_in : Bool → NeoHookeanElasticity → Float → Float → List (List Float) → Answer
elastic_energy_density_in one_split p phase h f = answer_as (walk_result (energy_walk_in one_split p phase h f))

-- the Rust's mode
abbrev pub energy_walk : NeoHookeanElasticity → Float → Float → List (List Float) → Walk Float
energy_walk p phase h f = energy_walk_in false p phase h f

abbrev pub elastic_energy_density : NeoHookeanElasticity → Float → Float → List (List Float) → Answer
elastic_energy_density p phase h f = answer_as (walk_result (energy_walk p phase h f))

-- ---- pos_energy: here h multiplies mu; b is F F^T, w the power -2/3 of j
abbrev pub pos_deviatoric : NeoHookeanElasticity → Float → Expr → List (List Float) → Expr
pos_deviatoric p h w b = num h *ᵉ num p.mu /ᵉ two *ᵉ (trace (rows b) *ᵉ w -ᵉ dim)

abbrev pub pos_sum : Float → Expr → Expr → Expr → Walk Float
pos_sum phase j dev vol = split 7 (less j one) (returned 8 (dev *ᵉ coefficient phase)) (returned 8 ((dev +ᵉ vol) *ᵉ num phase))

-- below j = 1 the volumetric part is worked and not used: its NaN is met all the same
unfoldable pub pos_from : NeoHookeanElasticity → Float → Float → List (List Float) → Expr → Walk Float
pos_from p phase h f d =
    work 1 d (λ j.
    work 2 (bulk p h) (λ k.
    matrix 3 (cauchy_green f) (λ b.
    ask 4 minus_two_thirds j (λ w.
    ask 5 ln j (λ l.
    work 6 (volumetric_energy k (j *ᵉ j) l) (λ vol.
    pos_sum phase j (pos_deviatoric p h w b) vol))))))

unfoldable pub pos_steps : NeoHookeanElasticity → Float → Float → List (List Float) → Walk Float
pos_steps p phase h f = pos_from p phase h f (determinant f)

unfoldable pub pos_walk : NeoHookeanElasticity → Float → Float → List (List Float) → Walk Float
pos_walk p phase h f = inputs (floats p (phase ∷ h ∷ []) f) (pos_steps p phase h f)

abbrev pub pos_energy : NeoHookeanElasticity → Float → Float → List (List Float) → Answer
pos_energy p phase h f = answer_as (walk_result (pos_walk p phase h f))
