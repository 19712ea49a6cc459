-- The NACC projection (RULES, sections 5 and 6; plasticity_nacc.rs, `project_deformation_gradient`): its steps over however many axes, and in three axes F
-- recomposed, as a call by itself.
use Rattle.std.specs.Prelude.{Bool, cond, List, [], ◌∷◌, ◌++◌, ℕ, eqb, get_or, Float}
use Rattle.std.specs.Float.{nan}
use Rattle.tensor.specs.Matrix as tensor
use Rattle.tensor.specs.Matrix.{recompose_of, rows_of}
use Rattle.tensor.specs.Answer.{zero_row, zero_rows}
use Rattle.tensor.specs.declared.Rows.{Rows}
use Rattle.plasticity.specs.declared.Outcome.{Outcome}
use Rattle.plasticity.specs.declared.Outcome.TheVariants as outcome
use Rattle.walk.specs.Expr.{Expr, num, neg, ◌+ᵉ◌, ◌-ᵉ◌, ◌*ᵉ◌, ◌/ᵉ◌, value, values, nums}
use Rattle.walk.specs.Walk.{Walk, Test, ln, root, sinh, less, flag, inputs, ask, asks, work, works, most, size, branch, split, when, results, end, ◌then◌, Ended}
use Rattle.walk.specs.Matrix.{product, joined}
use Rattle.walk.specs.Update.{recomposed}
use Rattle.reason.specs.Traced.{Traced, reached, stopped, stepless}
use Rattle.plasticity_nacc.specs.declared.Branch.{Branch}
use Rattle.plasticity_nacc.specs.declared.Branch.TheVariants.{Upper, Lower, Inside, Surface, Refused}
use Rattle.plasticity_nacc.specs.declared.NaccPlasticity.{NaccPlasticity}
use Rattle.plasticity_nacc.specs.declared.Projected.{Projected}
use Rattle.plasticity_nacc.specs.declared.Results.{Results}
use Rattle.plasticity_nacc.specs.declared.Trial.{Trial}
use Rattle.plasticity_nacc.specs.Law.{parameters_of}
use Rattle.plasticity_nacc.specs.Axes.{Axes, three_axes, dim_of, alike, inverse, rooted, squared}
use Rattle.plasticity_nacc.specs.Formulas as of
use Rattle.plasticity_nacc.specs.Formulas.{zero, small, trial_of}

-- ---- where it ends: the branch with the two numbers last compared, sigma and alpha
pub data Way : Type 0 where
  upper : Float → Float → Way
  lower : Float → Float → Way
  inside : Float → Float → Way
  surface : Float → Float → Way

-- the branch's number (docs/STEPS.md), by the test that chose it and whether that held: untouched, the upper tip, the lower tip, the surface
abbrev pub branch_number : ℕ → Bool → ℕ
branch_number test held = cond (eqb test 7) 1 (cond (eqb test 8) 2 (cond held 0 3))

abbrev pub way_number : Way → ℕ
way_number (upper x y) = 1
way_number (lower x y) = 2
way_number (inside x y) = 0
way_number (surface x y) = 3

pub record Shape : Type 0 where
  pub sigma : List Float
  pub alpha : Float

pub record Landed : Type 0 where
  pub way : Way
  pub shape : Shape

-- ---- a tip, whose volume is x: the root for each axis, then alpha raised by the logarithm of j / x where hardening is enabled
unfoldable pub raise_walk : NaccPlasticity → Expr → Float → Float → Walk Float
raise_walk p x j alpha = split 12 (flag p.hardening_enabled) (ask 12 ln (num j /ᵉ x) (λ l. end (value (num alpha +ᵉ l)))) (end alpha)

unfoldable pub tip_walk : Axes → NaccPlasticity → Expr → Float → Float → Walk Shape
tip_walk axes p x j alpha =
    rooted axes 11 x (λ e. raise_walk p x j alpha then (λ a. end (record { sigma = alike axes (value e); alpha = a })))

-- ---- the hardening step: the new alpha
-- at the crossing's pressure x: the volume there, above 1e-4 the logarithm of j over it
unfoldable pub grow_walk : NaccPlasticity → Expr → Float → Float → Walk Float
grow_walk p x j alpha =
    work 22 (of.volume_square p x) (λ v.
    size 22 v (λ v.
    ask 22 root v (λ x.
    split 23 (less small x) (ask 23 ln (num j /ᵉ x) (λ l. end (value (num alpha +ᵉ l)))) (end alpha))))

-- along the direction (d0, d1) from the centre c: both crossings, and the one on the trial state's side
unfoldable pub cross_walk : NaccPlasticity → Trial → Expr → Float → Float → Float → Walk Float
cross_walk p t c d0 d1 alpha =
    let a = of.quadratic p (num d0) (num d1) in
    let b = of.linear p c (num t.p0) (num d0) in
    ask 19 root (of.discriminant a b (of.constant p c (num t.p0))) (λ r.
    works 20 (of.crossing c (neg b +ᵉ r) a (num d0) ∷ of.crossing c (neg b -ᵉ r) a (num d0) ∷ []) (λ l.
    let p1 = num (get_or l 0 nan) in
    let p2 = num (get_or l 1 nan) in
    split 21 (less zero ((num t.p -ᵉ c) *ᵉ (p1 -ᵉ c))) (grow_walk p p1 t.j alpha) (grow_walk p p2 t.j alpha)))

-- the direction of (p_c - p_tr, 0 - q_tr), with q_tr = root((6 - d)/2) |s_tr|
unfoldable pub harden_walk : Expr → NaccPlasticity → Trial → Float → Walk Float
harden_walk d p t alpha =
    work 14 (of.centre p (num t.p0)) (λ c.
    ask 15 root (of.half d) (λ a.
    ask 16 root (num t.squares) (λ b.
    let x = c -ᵉ num t.p in
    let y = zero -ᵉ a *ᵉ b in
    ask 17 root (x *ᵉ x +ᵉ y *ᵉ y) (λ n.
    works 18 (x /ᵉ n ∷ y /ᵉ n ∷ []) (λ l. cross_walk p t c (get_or l 0 nan) (get_or l 1 nan) alpha)))))

-- "the four-condition hardening step first": none of these tests is a branch of section 5
abbrev pub conditions : NaccPlasticity → Trial → List Test
conditions p t =
    flag p.hardening_enabled ∷ less small (num t.p0) ∷ less (num t.p) (num t.p0 -ᵉ small) ∷ less (of.low p (num t.p0) +ᵉ small) (num t.p) ∷ []

unfoldable pub hardened_walk : Expr → NaccPlasticity → Trial → Float → Walk Float
hardened_walk d p t alpha = when 13 (conditions p t) (harden_walk d p t alpha) (end alpha)

-- ---- the surface
unfoldable pub roots_walk : List Float → Float → Walk Shape
roots_walk e alpha = asks 29 root e (λ sigma. end (record { sigma = sigma; alpha = alpha }))

-- k = root(-y1 / y0) (j^(2/d) / mu), then k s_tr / |s_tr| + mean
unfoldable pub land_walk : Axes → NaccPlasticity → Trial → List Float → Float → Walk Shape
land_walk axes p t s alpha =
    ask 24 root (of.ratio (dim_of axes) p t) (λ r.
    squared axes 25 (num t.j) (λ w.
    work 26 (of.scale p r w) (λ k.
    ask 27 root (num t.squares) (λ norm.
    works 28 (of.spread k s norm t.mean) (λ e. roots_walk e alpha)))))

unfoldable pub surface_walk : Axes → NaccPlasticity → Trial → List Float → Float → Walk Shape
surface_walk axes p t s alpha = hardened_walk (dim_of axes) p t alpha then (λ a. land_walk axes p t s a)

-- ---- the branches: "p_tr > p0: upper tip. p_tr < -beta p0: lower tip. y < 1e-4: untouched .. Else the surface"
abbrev pub ends : Way → Shape → Walk Landed
ends w q = end (record { way = w; shape = q })

unfoldable pub yield_walk : Axes → NaccPlasticity → Trial → List Float → List Float → Float → Walk Landed
yield_walk axes p t s sigma alpha =
    work 9 (of.y (dim_of axes) p t) (λ y.
    branch 9 (less y small) (ends (inside (value y) (value small)) (record { sigma = sigma; alpha = alpha }))
    (surface_walk axes p t s alpha then ends (surface (value y) (value small))))

unfoldable pub lower_walk : Axes → NaccPlasticity → Trial → List Float → List Float → Float → Walk Landed
lower_walk axes p t s sigma alpha =
    work 8 (of.low p (num t.p0)) (λ low.
    branch 8 (less (num t.p) low)
    (ask 10 root (of.lower_square p (num t.p0)) (λ x. tip_walk axes p x t.j alpha then ends (lower t.p (value low))))
    (yield_walk axes p t s sigma alpha))

unfoldable pub branch_walk : Axes → NaccPlasticity → Trial → List Float → List Float → Float → Walk Landed
branch_walk axes p t s sigma alpha =
    branch 7 (less (num t.p0) (num t.p))
    (ask 10 root (of.volume_square p (num t.p0)) (λ x. tip_walk axes p x t.j alpha then ends (upper t.p t.p0)))
    (lower_walk axes p t s sigma alpha)

-- ---- the trial state, in the text's order: p0, the power of j, stress and pressure
unfoldable pub press_walk : Axes → NaccPlasticity → Expr → List Float → Float → Walk Landed
press_walk axes p m sigma alpha =
    let d = dim_of axes in
    ask 3 sinh (num p.hardening_factor *ᵉ m) (λ x.
    work 4 (of.p0 p x) (λ p0.
    inverse axes 5 (product sigma) (λ w.
    works 6 (of.squares d p w sigma ∷ of.pressure p (product sigma) ∷ []) (λ l.
    branch_walk axes p (trial_of d p (value w) (value p0) (value (product sigma)) sigma) (values (of.stress d p (num (value w)) sigma)) sigma alpha))))

-- xi max(-alpha, 0)
unfoldable pub steps_walk : Axes → NaccPlasticity → List Float → Float → Walk Landed
steps_walk axes p sigma alpha = most 2 (neg (num alpha)) zero (λ m. press_walk axes p m sigma alpha)

-- w inside the yield surface, else v
abbrev pub by_way : {A : Type 0} → Way → Walk A → Walk A → Walk A
by_way (upper x y) w v = v
by_way (lower x y) w v = v
by_way (inside x y) w v = w
by_way (surface x y) w v = v

-- ---- F recomposed, the results finite; inside the yield surface F is as it came
pub record Result : Type 0 where
  pub way : Way
  pub f : Rows
  pub shape : Shape

unfoldable pub recomposed_walk : Way → List (List Float) → Shape → List (List Float) → Walk Result
recomposed_walk w u q vt =
    results 30 (recomposed u q.sigma vt ++ nums q.sigma ∷ (num q.alpha ∷ []) ∷ [])
    (end (record { way = w; f = rows_of (recompose_of u q.sigma vt); shape = q }))

unfoldable pub way_walk : Way → Shape → Rows → List (List Float) → List (List Float) → Walk Result
way_walk w q f u vt = by_way w (end (record { way = w; f = f; shape = q })) (recomposed_walk w u q vt)

unfoldable pub project_walk : NaccPlasticity → Rows → List (List Float) → List Float → List (List Float) → Float → Walk Result
project_walk p f u sigma vt alpha = steps_walk three_axes p sigma alpha then (λ q. way_walk q.way q.shape f u vt)

-- "1 is tested first, then the moduli by 3"
abbrev pub moduli : {A : Type 0} → NaccPlasticity → Walk A → Walk A
moduli p w = results 1 ((num p.mu ∷ num p.kappa ∷ []) ∷ []) w

unfoldable pub project_floats : NaccPlasticity → List (List Float) → List (List Float) → List Float → List (List Float) → Float → List Float
project_floats p f u sigma vt alpha = parameters_of p ++ (joined f ++ (joined u ++ (sigma ++ (joined vt ++ (alpha ∷ [])))))

unfoldable pub project_call : NaccPlasticity → List (List Float) → List (List Float) → List Float → List (List Float) → Float → Walk Result
project_call p f u sigma vt alpha = inputs (project_floats p f u sigma vt alpha) (moduli p (project_walk p (rows_of f) u sigma vt alpha))

-- ---- as the code hands it on: zeros stand beside a refusal
abbrev pub branch_of : Way → Branch
branch_of (upper x y) = Upper x y
branch_of (lower x y) = Lower x y
branch_of (inside x y) = Inside x y
branch_of (surface x y) = Surface x y

abbrev pub beside_zeros : Branch → Projected
beside_zeros b = record { branch = b; f = zero_rows; sigma = zero_row; alpha = tensor.zero }

abbrev pub refused_projection : ℕ → ℕ → Projected
refused_projection n step = beside_zeros (Refused n step)

abbrev pub walked_of : Traced Result → Projected
walked_of (reached q) = record { branch = branch_of q.way; f = q.f; sigma = q.shape.sigma; alpha = q.shape.alpha }
walked_of (stopped n step) = refused_projection n step

-- where the step isn't told
abbrev pub projected_of : Ended Result → Projected
projected_of x = walked_of (stepless x)

-- whether the values are new
abbrev pub outcome_of : Branch → Float → Outcome
outcome_of (Upper x y) alpha = outcome.Stored alpha
outcome_of (Lower x y) alpha = outcome.Stored alpha
outcome_of (Inside x y) alpha = outcome.Untouched
outcome_of (Surface x y) alpha = outcome.Stored alpha
outcome_of (Refused n step) alpha = outcome.Refused n

-- as it is handed out: the branch and what it compared stay inside
abbrev pub results_of : Projected → Results
results_of q = record { outcome = outcome_of q.branch q.alpha; f = q.f; sigma = q.sigma }
