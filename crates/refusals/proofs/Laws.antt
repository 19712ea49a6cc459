-- Section 6 of the calls that make a law, work one update by it, or project by themselves. Assumes nothing.
use mathlib.Core.Path.{◌≡◌, refl, ap}
use mathlib.Core.Bool.{Bool, true, false, cond, ◌&&◌}
use mathlib.Core.List.{List, [], ◌∷◌, ◌++◌}
use mathlib.Core.Option.{Option, some, none}
use Prim.Native.Nat.{ℕ, ◌<◌}
use native.Mathlib.Omega.{arith}
use lib.Ieee.{Float}
use Rattle.numbers.specs.Floats.{finite}
use Rattle.answers.specs.Answer.{pair_of}
use Rattle.answers.specs.declared.Pair.{Pair}
use Rattle.answers.specs.declared.Pair.TheVariants as pair
use Rattle.tensor.specs.Axes.{all_of}
use Rattle.tensor.specs.Matrix.{one, rows_of}
use Rattle.physics.specs.Physics.{lame_of, lambda_of, shear_modulus_of}
use Rattle.plasticity.specs.declared.Outcome.TheVariants as outcome
use Rattle.plasticity.specs.declared.State.{State}
use Rattle.walk.specs.Expr.{num}
use Rattle.walk.proofs.Numbers.{as_outcome}
use Rattle.walk.specs.Walk.{Walk, inputs, end, ◌then◌, Ended, given, refused, walk_result, answer_as}
use Rattle.walk.specs.Exact.{path}
use Rattle.walk.specs.Update.{in_three, floats_of, refusal_of}
use Rattle.walk.specs.Answers.{refusal_in}
use Rattle.plasticity_rankine.specs.declared.Made as rankine_made_type
use Rattle.plasticity_rankine.specs.declared.Made.TheVariants as rankine_made
use Rattle.plasticity_rankine.specs.declared.RankineArguments.{RankineArguments}
use Rattle.plasticity_rankine.specs.declared.RankinePlasticity.{RankinePlasticity}
use Rattle.plasticity_rankine.specs.Law as rankine_law
use Rattle.plasticity_rankine.specs.Projection as rankine_projection
use Rattle.plasticity_rankine.specs.Rankine as rankine
use Rattle.plasticity_drucker_prager.specs.declared.DruckerPragerPlasticity.{DruckerPragerPlasticity}
use Rattle.plasticity_drucker_prager.specs.declared.Made as drucker_made_type
use Rattle.plasticity_drucker_prager.specs.declared.Made.TheVariants as drucker_made
use Rattle.plasticity_drucker_prager.specs.Law as drucker_prager
use Rattle.plasticity_drucker_prager.specs.Alpha.{dim}
use Rattle.plasticity_drucker_prager.specs.Projection as drucker_projection
use Rattle.plasticity_nacc.specs.declared.Made as nacc_made_type
use Rattle.plasticity_nacc.specs.declared.Made.TheVariants as nacc_made
use Rattle.plasticity_nacc.specs.declared.NaccArguments.{NaccArguments}
use Rattle.plasticity_nacc.specs.declared.NaccPlasticity.{NaccPlasticity}
use Rattle.plasticity_nacc.specs.Law as nacc_law
use Rattle.plasticity_nacc.specs.Friction as nacc_friction
use Rattle.plasticity_nacc.specs.Projection as nacc
use Rattle.plasticity_nacc.specs.Over as nacc_over
use Rattle.plasticity_nacc.specs.Nacc as nacc_walks
use Rattle.plasticity_rankine.specs.Over as rankine_over
use Rattle.failure_maximum_stress.specs.declared.Made as limits_made_type
use Rattle.failure_maximum_stress.specs.declared.Made.TheVariants as limits_made
use Rattle.failure_maximum_stress.specs.Failure.{limits_of}
use Rattle.elasticity_neo_hookean.specs.declared.Made as neo_made_type
use Rattle.elasticity_neo_hookean.specs.declared.Made.TheVariants as neo_made
use Rattle.elasticity_neo_hookean.specs.Law as neo_hookean
use Rattle.elasticity_corotated_linear.specs.declared.Made as corotated_made_type
use Rattle.elasticity_corotated_linear.specs.declared.Made.TheVariants as corotated_made
use Rattle.elasticity_corotated_linear.specs.Law as corotated
use Rattle.eos_monaghan_sph.specs.declared.Made as monaghan_made_type
use Rattle.eos_monaghan_sph.specs.declared.Made.TheVariants as monaghan_made
use Rattle.eos_monaghan_sph.specs.Pressure as monaghan
use Rattle.model.specs.declared.Model.{Model}
use Rattle.model.specs.Model.{model_update}
use Rattle.refusals.specs.Refusals.{Numbers, Refuses, Gives, parameters_of, steps_of, walk_of}
use Rattle.refusals.specs.Calls.{Beside}
use Rattle.refusals.specs.Enums as enums
use Rattle.refusals.specs.Laws.{moduli_walk, plain_walk, rankine_new, nacc_new, nacc_angled, Laws}
use Rattle.refusals.proofs.Inner.{Inner, inner_then, steps_inner, rankine_project, rankine_inner, drucker_project, nacc_project, nacc_inner}
use Rattle.refusals.proofs.Enums.{Coded, coded, made, made_once}
use Rattle.refusals.proofs.Numbers.{differ, nothing, told}
use Rattle.refusals.proofs.Answers.{after, tested, entered, walk_gives, ended_beside}
use Rattle.model.proofs.RowLaws.{walked}
use Rattle.refusals.proofs.Updates.{outcome_numbers}

-- ---- `new` and `with_m`
abbrev neo_number_lem : neo_made_type.Made → Option ℕ
neo_number_lem (neo_made.Law p) = none
neo_number_lem (neo_made.Refused n) = some n

neo_back : (x : neo_made_type.Made) (n : ℕ) → neo_number_lem x ≡ some n → x ≡ neo_made.Refused n
neo_back (neo_made.Law p) n e = absurd (nothing n e)
neo_back (neo_made.Refused m) n e = ap neo_made.Refused (differ e)

neo_coded : Coded enums.neo_number neo_made.Refused
neo_coded = (λ n. refl, back)
  where
    back : (y : neo_made_type.Made) (n : ℕ) → 0 < n → enums.neo_number y ≡ n → y ≡ neo_made.Refused n
    back (neo_made.Law p) n h e = absurd (omega arith)
    back (neo_made.Refused m) n h e = ap neo_made.Refused e

neo_gives : (young poisson : Float) → Numbers (λ n. neo_hookean.new_of young poisson ≡ neo_made.Refused n) (path (moduli_walk young poisson))
unfolding neo_hookean.new_of neo_hookean.from_lame
neo_gives young poisson =
    let m = lame_of young poisson in
    let l = young ∷ poisson ∷ [] in
    let w = after (moduli_walk young poisson) in
    told neo_number_lem neo_made.Refused (λ n. refl) neo_back (neo_hookean.new_of young poisson) l w tt
    (entered neo_number_lem l (finite young && finite poisson) refl (neo_hookean.from_lame m) (neo_made.Refused 1) w
    (tested neo_number_lem 3 (finite m.lambda && finite m.mu) (neo_made.Law (neo_hookean.law_of m)) (neo_made.Refused 3) (given m.lambda) refl refl) refl)

abbrev corotated_number_lem : corotated_made_type.Made → Option ℕ
corotated_number_lem (corotated_made.Law p) = none
corotated_number_lem (corotated_made.Refused n) = some n

corotated_back : (x : corotated_made_type.Made) (n : ℕ) → corotated_number_lem x ≡ some n → x ≡ corotated_made.Refused n
corotated_back (corotated_made.Law p) n e = absurd (nothing n e)
corotated_back (corotated_made.Refused m) n e = ap corotated_made.Refused (differ e)

corotated_coded : Coded enums.corotated_number corotated_made.Refused
corotated_coded = (λ n. refl, back)
  where
    back : (y : corotated_made_type.Made) (n : ℕ) → 0 < n → enums.corotated_number y ≡ n → y ≡ corotated_made.Refused n
    back (corotated_made.Law p) n h e = absurd (omega arith)
    back (corotated_made.Refused m) n h e = ap corotated_made.Refused e

corotated_gives : (young poisson : Float) → Numbers (λ n. corotated.new_of young poisson ≡ corotated_made.Refused n) (path (moduli_walk young poisson))
unfolding corotated.new_of corotated.from_lame
corotated_gives young poisson =
    let m = lame_of young poisson in
    let l = young ∷ poisson ∷ [] in
    let w = after (moduli_walk young poisson) in
    told corotated_number_lem corotated_made.Refused (λ n. refl) corotated_back (corotated.new_of young poisson) l w tt
    (entered corotated_number_lem l (finite young && finite poisson) refl (corotated.from_lame m) (corotated_made.Refused 1) w
    (tested corotated_number_lem 3 (finite m.lambda && finite m.mu) (corotated_made.Law (corotated.law_of m)) (corotated_made.Refused 3) (given m.lambda) refl refl) refl)

abbrev drucker_number_lem : drucker_made_type.Made → Option ℕ
drucker_number_lem (drucker_made.Law p) = none
drucker_number_lem (drucker_made.Refused n) = some n

drucker_back : (x : drucker_made_type.Made) (n : ℕ) → drucker_number_lem x ≡ some n → x ≡ drucker_made.Refused n
drucker_back (drucker_made.Law p) n e = absurd (nothing n e)
drucker_back (drucker_made.Refused m) n e = ap drucker_made.Refused (differ e)

drucker_coded : Coded enums.drucker_number drucker_made.Refused
drucker_coded = (λ n. refl, back)
  where
    back : (y : drucker_made_type.Made) (n : ℕ) → 0 < n → enums.drucker_number y ≡ n → y ≡ drucker_made.Refused n
    back (drucker_made.Law p) n h e = absurd (omega arith)
    back (drucker_made.Refused m) n h e = ap drucker_made.Refused e

drucker_gives : (young poisson : Float) → Numbers (λ n. drucker_prager.new_of young poisson ≡ drucker_made.Refused n) (path (moduli_walk young poisson))
unfolding drucker_prager.made_of
drucker_gives young poisson =
    let lambda = lambda_of young poisson in
    let mu = shear_modulus_of young poisson in
    let T : Pair → Option ℕ = λ x. drucker_number_lem (drucker_prager.made_of x) in
    let l = young ∷ poisson ∷ [] in
    let w = after (moduli_walk young poisson) in
    told drucker_number_lem drucker_made.Refused (λ n. refl) drucker_back (drucker_prager.new_of young poisson) l w tt
    (entered T l (finite young && finite poisson) refl (pair_of lambda mu) (pair.Refused 1) w
    (tested T 3 (finite lambda && finite mu) (pair.Values lambda mu) (pair.Refused 3) (given lambda) refl refl) refl)

abbrev monaghan_number_lem : monaghan_made_type.Made → Option ℕ
monaghan_number_lem (monaghan_made.Law p) = none
monaghan_number_lem (monaghan_made.Refused n) = some n

monaghan_back : (x : monaghan_made_type.Made) (n : ℕ) → monaghan_number_lem x ≡ some n → x ≡ monaghan_made.Refused n
monaghan_back (monaghan_made.Law p) n e = absurd (nothing n e)
monaghan_back (monaghan_made.Refused m) n e = ap monaghan_made.Refused (differ e)

monaghan_coded : Coded enums.monaghan_number monaghan_made.Refused
monaghan_coded = (λ n. refl, back)
  where
    back : (y : monaghan_made_type.Made) (n : ℕ) → 0 < n → enums.monaghan_number y ≡ n → y ≡ monaghan_made.Refused n
    back (monaghan_made.Law p) n h e = absurd (omega arith)
    back (monaghan_made.Refused m) n h e = ap monaghan_made.Refused e

monaghan_gives : (pressure : Float) (gamma : ℕ) (viscosity : Float)
    → Numbers (λ n. monaghan.new_of pressure gamma viscosity ≡ monaghan_made.Refused n) (path (plain_walk pressure viscosity))
unfolding monaghan.new_of
monaghan_gives pressure gamma viscosity =
    let l = pressure ∷ viscosity ∷ [] in
    told monaghan_number_lem monaghan_made.Refused (λ n. refl) monaghan_back (monaghan.new_of pressure gamma viscosity) l (end pressure) tt
    (entered monaghan_number_lem l (finite pressure && finite viscosity) refl _ (monaghan_made.Refused 1) (end pressure) refl refl)

abbrev limits_number_lem : limits_made_type.Made → Option ℕ
limits_number_lem (limits_made.Limits p) = none
limits_number_lem (limits_made.Refused n) = some n

limits_back : (x : limits_made_type.Made) (n : ℕ) → limits_number_lem x ≡ some n → x ≡ limits_made.Refused n
limits_back (limits_made.Limits p) n e = absurd (nothing n e)
limits_back (limits_made.Refused m) n e = ap limits_made.Refused (differ e)

limits_coded : Coded enums.limits_number limits_made.Refused
limits_coded = (λ n. refl, back)
  where
    back : (y : limits_made_type.Made) (n : ℕ) → 0 < n → enums.limits_number y ≡ n → y ≡ limits_made.Refused n
    back (limits_made.Limits p) n h e = absurd (omega arith)
    back (limits_made.Refused m) n h e = ap limits_made.Refused e

limits_gives : (principal shear : Float) → Numbers (λ n. limits_of principal shear ≡ limits_made.Refused n) (path (plain_walk principal shear))
unfolding limits_of
limits_gives principal shear =
    let l = principal ∷ shear ∷ [] in
    told limits_number_lem limits_made.Refused (λ n. refl) limits_back (limits_of principal shear) l (end principal) tt
    (entered limits_number_lem l (finite principal && finite shear) refl _ (limits_made.Refused 1) (end principal) refl refl)

abbrev rankine_number_lem : rankine_made_type.Made → Option ℕ
rankine_number_lem (rankine_made.Law p) = none
rankine_number_lem (rankine_made.Refused n) = some n

rankine_back : (x : rankine_made_type.Made) (n : ℕ) → rankine_number_lem x ≡ some n → x ≡ rankine_made.Refused n
rankine_back (rankine_made.Law p) n e = absurd (nothing n e)
rankine_back (rankine_made.Refused m) n e = ap rankine_made.Refused (differ e)

in_pairs : (a b c d : Bool) → a && b && c && d ≡ (a && b) && (c && d)
in_pairs true true c d = refl
in_pairs true false c d = refl
in_pairs false b c d = refl

rankine_coded : Coded enums.rankine_number rankine_made.Refused
rankine_coded = (λ n. refl, back)
  where
    back : (y : rankine_made_type.Made) (n : ℕ) → 0 < n → enums.rankine_number y ≡ n → y ≡ rankine_made.Refused n
    back (rankine_made.Law p) n h e = absurd (omega arith)
    back (rankine_made.Refused m) n h e = ap rankine_made.Refused e

rankine_gives : (a : RankineArguments) → Numbers (λ n. rankine_law.made_of a ≡ rankine_made.Refused n) (path (rankine_new a))
unfolding rankine_law.made_of
rankine_gives a =
    let p = rankine_law.law_of a in
    let ok = rankine_law.moduli_finite p in
    let l = rankine_law.arguments_floats a in
    let w = after (rankine_new a) in
    told rankine_number_lem rankine_made.Refused (λ n. refl) rankine_back (rankine_law.made_of a) l w tt
    (entered rankine_number_lem l (rankine_law.elastic_finite a && rankine_law.parameters_finite p)
    (in_pairs (finite a.young_modulus) (finite a.poisson_ratio) (finite a.tensile_strength) (finite a.softening_rate))
    (cond ok (rankine_made.Law p) (rankine_made.Refused 3)) (rankine_made.Refused 1) w
    (tested rankine_number_lem 3 ok (rankine_made.Law p) (rankine_made.Refused 3) (given a.young_modulus) refl refl) refl)

abbrev nacc_number_lem : nacc_made_type.Made → Option ℕ
nacc_number_lem (nacc_made.Law p) = none
nacc_number_lem (nacc_made.Refused n) = some n

nacc_back : (x : nacc_made_type.Made) (n : ℕ) → nacc_number_lem x ≡ some n → x ≡ nacc_made.Refused n
nacc_back (nacc_made.Law p) n e = absurd (nothing n e)
nacc_back (nacc_made.Refused m) n e = ap nacc_made.Refused (differ e)

nacc_coded : Coded enums.nacc_number nacc_made.Refused
nacc_coded = (λ n. refl, back)
  where
    back : (y : nacc_made_type.Made) (n : ℕ) → 0 < n → enums.nacc_number y ≡ n → y ≡ nacc_made.Refused n
    back (nacc_made.Law p) n h e = absurd (omega arith)
    back (nacc_made.Refused m) n h e = ap nacc_made.Refused e

exchanged : (y n c x m : Bool) → y && n && c && x && m ≡ (y && n) && (x && c && m)
exchanged true true true true m = refl
exchanged true true true false m = refl
exchanged true true false true m = refl
exchanged true true false false m = refl
exchanged true false c x m = refl
exchanged false n c x m = refl

module _ (a : NaccArguments) where
  abbrev q : NaccPlasticity
  q = nacc_law.law_of a

  abbrev l : List Float
  l = nacc_law.arguments_floats a

  abbrev ok : Bool
  ok = nacc_law.elastic_finite a && nacc_law.parameters_finite q

  all_inputs : all_of finite l ≡ ok
  all_inputs = exchanged (finite a.young_modulus) (finite a.poisson_ratio) (finite a.cohesion) (finite a.hardening_factor) (finite a.m)

  with_m_gives : Numbers (λ n. nacc_law.made_of a ≡ nacc_made.Refused n) (path (nacc_new a))
  unfolding nacc_law.made_of
  with_m_gives =
      let w = after (nacc_new a) in
      told nacc_number_lem nacc_made.Refused (λ n. refl) nacc_back (nacc_law.made_of a) l w tt
      (entered nacc_number_lem l ok all_inputs (cond (nacc_law.moduli_finite q) (nacc_made.Law q) (nacc_made.Refused 3)) (nacc_made.Refused 1) w
      (tested nacc_number_lem 3 (nacc_law.moduli_finite q) (nacc_made.Law q) (nacc_made.Refused 3) (given a.m) refl refl) refl)

  framed_told : (x : Ended Float) → nacc_number_lem (nacc_friction.framed_of q (answer_as x)) ≡ refusal_in x
  unfolding nacc_friction.framed_of
  framed_told (given m) = refl
  framed_told (refused n) = refl

  angle_inner : (d : Float) → Inner (nacc_friction.friction_walk d a.m)
  unfolding nacc_friction.friction_walk
  angle_inner d = λ s r q. tt

  new_gives : (d : Float) → Numbers (λ n. nacc_friction.angled_of d (nacc_law.made_of a) ≡ nacc_made.Refused n) (path (nacc_angled d a))
  unfolding nacc_law.made_of nacc_friction.angled_of
  new_gives d =
      let w = after (nacc_angled d a) in
      let T : nacc_made_type.Made → Option ℕ = λ y. nacc_number_lem (nacc_friction.angled_of d y) in
      told nacc_number_lem nacc_made.Refused (λ n. refl) nacc_back (nacc_friction.angled_of d (nacc_law.made_of a)) l w (angle_inner d)
      (entered T l ok all_inputs (cond (nacc_law.moduli_finite q) (nacc_made.Law q) (nacc_made.Refused 3)) (nacc_made.Refused 1) w
      (tested T 3 (nacc_law.moduli_finite q) (nacc_made.Law q) (nacc_made.Refused 3) (walk_result (nacc_friction.friction_walk d a.m))
      (framed_told (walk_result (nacc_friction.friction_walk d a.m))) refl) refl)

friction_gives : (d angle : Float) → Gives (nacc_friction.friction_of d angle) (path (nacc_friction.friction_call d angle))
unfolding nacc_friction.friction_call nacc_friction.friction_walk
friction_gives d angle = walk_gives (d ∷ angle ∷ []) (nacc_friction.friction_walk d angle) (λ s r q. tt)

-- ---- one update
module _ (u vt : List (List Float)) (s : State) where
  updates : (m : Model) → Refuses (model_update m u vt s).outcome (path (walk_of m u vt s))
  updates m = outcome_numbers s (model_update m u vt s).outcome (parameters_of m ++ floats_of u vt s) (steps_of m u vt s) (steps_inner m u vt s) (ap (λ v. v.outcome) (walked m u vt s))

  rankine_updates : (p : RankinePlasticity) → Refuses (rankine.rankine_update p u vt s).outcome (path (rankine.rankine_walk p u vt s))
  unfolding rankine_over.rankine_walk
  rankine_updates p =
      outcome_numbers s (rankine.rankine_update p u vt s).outcome (rankine_over.floats in_three (rankine_law.parameters_of p) u vt s) (rankine_law.moduli p (rankine.run_walk p s.sigma u vt s))
      (rankine_inner u vt s p) refl

  nacc_updates : (p : NaccPlasticity) → Refuses (nacc_walks.nacc_update p u vt s).outcome (path (nacc_walks.nacc_walk p u vt s))
  unfolding nacc_over.nacc_walk
  nacc_updates p =
      outcome_numbers s (nacc_walks.nacc_update p u vt s).outcome (nacc_over.floats in_three (nacc_law.parameters_of p) u vt s) (nacc.moduli p (nacc_walks.run_walk p u vt s)) (nacc_inner p u vt s) refl

-- ---- a projection
module _ (e : List Float) (s : Float) where
  projects : (l : List Float) (p : RankinePlasticity)
      → Beside (rankine_projection.vector_of (walk_result (inputs l (rankine_law.moduli p (rankine_projection.project_walk p e (num s) then rankine_projection.returned_walk))))).refusal
      (path (inputs l (rankine_law.moduli p (rankine_projection.project_walk p e (num s) then rankine_projection.returned_walk))))
  projects l p =
      ended_beside (λ x. (rankine_projection.vector_of x).refusal) (λ v. refl) (λ n. refl) l (rankine_law.moduli p (rankine_projection.project_walk p e (num s) then rankine_projection.returned_walk))
      (inner_then (rankine_projection.project_walk p e (num s)) rankine_projection.returned_walk (rankine_project p e (num s)) (λ x. tt))

  rankine_projects : (p : RankinePlasticity) → Beside (rankine_projection.project_of p e s).refusal (path (rankine_projection.project_call p e s))
  unfolding rankine_projection.call_over
  rankine_projects p = projects (rankine_projection.call_floats (rankine_law.parameters_of p) e s) p

  arguments_project_lem : (a : RankineArguments) → Beside (rankine_projection.arguments_project a e s).refusal (path (rankine_projection.arguments_call a e s))
  unfolding rankine_projection.call_over
  arguments_project_lem a = projects (rankine_projection.call_floats (rankine_law.arguments_floats a) e s) (rankine_law.law_of a)

drucker_way : (w : drucker_projection.Way) (dq : Float) → refusal_of (drucker_projection.outcome_of (drucker_projection.branch_of w) dq) ≡ none
drucker_way (drucker_projection.isotropic d) dq = refl
drucker_way (drucker_projection.expanding x) dq = refl
drucker_way (drucker_projection.inside x) dq = refl
drucker_way (drucker_projection.surface x norm) dq = refl

drucker_told : (x : Ended drucker_projection.Returned) → refusal_of (drucker_projection.results_of (drucker_projection.projected_of x)).outcome ≡ refusal_in x
drucker_told (given q) = drucker_way q.way q.dq
drucker_told (refused n) = refl

drucker_projects : (p : DruckerPragerPlasticity) (sigma : List Float) (gain alpha : Float)
    → Numbers (λ n. (drucker_projection.results_of (drucker_projection.projected_of (walk_result (drucker_projection.project_call dim p sigma gain alpha)))).outcome ≡ outcome.Refused n)
    (path (drucker_projection.project_call dim p sigma gain alpha))
unfolding drucker_projection.project_call drucker_projection.returned_walk
drucker_projects p sigma gain alpha =
    let w = drucker_projection.project_walk dim p sigma gain alpha in
    told refusal_of outcome.Refused (λ n. refl) as_outcome _ (drucker_projection.project_floats p sigma gain alpha) (w then drucker_projection.returned_walk)
    (inner_then w drucker_projection.returned_walk (drucker_project p dim sigma alpha gain) (λ x. tt)) (drucker_told (walk_result (drucker_projection.project_call dim p sigma gain alpha)))

nacc_way : (w : nacc.Way) (alpha : Float) → refusal_of (nacc.outcome_of (nacc.branch_of w) alpha) ≡ none
nacc_way (nacc.upper x y) alpha = refl
nacc_way (nacc.lower x y) alpha = refl
nacc_way (nacc.inside x y) alpha = refl
nacc_way (nacc.surface x y) alpha = refl

nacc_told : (x : Ended nacc.Result) → refusal_of (nacc.results_of (nacc.projected_of x)).outcome ≡ refusal_in x
nacc_told (given q) = nacc_way q.way q.shape.alpha
nacc_told (refused n) = refl

nacc_projects : (p : NaccPlasticity) (f u : List (List Float)) (sigma : List Float) (vt : List (List Float)) (alpha : Float)
    → Numbers (λ n. (nacc.results_of (nacc.projected_of (walk_result (nacc.project_call p f u sigma vt alpha)))).outcome ≡ outcome.Refused n) (path (nacc.project_call p f u sigma vt alpha))
unfolding nacc.project_call
nacc_projects p f u sigma vt alpha =
    told refusal_of outcome.Refused (λ n. refl) as_outcome _ (nacc.project_floats p f u sigma vt alpha)
    (nacc.moduli p (nacc.project_walk p (rows_of f) u sigma vt alpha)) (nacc_project p (rows_of f) u sigma vt alpha) (nacc_told (walk_result (nacc.project_call p f u sigma vt alpha)))

-- ---- what is made
above_zero : 0 < 3
above_zero = omega arith

above_none : 0 < 1
above_none = omega arith

neo_makes : (young poisson : Float) → enums.neo_number (neo_hookean.new_of young poisson) ≡ 0
    → enums.neo_floats (neo_hookean.new_of young poisson) ≡ neo_hookean.parameters_of (neo_hookean.law_of (lame_of young poisson))
unfolding neo_hookean.new_of neo_hookean.from_lame
neo_makes young poisson e =
    let m = lame_of young poisson in
    made enums.neo_number enums.neo_floats (finite young && finite poisson) (finite m.lambda && finite m.mu) (neo_made.Law (neo_hookean.law_of m)) (neo_made.Refused 3) (neo_made.Refused 1) above_zero above_none e

corotated_makes : (young poisson : Float) → enums.corotated_number (corotated.new_of young poisson) ≡ 0
    → enums.corotated_floats (corotated.new_of young poisson) ≡ corotated.parameters_of (corotated.law_of (lame_of young poisson))
unfolding corotated.new_of corotated.from_lame
corotated_makes young poisson e =
    let m = lame_of young poisson in
    made enums.corotated_number enums.corotated_floats (finite young && finite poisson) (finite m.lambda && finite m.mu) (corotated_made.Law (corotated.law_of m)) (corotated_made.Refused 3) (corotated_made.Refused 1) above_zero above_none e

drucker_makes : (young poisson : Float) → enums.drucker_number (drucker_prager.new_of young poisson) ≡ 0
    → enums.drucker_floats (drucker_prager.new_of young poisson) ≡ drucker_prager.parameters_of (drucker_prager.defaults_of (lambda_of young poisson) (shear_modulus_of young poisson))
unfolding drucker_prager.made_of
drucker_makes young poisson e =
    let lambda = lambda_of young poisson in
    let mu = shear_modulus_of young poisson in
    made (λ x. enums.drucker_number (drucker_prager.made_of x)) (λ x. enums.drucker_floats (drucker_prager.made_of x)) (finite young && finite poisson) (finite lambda && finite mu)
    (pair.Values lambda mu) (pair.Refused 3) (pair.Refused 1) above_zero above_none e

monaghan_makes : (pressure : Float) (gamma : ℕ) (viscosity : Float) → enums.monaghan_number (monaghan.new_of pressure gamma viscosity) ≡ 0
    → enums.monaghan_floats (monaghan.new_of pressure gamma viscosity) ≡ pressure ∷ viscosity ∷ one ∷ []
unfolding monaghan.new_of
monaghan_makes pressure gamma viscosity e = made_once enums.monaghan_number enums.monaghan_floats (finite pressure && finite viscosity)
    (monaghan_made.Law (record { pressure0 = pressure; gamma = gamma; viscosity = viscosity; max_neg_pressure = one })) (monaghan_made.Refused 1) above_none e

limits_makes : (principal shear : Float) → enums.limits_number (limits_of principal shear) ≡ 0 → enums.limits_floats (limits_of principal shear) ≡ principal ∷ shear ∷ []
unfolding limits_of
limits_makes principal shear e = made_once enums.limits_number enums.limits_floats (finite principal && finite shear)
    (limits_made.Limits (record { max_principal_stress = principal; max_shear_stress = shear })) (limits_made.Refused 1) above_none e

rankine_makes : (a : RankineArguments) → enums.rankine_number (rankine_law.made_of a) ≡ 0 → enums.rankine_floats (rankine_law.made_of a) ≡ enums.of_rankine (rankine_law.law_of a)
unfolding rankine_law.made_of
rankine_makes a e =
    let p = rankine_law.law_of a in
    made enums.rankine_number enums.rankine_floats (rankine_law.elastic_finite a && rankine_law.parameters_finite p) (rankine_law.moduli_finite p) (rankine_made.Law p) (rankine_made.Refused 3) (rankine_made.Refused 1) above_zero above_none e

nacc_makes : (a : NaccArguments) → enums.nacc_number (nacc_law.made_of a) ≡ 0 → enums.nacc_floats (nacc_law.made_of a) ≡ enums.of_nacc (nacc_law.law_of a)
unfolding nacc_law.made_of
nacc_makes a e =
    let p = nacc_law.law_of a in
    made enums.nacc_number enums.nacc_floats (nacc_law.elastic_finite a && nacc_law.parameters_finite p) (nacc_law.moduli_finite p) (nacc_made.Law p) (nacc_made.Refused 3) (nacc_made.Refused 1) above_zero above_none e

-- ---- all of them
pub laws : Laws
laws =
    record {
      neo_new = λ young poisson. coded enums.neo_number neo_made.Refused neo_coded (neo_hookean.new_of young poisson) (path (moduli_walk young poisson)) (neo_gives young poisson);
      corotated_new = λ young poisson. coded enums.corotated_number corotated_made.Refused corotated_coded (corotated.new_of young poisson) (path (moduli_walk young poisson)) (corotated_gives young poisson);
      drucker_new = λ young poisson. coded enums.drucker_number drucker_made.Refused drucker_coded (drucker_prager.new_of young poisson) (path (moduli_walk young poisson)) (drucker_gives young poisson);
      monaghan_new = λ pressure gamma viscosity. coded enums.monaghan_number monaghan_made.Refused monaghan_coded (monaghan.new_of pressure gamma viscosity) (path (plain_walk pressure viscosity)) (monaghan_gives pressure gamma viscosity);
      limits_new = λ principal shear. coded enums.limits_number limits_made.Refused limits_coded (limits_of principal shear) (path (plain_walk principal shear)) (limits_gives principal shear);
      rankine_new_lem = λ a. coded enums.rankine_number rankine_made.Refused rankine_coded (rankine_law.made_of a) (path (rankine_new a)) (rankine_gives a);
      nacc_with_m = λ a. coded enums.nacc_number nacc_made.Refused nacc_coded (nacc_law.made_of a) (path (nacc_new a)) (with_m_gives a);
      nacc_new_lem = λ d a. coded enums.nacc_number nacc_made.Refused nacc_coded (nacc_friction.angled_of d (nacc_law.made_of a)) (path (nacc_angled d a)) (new_gives a d);
      nacc_m = friction_gives;
      neo_values = neo_makes;
      corotated_values = corotated_makes;
      drucker_values = drucker_makes;
      monaghan_values = monaghan_makes;
      limits_values = limits_makes;
      rankine_values = rankine_makes;
      nacc_values = nacc_makes;
      update = λ m u vt s. updates u vt s m;
      rankine_update_lem = λ p u vt s. rankine_updates u vt s p;
      nacc_update_lem = λ p u vt s. nacc_updates u vt s p;
      rankine_project = λ p e s. rankine_projects e s p;
      rankine_arguments_project = λ a e s. arguments_project_lem e s a;
      drucker_project = drucker_projects;
      nacc_project = nacc_projects;
    }
