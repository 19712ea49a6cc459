-- RULES, section 6, "When, and only then", over the definitions that the contracts cite. Proved in proofs/Table.
-- Every law is a walk; what stops on its path is said in `walk` (specs/Numbers): 1 an input that isn't finite, 2 an argument below
-- section 3's range, 10 one above it, 3 a NaN in any part of any formula there, or a modulus, a principal stress or a result that isn't finite.
-- A record has 11 besides, after 1 and before the law's steps, and its new determinant is a result too. A step that works out our own
-- factors has 14 after 11, and its law meets the record with these factors.
-- Calls and Laws say the same of the calls by themselves, Ran of a sheet that is run. 4 to 7 are a sheet's: `sheet` specs/Refused.
use Rattle.std.specs.Prelude.{◌≡◌, ◌⊎◌, ◌↔◌, Bool, true, false, ◌&&◌, List, [], ◌∷◌, ◌++◌, ℕ, ◌+◌, ◌*◌, ◌≤◌, ◌<◌, length, get_or, Float}
use Rattle.numbers.specs.Floats.{finite}
use Rattle.answers.specs.Refusals.{below_range, above_range, wrong_determinant, not_accepted}
use Rattle.answers.specs.Range.{ranged, bare}
use Rattle.answers.specs.declared.Answer.{Answer}
use Rattle.answers.specs.declared.Answer.TheVariants as answers
use Rattle.plasticity.specs.declared.Outcome.{Outcome}
use Rattle.plasticity.specs.declared.Outcome.TheVariants.{Refused}
use Rattle.plasticity.specs.declared.State.{State}
use Rattle.walk.specs.Expr.{num, value}
use Rattle.walk.specs.Walk.{Function, low_of, high_of, at, Walk, inputs, ask, results, end, ◌then◌, given}
use Rattle.walk.specs.Exact.{Met, input, argument, worked, tested, result_of, path}
use Rattle.walk.specs.Update.{Change, untouched, stored, updated_of, floats_of}
use Rattle.walk.specs.Numbers as walk
use Rattle.walk.specs.Numbers.{Stops, Comes, Clear}
use Rattle.record.specs.Layout.{floats, place_f, place_determinant, float_at, mat_at, u_at, vt_at, state_at, determinant_right}
use Rattle.factors.specs.Sweeps.{factors_of}
use Rattle.factors.specs.Check.{accepted_of}
use Rattle.failure_maximum_stress.specs.declared.MaximumStressFailure.{MaximumStressFailure}
use Rattle.elasticity_corotated_linear.specs.declared.CorotatedLinearElasticity.{CorotatedLinearElasticity}
use Rattle.elasticity_corotated_linear.specs.Law as corotated
use Rattle.elasticity_corotated_linear.specs.Principal.{principal_walk}
use Rattle.model.specs.declared.Model.{Model}
use Rattle.model.specs.Rows.{acts_of}
use Rattle.model.specs.Model.{model_finite}
use Rattle.particles.specs.declared.list.Passed.TheVariants as pass
use Rattle.particles.specs.declared.failure.PassedWithFailure.TheVariants as failure_pass
use Rattle.particles.specs.declared.step.Step.{Step}
use Rattle.particles.specs.declared.step.Step.TheVariants.{Plain, Judged}
use Rattle.one_record.specs.RecordLaw.{put_state, record_law, record_outcome}
use Rattle.one_record.specs.Judged.{judge_finite, failure_law}
use Rattle.particles.specs.Fill.{fill_answer}
use Rattle.particles.specs.Step.{step_law}
use Rattle.particles.specs.Pass.{Worked, record_at, passed, pass_answers, passed_with_failure}
use Rattle.factored_particles.specs.declared.step.FactoredStep.{FactoredStep}
use Rattle.factored_particles.specs.declared.step.FactoredStep.TheVariants.{Factors, First}
use Rattle.factored_particles.specs.Factored.{with_factors, factor_law, factored_law, factor_outcome}
use Rattle.factored_particles.specs.Step.{own_step_law}

-- ---- 1: "an input float is NaN or infinite"
abbrev pub NotFinite : Float → Type 0
NotFinite x = finite x ≡ false

abbrev pub SomeNotFinite : List Float → Type 0
SomeNotFinite [] = ⊥
SomeNotFinite (x ∷ l) = NotFinite x ⊎ SomeNotFinite l

-- the floats that a path's first step tests
abbrev pub inputs_of : List Met → List Float
inputs_of [] = []
inputs_of (input l ∷ ms) = l
inputs_of (argument n f e ∷ ms) = []
inputs_of (worked n es ∷ ms) = []
inputs_of (tested n t ∷ ms) = []
inputs_of (result_of n rows ∷ ms) = []

-- ---- a call, of which R n says that it is refused by n, and the path that it takes
pub record Numbers (R : ℕ → Type 0) (ms : List Met) : Type 0 where
  pub refused : (n : ℕ) → R n ↔ Stops n ms
  pub accepted : ((n : ℕ) → R n → ⊥) ↔ Clear ms
  pub one : R 1 ↔ SomeNotFinite (inputs_of ms)
  -- the first to refuse is an argument below its range, above it
  pub below : R below_range ↔ Comes walk.below ms
  pub above : R above_range ↔ Comes walk.above ms
  pub only : (n : ℕ) → R n → ((1 ≤ n) × (n ≤ 3)) ⊎ (n ≡ above_range)

-- of a record, by a step of a pass: l are the floats that are tested first; right says that the stored determinant is that of its F,
-- checked that our own factors pass their check, where the step asks for them; ms is the path of the step's law
pub record RecordNumbers (R : ℕ → Type 0) (l : List Float) (right checked : Bool) (ms : List Met) : Type 0 where
  pub one : R 1 ↔ SomeNotFinite l
  -- 11 exactly where the determinant is wrong and 1 doesn't come
  pub eleven : R wrong_determinant ↔ ((SomeNotFinite l → ⊥) × (right ≡ false))
  -- 14 exactly where the factors miss their check and neither comes
  pub fourteen : R not_accepted ↔ ((SomeNotFinite l → ⊥) × (right ≡ true) × (checked ≡ false))
  -- the law's own numbers, where none of the three comes
  pub goes_on : (SomeNotFinite l → ⊥) → right ≡ true → checked ≡ true → Numbers R ms
  -- and never two
  pub alone : (m n : ℕ) → R m → R n → m ≡ n

-- as an outcome, and as a number or a refusal
abbrev pub Refuses : Outcome → List Met → Type 0
Refuses o ms = Numbers (λ n. o ≡ Refused n) ms

abbrev pub Gives : Answer → List Met → Type 0
Gives e ms = Numbers (λ n. e ≡ answers.Refused n) ms

-- ---- a model's walk
-- the parameters' floats
abbrev pub parameters_of : Model → List Float
parameters_of m = (acts_of m).floats

-- "1 is tested first, then the moduli by 3, then the steps"
abbrev pub steps_of : Model → List (List Float) → List (List Float) → State → Walk Change
steps_of m u vt s = (acts_of m).steps u vt s

abbrev pub walk_of : Model → List (List Float) → List (List Float) → State → Walk Change
walk_of m u vt s = inputs (parameters_of m ++ floats_of u vt s) (steps_of m u vt s)

-- on a record: all its floats are inputs
abbrev pub record_floats : List ℕ → List Float
record_floats r = floats_of (u_at r) (vt_at r) (state_at r) ++ (float_at r place_determinant ∷ [])

-- the determinant that is to be stored is a result of its own, after the law's steps
abbrev pub measure_walk : Model → List ℕ → Change → Walk Change
measure_walk m r untouched = end untouched
measure_walk m r (stored new amount) = results 0 ((num (float_at (put_state m r new) place_determinant) ∷ []) ∷ []) (end (stored new amount))

abbrev pub record_steps : Model → List ℕ → Walk Change
record_steps m r = steps_of m (u_at r) (vt_at r) (state_at r) then measure_walk m r

abbrev pub record_walk : Model → List ℕ → Walk Change
record_walk m r = inputs (parameters_of m ++ record_floats r) (record_steps m r)

abbrev pub path_of : Model → List ℕ → List Met
path_of m r = path (record_walk m r)

-- ---- with failure: "parameters and limits count as inputs of each record"
abbrev pub failure_of : MaximumStressFailure → CorotatedLinearElasticity → List Float
failure_of l e = l.max_principal_stress ∷ l.max_shear_stress ∷ corotated.parameters_of e

-- what the law leaves of the record, and the principal stresses of it, with the phase as it came
abbrev pub left_by : List ℕ → Change → State
left_by r c = (updated_of (state_at r) (given c)).state

abbrev pub stresses_of : CorotatedLinearElasticity → List ℕ → Change → Walk (List Float)
stresses_of e r c = principal_walk e (state_at r).scalars.phase (left_by r c).scalars.elastic_hardening (left_by r c).sigma

-- the law's steps, and then the stresses: the verdict on them refuses nothing
abbrev pub failure_steps : Model → CorotatedLinearElasticity → List ℕ → Walk Change
failure_steps m e r = record_steps m r then (λ c. stresses_of e r c then (λ stresses. end c))

abbrev pub failure_walk : Model → MaximumStressFailure → CorotatedLinearElasticity → List ℕ → Walk Change
failure_walk m l e r = inputs (failure_of l e ++ (parameters_of m ++ record_floats r)) (failure_steps m e r)

abbrev pub failure_path : Model → MaximumStressFailure → CorotatedLinearElasticity → List ℕ → List Met
failure_path m l e r = path (failure_walk m l e r)

-- ---- a step of a pass, without our own factors or with them
pub data AnyStep : Type 0 where
  without : Step → AnyStep
  with_factors_case : FactoredStep → AnyStep

abbrev pub any_law : AnyStep → List ℕ → Worked
any_law (without s) = step_law s
any_law (with_factors_case s) = own_step_law s

-- the path of its law on a record; factors by themselves have no law, and nothing is met after the record's floats
abbrev pub law_path : Step → List ℕ → List Met
law_path (Plain m) r = path_of m r
law_path (Judged m l e) r = failure_path m l e r

abbrev pub step_path : AnyStep → List ℕ → List Met
step_path (without s) r = law_path s r
step_path (with_factors_case Factors) r = path (inputs (record_floats r) (end r))
step_path (with_factors_case (First s)) r = law_path s r

-- whether our own factors of the record's F pass the check
abbrev pub checked_at : List ℕ → Bool
checked_at r = accepted_of (mat_at r place_f) (factors_of (mat_at r place_f))

-- where the step asks for them
abbrev pub checked_by : AnyStep → List ℕ → Bool
checked_by (without s) r = true
checked_by (with_factors_case s) r = checked_at r

-- the record that its law meets
abbrev pub met_by : AnyStep → List ℕ → List ℕ
met_by (without s) r = r
met_by (with_factors_case Factors) r = r
met_by (with_factors_case (First s)) r = with_factors r

-- 1 of the step's own inputs and of the record as it came; 11; 14; then the law's on the record that it meets
abbrev pub StepNumbers : (ℕ → Type 0) → AnyStep → List ℕ → Type 0
StepNumbers R s r = RecordNumbers R (inputs_of (step_path s r)) (determinant_right r) (checked_by s r) (step_path s (met_by s r))

-- as an outcome, and as it stands in the answer list at record i
abbrev pub StepRefuses : Outcome → AnyStep → List ℕ → Type 0
StepRefuses o s r = StepNumbers (λ n. o ≡ Refused n) s r

abbrev pub Answers : List ℕ → ℕ → AnyStep → List ℕ → Type 0
Answers a i s r = StepNumbers (λ n. (get_or a (i * 2) 0 ≡ 2) × (get_or a (i * 2 + 1) 0 ≡ n)) s r

-- ---- an elementary function by itself
abbrev pub call_path : Function → Float → List Met
call_path f x = path (inputs (x ∷ []) (ask 1 f (num x) (λ v. end (value v))))

-- ---- 8: "a list length isn't a multiple of 37, or the answer list hasn't exactly two places a particle"
abbrev pub Sized : List ℕ → List ℕ → ℕ → Type 0
Sized xs out k = (length xs ≡ k * floats) × (length out ≡ k * 2)

-- R n: the pass is refused by n
pub record Eight (R : ℕ → Type 0) (xs out : List ℕ) : Type 0 where
  pub when : ((k : ℕ) → Sized xs out k → ⊥) → R 8
  pub only_then : (n : ℕ) → R n → (n ≡ 8) × ((k : ℕ) → Sized xs out k → ⊥)

-- a pass by a step: "8 .. come[s] before any record"; otherwise each answer is its record's
pub record Pass (s : AnyStep) (R : ℕ → Type 0) (xs out : List ℕ) : Type 0 where
  pub eight : Eight R xs out
  pub records : (k : ℕ) → Sized xs out k → (i : ℕ) → i < k → Answers (pass_answers (any_law s) xs out) i s (record_at xs i)

-- one record lent by itself, answered o
pub record Lent (s : AnyStep) (o : Outcome) (r : List ℕ) : Type 0 where
  pub eight : (o ≡ Refused 8) ↔ (length r ≡ floats → ⊥)
  pub numbers : length r ≡ floats → StepRefuses o s r

-- records whose determinants are filled in, answered n: no float is tested
pub record Filled (n : ℕ) (xs : List ℕ) : Type 0 where
  pub eight : (n ≡ 8) ↔ ((k : ℕ) → length xs ≡ k * floats → ⊥)
  pub only : (n ≡ 8 → ⊥) → n ≡ 0

-- ---- 1 by place: one of the record's 37
abbrev pub RecordNotFinite : List ℕ → Type 0
RecordNotFinite r = (k : ℕ) × (k < floats) × NotFinite (float_at r k)

-- ---- the table
pub record Section6 : Type 0 where
  -- a record by each of the five steps; 1 and 11 by place
  pub step : (s : AnyStep) (r : List ℕ) → StepRefuses (any_law s r).outcome s r
  pub law_one : (m : Model) (r : List ℕ) → ((record_law m r).outcome ≡ Refused 1) ↔ (SomeNotFinite (parameters_of m) ⊎ RecordNotFinite r)
  pub law_eleven : (m : Model) (r : List ℕ)
      → ((record_law m r).outcome ≡ Refused wrong_determinant) ↔ ((SomeNotFinite (parameters_of m) ⊎ RecordNotFinite r → ⊥) × (determinant_right r ≡ false))
  pub failure_one : (m : Model) (l : MaximumStressFailure) (e : CorotatedLinearElasticity) (r : List ℕ)
      → ((failure_law m l e r).outcome ≡ Refused 1) ↔ (SomeNotFinite (failure_of l e) ⊎ (SomeNotFinite (parameters_of m) ⊎ RecordNotFinite r))
  pub failure_eleven : (m : Model) (l : MaximumStressFailure) (e : CorotatedLinearElasticity) (r : List ℕ)
      → ((failure_law m l e r).outcome ≡ Refused wrong_determinant)
      ↔ ((SomeNotFinite (failure_of l e) ⊎ (SomeNotFinite (parameters_of m) ⊎ RecordNotFinite r) → ⊥) × (determinant_right r ≡ false))
  -- `update_record`, `factor_record`, `fill_determinants`
  pub one_record_lem : (m : Model) (r : List ℕ) → Lent (without (Plain m)) (record_outcome m r) r
  pub one_factored : (r : List ℕ) → Lent (with_factors_case Factors) (factor_outcome r) r
  pub filled : (xs : List ℕ) → Filled (fill_answer xs) xs
  -- `pass`, `pass_with_failure`, `factor_list`, `pass_factored`, `pass_factored_with_failure`
  pub the_pass : (m : Model) (xs out : List ℕ) → Pass (without (Plain m)) (λ n. passed (record_law m) xs out ≡ pass.Refused n) xs out
  pub the_pass_with_failure : (m : Model) (l : MaximumStressFailure) (e : CorotatedLinearElasticity) (xs out : List ℕ)
      → Pass (without (Judged m l e)) (λ n. passed_with_failure (failure_law m l e) xs out ≡ failure_pass.Refused n) xs out
  pub the_factor_list : (xs out : List ℕ) → Pass (with_factors_case Factors) (λ n. passed factor_law xs out ≡ pass.Refused n) xs out
  pub the_pass_factored : (m : Model) (xs out : List ℕ)
      → Pass (with_factors_case (First (Plain m))) (λ n. passed (factored_law (model_finite m) (record_law m)) xs out ≡ pass.Refused n) xs out
  pub the_pass_factored_with_failure : (m : Model) (l : MaximumStressFailure) (e : CorotatedLinearElasticity) (xs out : List ℕ)
      → Pass (with_factors_case (First (Judged m l e))) (λ n. passed_with_failure (factored_law (model_finite m && judge_finite l e) (failure_law m l e)) xs out ≡ failure_pass.Refused n) xs out
  pub call : (f : Function) (x : Float) → Gives (bare x (ranged (low_of f) (high_of f) x (at f x))) (call_path f x)
