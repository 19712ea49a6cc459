-- What holds of every law's row, a clause a law where it must be one; and of a model made ready: it is finite, knows whether its parameters were, and
-- updates a finite record as the model does. Assumes nothing.
use mathlib.Core.Path.{◌≡◌, refl, ap, ◌∙◌}
use mathlib.Core.Bool.{Bool, true, false, not, cond, ◌&&◌}
use mathlib.Core.List.{List, [], ◌∷◌, ◌++◌}
use Prim.Native.Nat.{ℕ, ◌≤◌, ◌<◌}
use native.Mathlib.Omega.{arith}
use lib.Dec.{ltb}
use lib.ListN.{length}
use lib.Ieee as Ieee
use lib.Ieee.{Float}
use Rattle.numbers.specs.Floats.{finite}
use Rattle.answers.specs.Refusals.{not_finite, no_number}
use Rattle.tensor.specs.Axes.{all_of}
use Rattle.plasticity.specs.State.{inputs_finite, refused}
use Rattle.plasticity.specs.declared.State.{State}
use Rattle.walk.specs.Walk.{inputs, walk_result}
use Rattle.walk.specs.Walk as walk
use Rattle.walk.proofs.Every.{all_append}
use Rattle.walk.specs.Update.{in_three, updated_of, floats_of}
use Rattle.walk.proofs.Body.{floats_finite}
use Rattle.reason.specs.Told.{reason_number}
use Rattle.record.specs.Layout.{layout, place, place_determinant, float_at}
use Rattle.plasticity_snow.specs.Over as snow_over
use Rattle.plasticity_rankine.specs.Over as rankine_over
use Rattle.plasticity_drucker_prager.specs.Over as drucker_over
use Rattle.plasticity_nacc.specs.Over as nacc_over
use Rattle.model.specs.declared.Law.{Law}
use Rattle.model.specs.declared.Law.TheVariants as law
use Rattle.model.specs.declared.Model.{Model}
use Rattle.model.specs.declared.Model.TheVariants.{Snow, Rankine, DruckerPrager, Nacc}
use Rattle.model.specs.Rows.{row_of, acts_of, prepared_of}
use Rattle.model.specs.Kinds.{kinds}
use Rattle.model.specs.Model.{model_finite, model_update}
use mathlib.Core.Logic.{◌⊎◌, inl, inr}
use Rattle.numbers.proofs.Laws.{and_both}
use Rattle.plasticity_snow.specs.declared.SnowPlasticity.{SnowPlasticity}
use Rattle.plasticity_snow.specs.Snow as snow
use Rattle.plasticity_snow.proofs.Laws as snow_laws
use Rattle.plasticity_rankine.specs.declared.RankineArguments.{RankineArguments}
use Rattle.plasticity_rankine.specs.Law as rankine_law
use Rattle.plasticity_rankine.specs.Rankine as rankine
use Rattle.plasticity_rankine.proofs.Laws as rankine_laws
use Rattle.plasticity_drucker_prager.specs.declared.DruckerPragerPlasticity.{DruckerPragerPlasticity}
use Rattle.plasticity_drucker_prager.specs.Law as drucker_prager_law
use Rattle.plasticity_drucker_prager.specs.DruckerPrager as drucker_prager
use Rattle.plasticity_drucker_prager.proofs.Laws as drucker_prager_laws
use Rattle.plasticity_nacc.specs.declared.NaccArguments.{NaccArguments}
use Rattle.plasticity_nacc.specs.Law as nacc_law
use Rattle.plasticity_nacc.specs.Nacc as nacc
use Rattle.plasticity_nacc.proofs.Laws as nacc_laws
use Rattle.model.specs.declared.Ready.{Ready}
use Rattle.model.specs.declared.Ready.TheVariants as ready
use Rattle.model.specs.Ready.{ready_of, ready_finite, parameters_ready, ready_update}

-- ---- the kinds: at most one is a flag, and there are at most 8
abbrev pub no_flag : List Bool → Bool
no_flag [] = true
no_flag (flag ∷ flags) = not flag && no_flag flags

abbrev pub one_flag : List Bool → Bool
one_flag [] = true
one_flag (true ∷ flags) = no_flag flags
one_flag (false ∷ flags) = one_flag flags

pub kinds_one : (l : Law) → one_flag (kinds l) ≡ true
kinds_one law.Snow = refl
kinds_one law.Rankine = refl
kinds_one law.DruckerPrager = refl
kinds_one law.Nacc = refl
kinds_one law.Unknown = refl

pub kinds_few : (l : Law) → length (kinds l) ≤ 8
kinds_few law.Snow = omega arith
kinds_few law.Rankine = omega arith
kinds_few law.DruckerPrager = omega arith
kinds_few law.Nacc = omega arith
kinds_few law.Unknown = omega arith

-- ---- what is written stands behind F and before its determinant
abbrev pub aside : List ℕ → Bool
aside [] = true
aside (part ∷ parts) = (ltb 8 (place layout part) && ltb (place layout part) place_determinant) && aside parts

pub written_aside : (l : Law) → aside (row_of l).written ≡ true
written_aside law.Snow = refl
written_aside law.Rankine = refl
written_aside law.DruckerPrager = refl
written_aside law.Nacc = refl
written_aside law.Unknown = refl

-- ---- parameters whose floats are all finite make a law whose floats are; a flag is no float of it
abbrev pub Finite : List ℕ → ℕ → Type 0
Finite p n = (j : ℕ) → j < n → finite (float_at p j) ≡ true

none_finite : model_finite ((row_of law.Unknown).made []) ≡ true
unfolding finite Ieee.of_bits
none_finite = refl

pub made_finite : (l : Law) (p : List ℕ) → length p ≡ length (kinds l) → Finite p (length (kinds l)) → model_finite ((row_of l).made p) ≡ true
made_finite law.Snow p n f = simp (f 0 (omega arith), f 1 (omega arith), f 2 (omega arith))
made_finite law.Rankine p n f = simp (f 0 (omega arith), f 1 (omega arith), f 2 (omega arith), f 3 (omega arith))
made_finite law.DruckerPrager p n f =
    simp (f 0 (omega arith), f 1 (omega arith), f 2 (omega arith), f 3 (omega arith), f 4 (omega arith), f 5 (omega arith), f 7 (omega arith))
made_finite law.Nacc p n f = simp (f 0 (omega arith), f 1 (omega arith), f 2 (omega arith), f 4 (omega arith), f 5 (omega arith))
made_finite law.Unknown [] n f = none_finite
made_finite law.Unknown (w ∷ p) n f = absurd (omega (arith, n))

-- ---- a model's walk tests its inputs, then goes its steps
pub parameters_finite_lem : (m : Model) → all_of finite (acts_of m).floats ≡ model_finite m
parameters_finite_lem (Snow p) = refl
parameters_finite_lem (Rankine a) = refl
parameters_finite_lem (DruckerPrager p) = refl
parameters_finite_lem (Nacc a) = refl

-- nothing is refused where no test is made
pub untested_none : (m : Model) (s : State) → reason_number ((acts_of m).untested s) ≡ 0
untested_none (Snow p) s = refl
untested_none (Rankine a) s = refl
untested_none (DruckerPrager p) s = refl
untested_none (Nacc a) s = refl

module _ (m : Model) (u vt : List (List Float)) (s : State) where
  abbrev pub Walked : Type 0
  Walked = model_update m u vt s ≡ updated_of s (walk_result (inputs ((acts_of m).floats ++ floats_of u vt s) ((acts_of m).steps u vt s)))

pub walked : (m : Model) (u vt : List (List Float)) (s : State) → Walked m u vt s
unfolding snow_over.snow_walk snow_over.floats rankine_over.arguments_walk rankine_over.floats drucker_over.drucker_walk drucker_over.floats nacc_over.arguments_walk nacc_over.floats
walked (Snow p) u vt s = refl
walked (Rankine a) u vt s = refl
walked (DruckerPrager p) u vt s = refl
walked (Nacc a) u vt s = refl

module _ (u vt : List (List Float)) (s : State) (m : Model) where
  pub inputs_law : all_of finite ((acts_of m).floats ++ floats_of u vt s) ≡ model_finite m && inputs_finite u vt s
  inputs_law = all_append finite (acts_of m).floats (floats_of u vt s) ∙ rw (parameters_finite_lem m, floats_finite in_three u vt s) refl

  -- a law whose inputs aren't all finite
  pub not_finite_lem : model_finite m && inputs_finite u vt s ≡ false → model_update m u vt s ≡ refused not_finite s
  not_finite_lem q = walked m u vt s ∙ ap (λ (b : Bool). updated_of s (cond b (walk_result ((acts_of m).steps u vt s)) (walk.refused not_finite))) (inputs_law ∙ q)

-- ---- made ready
either_way : {A : Type 0} (b : Bool) → (b ≡ true → A) → (b ≡ false → A) → A
either_way true h i = h refl
either_way false h i = i refl

-- ---- finite arguments have finite parameters
rankine_parameters : (a : RankineArguments) → rankine_law.arguments_finite a ≡ true → rankine_law.parameters_finite (rankine_law.law_of a) ≡ true
rankine_parameters a t =
    let e = rankine_law.elastic_finite a in
    let x = finite a.tensile_strength in
    let to_rate = and_both (e && x) (finite a.softening_rate) t in
    rw (and_both e x to_rate.0).1 to_rate.1

nacc_parameters : (a : NaccArguments) → nacc_law.arguments_finite a ≡ true → nacc_law.parameters_finite (nacc_law.law_of a) ≡ true
nacc_parameters a t =
    let e = nacc_law.elastic_finite a in
    let x = finite a.cohesion in
    let k = finite a.hardening_factor in
    let to_m = and_both (e && x && k) (finite a.m) t in
    let to_factor = and_both (e && x) k to_m.0 in
    rw (to_factor.1, (and_both e x to_factor.0).1) to_m.1

pub ready_finite_lem : (m : Model) → ready_finite (ready_of m) ≡ true
unfolding ready_of
ready_finite_lem (Snow p) = either_way (snow.parameters_finite p) (λ t. simp t) (λ f. simp f)
ready_finite_lem (Rankine a) =
    either_way (rankine_law.arguments_finite a)
    (λ t. either_way (rankine_law.moduli_finite (rankine_law.law_of a)) (λ l. simp (t, l, rankine_parameters a t)) (λ l. simp (t, l)))
    (λ f. simp f)
ready_finite_lem (DruckerPrager p) = either_way (drucker_prager_law.parameters_finite p) (λ t. simp t) (λ f. simp f)
ready_finite_lem (Nacc a) =
    either_way (nacc_law.arguments_finite a)
    (λ t. either_way (nacc_law.moduli_finite (nacc_law.law_of a)) (λ l. simp (t, l, nacc_parameters a t)) (λ l. simp (t, l)))
    (λ f. simp f)

pub ready_parameters : (m : Model) → parameters_ready (ready_of m) ≡ model_finite m
unfolding ready_of
ready_parameters (Snow p) = either_way (snow.parameters_finite p) (λ t. simp t) (λ f. simp f)
ready_parameters (Rankine a) =
    either_way (rankine_law.arguments_finite a)
    (λ t. either_way (rankine_law.moduli_finite (rankine_law.law_of a)) (λ l. simp (t, l)) (λ l. simp (t, l)))
    (λ f. simp f)
ready_parameters (DruckerPrager p) = either_way (drucker_prager_law.parameters_finite p) (λ t. simp t) (λ f. simp f)
ready_parameters (Nacc a) =
    either_way (nacc_law.arguments_finite a)
    (λ t. either_way (nacc_law.moduli_finite (nacc_law.law_of a)) (λ l. simp (t, l)) (λ l. simp (t, l)))
    (λ f. simp f)

-- ---- the law is the model's, or the model is refused
abbrev pub Lawful : Ready → Model → Type 0
Lawful q m = ((prepared_of q).law ≡ (acts_of m).law) ⊎ ((n : ℕ) × (q ≡ ready.Refused n))

refused_or : {q : Ready} (m : Model) (b : Bool) → Lawful q m → (n : ℕ) → Lawful (cond b q (ready.Refused n)) m
refused_or m true h n = h
refused_or m false h n = inr (n, refl)

pub ready_lawful : (m : Model) → Lawful (ready_of m) m
unfolding ready_of
ready_lawful (Snow p) = refused_or (Snow p) (model_finite (Snow p)) (inl refl) not_finite
ready_lawful (Rankine a) = refused_or (Rankine a) (model_finite (Rankine a)) (refused_or (Rankine a) (rankine_law.moduli_finite (rankine_law.law_of a)) (inl refl) no_number) not_finite
ready_lawful (DruckerPrager p) = refused_or (DruckerPrager p) (model_finite (DruckerPrager p)) (inl refl) not_finite
ready_lawful (Nacc a) = refused_or (Nacc a) (model_finite (Nacc a)) (refused_or (Nacc a) (nacc_law.moduli_finite (nacc_law.law_of a)) (inl refl) no_number) not_finite

module _ (u vt : List (List Float)) (s : State) (h : inputs_finite u vt s ≡ true) where
  snow_ready : (p : SnowPlasticity) → ready_update (ready_of (Snow p)) u vt s ≡ snow.snow_update p u vt s
  unfolding ready_of snow_over.snow_walk
  snow_ready p = either_way (snow.parameters_finite p) (λ t. simp t) (λ f. simp (snow_laws.inputs_law in_three, f))

  rankine_ready : (a : RankineArguments) → ready_update (ready_of (Rankine a)) u vt s ≡ rankine.arguments_update a u vt s
  unfolding ready_of rankine_over.arguments_walk rankine_over.rankine_walk
  rankine_ready a =
      either_way (rankine_law.arguments_finite a)
      (λ t. either_way (rankine_law.moduli_finite (rankine_law.law_of a))
      (λ l. simp (rankine_laws.inputs_law in_three, t, l, h, rankine_parameters a t))
      (λ l. simp (rankine_laws.inputs_law in_three, t, l, h)))
      (λ f. simp (rankine_laws.inputs_law in_three, f))

  drucker_prager_ready : (p : DruckerPragerPlasticity) → ready_update (ready_of (DruckerPrager p)) u vt s ≡ drucker_prager.drucker_update p u vt s
  unfolding ready_of drucker_over.drucker_walk
  drucker_prager_ready p = either_way (drucker_prager_law.parameters_finite p) (λ t. simp t) (λ f. simp (drucker_prager_laws.inputs_law in_three, f))

  nacc_ready : (a : NaccArguments) → ready_update (ready_of (Nacc a)) u vt s ≡ nacc.arguments_update a u vt s
  unfolding ready_of nacc_over.arguments_walk nacc_over.nacc_walk
  nacc_ready a =
      either_way (nacc_law.arguments_finite a)
      (λ t. either_way (nacc_law.moduli_finite (nacc_law.law_of a))
      (λ l. simp (nacc_laws.inputs_law in_three, t, l, h, nacc_parameters a t))
      (λ l. simp (nacc_laws.inputs_law in_three, t, l, h)))
      (λ f. simp (nacc_laws.inputs_law in_three, f))

  pub ready_update_lem : (m : Model) → ready_update (ready_of m) u vt s ≡ model_update m u vt s
  ready_update_lem (Snow p) = snow_ready p
  ready_update_lem (Rankine a) = rankine_ready a
  ready_update_lem (DruckerPrager p) = drucker_prager_ready p
  ready_update_lem (Nacc a) = nacc_ready a
