-- A law is a row. All that the crates above read of the plastic laws stands here, a clause a law: its numbers, what holds of it whatever its parameters
-- (`row_of`), what it makes of a record by its parameters (`acts_of`), and by those made ready (`law_ready`, `prepared_of`). RULES, sections 5 to 7.
use Rattle.std.specs.Prelude.{Bool, true, false, not, cond, ◌&&◌, ◌||◌, List, [], ◌∷◌, ℕ, eqb, get_or, Float}
use Rattle.answers.specs.Refusals.{no_number}
use Rattle.plasticity.specs.State.{refused}
use Rattle.plasticity.specs.declared.State.{State}
use Rattle.plasticity.specs.declared.Updated.{Updated}
use Rattle.walk.specs.Walk.{Walk}
use Rattle.walk.specs.Update.{Change}
use Rattle.reason.specs.declared.Reason.{Reason}
use Rattle.reason.specs.Reason.{untold}
use Rattle.record.specs.Layout.{float_at}
use Rattle.plasticity_snow.specs.declared.SnowPlasticity.{SnowPlasticity}
use Rattle.plasticity_snow.specs.Snow as snow
use Rattle.plasticity_snow.specs.Reason as snow_reason
use Rattle.plasticity_rankine.specs.declared.RankineArguments.{RankineArguments}
use Rattle.plasticity_rankine.specs.declared.RankinePlasticity.{RankinePlasticity}
use Rattle.plasticity_rankine.specs.Law as rankine_law
use Rattle.plasticity_rankine.specs.Projection as rankine_projection
use Rattle.plasticity_rankine.specs.Rankine as rankine
use Rattle.plasticity_drucker_prager.specs.declared.DruckerPragerPlasticity.{DruckerPragerPlasticity}
use Rattle.plasticity_drucker_prager.specs.Law as drucker_prager_law
use Rattle.plasticity_drucker_prager.specs.Projection as drucker_prager_projection
use Rattle.plasticity_drucker_prager.specs.DruckerPrager as drucker_prager
use Rattle.plasticity_nacc.specs.declared.NaccArguments.{NaccArguments}
use Rattle.plasticity_nacc.specs.declared.NaccPlasticity.{NaccPlasticity}
use Rattle.plasticity_nacc.specs.Law as nacc_law
use Rattle.plasticity_nacc.specs.Projection as nacc_projection
use Rattle.plasticity_nacc.specs.Nacc as nacc
use Rattle.model.specs.declared.Law.{Law}
use Rattle.model.specs.declared.Law.TheVariants.{Snow, Rankine, DruckerPrager, Nacc, Unknown}
use Rattle.model.specs.declared.Model.{Model}
use Rattle.model.specs.declared.Model.TheVariants as models
use Rattle.model.specs.declared.Ready.{Ready}
use Rattle.model.specs.declared.Ready.TheVariants as ready

-- ---- the numbers
-- a number above the last is refused by 6
abbrev pub last : ℕ
last = 7

-- a law's number, or its number with the determinant
abbrev pub either : ℕ → ℕ → ℕ → Bool
either bare whole number = eqb number bare || eqb number whole

-- of each law its number, and that of sheets whose records end with the determinant; any other number is none's
unfoldable pub law_of : ℕ → Law
law_of number =
    cond (either 0 4 number) Snow
    (cond (either 1 5 number) Rankine
    (cond (either 2 6 number) DruckerPrager
    (cond (either 3 7 number) Nacc
    Unknown)))

-- of a sheet: whether its records end with the determinant
abbrev pub whole : ℕ → Bool
whole number = not (eqb number 0 || eqb number 1 || eqb number 2 || eqb number 3)

-- ---- the laws from their parameters' bits, in declared order: fields, arguments of `new`, fields, arguments of `with_m`
-- a flag has the bits of 0.0, which are 0, or of 1.0
abbrev pub flagged : List ℕ → ℕ → Bool
flagged p i = not (eqb (get_or p i 0) 0)

abbrev pub snow_of : List ℕ → SnowPlasticity
snow_of p = record { min_epsilon = float_at p 0; max_epsilon = float_at p 1; hardening_coeff = float_at p 2 }

abbrev pub rankine_of : List ℕ → RankineArguments
rankine_of p =
    record { young_modulus = float_at p 0; poisson_ratio = float_at p 1; tensile_strength = float_at p 2; softening_rate = float_at p 3 }

abbrev pub drucker_prager_of : List ℕ → DruckerPragerPlasticity
drucker_prager_of p =
    record {
      h0 = float_at p 0;
      h1 = float_at p 1;
      h2 = float_at p 2;
      h3 = float_at p 3;
      lambda = float_at p 4;
      mu = float_at p 5;
      only_active_when_failed = flagged p 6;
      volume_correction = float_at p 7;
    }

abbrev pub nacc_of : List ℕ → NaccArguments
nacc_of p =
    record {
      young_modulus = float_at p 0;
      poisson_ratio = float_at p 1;
      cohesion = float_at p 2;
      hardening_enabled = flagged p 3;
      hardening_factor = float_at p 4;
      m = float_at p 5;
    }

-- ---- a law, whatever its parameters
pub record Row : Type 0 where
  -- of each parameter whether it is a flag
  pub kinds : List Bool
  -- the parts of a record that an update writes beside F and sigma: 5 plastic determinant, 6 plastic hardening, 7 elastic hardening, 8 log gain, 9 alpha
  pub written : List ℕ
  -- the branch that a test chose, by the test's number in docs/STEPS.md and whether it held: 0 untouched
  pub branch : ℕ → Bool → ℕ
  -- the law with parameters of these bits
  pub made : List ℕ → Model

abbrev pub row_of : Law → Row
row_of Snow =
    record { kinds = false ∷ false ∷ false ∷ []; written = 5 ∷ 7 ∷ []; branch = λ test held. snow_reason.branch_number; made = λ p. models.Snow (snow_of p) }
row_of Rankine =
    record {
      kinds = false ∷ false ∷ false ∷ false ∷ [];
      written = 6 ∷ [];
      made = λ p. models.Rankine (rankine_of p);
      branch = λ test held. rankine_projection.branch_number test held;
    }
row_of DruckerPrager =
    record {
      kinds = false ∷ false ∷ false ∷ false ∷ false ∷ false ∷ true ∷ false ∷ [];
      written = 5 ∷ 6 ∷ 8 ∷ [];
      made = λ p. models.DruckerPrager (drucker_prager_of p);
      branch = λ test held. drucker_prager_projection.branch_number test held;
    }
row_of Nacc =
    record {
      kinds = false ∷ false ∷ false ∷ true ∷ false ∷ false ∷ [];
      written = 9 ∷ [];
      made = λ p. models.Nacc (nacc_of p);
      branch = λ test held. nacc_projection.branch_number test held;
    }
-- a number of none is refused by 6, so that none is made
row_of Unknown = record { kinds = []; written = []; branch = λ test held. 0; made = λ p. models.Snow (snow_of p) }

-- ---- a law with its parameters
pub record Acts : Type 0 where
  pub law : Law
  -- the parameters' floats, which are inputs of each record, and whether all are finite
  pub floats : List Float
  pub finite : Bool
  -- the law's walk, and what comes in it after 1: the moduli by 3, then the steps
  pub walk : List (List Float) → List (List Float) → State → Walk Change
  pub steps : List (List Float) → List (List Float) → State → Walk Change
  -- what is told where no test is made: only Snow makes none
  pub untested : State → Reason

abbrev pub acts_of : Model → Acts
acts_of (models.Snow p) =
    record {
      law = Snow;
      floats = snow.parameters_of p;
      finite = snow.parameters_finite p;
      untested = λ s. snow_reason.bounds_of p s.sigma;
      walk = λ u vt s. snow.snow_walk p u vt s;
      steps = λ u vt s. snow.run_walk p u vt s;
    }
acts_of (models.Rankine a) =
    record {
      law = Rankine;
      floats = rankine_law.arguments_floats a;
      finite = rankine_law.arguments_finite a;
      untested = λ s. untold;
      walk = λ u vt s. rankine.arguments_walk a u vt s;
      steps = λ u vt s. rankine_law.moduli (rankine_law.law_of a) (rankine.run_walk (rankine_law.law_of a) s.sigma u vt s);
    }
acts_of (models.DruckerPrager p) =
    record {
      law = DruckerPrager;
      floats = drucker_prager_law.parameters_of p;
      finite = drucker_prager_law.parameters_finite p;
      untested = λ s. untold;
      walk = λ u vt s. drucker_prager.drucker_walk p u vt s;
      steps = λ u vt s. drucker_prager.run_walk p u vt s;
    }
acts_of (models.Nacc a) =
    record {
      law = Nacc;
      floats = nacc_law.arguments_floats a;
      finite = nacc_law.arguments_finite a;
      untested = λ s. untold;
      walk = λ u vt s. nacc.arguments_walk a u vt s;
      steps = λ u vt s. nacc_projection.moduli (nacc_law.law_of a) (nacc.run_walk (nacc_law.law_of a) u vt s);
    }

-- ---- a law made ready: of finite parameters, 3 for a modulus
abbrev pub rankine_ready : RankinePlasticity → Ready
rankine_ready p = cond (rankine_law.moduli_finite p) (ready.Rankine p) (ready.Refused no_number)

abbrev pub nacc_ready : NaccPlasticity → Ready
nacc_ready p = cond (nacc_law.moduli_finite p) (ready.Nacc p) (ready.Refused no_number)

abbrev pub law_ready : Model → Ready
law_ready (models.Snow p) = ready.Snow p
law_ready (models.Rankine a) = rankine_ready (rankine_law.law_of a)
law_ready (models.DruckerPrager p) = ready.DruckerPrager p
law_ready (models.Nacc a) = nacc_ready (nacc_law.law_of a)

pub record Prepared : Type 0 where
  pub law : Law
  -- by which its model is refused, 0 where it isn't
  pub refusal : ℕ
  -- what holds of it
  pub finite : Bool
  pub update : List (List Float) → List (List Float) → State → Updated

abbrev pub prepared_of : Ready → Prepared
prepared_of (ready.Snow p) = record { law = Snow; refusal = 0; finite = snow.parameters_finite p; update = λ u vt s. snow.snow_update p u vt s }
prepared_of (ready.Rankine p) =
    record { law = Rankine; refusal = 0; finite = rankine_law.parameters_finite p && rankine_law.moduli_finite p; update = λ u vt s. rankine.rankine_update p u vt s }
prepared_of (ready.DruckerPrager p) =
    record { law = DruckerPrager; refusal = 0; finite = drucker_prager_law.parameters_finite p; update = λ u vt s. drucker_prager.drucker_update p u vt s }
prepared_of (ready.Nacc p) =
    record { law = Nacc; refusal = 0; finite = nacc_law.parameters_finite p && nacc_law.moduli_finite p; update = λ u vt s. nacc.nacc_update p u vt s }
-- a model that is refused is no law's, and stores nothing
prepared_of (ready.Refused n) = record { law = Unknown; refusal = n; finite = true; update = λ u vt s. refused n s }
