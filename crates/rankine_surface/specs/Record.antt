-- Demand 3 of a record and of a pass: what is found of a record afterwards, by its bits and its two answers (RULES, section 7).
use Rattle.std.specs.Prelude.{◌≡◌, Bool, true, false, not, List, ℕ, ◌+◌, ◌*◌, ◌/◌, ◌<◌, T, length, get_or, Float}
use Rattle.std.specs.Float.Ieee as Ieee
use Rattle.numbers.specs.Floats.{finite}
use Rattle.tensor.specs.Matrix.{zero}
use Rattle.plasticity.specs.declared.Outcome.{Outcome}
use Rattle.plasticity.specs.declared.Outcome.TheVariants.{Untouched, Stored}
use Rattle.plasticity.specs.declared.State.{State}
use Rattle.plasticity.specs.declared.Updated.{Updated}
use Rattle.record.specs.Layout.{floats, state_at, put_phase}
use Rattle.failure_maximum_stress.specs.declared.MaximumStressFailure.{MaximumStressFailure}
use Rattle.elasticity_corotated_linear.specs.declared.CorotatedLinearElasticity.{CorotatedLinearElasticity}
use Rattle.plasticity_rankine.specs.declared.RankineArguments.{RankineArguments}
use Rattle.plasticity_rankine.specs.Law.{law_of}
use Rattle.model.specs.declared.Model.TheVariants.{Rankine}
use Rattle.particles.specs.Pass.{Worked, code_of, value_of, record_over, well_sized_over, records_over, list_over}
use Rattle.one_record.specs.RecordLaw.{record_law}
use Rattle.one_record.specs.Judged.{failure_law}
use Rattle.rankine_surface.specs.Axes.{Each}
use Rattle.rankine_surface.specs.Surface.{Accepted, RangesIn, Small, F64, demanded, BelowIn, OnSurfaceIn, ArchivedIn, numbers_of, exps_of, Axes, log_strains_in, softened_in, first_test_in, projected_in, three_axes}

-- ---- records of some number of axes: how many floats each has, and the state that it spells
pub record Records (S R : Type 0) : Type 0 where
  pub axes : Axes S R
  pub floats : ℕ
  pub at : List ℕ → S

module _ {S R : Type 0} (k : Records S R) where
  -- our logarithms of the record's sigma, and the softened strength s
  abbrev pub strains_at_in : List ℕ → List Float
  strains_at_in r = log_strains_in k.axes (k.at r)

  abbrev pub softened_at_in : RankineArguments → List ℕ → Float
  softened_at_in a r = softened_in k.axes (law_of a) (k.at r)

  abbrev pub first_test_at_in : RankineArguments → List ℕ → Bool
  first_test_at_in a r = first_test_in k.axes (law_of a) (strains_at_in r) (softened_at_in a r)

  abbrev pub projected_at_in : RankineArguments → List ℕ → List Float
  projected_at_in a r = projected_in k.axes (law_of a) (k.at r)

  -- the singular values and the plastic hardening that stand in a record
  abbrev pub sigma_at_in : List ℕ → List Float
  sigma_at_in r = k.axes.body.sigma (k.at r)

  abbrev pub hardening_at_in : List ℕ → Float
  hardening_at_in r = (k.axes.body.scalars (k.at r)).plastic_hardening

-- ---- what is assumed
-- Demand 3's words, for a record r of d axes at which the law answered o:
-- accepted: "a record that 01's table doesn't refuse", nor the numbers of its determinant;
-- ranges: "mu in 1 to 2^40, lambda in 0 to 2^40", and s of a size up to 4 (2mu + d lambda);
-- s-finite: "within 4(2mu + 3lambda) of zero" is no NaN and no infinity, of which `mag` would say 0;
-- strains: "log strains in -4 to 4"; that they are finite f64 follows;
-- strength: the tensile strength is an f64, as each number that the code is handed.
pub record PremisesIn {S R : Type 0} (k : Records S R) (a : RankineArguments) (r : List ℕ) (o : Outcome) : Type 0 where
  pub accepted : Accepted o
  pub ranges : RangesIn k.axes.count (law_of a) (softened_at_in k a r)
  pub s_finite : T (finite (softened_at_in k a r))
  pub strains : Each Small (strains_at_in k r)
  pub strength : F64 a.tensile_strength

-- ---- what is found afterwards: the two answers, and the record
pub record Found : Type 0 where
  pub code : ℕ
  pub value : ℕ
  pub after : List ℕ

abbrev pub found_of : Worked → Found
found_of w = record { code = code_of w.outcome; value = value_of w.outcome; after = w.after }

-- the answers are RULES' numbers of the outcome o
abbrev pub Says : Outcome → Found → Type 0
Says o f = (f.code ≡ code_of o) × (f.value ≡ value_of o)

-- the test holds: the record keeps its bits, and no stress is above s + (2mu + d lambda) / 2^44
pub record InsideAtIn {S R : Type 0} (k : Records S R) (a : RankineArguments) (r : List ℕ) (f : Found) : Type 0 where
  pub answer : Says Untouched f
  pub bits : f.after ≡ r
  pub below : Each (BelowIn k.axes.count demanded (law_of a) (softened_at_in k a r) (strains_at_in k r)) (strains_at_in k r)

-- the sigma in the record, as the archive keeps it, against the s that the update used
abbrev pub ArchivedAtIn : {S R : Type 0} → Records S R → RankineArguments → List ℕ → Found → Type 0
ArchivedAtIn k a r f = ArchivedIn k.axes.count (law_of a) (softened_at_in k a r) (sigma_at_in k f.after)

-- it fails: the hardening stored in the record is the answer's amount and at most the tensile strength; sigma in the record is the
-- exponentials of the projected strains, and these put the largest stress within the distance of s, above or below; so do the logarithms of
-- that sigma, at the archive's distance
pub record ReturnedAtIn {S R : Type 0} (k : Records S R) (a : RankineArguments) (r : List ℕ) (f : Found) : Type 0 where
  pub answer : Says (Stored (hardening_at_in k f.after)) f
  pub capped : T (Ieee.le (hardening_at_in k f.after) a.tensile_strength)
  pub sigma : sigma_at_in k f.after ≡ numbers_of (exps_of (projected_at_in k a r))
  pub on_surface : OnSurfaceIn k.axes.count demanded (law_of a) (softened_at_in k a r) (projected_at_in k a r)
  pub archive : ArchivedAtIn k a r f

pub record Demand3AtIn {S R : Type 0} (k : Records S R) (a : RankineArguments) (r : List ℕ) (f : Found) : Type 0 where
  pub holds : T (first_test_at_in k a r) → InsideAtIn k a r f
  pub fails : T (not (first_test_at_in k a r)) → ReturnedAtIn k a r f

-- the archive by itself, where the answer says 1, stored
abbrev pub ArchivesAtIn : {S R : Type 0} → Records S R → RankineArguments → List ℕ → Found → Type 0
ArchivesAtIn k a r f = f.code ≡ 1 → ArchivedAtIn k a r f

-- ---- in a pass over records of w floats
-- record i of lists that the pass takes: 8 is no refusal of theirs
pub record InPassOver (w : ℕ) (xs out : List ℕ) (i : ℕ) : Type 0 where
  pub sized : T (well_sized_over w xs out)
  pub index : i < length xs / w

-- what stands at record i, and at its two places of the answers, after a pass by any law
abbrev pub pass_found_over : ℕ → (List ℕ → Worked) → List ℕ → List ℕ → ℕ → Found
pass_found_over w law xs out i =
    record {
      code = get_or (list_over w law xs out) (i * 2) 0;
      value = get_or (list_over w law xs out) (i * 2 + 1) 0;
      after = record_over w (records_over w law xs out) i;
    }

-- ---- in three axes
abbrev pub three_records : Records State Updated
three_records = record { axes = three_axes; floats = floats; at = state_at }

abbrev pub strains_at : List ℕ → List Float
strains_at r = strains_at_in three_records r

abbrev pub softened_at : RankineArguments → List ℕ → Float
softened_at a r = softened_at_in three_records a r

abbrev pub first_test_at : RankineArguments → List ℕ → Bool
first_test_at a r = first_test_at_in three_records a r

abbrev pub Premises : RankineArguments → List ℕ → Outcome → Type 0
Premises a r o = PremisesIn three_records a r o

abbrev pub InsideAt : RankineArguments → List ℕ → Found → Type 0
InsideAt a r f = InsideAtIn three_records a r f

abbrev pub ArchivedAt : RankineArguments → List ℕ → Found → Type 0
ArchivedAt a r f = ArchivedAtIn three_records a r f

abbrev pub ReturnedAt : RankineArguments → List ℕ → Found → Type 0
ReturnedAt a r f = ReturnedAtIn three_records a r f

abbrev pub Demand3At : RankineArguments → List ℕ → Found → Type 0
Demand3At a r f = Demand3AtIn three_records a r f

abbrev pub ArchivesAt : RankineArguments → List ℕ → Found → Type 0
ArchivesAt a r f = ArchivesAtIn three_records a r f

abbrev pub InPass : List ℕ → List ℕ → ℕ → Type 0
InPass xs out i = InPassOver floats xs out i

abbrev pub pass_found : (List ℕ → Worked) → List ℕ → List ℕ → ℕ → Found
pass_found law xs out i = pass_found_over floats law xs out i

-- ---- in the pass with failure: demand 3 is read on the law's step
-- what the step found; a record that failed has phase 0.0 besides
abbrev pub marked_by : Bool → Found → Found
marked_by false f = f
marked_by true f = record { code = f.code; value = f.value; after = put_phase f.after zero }

-- the law's step on the record as it came, and what is found of the record in the pass
pub record LawStep (a : RankineArguments) (l : MaximumStressFailure) (e : CorotatedLinearElasticity) (r : List ℕ) (f : Found) : Type 0 where
  pub law : Demand3At a r (found_of (record_law (Rankine a) r))
  pub found : f ≡ marked_by (failure_law (Rankine a) l e r).failed (found_of (record_law (Rankine a) r))
