-- Records in the pass with failure (RULES, section 7): each as it came, and as the law leaves it. By computation.
use mathlib.Core.Path.{◌≡◌, refl}
use mathlib.Core.Bool.{true, false}
use mathlib.Core.List.{List, [], ◌∷◌, map}
use Prim.Native.Nat.{ℕ}
use lib.Ieee as Ieee
use lib.Ieee.{Float, binary64, of_bits, to_bits, fits, round, size}
use Rattle.exact.specs.Units.{mag, L}
use Rattle.exact.specs.Value.{val}
use Rattle.exact.specs.RootOf.{sqrt_of, floor_root, root_in}
use Rattle.numbers.specs.Floats.{finite, is_number}
use Rattle.answers.specs.Range.{side_of}
use Rattle.exponential.specs.Worked.{exp_of, nearest_of, rest_of, series_of, scale_bits, times_of}
use Rattle.logarithm.specs.Worked as ln
use Rattle.physics.specs.Physics.{lambda_of, shear_modulus_of}
use Rattle.tensor.specs.Matrix.{one, sum_of, dot_of, scaled_row_of}
use Rattle.plasticity.specs.declared.Outcome.TheVariants.{Untouched}
use Rattle.walk.specs.Matrix.{total, sum, product, entry}
use Rattle.plasticity_snow.specs.Clamp.{defaults}
use Rattle.plasticity_snow.specs.Over.{snow_walk, floats, run_walk, harden_walk}
use Rattle.plasticity_rankine.specs.Law.{arguments_of}
use Rattle.plasticity_rankine.specs.Sorting.{order_of}
use Rattle.plasticity_rankine.specs.Projection.{third_walk, second_walk, first_walk}
use Rattle.plasticity_rankine.specs.Rankine as rankine
use Rattle.plasticity_drucker_prager.specs.declared.DruckerPragerPlasticity.{DruckerPragerPlasticity}
use Rattle.plasticity_drucker_prager.specs.Law.{defaults_of}
use Rattle.plasticity_drucker_prager.specs.DruckerPrager as drucker
use Rattle.plasticity_rankine.specs.Over as rankine_over
use Rattle.plasticity_drucker_prager.specs.Over as drucker_over
use Rattle.walk.specs.Body as body
use Rattle.failure_maximum_stress.specs.declared.MaximumStressFailure.{MaximumStressFailure}
use Rattle.failure_maximum_stress.specs.declared.Verdict.{Verdict}
use Rattle.failure_maximum_stress.specs.declared.Verdict.TheVariants.{No, Yes}
use Rattle.failure_maximum_stress.specs.Failure.{over_limit, verdict_of}
use Rattle.elasticity_corotated_linear.specs.declared.CorotatedLinearElasticity.{CorotatedLinearElasticity}
use Rattle.elasticity_corotated_linear.specs.Principal.{principal_walk, principal_stresses}
use Rattle.record.specs.Layout.{state_at, determinant_at, determinant_right}
use Rattle.model.specs.declared.Model.TheVariants.{Snow, Rankine, DruckerPrager}
use Rattle.one_record.specs.RecordLaw.{updated_at, law_at, record_law}
use Rattle.one_record.specs.Judged.{verdict_after, judged_at, refused_record, failure_law}

abbrev f64 : ℕ → Float
f64 x = of_bits binary64 x

abbrev limits_at : ℕ → ℕ → MaximumStressFailure
limits_at principal shear = record { max_principal_stress = f64 principal; max_shear_stress = f64 shear }

abbrev elastic_at : ℕ → ℕ → CorotatedLinearElasticity
elastic_at lambda mu = record { split_stress_on_failure = true; cfl_coeff = one; lambda = f64 lambda; mu = f64 mu }

-- lambda 3, mu 1; limits 9.5 and 100
abbrev law : CorotatedLinearElasticity
law = elastic_at 0x4008_0000_0000_0000 0x3ff0_0000_0000_0000

abbrev limits : MaximumStressFailure
limits = limits_at 0x4023_0000_0000_0000 0x4059_0000_0000_0000

-- F, U and V^T the identity, sigma x, 1 and 1, plastic determinant d, phase and hardenings 1, gain and alpha 0; so F's determinant is 1
abbrev unit : ℕ
unit = 0x3ff0_0000_0000_0000

abbrev rows : List ℕ → List ℕ
rows l = unit ∷ 0 ∷ 0 ∷ 0 ∷ unit ∷ 0 ∷ 0 ∷ 0 ∷ unit ∷ l

abbrev of : ℕ → ℕ → List ℕ
of x d = rows (rows (x ∷ unit ∷ unit ∷ rows (unit ∷ d ∷ unit ∷ unit ∷ 0 ∷ 0 ∷ unit ∷ [])))

-- sigma 2; and sigma 0.9 with plastic determinant 0.5
abbrev stretched : List ℕ
stretched = of 0x4000_0000_0000_0000 unit

abbrev crushed : List ℕ
crushed = of 0x3fec_cccc_cccc_cccd 0x3fe0_0000_0000_0000

-- the verdict on the record as it came
abbrev came : MaximumStressFailure → CorotatedLinearElasticity → List ℕ → Verdict
came l e r = verdict_after l e (state_at r).scalars.phase (state_at r)

-- soft snow: over the limit as it came, and merely about to yield
soft_snow : (came limits law stretched ≡ Yes) × ((failure_law (Snow defaults) limits law stretched).failed ≡ false)
unfolding failure_law judged_at verdict_after updated_at law_at record_law determinant_right determinant_at to_bits snow_walk floats body.floats_of run_walk harden_walk body.store_walk principal_walk over_limit verdict_of total product entry sum_of dot_of scaled_row_of exp_of nearest_of rest_of series_of scale_bits times_of mag L finite is_number of_bits Ieee.add Ieee.sub Ieee.mul Ieee.div Ieee.neg Ieee.le Ieee.lt Ieee.eq
soft_snow = (refl, refl)

-- so a Rankine record: mu and lambda are 4, strength and rate 1
weak_rankine : let m = Rankine (arguments_of (f64 0x4024_0000_0000_0000) (f64 0x3fd0_0000_0000_0000) one one) in
    (came limits law stretched ≡ Yes) × ((failure_law m limits law stretched).failed ≡ false)
unfolding failure_law judged_at verdict_after updated_at law_at record_law determinant_right determinant_at to_bits rankine_over.arguments_walk rankine_over.floats body.floats_of rankine_over.run_walk rankine_over.strained_walk first_walk second_walk third_walk rankine_over.way_walk rankine_over.moved_walk rankine_over.harden_walk rankine_over.exps_walk body.store_walk principal_walk over_limit verdict_of total sum product entry order_of lambda_of shear_modulus_of ln.ln_of ln.exponent_of ln.fraction_of ln.part_of exp_of nearest_of rest_of series_of scale_bits times_of sqrt_of floor_root root_in mag val L fits finite is_number of_bits round size Ieee.add Ieee.sub Ieee.mul Ieee.div Ieee.neg Ieee.le Ieee.lt Ieee.eq sum_of dot_of scaled_row_of
weak_rankine = (refl, refl)

-- the other way round, with limits 100 and 1: the law hardens it from 1 to 218
hardened_snow : let l = limits_at 0x4059_0000_0000_0000 unit in (came l law crushed ≡ No) × ((failure_law (Snow defaults) l law crushed).failed ≡ true)
unfolding failure_law judged_at verdict_after updated_at law_at record_law determinant_right determinant_at to_bits snow_walk floats body.floats_of run_walk harden_walk body.store_walk principal_walk over_limit verdict_of total product entry sum_of dot_of scaled_row_of exp_of nearest_of rest_of series_of scale_bits times_of mag L finite is_number of_bits Ieee.add Ieee.sub Ieee.mul Ieee.div Ieee.neg Ieee.le Ieee.lt Ieee.eq
hardened_snow = (refl, refl)

-- with mu 1e307 that hardening's stress is refused: the record is as it came
stress_refused : failure_law (Snow defaults) limits (elastic_at 0 0x7fac_7b1f_3cac_7433) crushed ≡ refused_record 3 crushed
unfolding failure_law judged_at verdict_after updated_at law_at record_law determinant_right determinant_at to_bits snow_walk floats body.floats_of run_walk harden_walk body.store_walk principal_walk over_limit verdict_of total product entry sum_of dot_of scaled_row_of exp_of nearest_of rest_of series_of scale_bits times_of mag L finite is_number of_bits Ieee.add Ieee.sub Ieee.mul Ieee.div Ieee.neg Ieee.le Ieee.lt Ieee.eq
stress_refused = refl

-- Snow's exponential is asked above its range: 10, and no verdict on the record, which limit -1 would have failed
law_refused : let r = of unit 0xc08f_4000_0000_0000 in
    let l = limits_at 0xbff0_0000_0000_0000 unit in (came l law r ≡ Yes) × (failure_law (Snow defaults) l law r ≡ refused_record 10 r)
unfolding failure_law judged_at verdict_after updated_at law_at record_law determinant_right determinant_at to_bits snow_walk floats body.floats_of run_walk harden_walk side_of principal_walk over_limit verdict_of product finite is_number of_bits Ieee.add Ieee.sub Ieee.mul Ieee.div Ieee.neg Ieee.le Ieee.lt Ieee.eq
law_refused = (refl, refl)

-- Drucker-Prager only for failed records meets the phase as it came: it leaves the record, which then fails
abbrev only_failed : DruckerPragerPlasticity
only_failed =
    let p = defaults_of one one in
    record { h0 = p.h0; h1 = p.h1; h2 = p.h2; h3 = p.h3; lambda = one; mu = one; only_active_when_failed = true; volume_correction = one }

whole_sand : let w = failure_law (DruckerPrager only_failed) limits law stretched in (w.outcome ≡ Untouched) × (w.failed ≡ true)
unfolding failure_law judged_at verdict_after updated_at law_at record_law determinant_right determinant_at to_bits drucker_over.drucker_walk drucker_over.floats drucker_over.run_walk body.floats_of principal_walk over_limit verdict_of product finite is_number of_bits Ieee.add Ieee.sub Ieee.mul Ieee.div Ieee.neg Ieee.le Ieee.lt Ieee.eq Ieee.ne
whole_sand = (refl, refl)

-- ---- what is judged at phase 0.0 with the flag is the compressive part alone, by hand
abbrev split_stresses : List ℕ → List ℕ → Type 0
split_stresses s t = principal_stresses law (f64 0) one (map f64 s) ≡ record { refusal = 0; vector = map f64 t }

-- below J = 1, sigma 2, 1/4 and 1: lambda h (J - 1) J is -3/4, and 2mu h (sigma - 1) sigma is -3/8 for the second
below_one : split_stresses (0x4000_0000_0000_0000 ∷ 0x3fd0_0000_0000_0000 ∷ unit ∷ []) (0xbfe8_0000_0000_0000 ∷ 0xbff2_0000_0000_0000 ∷ 0xbfe8_0000_0000_0000 ∷ [])
unfolding principal_walk product finite is_number of_bits Ieee.add Ieee.sub Ieee.mul Ieee.div Ieee.neg Ieee.le Ieee.lt Ieee.eq
below_one = refl

-- above it, sigma 4, 1/2 and 1: the spherical stress is tensile, and the second's -1/2 is left
above_one : split_stresses (0x4010_0000_0000_0000 ∷ 0x3fe0_0000_0000_0000 ∷ unit ∷ []) (0 ∷ 0xbfe0_0000_0000_0000 ∷ 0 ∷ [])
unfolding principal_walk product finite is_number of_bits Ieee.add Ieee.sub Ieee.mul Ieee.div Ieee.neg Ieee.le Ieee.lt Ieee.eq
above_one = refl

-- ---- the determinant: of an F of zeros it is 0.0, and -0.0 is another in one bit
abbrev zeros : List ℕ → List ℕ
zeros l = 0 ∷ 0 ∷ 0 ∷ 0 ∷ 0 ∷ 0 ∷ 0 ∷ 0 ∷ 0 ∷ l

abbrev minus_zero : ℕ
minus_zero = 0x8000_0000_0000_0000

abbrev flat : List ℕ
flat = zeros (rows (unit ∷ unit ∷ unit ∷ rows (unit ∷ unit ∷ unit ∷ unit ∷ 0 ∷ 0 ∷ minus_zero ∷ [])))

other_zero : record_law (Snow defaults) flat ≡ refused_record 11 flat
unfolding record_law law_at determinant_right determinant_at to_bits finite is_number of_bits Ieee.add Ieee.sub Ieee.mul
other_zero = refl

-- 1 comes before it
no_parameter : let p = defaults in
    let m = Snow (record { min_epsilon = Ieee.nan; max_epsilon = p.max_epsilon; hardening_coeff = p.hardening_coeff }) in
    record_law m flat ≡ refused_record 1 flat
unfolding record_law law_at determinant_right determinant_at to_bits finite is_number of_bits Ieee.add Ieee.sub Ieee.mul
no_parameter = refl

-- U's diagonal is 1e200: each entry of the new F is finite, and its determinant is not
abbrev large : ℕ
large = 0x6974_e718_d7d7_625a

abbrev torn : List ℕ
torn = rows (large ∷ 0 ∷ 0 ∷ 0 ∷ large ∷ 0 ∷ 0 ∷ 0 ∷ large ∷ unit ∷ unit ∷ unit ∷ rows (unit ∷ unit ∷ unit ∷ unit ∷ 0 ∷ 0 ∷ unit ∷ []))

no_determinant : record_law (Snow defaults) torn ≡ refused_record 3 torn
unfolding record_law law_at updated_at determinant_right determinant_at snow_walk floats body.floats_of run_walk harden_walk body.store_walk total product entry sum_of dot_of scaled_row_of exp_of nearest_of rest_of series_of scale_bits times_of mag L finite is_number of_bits to_bits Ieee.add Ieee.sub Ieee.mul Ieee.div Ieee.neg Ieee.le Ieee.lt Ieee.eq
no_determinant = refl
