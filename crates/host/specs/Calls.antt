-- The answers of the calls that read lists: each law's own answer, after 8 for a length and 6 for a flag (RULES, section 6).
use Rattle.std.specs.Prelude.{not, ◌&&◌, List, ℕ, eqb, get_or, Float}
use Rattle.std.specs.Float.{binary64}
use Rattle.std.specs.Float.Ieee.{to_bits}
use Rattle.answers.specs.Answer.{answered_of, given}
use Rattle.answers.specs.declared.Answer.{Answer}
use Rattle.tensor.specs.Finite.{row_finite, mat_finite}
use Rattle.tensor.specs.Answer.{answered, answered_vector, given_matrix, given_vector}
use Rattle.tensor.specs.declared.VectorAnswer.{VectorAnswer}
use Rattle.tensor.specs.declared.MatrixAnswer.{MatrixAnswer}
use Rattle.decomposed.specs.Decomposed.{deviatoric_of, spherical_of, times_of, tensor_finite}
use Rattle.decomposed.specs.Rates.{spin_tensor_of, strain_rate_of}
use Rattle.elasticity_neo_hookean.specs.Stress as neo
use Rattle.elasticity_neo_hookean.specs.Energy as neo_energy
use Rattle.elasticity_corotated_linear.specs.Energy as corotated_energy
use Rattle.eos_monaghan_sph.specs.Stress as monaghan
use Rattle.eos_monaghan_sph.specs.Timestep as timestep
use Rattle.eos_monaghan_sph.specs.declared.MonaghanSphEos.{MonaghanSphEos}
use Rattle.plasticity_snow.specs.Snow.{clamped_of}
use Rattle.plasticity_snow.specs.declared.SnowPlasticity.{SnowPlasticity}
use Rattle.plasticity_rankine.specs.Projection.{arguments_project}
use Rattle.plasticity_drucker_prager.specs.Alpha.{alpha_of}
use Rattle.record.specs.Layout.{row_at, mat_at}
use Rattle.host_lists.specs.Refused.{has, sized_number, sized_vector, sized_matrix, flagged_number}
use Rattle.host_lists.specs.Read.{decomposed_of}
use Rattle.model.specs.Fields.{rankine_of}
use Rattle.host_lists.specs.Laws.{neo_hookean_of, corotated_of}
use Rattle.model.specs.Rows.{drucker_prager_of}

-- ---- physics.rs
unfoldable pub spin_tensor : List ℕ → MatrixAnswer
spin_tensor m = sized_matrix (has 9 m) (given_matrix (mat_finite (mat_at m 0)) (answered (spin_tensor_of (mat_at m 0))))

unfoldable pub strain_rate : List ℕ → MatrixAnswer
strain_rate m = sized_matrix (has 9 m) (given_matrix (mat_finite (mat_at m 0)) (answered (strain_rate_of (mat_at m 0))))

unfoldable pub deviatoric_part : List ℕ → MatrixAnswer
deviatoric_part m = sized_matrix (has 9 m) (given_matrix (mat_finite (mat_at m 0)) (answered (deviatoric_of (mat_at m 0))))

unfoldable pub spherical_part : List ℕ → Answer
spherical_part m = sized_number (has 9 m) (given (mat_finite (mat_at m 0)) (answered_of (spherical_of (mat_at m 0))))

-- ---- neo-Hookean
unfoldable pub neo_hookean_fpk_stress : List ℕ → Float → List ℕ → MatrixAnswer
neo_hookean_fpk_stress p h f = sized_matrix (has 3 p && has 9 f) (neo.fpk_stress (neo_hookean_of p) (mat_at f 0) h)

unfoldable pub neo_hookean_elastic_energy_density : List ℕ → Float → Float → List ℕ → Answer
neo_hookean_elastic_energy_density p phase h f = sized_number (has 3 p && has 9 f) (neo_energy.elastic_energy_density (neo_hookean_of p) phase h (mat_at f 0))

-- the flag comes as a number: its bits tell it
unfoldable pub neo_hookean_elastic_energy_density_in : List ℕ → Float → Float → Float → List ℕ → Answer
neo_hookean_elastic_energy_density_in p one_split phase h f =
    let w = to_bits binary64 one_split in
    sized_number (has 3 p && has 9 f) (flagged_number w (neo_energy.elastic_energy_density_in (not (eqb w 0)) (neo_hookean_of p) phase h (mat_at f 0)))

unfoldable pub neo_hookean_pos_energy : List ℕ → Float → Float → List ℕ → Answer
neo_hookean_pos_energy p phase h f = sized_number (has 3 p && has 9 f) (neo_energy.pos_energy (neo_hookean_of p) phase h (mat_at f 0))

-- ---- corotated
unfoldable pub corotated_elastic_energy_density : List ℕ → Float → List ℕ → Answer
corotated_elastic_energy_density p h sigma =
    sized_number (has 4 p && has 3 sigma)
    (flagged_number (get_or p 0 0) (corotated_energy.elastic_energy_density (corotated_of p) (row_at sigma 0) h))

unfoldable pub corotated_pos_energy : List ℕ → Float → List ℕ → List ℕ → Answer
corotated_pos_energy p h f sigma =
    sized_number (has 4 p && has 9 f && has 3 sigma)
    (flagged_number (get_or p 0 0) (corotated_energy.pos_energy (corotated_of p) (mat_at f 0) (row_at sigma 0) h))

-- ---- Monaghan
abbrev pub eos_of : Float → ℕ → Float → Float → MonaghanSphEos
eos_of pressure gamma viscosity negative =
    record { pressure0 = pressure; gamma = gamma; viscosity = viscosity; max_neg_pressure = negative }

unfoldable pub monaghan_kirchhoff_stress : MonaghanSphEos → Float → Float → Float → Float → List ℕ → MatrixAnswer
monaghan_kirchhoff_stress law mass volume density det gradient =
    sized_matrix (has 9 gradient) (monaghan.kirchhoff_stress_of law mass volume density det (mat_at gradient 0))

unfoldable pub monaghan_timestep_bound : MonaghanSphEos → Float → Float → Float → Float → List ℕ → Float → Answer
monaghan_timestep_bound law j mass volume density velocity width =
    sized_number (has 3 velocity) (timestep.timestep_bound_of law j mass volume density (row_at velocity 0) width)

-- ---- the bare clamp, which has no refusal of its own
abbrev pub vector_of : List Float → VectorAnswer
vector_of v = record { refusal = 0; vector = v }

abbrev pub snow_of : Float → Float → Float → SnowPlasticity
snow_of low high coeff = record { min_epsilon = low; max_epsilon = high; hardening_coeff = coeff }

unfoldable pub snow_clamp : SnowPlasticity → List ℕ → VectorAnswer
snow_clamp p s = sized_vector (has 3 s) (vector_of (clamped_of p (row_at s 0)))

-- ---- Rankine's projection
unfoldable pub rankine_project : List ℕ → Float → List ℕ → VectorAnswer
rankine_project p s e = sized_vector (has 4 p && has 3 e) (arguments_project (rankine_of p) (row_at e 0) s)

-- ---- Drucker-Prager's slope
unfoldable pub drucker_prager_alpha : List ℕ → Float → Answer
drucker_prager_alpha p q = sized_number (has 8 p) (flagged_number (get_or p 6 0) (alpha_of (drucker_prager_of p) q))

-- ---- DecomposedTensor times a vector
abbrev pub times_answer : Float → List ℕ → List Float → VectorAnswer
times_answer s d v = given_vector (tensor_finite (decomposed_of s d) && row_finite v) (answered_vector (times_of (decomposed_of s d) v))

unfoldable pub decomposed_times : Float → List ℕ → List ℕ → VectorAnswer
decomposed_times s d v = sized_vector (has 9 d && has 3 v) (times_answer s d (row_at v 0))
