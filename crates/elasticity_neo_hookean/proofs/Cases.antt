-- RULES, section 8, P5, and a case where the energy's two modes differ (ticket 14), by computation. Assumes nothing.
use mathlib.Core.Bool.{Bool, true, false}
use mathlib.Core.List.{List, [], ◌∷◌}
use mathlib.Core.Path.{◌≡◌, refl}
use lib.Ieee as Ieee
use lib.Ieee.{Float, binary64, of_bits, to_bits}
use Rattle.numbers.specs.Floats.{finite, is_number}
use Rattle.answers.specs.declared.Answer.{Answer}
use Rattle.answers.specs.declared.Answer.TheVariants.{Value}
use Rattle.tensor.specs.Matrix.{zero, one}
use Rattle.thirds.specs.Thirds.{inv_cbrt_of}
use Rattle.exponential.specs.Worked.{exp_of, nearest_of, rest_of, series_of, scale_bits, times_of}
use Rattle.logarithm.specs.Worked.{part_of, exponent_of, fraction_of, ln_of}
use Rattle.walk.specs.Matrix.{total}
use Rattle.walk.specs.Tensor.{rows, turned, times, scaled, determinant}
use Rattle.decomposed.specs.Formulas.{trace}
use Rattle.walk.specs.Power.{halved, power}
use Rattle.elasticity_neo_hookean.specs.Law.{floats, phase_coeff}
use Rattle.elasticity_neo_hookean.specs.Energy.{parts_from, parts_walk, energy_steps, energy_walk_in, elastic_energy_density_in}

-- P5: `phase_coeff(0.0)` is 0.001
pub phase_zero : phase_coeff (of_bits binary64 0) ≡ Value (of_bits binary64 0x3f50_624d_d2f1_a9fc)
unfolding phase_coeff finite Ieee.add Ieee.sub Ieee.mul of_bits
phase_zero = refl

-- F with 0.5, 1, 1 on its diagonal, phase 0, all else 1
abbrev halfway_in : Bool → Answer
halfway_in one_split =
    elastic_energy_density_in one_split (record { cfl_coeff = one; lambda = one; mu = one }) zero one
    ((of_bits binary64 0x3fe0_0000_0000_0000 ∷ zero ∷ zero ∷ []) ∷ (zero ∷ one ∷ zero ∷ []) ∷ (zero ∷ zero ∷ one ∷ []) ∷ [])

-- as the Rust: 0.286 and a little
pub halfway_default : halfway_in false ≡ Value (of_bits binary64 0x3fd2_4f51_e8db_ae80)
unfolding energy_walk_in energy_steps parts_walk parts_from floats rows turned times scaled determinant total trace halved power finite is_number inv_cbrt_of exp_of nearest_of rest_of series_of scale_bits times_of ln_of exponent_of fraction_of part_of Ieee.le Ieee.lt Ieee.add Ieee.sub Ieee.mul Ieee.div Ieee.neg of_bits to_bits
halfway_default = refl

-- with one split: 0.265 and a little
pub halfway_one_split : halfway_in true ≡ Value (of_bits binary64 0x3fd0_fc73_d5d2_c55c)
unfolding energy_walk_in energy_steps parts_walk parts_from floats rows turned times scaled determinant total trace halved power finite is_number inv_cbrt_of exp_of nearest_of rest_of series_of scale_bits times_of ln_of exponent_of fraction_of part_of Ieee.le Ieee.lt Ieee.add Ieee.sub Ieee.mul Ieee.div Ieee.neg of_bits to_bits
halfway_one_split = refl
