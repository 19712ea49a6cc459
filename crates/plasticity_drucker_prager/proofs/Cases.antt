-- P12 of RULES, section 8, from the logarithm at 1 and the root at 0; and the defaults' angles.
use mathlib.Core.Bool.{true}
use mathlib.Core.List.{List, [], ◌∷◌}
use mathlib.Core.Path.{◌≡◌, refl, ap, ◌∙◌}
use lib.Ieee as Ieee
use lib.Ieee.{Float, binary64, of_bits, round, size}
use Rattle.numbers.specs.Constants as constants
use Rattle.numbers.specs.Floats.{finite, is_number}
use Rattle.answers.specs.declared.Answer.TheVariants.{Value}
use Rattle.logarithm.specs.Worked.{ln_of}
use Rattle.exact.specs.RootOf.{sqrt_of, floor_root, root_in}
use Rattle.exact.specs.Units.{mag, L}
use Rattle.tensor.specs.Matrix.{mul, div, zero, one, three, sum_of, product_of, dot_of, scaled_row_of, rows_of}
use Rattle.plasticity.specs.declared.Outcome.TheVariants.{Stored}
use Rattle.plasticity.specs.declared.State.{State}
use Rattle.walk.specs.Expr.{num, value, ◌/ᵉ◌}
use Rattle.walk.specs.Walk.{root, answer_of, walk_result, answer_as, given}
use Rattle.reason.specs.Traced.{reached, traced, untraced}
use Rattle.reason.proofs.Laws.{result_traced}
use Rattle.walk.proofs.Exact.{number_then}
use Rattle.walk.proofs.Body.{store_law}
use Rattle.walk.specs.Update.{in_three, updated_of}
use Rattle.walk.proofs.Matrix.{value_sum, value_product, value_dot}
use Rattle.plasticity_drucker_prager.specs.declared.DruckerPragerPlasticity.{DruckerPragerPlasticity}
use Rattle.plasticity_drucker_prager.specs.Law.{defaults_of}
use Rattle.plasticity_drucker_prager.specs.Alpha.{two, dim, alpha_walk}
use Rattle.plasticity_drucker_prager.specs.Projection.{isotropic, Returned, tip_walk, strained_walk, project_walk}
use Rattle.plasticity_drucker_prager.specs.Over as over
use Rattle.plasticity_drucker_prager.specs.DruckerPrager.{run_walk, drucker_update, moved_walk}
use Rattle.plasticity_drucker_prager.proofs.Laws.{way_then, inputs_law}

-- a degree as Rust's `to_radians` has it: pi over 180
abbrev degree : Float
degree = div (of_bits binary64 0x4009_21fb_5444_2d18) (of_bits binary64 0x4066_8000_0000_0000)

-- the root of 2/3, which the slope takes
pub slope_root : answer_of root (value (two /ᵉ num constants.three)) ≡ Value (of_bits binary64 0x3fea_20bd_700c_2c3e)
unfolding sqrt_of floor_root root_in mag L is_number of_bits round size Ieee.div Ieee.le Ieee.lt Ieee.eq
slope_root = refl

-- 35, 9 and 10 degrees
pub angles :
    (l m : Float) →
    ((defaults_of l m).h0 ≡ mul (of_bits binary64 0x4041_8000_0000_0000) degree) × ((defaults_of l m).h1 ≡ mul (of_bits binary64 0x4022_0000_0000_0000) degree) × ((defaults_of l m).h3 ≡ mul (of_bits binary64 0x4024_0000_0000_0000) degree)
unfolding Ieee.mul Ieee.div of_bits
angles l m = (refl, refl, refl)

abbrev ones : List Float
ones = three one one one

abbrev tip : Returned
tip = record { way = isotropic (three zero zero zero); sigma = ones; dq = zero }

-- the projection: sigma all ones and dq 0, whatever alpha is
projects : (p : DruckerPragerPlasticity) (a : Float) → ln_of one ≡ zero → sqrt_of zero ≡ zero → traced (project_walk dim p ones zero a) ≡ reached tip
unfolding project_walk strained_walk tip_walk sum_of dot_of is_number Ieee.add Ieee.sub Ieee.mul Ieee.div Ieee.le Ieee.lt Ieee.eq of_bits
projects p a h k = simp (h, k, value_sum, value_dot)

pub projection : (p : DruckerPragerPlasticity) (a : Float) → ln_of one ≡ zero → sqrt_of zero ≡ zero → walk_result (project_walk dim p ones zero a) ≡ given tip
projection p a h k = result_traced (project_walk dim p ones zero a) ∙ ap untraced (projects p a h k)

abbrev identity : List (List Float)
identity = three (three one zero zero) (three zero one zero) (three zero zero one)

-- the record of section 7's example
abbrev rested : State
rested =
    record {
      f = rows_of identity;
      sigma = ones;
      scalars = record {
        phase = one;
        plastic_determinant = one;
        plastic_hardening = one;
        elastic_hardening = one;
        log_gain = zero;
        alpha = zero;
      };
    }

moved : (l m : Float) → ln_of one ≡ zero → (updated_of rested (walk_result (moved_walk (defaults_of l m) ones zero identity identity rested))).outcome ≡ Stored zero
unfolding over.moved_walk product_of sum_of dot_of scaled_row_of finite is_number Ieee.add Ieee.sub Ieee.mul Ieee.div Ieee.le Ieee.lt Ieee.eq of_bits
moved l m h = simp (h, value_product, store_law in_three)

run :
    (l m a : Float) → ln_of one ≡ zero → sqrt_of zero ≡ zero → answer_as (walk_result (alpha_walk (defaults_of l m) one)) ≡ Value a →
    (updated_of rested (walk_result (run_walk (defaults_of l m) identity identity rested))).outcome ≡ Stored zero
unfolding over.run_walk
run l m a h k e = simp (number_then, e, way_then, projects (defaults_of l m) a h k, moved l m h)

-- P12: the default law with finite moduli stores, and dq is 0
pub p12 :
    (l m a : Float) → finite l ≡ true → finite m ≡ true → ln_of one ≡ zero → sqrt_of zero ≡ zero → answer_as (walk_result (alpha_walk (defaults_of l m) one)) ≡ Value a →
    (drucker_update (defaults_of l m) identity identity rested).outcome ≡ Stored zero
unfolding over.drucker_walk finite of_bits
p12 l m a f g h k e = simp (inputs_law in_three, f, g, run l m a h k e)

-- the same walk on two axes: P12's projection there
abbrev flat : Returned
flat = record { way = isotropic (zero ∷ zero ∷ []); sigma = one ∷ one ∷ []; dq = zero }

pub flat_projection : (p : DruckerPragerPlasticity) (a : Float) → ln_of one ≡ zero → sqrt_of zero ≡ zero → walk_result (project_walk two p (one ∷ one ∷ []) zero a) ≡ given flat
unfolding project_walk strained_walk tip_walk sum_of dot_of is_number Ieee.add Ieee.sub Ieee.mul Ieee.div Ieee.le Ieee.lt Ieee.eq of_bits
flat_projection p a h k = simp (h, k, value_sum, value_dot)
