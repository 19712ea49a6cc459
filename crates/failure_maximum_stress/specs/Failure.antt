-- The failure rule on given principal stresses, from failure_maximum_stress.rs and RULES, section 5.
use Rattle.std.specs.Prelude.{Bool, cond, ◌&&◌, ◌||◌, List, Float}
use Rattle.std.specs.Float.Ieee as Ieee
use Rattle.std.specs.Float.{nan, binary64}
use Rattle.std.specs.Float.Ieee.{of_bits}
use Rattle.answers.specs.Refusals.{not_finite}
use Rattle.numbers.specs.Floats.{finite, max_of, min_of}
use Rattle.tensor.specs.Axes.{from_left}
use Rattle.tensor.specs.Matrix.{sub, div}
use Rattle.tensor.specs.Finite.{row_finite}
use Rattle.failure_maximum_stress.specs.declared.MaximumStressFailure.{MaximumStressFailure}
use Rattle.failure_maximum_stress.specs.declared.Made.{Made}
use Rattle.failure_maximum_stress.specs.declared.Made.TheVariants as Made
use Rattle.failure_maximum_stress.specs.declared.Verdict.{Verdict}
use Rattle.failure_maximum_stress.specs.declared.Verdict.TheVariants.{No, Yes, Refused}

-- 1 where a limit is not finite (section 6)
unfoldable pub limits_of : Float → Float → Made
limits_of principal shear =
    cond (finite principal && finite shear)
    (Made.Limits (record { max_principal_stress = principal; max_shear_stress = shear }))
    (Made.Refused not_finite)

abbrev pub limits_finite : MaximumStressFailure → Bool
limits_finite l = finite l.max_principal_stress && finite l.max_shear_stress

-- section 4's maximum and minimum, by rising index. The Rust's keep the first of equal stresses: only a zero's sign can
-- differ, and no comparison below sees it
abbrev pub largest_of : List Float → Float
largest_of s = from_left max_of nan s

abbrev pub smallest_of : List Float → Float
smallest_of s = from_left min_of nan s

-- max > principal limit or (max - min)/2 > shear limit
unfoldable pub over_limit : MaximumStressFailure → Float → Float → Bool
over_limit l max min =
    Ieee.lt l.max_principal_stress max || Ieee.lt l.max_shear_stress (div (sub max min) (of_bits binary64 0x4000_0000_0000_0000))

abbrev pub exceeds_of : MaximumStressFailure → List Float → Bool
exceeds_of l s = over_limit l (largest_of s) (smallest_of s)

-- finite stresses have no NaN as their difference, and a difference that overflows lies over every limit: after 1
-- there is nothing to refuse
unfoldable pub verdict_of : MaximumStressFailure → List Float → Verdict
verdict_of l s = cond (limits_finite l && row_finite s) (cond (exceeds_of l s) Yes No) (Refused not_finite)
