-- Why a Snow update answered as it did (RULES, section 7; ticket 8): "names for each sigma the bound whose step last changed it, or neither".
use Rattle.std.specs.Prelude.{cond, List, ℕ, eqb, get_or, Float}
use Rattle.std.specs.Float.Ieee as Ieee
use Rattle.std.specs.Float.{nan, binary64}
use Rattle.numbers.specs.Floats.{max_of}
use Rattle.tensor.specs.Matrix.{sub}
use Rattle.reason.specs.declared.Bound.{Bound}
use Rattle.reason.specs.declared.Bound.TheVariants.{Neither, Lower, Upper}
use Rattle.reason.specs.declared.Reason.{Reason}
use Rattle.reason.specs.declared.Reason.TheVariants.{Clamped}
use Rattle.plasticity_snow.specs.declared.SnowPlasticity.{SnowPlasticity}
use Rattle.plasticity_snow.specs.Snow.{one, clamp_of}

-- after the first step, the maximum with the lower bound
abbrev pub raised_of : SnowPlasticity → Float → Float
raised_of p e = max_of e (sub one p.min_epsilon)

-- the second step comes last: where it changed a bit the upper bound is named, else where the first did the lower
unfoldable pub bound_of : SnowPlasticity → Float → Bound
bound_of p e =
    let raised = Ieee.to_bits binary64 (raised_of p e) in
    cond (eqb (Ieee.to_bits binary64 (clamp_of p e)) raised) (cond (eqb raised (Ieee.to_bits binary64 e)) Neither Lower) Upper

abbrev pub bounds_of : SnowPlasticity → List Float → Reason
bounds_of p sigma = Clamped (bound_of p (get_or sigma 0 nan)) (bound_of p (get_or sigma 1 nan)) (bound_of p (get_or sigma 2 nan))

-- the branch's number (docs/STEPS.md): no test is made, and there is one
abbrev pub branch_number : ℕ
branch_number = 1
