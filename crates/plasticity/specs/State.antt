-- Finite inputs, and a refusal (RULES, sections 6 and 7).
use Rattle.std.specs.Prelude.{Bool, ◌&&◌, List, ℕ, Float}
use Rattle.numbers.specs.Floats.{finite}
use Rattle.tensor.specs.Matrix.{of_rows}
use Rattle.tensor.specs.Finite.{row_finite, mat_finite}
use Rattle.plasticity.specs.declared.Outcome.{Outcome}
use Rattle.plasticity.specs.declared.Outcome.TheVariants.{Untouched, Stored, Refused}
use Rattle.plasticity.specs.declared.Scalars.{Scalars}
use Rattle.plasticity.specs.declared.State.{State}
use Rattle.plasticity.specs.declared.Updated.{Updated}

abbrev pub scalars_finite : Scalars → Bool
scalars_finite s =
    finite s.phase && finite s.plastic_determinant && finite s.plastic_hardening && finite s.elastic_hardening && finite s.log_gain && finite s.alpha

-- F by its rows, the singular values and the scalars, over however many axes
abbrev pub parts_finite : List (List Float) → List Float → Scalars → Bool
parts_finite f sigma x = mat_finite f && row_finite sigma && scalars_finite x

abbrev pub state_finite : State → Bool
state_finite s = parts_finite (of_rows s.f) s.sigma s.scalars

-- no float of the record is a NaN or an infinity
abbrev pub inputs_finite : List (List Float) → List (List Float) → State → Bool
inputs_finite u vt s = mat_finite u && mat_finite vt && state_finite s

-- a refused call hands the state back as it came
abbrev pub refused : ℕ → State → Updated
refused n s = record { state = s; outcome = Refused n }
