-- What is read of a host's lists beside rows and matrices (RULES, section 6).
use Rattle.std.specs.Prelude.{List, ℕ, Float}
use Rattle.decomposed.specs.declared.DecomposedTensor.{DecomposedTensor}
use Rattle.record.specs.Layout.{rows_at}

-- the deviatoric part by rows
abbrev pub decomposed_of : Float → List ℕ → DecomposedTensor
decomposed_of s d = record { deviatoric_part = rows_at d 0; spherical_part = s }
