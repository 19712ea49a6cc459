-- DecomposedTensor, as lib.rs has it (RULES, section 1).
use Rattle.std.specs.Prelude.{Bool, cond, ◌&&◌, List, ℕ, Float}
use Rattle.std.specs.Float.{binary64}
use Rattle.std.specs.Float.Ieee.{of_bits}
use Rattle.numbers.specs.Floats.{finite}
use Rattle.tensor.specs.Matrix.{add, sub, div, zero, three, at, rows_of, of_rows, row_add_of, row_scale_of, mat_add_of, identity_times_of}
use Rattle.tensor.specs.Finite.{rows_finite}
use Rattle.tensor.specs.Answer.{zero_rows}
use Rattle.decomposed.specs.Matrix.{trace_of, mat_vec_of}
use Rattle.decomposed.specs.declared.DecomposedTensor.{DecomposedTensor}
use Rattle.decomposed.specs.declared.DecomposedAnswer.{DecomposedAnswer}

-- the trace over the number of axes
abbrev pub spherical_of : List (List Float) → Float
spherical_of m = div (trace_of m) (of_bits binary64 0x4008_0000_0000_0000)

-- s is taken from the diagonal alone
abbrev pub less_diagonal_of : List (List Float) → Float → List (List Float)
less_diagonal_of m s =
    three (three (sub (at m 0 0) s) (at m 0 1) (at m 0 2))
    (three (at m 1 0) (sub (at m 1 1) s) (at m 1 2))
    (three (at m 2 0) (at m 2 1) (sub (at m 2 2) s))

abbrev pub deviatoric_of : List (List Float) → List (List Float)
deviatoric_of m = less_diagonal_of m (spherical_of m)

unfoldable pub decompose_of : List (List Float) → DecomposedTensor
decompose_of m = record { deviatoric_part = rows_of (deviatoric_of m); spherical_part = spherical_of m }

abbrev pub zero_tensor : DecomposedTensor
zero_tensor = record { deviatoric_part = zero_rows; spherical_part = zero }

unfoldable pub recomposed_of : DecomposedTensor → List (List Float)
recomposed_of t = mat_add_of (of_rows t.deviatoric_part) (identity_times_of t.spherical_part)

unfoldable pub sum_of : DecomposedTensor → DecomposedTensor → DecomposedTensor
sum_of a b =
    record {
      deviatoric_part = rows_of (mat_add_of (of_rows a.deviatoric_part) (of_rows b.deviatoric_part));
      spherical_part = add a.spherical_part b.spherical_part;
    }

unfoldable pub times_of : DecomposedTensor → List Float → List Float
times_of t v = row_add_of (mat_vec_of (of_rows t.deviatoric_part) v) (row_scale_of t.spherical_part v)

abbrev pub tensor_finite : DecomposedTensor → Bool
tensor_finite t = rows_finite t.deviatoric_part && finite t.spherical_part

abbrev pub refused_tensor : ℕ → DecomposedAnswer
refused_tensor n = record { refusal = n; tensor = zero_tensor }

-- the tensor where it is finite, else 3
unfoldable pub answered_tensor : DecomposedTensor → DecomposedAnswer
answered_tensor t = cond (tensor_finite t) (record { refusal = 0; tensor = t }) (refused_tensor 3)

-- the answer where the inputs are finite, else 1
abbrev pub given_tensor : Bool → DecomposedAnswer → DecomposedAnswer
given_tensor ok a = cond ok a (refused_tensor 1)
