-- Whether no entry of a matrix is a NaN (RULES, section 6, number 3).
use Rattle.std.specs.Prelude.{Bool, List, Float}
use Rattle.tensor.specs.Axes.{all_of}
use Rattle.tensor.specs.Number.{row_number}

unfoldable pub mat_number : List (List Float) → Bool
mat_number m = all_of row_number m
