-- Whether no entry is a NaN (RULES, section 6, number 3).
use Rattle.std.specs.Prelude.{Bool, List, Float}
use Rattle.numbers.specs.Floats.{is_number}
use Rattle.tensor.specs.Axes.{all_of}

abbrev pub row_number : List Float → Bool
row_number a = all_of is_number a
