-- Whether all entries are neither a NaN nor an infinity (RULES, section 6, number 1).
use Rattle.std.specs.Prelude.{Bool, ◌&&◌, List, Float}
use Rattle.numbers.specs.Floats.{finite}
use Rattle.tensor.specs.Axes.{all_of}
use Rattle.tensor.specs.declared.Rows.{Rows}

abbrev pub row_finite : List Float → Bool
row_finite a = all_of finite a

abbrev pub mat_finite : List (List Float) → Bool
mat_finite m = all_of row_finite m

abbrev pub rows_finite : Rows → Bool
rows_finite m = row_finite m.r0 && row_finite m.r1 && row_finite m.r2
