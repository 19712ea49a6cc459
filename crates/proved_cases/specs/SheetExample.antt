-- Section 7's example from its bytes to its answers: model 0, the default parameters and one record with F, U and V^T the identity,
-- sigma, phase, plastic determinant and hardenings 1, gain and alpha 0. By computation.
use Rattle.std.specs.Prelude.{List, [], ◌∷◌, ℕ, replicate}
use Rattle.record.specs.Layout.{floats}
use Rattle.sheet.specs.Spelling.{spell}
use Rattle.sheet_run.specs.declared.Ran.{Ran}

abbrev unit : ℕ
unit = 0x3ff0000000000000

abbrev rows : List ℕ → List ℕ
rows l = unit ∷ 0 ∷ 0 ∷ 0 ∷ unit ∷ 0 ∷ 0 ∷ 0 ∷ unit ∷ l

-- the sheet's 36 floats of the record
abbrev rested : List ℕ
rested = rows (rows (unit ∷ unit ∷ unit ∷ rows (unit ∷ unit ∷ unit ∷ unit ∷ 0 ∷ 0 ∷ [])))

-- the sheet: 314 bytes
abbrev pub bytes : List ℕ
bytes = spell 0 (0x3f99_9999_9999_999a ∷ 0x3f72_6e97_8d4f_df3b ∷ 0x4024_0000_0000_0000 ∷ []) 1 rested

-- rooms for the one particle
abbrev pub room : List ℕ
room = replicate floats 0

abbrev pub answers : List ℕ
answers = replicate 2 0

abbrev pub told : Ran
told = record { refusal = 0; particles = 1; counts = record { untouched = 0; stored = 1; refused = 0 } }
