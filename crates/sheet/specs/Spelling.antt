-- The bytes of a sheet (RULES, section 7), from its model number, parameters, count and its records' words, and which of these can
-- be written: the format that a reading accepts, and all of it.
use Rattle.std.specs.Prelude.{◌≡◌, Bool, true, cond, List, [], ◌∷◌, ◌++◌, ℕ, zero, suc, ◌+◌, ◌*◌, ◌/◌, ◌%◌, ◌^◌, ◌≤◌, ◌<◌, length, take, ltb}
use Rattle.model.specs.Kinds.{last, allowed, kinds_of}
use Rattle.sheet.specs.Records.{sheet_floats}
use Rattle.sheet.specs.Sheet.{most}
use Rattle.sheet.specs.declared.Header.{Header}

-- one group of seven bits, or two with the low one first; the top bit of a byte says that more follows
unfoldable pub spell_number : ℕ → List ℕ
spell_number n = cond (ltb n 128) (n ∷ []) ((n % 128 + 128) ∷ n / 128 ∷ [])

-- k bytes, low byte first
unfoldable pub spell_bytes : ℕ → ℕ → List ℕ
spell_bytes zero w = []
spell_bytes (suc k) w = w % 256 ∷ spell_bytes k (w / 256)

unfoldable pub spell_words : List ℕ → List ℕ
spell_words [] = []
spell_words (w ∷ ws) = spell_bytes 8 w ++ spell_words ws

unfoldable pub spell : ℕ → List ℕ → ℕ → List ℕ → List ℕ
spell model parameters count words =
    spell_number model ++ (spell_words parameters ++ (spell_number count ++ spell_words words))

-- each number of a list is below a bound
abbrev pub Below : ℕ → List ℕ → Type 0
Below b [] = Unit {0}
Below b (x ∷ l) = (x < b) × Below b l

-- a parameter for each place, each flag 0.0 or 1.0
abbrev pub Fits : List Bool → List ℕ → Type 0
Fits [] [] = Unit {0}
Fits [] (w ∷ ws) = ⊥
Fits (flag ∷ flags) [] = ⊥
Fits (flag ∷ flags) (w ∷ ws) = (w < 2 ^ 64) × (allowed flag w ≡ true) × Fits flags ws

-- what a sheet can say
pub record Writable (model : ℕ) (parameters : List ℕ) (count : ℕ) (words : List ℕ) : Type 0 where
  pub known : model ≤ last
  pub fits : Fits (kinds_of model) parameters
  pub few : count ≤ most
  pub whole : length words ≡ count * sheet_floats model
  pub bits : Below (2 ^ 64) words

-- the parameters of a header, without the zeros past the last
abbrev pub parameters_of : Header → List ℕ
parameters_of h = take (length (kinds_of h.model)) h.parameters
