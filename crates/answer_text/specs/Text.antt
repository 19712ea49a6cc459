-- The bytes of an answer (RULES, section 7), and what a lent text becomes that they are put into.
use Rattle.std.specs.Prelude.{◌≡◌, cond, List, [], ◌∷◌, ◌++◌, ℕ, zero, suc, ◌+◌, ◌*◌, ◌/◌, ◌^◌, min, eqb, ltb, length, get_or}
use Prim.Native.Char.{code}
use Prim.Native.String.{String}
use Prim.Native.String as string
use Rattle.std.proofs.lemmas.List.Edits.{sets}
use Rattle.io.specs.Digits.{last_digits}

-- ---- words in a lent text
-- No text reaches to this place.
abbrev pub full : ℕ
full = 18446744073709551615

-- the place behind words that start at a place
abbrev pub behind : List ℕ → ℕ → List ℕ → ℕ
behind text at [] = at
behind text at (w ∷ words) = cond (ltb at (length text)) (behind text (suc at) words) full

-- Words are put into a text from a place on, as far as it reaches: the place behind them, and the text as it then is.
pub record Puts (words text : List ℕ) (at place : ℕ) (then : List ℕ) : Type 0 where
  pub place_is : place ≡ behind text at words
  pub text_is : then ≡ sets text at words

-- ---- numbers: in as few digits as hold them, and as the 16 digits of their bits
abbrev pub places : ℕ → ℕ → ℕ → ℕ
places zero k n = k
places (suc f) k n = cond (ltb n (10 ^ k)) k (places f (suc k) n)

unfoldable pub decimal : ℕ → List ℕ
decimal n = last_digits 10 (places 19 1 n) n

unfoldable pub hex : ℕ → List ℕ
hex n = last_digits 16 16 n

-- ---- the answer
-- a text's bytes, each below 128
abbrev pub bytes : String → List ℕ
bytes string.[] = []
bytes (string.◌∷◌ c s) = code c ∷ bytes s

-- a particle's answer by its two numbers: 0, untouched; 1, stored with an amount; 2, refused by a number
unfoldable pub outcome : ℕ → ℕ → List ℕ
outcome code value =
    cond (eqb code 0) (bytes " untouched")
    (cond (eqb code 1) (bytes " stored " ++ hex value) (bytes " refused " ++ decimal value))

unfoldable pub line : ℕ → ℕ → ℕ → List ℕ
line i code value = decimal i ++ outcome code value ++ bytes "\n"

-- the lines of the first n particles
unfoldable pub lines : ℕ → List ℕ → List ℕ
lines zero answers = []
lines (suc i) answers = lines i answers ++ line i (get_or answers (2 * i) 0) (get_or answers (2 * i + 1) 0)

-- of a sheet that was worked: the count, a line for each particle that the answers tell of, and "end"
unfoldable pub sheet_text : ℕ → List ℕ → List ℕ
sheet_text n answers = bytes "particles " ++ decimal n ++ bytes "\n" ++ lines (min n (length answers / 2)) answers ++ bytes "end\n"

-- of a refused one
unfoldable pub refused_text : ℕ → List ℕ
refused_text refusal = bytes "sheet refused " ++ decimal refusal ++ bytes "\n"

-- the heading of an answer under a number
unfoldable pub heading_text : ℕ → List ℕ
heading_text number = bytes "==> " ++ decimal number ++ bytes " <==\n"
