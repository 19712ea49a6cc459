-- A sheet's records and a list's (RULES, section 7): a list's end with the determinant, those of a sheet with a model's own number don't.
use Rattle.std.specs.Prelude.{◌≡◌, ◌⊎◌, true, cond, List, [], ◌∷◌, ◌++◌, ℕ, zero, suc, ◌*◌, ◌<◌, take, drop}
use Rattle.record.specs.Layout.{floats, bare, determinant_at, determinant_right}
use Rattle.model.specs.Kinds.{whole}

-- how many floats a record has in a sheet
unfoldable pub sheet_floats : ℕ → ℕ
sheet_floats model = cond (whole model) floats bare

-- a sheet's record as the list has it: the determinant of its F is filled in, as worked and finite or not
unfoldable pub completed : ℕ → List ℕ → List ℕ
completed model w = cond (whole model) w (w ++ (determinant_at w ∷ []))

-- a list's record as the sheet has it
unfoldable pub dropped : ℕ → List ℕ → List ℕ
dropped model r = take (sheet_floats model) r

-- the first n parts of k words, each made into another by itself
unfoldable pub each : (List ℕ → List ℕ) → ℕ → ℕ → List ℕ → List ℕ
each f k zero l = []
each f k (suc n) l = each f k n l ++ f (take k (drop (n * k) l))

-- a sheet's records, one after the other, as the list has them
abbrev pub list_words : ℕ → ℕ → List ℕ → List ℕ
list_words model count words = each (completed model) (sheet_floats model) count words

-- and a list's as the sheet has them
abbrev pub sheet_words : ℕ → ℕ → List ℕ → List ℕ
sheet_words model count words = each (dropped model) floats count words

-- a list's record can go into a sheet and come back: its determinant is in the sheet, or is the one that will be filled in
abbrev pub Right : ℕ → List ℕ → Type 0
Right model r = (whole model ≡ true) ⊎ (determinant_right r ≡ true)

abbrev pub AllRight : ℕ → ℕ → List ℕ → Type 0
AllRight model count words = (i : ℕ) → i < count → Right model (take floats (drop (i * floats) words))
