-- When a sheet is refused, and by which number (RULES, section 6): each reason in the words of that table, over the
-- bytes as Spelling writes them. What stands before the place of a reason is good.
use Rattle.std.specs.Prelude.{◌≡◌, Bool, true, List, [], ◌∷◌, ◌++◌, ℕ, ◌*◌, ◌%◌, ◌^◌, ◌≤◌, ◌<◌, length}
use Rattle.record.specs.Layout.{floats}
use Rattle.model.specs.Kinds.{last, one, kinds_of}
use Rattle.sheet.specs.Records.{sheet_floats}
use Rattle.sheet.specs.Sheet.{most}
use Rattle.sheet.specs.Spelling.{spell_number, spell_bytes, spell_words, spell, Fits, Writable}

-- a sheet that can be written
pub record Good (s : List ℕ) : Type 0 where
  pub model : ℕ
  pub parameters : List ℕ
  pub count : ℕ
  pub words : List ℕ
  pub writable : Writable model parameters count words
  pub spelled : s ≡ spell model parameters count words

-- the count is wanted: a known model and all its parameters, then l
pub record AtCount (s l : List ℕ) : Type 0 where
  pub model : ℕ
  pub parameters : List ℕ
  pub known : model ≤ last
  pub fits : Fits (kinds_of model) parameters
  pub spelled : s ≡ spell_number model ++ (spell_words parameters ++ l)

-- a parameter is wanted, `flag` says whether a flag: a known model and the parameters before, then l
pub record AtParameter (s : List ℕ) (flag : Bool) (l : List ℕ) : Type 0 where
  pub model : ℕ
  pub parameters : List ℕ
  pub earlier : List Bool
  pub others : List Bool
  pub known : model ≤ last
  pub kinds : kinds_of model ≡ earlier ++ (flag ∷ others)
  pub fits : Fits earlier parameters
  pub spelled : s ≡ spell_number model ++ (spell_words parameters ++ l)

-- a number is wanted: the model's in front of all, or the count's
pub data AtNumber (s l : List ℕ) : Type 0 where
  at_model : s ≡ l → AtNumber s l
  at_count : AtCount s l → AtNumber s l

pub data Reason (s : List ℕ) : ℕ → Type 0 where
  -- 4, the sheet ends early: before a number or after its first group, in a parameter, in the records
  no_number : AtNumber s [] → Reason s 4
  half_number : (low : ℕ) → 128 ≤ low → AtNumber s (low ∷ []) → Reason s 4
  short_parameter : (flag : Bool) (l : List ℕ) → length l < 8 → AtParameter s flag l → Reason s 4
  short_records : (count : ℕ) (l : List ℕ) → count ≤ most → (p : AtCount s (spell_number count ++ l)) → length l < count * sheet_floats p.model * 8 → Reason s 4
  -- 5, a number is not shortest, its second group being zero, or has over two groups
  not_shortest : (low : ℕ) (l : List ℕ) → 128 ≤ low → AtNumber s (low ∷ 0 ∷ l) → Reason s 5
  third_group : (low high : ℕ) (l : List ℕ) → 128 ≤ low → 128 ≤ high → AtNumber s (low ∷ high ∷ l) → Reason s 5
  -- 6, an unknown model, or a flag other than 0.0 and 1.0
  unknown_model : (model : ℕ) (l : List ℕ) → last < model → model < 2 ^ 14 → s ≡ spell_number model ++ l → Reason s 6
  other_flag : (w : ℕ) (l : List ℕ) → w < 2 ^ 64 → (w ≡ 0 → ⊥) → (w ≡ one → ⊥) → AtParameter s true (spell_bytes 8 w ++ l) → Reason s 6
  -- 7, count over 200, or bytes after the last record
  count_over : (count : ℕ) (l : List ℕ) → most < count → count < 2 ^ 14 → AtCount s (spell_number count ++ l) → Reason s 7
  bytes_after : (t l : List ℕ) → Good t → 0 < length l → s ≡ t ++ l → Reason s 7

-- with a room for the records' words: its length comes first, and whether the records of a good sheet go in last
pub data ReasonWithRoom (s : List ℕ) (room : ℕ) : ℕ → Type 0 where
  uneven_room : (room % floats ≡ 0 → ⊥) → ReasonWithRoom s room 8
  by_sheet : {n : ℕ} → room % floats ≡ 0 → Reason s n → ReasonWithRoom s room n
  short_room : room % floats ≡ 0 → (g : Good s) → room < g.count * floats → ReasonWithRoom s room 8
