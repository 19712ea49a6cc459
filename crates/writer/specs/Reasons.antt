-- Why a sheet is not written, each reason in the ticket's words; what stands before a reason in the order does not refuse.
use Rattle.std.specs.Prelude.{◌≡◌, true, false, List, ℕ, ◌%◌, ◌≤◌, ◌<◌, length}
use Rattle.model.specs.Kinds.{last, kinds_of, flags_allowed}
use Rattle.record.specs.Layout.{floats}
use Rattle.sheet.specs.Sheet.{most}
use Rattle.writer.specs.Writer.{count_of, sheet_of}

-- whole records, and as many parameters as a known model has
pub record Listed (model : ℕ) (p words : List ℕ) : Type 0 where
  pub even : length words % floats ≡ 0
  pub known : model ≤ last
  pub many : length p ≡ length (kinds_of model)

-- and each flag is one
pub record Named (model : ℕ) (p words : List ℕ) : Type 0 where
  pub listed : Listed model p words
  pub flags : flags_allowed 0 (kinds_of model) p ≡ true

pub data Reason (model : ℕ) (p words : List ℕ) (room : ℕ) : ℕ → Type 0 where
  -- 8: broken records, or not as many parameters as the model has (an unknown model has no number of them)
  uneven : (length words % floats ≡ 0 → ⊥) → Reason model p words room 8
  parameters : length words % floats ≡ 0 → model ≤ last → (length p ≡ length (kinds_of model) → ⊥) → Reason model p words room 8
  -- 6: an unknown model, or a flag other than 0.0 and 1.0
  unknown_model : length words % floats ≡ 0 → last < model → Reason model p words room 6
  other_flag : Listed model p words → flags_allowed 0 (kinds_of model) p ≡ false → Reason model p words room 6
  -- 7: over 200 records
  over : Named model p words → most < count_of words → Reason model p words room 7
  -- 9: a room shorter than the sheet
  short_room : Named model p words → count_of words ≤ most → room < length (sheet_of model p words) → Reason model p words room 9

-- nothing refuses
pub record Fine (model : ℕ) (p words : List ℕ) (room : ℕ) : Type 0 where
  pub named : Named model p words
  pub few : count_of words ≤ most
  pub place : length (sheet_of model p words) ≤ room
