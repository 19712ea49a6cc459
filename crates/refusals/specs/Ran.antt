-- Section 6 of a sheet that is run with a room for its records and one for their answers (RULES, sections 6 and 7): 8 for the rooms,
-- then the sheet's own numbers (`sheet` specs/Refused), and of each record of a sheet that is read what Refusals says. Proved in proofs/Ran.
use Rattle.std.specs.Prelude.{◌≡◌, ◌↔◌, List, ℕ, ◌<◌, length}
use Rattle.model.specs.declared.Model.{Model}
use Rattle.particles.specs.declared.step.Step.TheVariants.{Plain}
use Rattle.particles.specs.Pass.{record_at}
use Rattle.sheet.specs.declared.Header.{Header}
use Rattle.sheet.specs.Sheet.{read_of, room_of}
use Rattle.sheet.specs.Spelling.{Below}
use Rattle.sheet.specs.Refused.{ReasonWithRoom}
use Rattle.model.specs.Fields.{model_of}
use Rattle.sheet_run.specs.Run.{records_in, ran_of, ran_answers}
use Rattle.refusals.specs.Refusals.{without, Answers, Sized}

module _ (s xs out : List ℕ) where
  -- what the sheet's header says, with the room's length
  abbrev pub header : Header
  header = read_of s (length xs)

  abbrev pub model : Model
  model = model_of header.model header.parameters

  -- record i as it was read
  abbrev pub record_of : ℕ → List ℕ
  record_of i = record_at (records_in header (room_of s xs)) i

pub record Ran (s xs out : List ℕ) : Type 0 where
  pub rooms : ((k : ℕ) → Sized xs out k → ⊥) → (ran_of s xs out).refusal ≡ 8
  pub sheet : (k : ℕ) → Sized xs out k → (ran_of s xs out).refusal ≡ (header s xs out).refusal
  -- s: bytes
  pub numbers : Below 256 s → (k : ℕ) → Sized xs out k → (n : ℕ) → (n ≡ 0 → ⊥) → ((ran_of s xs out).refusal ≡ n) ↔ ReasonWithRoom s (length xs) n
  pub records : (k : ℕ) → Sized xs out k → (header s xs out).refusal ≡ 0 → (i : ℕ) → i < (header s xs out).count
      → Answers (ran_answers s xs out) i (without (Plain (model s xs out))) (record_of s xs out i)
