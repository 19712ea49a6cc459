-- What a sheet that came in parts and was ended leaves, by the run of the whole sheet.
use Rattle.std.specs.Prelude.{◌≡◌, ◌⊎◌, cond, List, ◌++◌, ℕ, suc, ◌*◌, ◌≤◌, ◌<◌, length, drop, eqb}
use Rattle.answers.specs.Refusals.{ends_early, after_end}
use Rattle.record.specs.Layout.{floats}
use Rattle.particles.specs.Pass.{worked, answers}
use Rattle.sheet.specs.Records.{sheet_floats, list_words}
use Rattle.sheet.specs.Sheet.{words_of, Open, Shut, preamble_of, as_header}
use Rattle.sheet_run.specs.Run.{law_of, ran_of, ran_records, ran_answers}
use Rattle.parts.specs.declared.Told.{Told}

-- the first k records in the bytes from a place on, as the list has them
abbrev pub first_records : ℕ → ℕ → List ℕ → List ℕ
first_records model k bytes = list_words model k (words_of (k * sheet_floats model) bytes)

-- So many records are complete in the bytes s, no more, and stand worked in front of what the lists held; their answers too.
pub data Stand (s xs₀ out₀ : List ℕ) (k : ℕ) (xs out : List ℕ) : Type 0 where
  none : (n : ℕ) → preamble_of s ≡ Shut n → k ≡ 0 → xs ≡ xs₀ → out ≡ out₀ → Stand s xs₀ out₀ k xs out
  some : (model : ℕ) (bits : List ℕ) (count at : ℕ) → preamble_of s ≡ Open model bits count at
      → k ≤ count → k * sheet_floats model * 8 ≤ length (drop at s)
      → (k ≡ count) ⊎ (length (drop at s) < suc k * sheet_floats model * 8)
      → xs ≡ worked (law_of (as_header (Open model bits count at))) (first_records model k (drop at s)) k ++ drop (k * floats) xs₀
      → out ≡ answers (law_of (as_header (Open model bits count at))) (first_records model k (drop at s)) k ++ drop (k * 2) out₀
      → Stand s xs₀ out₀ k xs out

-- What a part is answered by, from what the run of the bytes so far tells: a shortage is told only at the end.
abbrev pub so_far : ℕ → ℕ
so_far n = cond (eqb n ends_early) 0 n

-- what every call after an end is answered by, from what the end told
abbrev pub afterwards : ℕ → ℕ
afterwards n = cond (eqb n 0) after_end n

-- The end's answer, and the lists then.
pub record EndsAs (s xs₀ out₀ : List ℕ) (t : Told) (xs out : List ℕ) : Type 0 where
  -- the whole run's refusal, 0 where it has none
  pub refusal : t.refusal ≡ (ran_of s xs₀ out₀).refusal
  -- where it has none: its particles, records and answers
  pub good : (ran_of s xs₀ out₀).refusal ≡ 0
      → (t.complete ≡ (ran_of s xs₀ out₀).particles) × (xs ≡ ran_records s xs₀ out₀) × (out ≡ ran_answers s xs₀ out₀)
  -- elsewhere: the records complete before the fault, and how many
  pub bad : ((ran_of s xs₀ out₀).refusal ≡ 0 → ⊥) → Stand s xs₀ out₀ t.complete xs out
