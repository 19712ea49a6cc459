-- Demand 3 of a sheet that is run with a room for its records and one for their answers (RULES, section 7). The law's arguments
-- and the records are what the sheet's bytes spell, so that the office's words are all that is assumed.
use Rattle.std.specs.Prelude.{◌≡◌, List, ℕ, ◌+◌, ◌*◌, ◌<◌, T, get_or}
use Rattle.numbers.specs.Floats.{finite}
use Rattle.plasticity_rankine.specs.declared.RankineArguments.{RankineArguments}
use Rattle.plasticity_rankine.specs.Law as rankine
use Rattle.model.specs.declared.Model.TheVariants.{Rankine}
use Rattle.model.specs.declared.Law.TheVariants as law
use Rattle.model.specs.Kinds.{law_of}
use Rattle.model.specs.Fields.{rankine_of}
use Rattle.one_record.specs.RecordLaw.{record_law}
use Rattle.particles.specs.Pass.{record_at}
use Rattle.sheet.specs.Sheet.{header_of, records_of}
use Rattle.sheet_run.specs.Run.{ran_of, ran_records, ran_answers}
use Rattle.rankine_surface.specs.Axes.{Each}
use Rattle.rankine_surface.specs.Surface.{Accepted, Ranges, Small}
use Rattle.rankine_surface.specs.Record.{strains_at, softened_at, Found}

-- the arguments of `new`, and record i, as the sheet s brings them
abbrev pub arguments_in : List ℕ → RankineArguments
arguments_in s = rankine_of (header_of s).parameters

abbrev pub record_in : List ℕ → ℕ → List ℕ
record_in s i = record_at (records_of s (header_of s)) i

-- ---- what is assumed
-- the run refuses neither the sheet nor the rooms xs and out; the sheet's model number names Rankine, and it brings a record i
pub record InSheet (s xs out : List ℕ) (i : ℕ) : Type 0 where
  pub run : (ran_of s xs out).refusal ≡ 0
  pub rankine : law_of (header_of s).model ≡ law.Rankine
  pub index : i < (header_of s).count

-- demand 3's words of record i, and nothing else: that the strength is an f64 (`Premises`) follows, since its bits were read
pub record SheetPremises (s : List ℕ) (i : ℕ) : Type 0 where
  -- "a record that 01's table doesn't refuse"
  pub accepted : Accepted (record_law (Rankine (arguments_in s)) (record_in s i)).outcome
  -- "mu in 1 to 2^40, lambda in 0 to 2^40", the softened strength "within 4(2mu + 3lambda) of zero", which is no NaN and no infinity
  pub ranges : Ranges (rankine.law_of (arguments_in s)) (softened_at (arguments_in s) (record_in s i))
  pub s_finite : T (finite (softened_at (arguments_in s) (record_in s i)))
  -- "log strains in -4 to 4"
  pub strains : Each Small (strains_at (record_in s i))

-- ---- what is found: record i of the room, and its two places of the answers
abbrev pub sheet_found : List ℕ → List ℕ → List ℕ → ℕ → Found
sheet_found s xs out i =
    record {
      code = get_or (ran_answers s xs out) (i * 2) 0;
      value = get_or (ran_answers s xs out) (i * 2 + 1) 0;
      after = record_at (ran_records s xs out) i;
    }
