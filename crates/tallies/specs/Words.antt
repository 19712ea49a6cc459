-- Tallies lent as words, five a zone: particles now, untouched, stored, refused, failed (RULES, section 7).
use Rattle.std.specs.Prelude.{Bool, cond, ◌&&◌, List, [], ◌∷◌, ◌++◌, ℕ, zero, suc, ◌+◌, ◌*◌, ◌/◌, eqb, length, get_or}
use Rattle.answers.specs.Refusals.{wrong_length}
use Rattle.particles.specs.Pass.{Worked}
use Rattle.tallies.specs.declared.tally.Tally.{Tally}
use Rattle.tallies.specs.Zones.{zones_fit, move_fits}
use Rattle.tallies.specs.Tallies.{none, clear_refusal, clear_tallies, move_refusal, move_zones, move_tallies, pass_refusal, pass_goes, records_after, answers_after, pass_tallies}

abbrev pub fields : ℕ
fields = 5

abbrev pub words_of : Tally → List ℕ
words_of t = t.particles ∷ t.untouched ∷ t.stored ∷ t.refused ∷ t.failed ∷ []

-- zone z's tally
abbrev pub tally_at : List ℕ → ℕ → Tally
tally_at ws z = record { particles = get_or ws (z * fields) 0; untouched = get_or ws (z * fields + 1) 0; stored = get_or ws (z * fields + 2) 0; refused = get_or ws (z * fields + 3) 0; failed = get_or ws (z * fields + 4) 0 }

-- the first n tallies
unfoldable pub tallies_in : List ℕ → ℕ → List Tally
tallies_in ws zero = []
tallies_in ws (suc n) = tallies_in ws n ++ (tally_at ws n ∷ [])

-- and their words
unfoldable pub words_in : List Tally → ℕ → List ℕ
words_in ts zero = []
words_in ts (suc n) = words_in ts n ++ words_of (get_or ts n none)

-- refusal 8: words that are no whole number of tallies
abbrev pub zones_of : List ℕ → ℕ
zones_of ws = length ws / fields

abbrev pub whole : List ℕ → Bool
whole ws = eqb (zones_of ws * fields) (length ws)

abbrev pub all_tallies : List ℕ → List Tally
all_tallies ws = tallies_in ws (zones_of ws)

-- a refused call leaves the words
abbrev pub written : Bool → List Tally → List ℕ → List ℕ
written goes ts ws = cond goes (words_in ts (zones_of ws)) ws

-- ---- the calls
abbrev pub cleared : ℕ → List ℕ → List ℕ → ℕ
cleared particles zones ws = cond (whole ws) (clear_refusal particles zones (zones_of ws)) wrong_length

abbrev pub cleared_words : ℕ → List ℕ → List ℕ → List ℕ
cleared_words particles zones ws =
    written (whole ws && zones_fit particles zones (zones_of ws)) (clear_tallies particles zones (zones_of ws) (all_tallies ws)) ws

abbrev pub moved : ℕ → ℕ → ℕ → List ℕ → List ℕ → ℕ
moved particles p z zones ws = cond (whole ws) (move_refusal particles p z zones (zones_of ws)) wrong_length

abbrev pub moved_zones : ℕ → ℕ → ℕ → List ℕ → List ℕ → List ℕ
moved_zones particles p z zones ws = cond (whole ws) (move_zones particles p z zones (zones_of ws)) zones

abbrev pub moved_words : ℕ → ℕ → ℕ → List ℕ → List ℕ → List ℕ
moved_words particles p z zones ws =
    written (whole ws && move_fits particles p z zones (zones_of ws)) (move_tallies particles p z zones (zones_of ws) (all_tallies ws)) ws

abbrev pub passed : List ℕ → List ℕ → List ℕ → List ℕ → ℕ
passed xs out zones ws = cond (whole ws) (pass_refusal xs out zones (zones_of ws) (all_tallies ws)) wrong_length

abbrev pub passed_records : (List ℕ → Worked) → List ℕ → List ℕ → List ℕ → List ℕ → List ℕ
passed_records law xs out zones ws = cond (whole ws) (records_after law xs out zones (zones_of ws) (all_tallies ws)) xs

abbrev pub passed_answers : (List ℕ → Worked) → List ℕ → List ℕ → List ℕ → List ℕ → List ℕ
passed_answers law xs out zones ws = cond (whole ws) (answers_after law xs out zones (zones_of ws) (all_tallies ws)) out

abbrev pub passed_words : (List ℕ → Worked) → List ℕ → List ℕ → List ℕ → List ℕ → List ℕ
passed_words law xs out zones ws =
    written (whole ws && pass_goes xs out zones (zones_of ws) (all_tallies ws)) (pass_tallies law xs out zones (zones_of ws) (all_tallies ws)) ws
