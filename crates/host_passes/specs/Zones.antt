-- What clearing the tallies, moving one particle and the passes with tallies by zone leave of a host's lists (RULES, sections 6 and 7).
use Rattle.std.specs.Prelude.{Bool, ◌&&◌, List, [], ◌∷◌, ℕ}
use Rattle.model.specs.Kinds.{parameters_fit, model_known}
use Rattle.model.specs.Fields.{model_of}
use Rattle.host_lists.specs.Laws.{corotated_of, limits_of}
use Rattle.particles.specs.Pass.{Worked, well_sized}
use Rattle.one_record.specs.RecordLaw.{record_law}
use Rattle.one_record.specs.Judged.{failure_law}
use Rattle.tallies.specs.Words.{whole, cleared, cleared_words, moved, moved_zones, moved_words, passed, passed_records, passed_answers, passed_words}
use Rattle.host_lists.specs.Refused.{has}
use Rattle.host_lists.specs.Called.{Called, called, call_of}
use Rattle.host_passes.specs.Passes.{failure_known}

-- the zones are only read
unfoldable pub clear_by : ℕ → List ℕ → List ℕ → Called
clear_by particles zones ws = called (cleared particles zones ws) (cleared_words particles zones ws ∷ [])

unfoldable pub move_by : ℕ → ℕ → ℕ → List ℕ → List ℕ → Called
move_by particles p z zones ws =
    called (moved particles p z zones ws) (moved_zones particles p z zones ws ∷ moved_words particles p z zones ws ∷ [])

-- 12, 13, or the pass: records, answers, tallies
abbrev pub zoned_by : (List ℕ → Worked) → List ℕ → List ℕ → List ℕ → List ℕ → Called
zoned_by law zones xs out ws =
    called (passed xs out zones ws) (passed_records law xs out zones ws ∷ passed_answers law xs out zones ws ∷ passed_words law xs out zones ws ∷ [])

-- lengths that fit; else 8
abbrev pub zones_sized : ℕ → List ℕ → List ℕ → List ℕ → List ℕ → Bool
zones_sized model p xs out ws = parameters_fit model p && well_sized xs out && whole ws

-- 8, then 6, then 12 and 13
unfoldable pub zones_pass : ℕ → List ℕ → List ℕ → List ℕ → List ℕ → List ℕ → Called
zones_pass model p zones xs out ws =
    call_of (zones_sized model p xs out ws) (model_known model p) (zoned_by (record_law (model_of model p)) zones xs out ws) (xs ∷ out ∷ ws ∷ [])

-- with failure, l the limits and e the corotated law
abbrev pub failure_zones_sized : ℕ → List ℕ → List ℕ → List ℕ → List ℕ → List ℕ → List ℕ → Bool
failure_zones_sized model p l e xs out ws = parameters_fit model p && has 2 l && has 4 e && well_sized xs out && whole ws

unfoldable pub failure_zones_pass : ℕ → List ℕ → List ℕ → List ℕ → List ℕ → List ℕ → List ℕ → List ℕ → Called
failure_zones_pass model p l e zones xs out ws =
    call_of (failure_zones_sized model p l e xs out ws) (failure_known model p e)
    (zoned_by (failure_law (model_of model p) (limits_of l) (corotated_of e)) zones xs out ws)
    (xs ∷ out ∷ ws ∷ [])
