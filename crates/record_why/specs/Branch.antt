-- Ticket 8, "and that branch gives the stored record": the branch in which the law's projection ends, by its number in docs/STEPS.md, and what that
-- branch stores.
use Rattle.std.specs.Prelude.{cond, List, ℕ, get_or, Float}
use Rattle.plasticity.specs.declared.State.{State}
use Rattle.walk.specs.Exact.{final}
use Rattle.walk.specs.Update.{Change, untouched}
use Rattle.plasticity_snow.specs.Snow.{snow_walk}
use Rattle.plasticity_rankine.specs.Law as rankine_law
use Rattle.plasticity_rankine.specs.Projection as rankine
use Rattle.plasticity_rankine.specs.declared.RankinePlasticity.{RankinePlasticity}
use Rattle.plasticity_rankine.proofs.Reason as rankine_reason
use Rattle.plasticity_drucker_prager.specs.Projection as drucker_prager
use Rattle.plasticity_drucker_prager.specs.DruckerPrager.{stays_of}
use Rattle.plasticity_drucker_prager.proofs.Reason as drucker_prager_reason
use Rattle.plasticity_nacc.specs.Law as nacc_law
use Rattle.plasticity_nacc.specs.Axes.{three_axes}
use Rattle.plasticity_nacc.specs.Projection as nacc
use Rattle.plasticity_nacc.specs.Nacc as nacc_walks
use Rattle.plasticity_nacc.specs.declared.NaccPlasticity.{NaccPlasticity}
use Rattle.model.specs.declared.Model.{Model}
use Rattle.model.specs.declared.Model.TheVariants.{Snow, Rankine, DruckerPrager, Nacc}

-- where each law's projection ends
abbrev pub rankine_end : RankinePlasticity → List (List Float) → List (List Float) → State → rankine.Moved
rankine_end p u vt s = final (rankine_reason.projection p u vt s)

abbrev pub nacc_end : NaccPlasticity → State → nacc.Landed
nacc_end p s = final (nacc.steps_walk three_axes p s.sigma s.scalars.alpha)

-- the branch; Snow has one, and Drucker-Prager is left untouched by its flag
abbrev pub model_branch : Model → List (List Float) → List (List Float) → State → ℕ
model_branch (Snow p) u vt s = 1
model_branch (Rankine a) u vt s = rankine.way_number (rankine_end (rankine_law.law_of a) u vt s).way
model_branch (DruckerPrager p) u vt s = cond (stays_of p s.scalars.phase) 0 (drucker_prager.way_number (drucker_prager_reason.projection_of p s).way)
model_branch (Nacc a) u vt s = nacc.way_number (nacc_end (nacc_law.law_of a) s).way

-- what the branch stores
abbrev pub model_stores : Model → List (List Float) → List (List Float) → State → Change
model_stores (Snow p) u vt s = final (snow_walk p u vt s)
model_stores (Rankine a) u vt s = let p = rankine_law.law_of a in final (rankine_reason.W p u vt s (rankine_end p u vt s))
model_stores (DruckerPrager p) u vt s =
    cond (stays_of p s.scalars.phase) untouched (final (drucker_prager_reason.W p u vt s (drucker_prager_reason.projection_of p s)))
model_stores (Nacc a) u vt s =
    let q = nacc_end (nacc_law.law_of a) s in
    final (nacc_walks.way_walk q.way q.shape u vt s)

-- the host's word
abbrev pub branch_word : List ℕ → ℕ
branch_word w = get_or w 7 0
