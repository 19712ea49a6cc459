-- Drucker-Prager's projection on two axes as a call by itself (RULES, sections 5 and 6; plasticity_drucker_prager.rs, `project_deformation_gradient` with
-- DIM = 2).
use Rattle.std.specs.Prelude.{cond, ◌&&◌, List, Float}
use Rattle.answers.specs.Refusals.{no_number}
use Rattle.numbers.specs.Floats.{finite}
use Rattle.tensor.specs.Finite.{row_finite}
use Rattle.plasticity.specs.declared.Outcome.{Outcome}
use Rattle.plasticity.specs.declared.Outcome.TheVariants.{Untouched, Stored, Refused}
use Rattle.walk.specs.Walk.{walk_result}
use Rattle.plasticity_drucker_prager.specs.declared.DruckerPragerPlasticity.{DruckerPragerPlasticity}
use Rattle.plasticity_drucker_prager.specs.Projection.{project_call}
use Rattle.flat_drucker_prager.specs.declared.Projected.{Projected}
use Rattle.flat_drucker_prager.specs.DruckerPrager.{dim, projected_of, refused_projection}

abbrev pub project_of : DruckerPragerPlasticity → List Float → Float → Float → Projected
project_of p sigma gain alpha = projected_of (walk_result (project_call dim p sigma gain alpha))

-- as the code hands it on: results that are finite, else 3
abbrev pub returned_of : Outcome → List Float → Projected
returned_of Untouched sigma = cond (row_finite sigma) (record { outcome = Untouched; sigma = sigma }) (refused_projection no_number)
returned_of (Stored dq) sigma = cond (row_finite sigma && finite dq) (record { outcome = Stored dq; sigma = sigma }) (refused_projection no_number)
returned_of (Refused n) sigma = record { outcome = Refused n; sigma = sigma }
