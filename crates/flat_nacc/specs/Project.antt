-- NACC's projection on two axes as a call by itself (RULES, sections 5 and 6; plasticity_nacc.rs, `project_deformation_gradient` with DIM = 2): what the
-- update, which stores nothing else, makes of a particle with this F, sigma and alpha. No step asks for its other scalars.
use Rattle.std.specs.Prelude.{List, [], ◌∷◌, Float}
use Rattle.tensor.specs.Matrix.{zero}
use Rattle.plasticity.specs.declared.Outcome.{Outcome}
use Rattle.plasticity.specs.declared.Outcome.TheVariants.{Untouched, Stored, Refused}
use Rattle.plasticity_nacc.specs.declared.NaccArguments.{NaccArguments}
use Rattle.flat.specs.State.{rows_of}
use Rattle.flat.specs.declared.State.{State}
use Rattle.flat.specs.declared.Updated.{Updated}
use Rattle.flat_nacc.specs.declared.Results.{Results}
use Rattle.flat_nacc.specs.Nacc.{nacc_update}

abbrev pub particle_of : List (List Float) → List Float → Float → State
particle_of f sigma alpha =
    record {
      f = rows_of f;
      sigma = sigma;
      scalars = record {
        phase = zero;
        plastic_determinant = zero;
        plastic_hardening = zero;
        elastic_hardening = zero;
        log_gain = zero;
        alpha = alpha;
      };
    }

-- zeros stand beside a refusal
abbrev pub shown_of : Outcome → State → Results
shown_of Untouched s = record { outcome = Untouched; f = s.f; sigma = s.sigma }
shown_of (Stored alpha) s = record { outcome = Stored alpha; f = s.f; sigma = s.sigma }
shown_of (Refused n) s = record { outcome = Refused n; f = record { r0 = zero ∷ zero ∷ []; r1 = zero ∷ zero ∷ [] }; sigma = zero ∷ zero ∷ [] }

abbrev pub results_of : Updated → Results
results_of v = shown_of v.outcome v.state

abbrev pub project_of : NaccArguments → List (List Float) → List (List Float) → List Float → List (List Float) → Float → Results
project_of a f u sigma vt alpha = results_of (nacc_update a u vt (particle_of f sigma alpha))
