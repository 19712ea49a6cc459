-- What Rankine's law puts into a record is read back from it
use mathlib.Core.Path.{◌≡◌, ◌∙◌}
use mathlib.Core.List.{List, [], ◌∷◌}
use Prim.Native.Nat.{ℕ, zero, suc}
use native.Mathlib.Omega.{arith}
use lib.ListN.{length, length-set}
use lib.Ieee.{Float, nan}
use Rattle.tensor.proofs.Axes.{entries}
use Rattle.plasticity_rankine.specs.declared.RankineArguments.{RankineArguments}
use Rattle.model.specs.declared.Model.TheVariants.{Rankine}
use Rattle.record.specs.Layout.{floats, place_f, place_sigma, place_phase, place_plastic_hardening, place_determinant, state_at, put_rows, put_bare, put_shape, put_phase}
use Rattle.record.proofs.Places.{Row64, row_f64, same, row_other, row_same}
use Rattle.rankine_surface.specs.Axes.{Each}
use Rattle.one_record.specs.RecordLaw.{put_state}
use Rattle.rankine_surface.specs.Surface.{F64}
use Rattle.rankine_surface.specs.Record.{three_records}
use Rattle.rankine_surface.proofs.Left.{Puts}

row_of : (v : List Float) → Each F64 v → Row64 v
row_of [] f i = row_f64 [] [] tt i
row_of (x ∷ v) f zero = f.0
row_of (x ∷ v) f (suc i) = row_of v f.1 i

-- F, sigma, the determinant and the plastic hardening
pub puts : (a : RankineArguments) → Puts three_records (put_state (Rankine a))
puts a =
    record {
      sigma = λ r s h k f.
          row_other (put_shape r s) place_plastic_hardening place_sigma _ (omega arith) ∙ row_other (put_bare r s) place_determinant place_sigma _ (omega arith)
          ∙ row_same (put_rows r place_f s.f) place_sigma s.sigma (simp length-set (omega arith)) (row_of s.sigma f) ∙ entries nan s.sigma k;
      hardening = λ r s h f. same (put_shape r s) place_plastic_hardening s.scalars.plastic_hardening (simp length-set (omega arith)) f;
    }

-- a verdict's phase changes no sigma
pub phase_sigma : (r : List ℕ) (x : Float) → (state_at (put_phase r x)).sigma ≡ (state_at r).sigma
phase_sigma r x = row_other r place_phase place_sigma _ (omega arith)
