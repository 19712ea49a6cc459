-- The law on a record's floats before the determinant, by itself: what the demands on the laws speak of.
use Rattle.std.specs.Prelude.{◌≡◌, true, false, List, ℕ}
use Rattle.numbers.specs.Floats.{finite}
use Rattle.plasticity.specs.declared.Outcome.{Outcome}
use Rattle.plasticity.specs.declared.Outcome.TheVariants.{Untouched, Stored, Refused}
use Rattle.plasticity.specs.declared.State.{State}
use Rattle.record.specs.Layout.{place_determinant, float_at, determinant_right, put_bare}
use Rattle.model.specs.declared.Model.{Model}
use Rattle.particles.specs.Pass.{Worked}
use Rattle.one_record.specs.RecordLaw.{put_scalars, updated_at, kept}

abbrev pub bare_kept : Model → Outcome → List ℕ → State → List ℕ
bare_kept m Untouched q s = q
bare_kept m (Stored a) q s = put_scalars m (put_bare q s) s
bare_kept m (Refused n) q s = q

unfoldable pub bare_law : Model → List ℕ → Worked
bare_law m q = record { outcome = (updated_at m q).outcome; failed = false; after = bare_kept m (updated_at m q).outcome q (updated_at m q).state }

-- the determinant refuses nothing: neither by 1, nor by 11, nor the new one by 3
pub record Unrefused (m : Model) (r : List ℕ) : Type 0 where
  pub stored : finite (float_at r place_determinant) ≡ true
  pub right : determinant_right r ≡ true
  pub new : finite (float_at (kept m (updated_at m r).outcome r (updated_at m r).state) place_determinant) ≡ true
