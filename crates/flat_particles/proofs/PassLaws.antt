-- A flat law keeps a record's length; what record i adds to three counts.
use mathlib.Core.Bool.{Bool}
use mathlib.Core.Path.{◌≡◌, refl, ap, ◌∙◌}
use mathlib.Core.List.{List}
use Prim.Native.Nat.{ℕ, ◌+◌}
use lib.ListN.{length-set}
use Rattle.plasticity.specs.declared.Outcome.{Outcome}
use Rattle.plasticity.specs.declared.Outcome.TheVariants.{Untouched, Stored, Refused}
use Rattle.model.specs.declared.Model.{Model}
use Rattle.model.specs.Rows.{acts_of}
use Rattle.particles.specs.declared.list.Counts.{Counts}
use Rattle.particles.specs.declared.failure.FailureCounts.{FailureCounts}
use Rattle.particles.specs.Pass.{Worked, counted, three_of, record_over, counts_over}
use Rattle.particles.proofs.PassLaws as laws
use Rattle.particles.proofs.PassLaws.{Keeps}
use Rattle.record.specs.Layout.{widths}
use Rattle.flat_particles.specs.Layout.{put_shape}
use Rattle.flat_particles.specs.Law.{put_state, updated_at, flat_law}
use Rattle.flat_particles.specs.Pass.{counted_of}

counted_three : (c : FailureCounts) (o : Outcome) (f : Bool) → counted_of (three_of c) o ≡ three_of (counted c o f)
counted_three c Untouched f = refl
counted_three c (Stored a) f = refl
counted_three c (Refused n) f = refl

pub flat_keeps : (m : Model) → Keeps (flat_law m)
unfolding flat_law
flat_keeps m r =
    let s = (updated_at m r).state in
    laws.outcome_length (updated_at m r).outcome r (put_state m r s) (laws.named_length (widths 2) (acts_of m).law (put_shape r s) s.scalars ∙ simp length-set)

-- the first three counts of a pass
module _ (w : ℕ) (law : List ℕ → Worked) (l : List ℕ) where
  pub counts_step : (i : ℕ) (c : Counts) (o : Outcome) → c ≡ three_of (counts_over w law l i) → o ≡ (law (record_over w l i)).outcome
      → counted_of c o ≡ three_of (counts_over w law l (i + 1))
  counts_step i c o e g =
      let f = (law (record_over w l i)).failed in
      rw e (counted_three (counts_over w law l i) o f) ∙ ap three_of (laws.counts_step w law l i (counts_over w law l i) o f refl g refl)
