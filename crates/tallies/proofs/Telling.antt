-- What the step by value tells, field by field: the tally that each arm makes is the one that grew. Assumes nothing.
use mathlib.Core.Path.{◌≡◌}
use mathlib.Core.Bool.{Bool, true, false}
use Prim.Native.Nat.{ℕ, ◌+◌}
use lib.Dec.{eqb}
use Rattle.particles.specs.Pass.{counted_if}
use Rattle.tallies.specs.declared.tally.Tally.{Tally}
use Rattle.tallies.specs.declared.tally.Told.{Told}
use Rattle.tallies.specs.Tallies.{grown}

abbrev pub counts : ℕ → Bool → ℕ
counts n f = counted_if n f

-- the tally with failed counted, and then one number more
abbrev pub with_failed : Tally → Bool → Tally
with_failed t f = record { particles = t.particles; untouched = t.untouched; stored = t.stored; refused = t.refused; failed = counts t.failed f }

abbrev pub more_untouched : Tally → Bool → Tally
more_untouched t f = record { particles = t.particles; untouched = t.untouched + 1; stored = t.stored; refused = t.refused; failed = counts t.failed f }

abbrev pub more_stored : Tally → Bool → Tally
more_stored t f = record { particles = t.particles; untouched = t.untouched; stored = t.stored + 1; refused = t.refused; failed = counts t.failed f }

abbrev pub more_refused : Tally → Bool → Tally
more_refused t f = record { particles = t.particles; untouched = t.untouched; stored = t.stored; refused = t.refused + 1; failed = counts t.failed f }

module _ (t : Tally) (d : Told) (f : Bool) (e : d.failed ≡ f) where
  pub was_untouched : eqb d.which 0 ≡ true → more_untouched t f ≡ grown t d
  was_untouched h = simp (e, h)

  module _ (n : eqb d.which 0 ≡ false) where
    pub was_stored : eqb d.which 1 ≡ true → more_stored t f ≡ grown t d
    was_stored h = simp (e, n, h)

    pub was_refused : eqb d.which 1 ≡ false → more_refused t f ≡ grown t d
    was_refused h = simp (e, n, h)
