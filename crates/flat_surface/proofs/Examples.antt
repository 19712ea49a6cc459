-- Flat records that demand 3 takes, by the arguments of the example in three axes: one is projected and stored, one is untouched. By computation.
use mathlib.Core.Bool.{not}
use mathlib.Core.List.{List, [], ◌∷◌}
use Prim.Native.Nat.{ℕ}
use lib.Dec.{T, lit≤, lit<}
use lib.Ieee as Ieee
use lib.Ieee.{binary64, of_bits, to_bits, fits, round, size}
use Rattle.exact.specs.Units.{L, mag}
use Rattle.exact.specs.Value.{val}
use Rattle.exact.specs.RootOf.{sqrt_of, floor_root, root_in}
use Rattle.numbers.specs.Floats.{finite, is_number}
use Rattle.logarithm.specs.Worked as ln
use Rattle.exponential.specs.Worked as exp
use Rattle.physics.specs.Physics.{lambda_of, shear_modulus_of}
use Rattle.tensor.specs.Matrix.{sum_of, dot_of, scaled_row_of}
use Rattle.walk.specs.Matrix as formula
use Rattle.walk.specs.Body as body
use Rattle.plasticity_rankine.specs.Sorting.{order_of}
use Rattle.plasticity_rankine.specs.Law.{law_of}
use Rattle.plasticity_rankine.specs.Over as over
use Rattle.model.specs.declared.Model.TheVariants.{Rankine}
use Rattle.rankine_surface.specs.Surface.{RangesIn, logs_of}
use Rattle.rankine_surface.specs.Record.{softened_at_in, first_test_at_in, InsideAtIn, ReturnedAtIn, ArchivedAtIn, InPassOver, pass_found_over}
use Rattle.rankine_surface.proofs.Examples.{arguments, unit, two, answers}
use Rattle.flat_rankine.specs.Projection.{first_walk, second_walk}
use Rattle.flat_particles.specs.Layout.{floats}
use Rattle.flat_particles.specs.Law.{walk_of, updated_at, flat_law}
use Rattle.flat_surface.specs.Record.{flat, Premises}
use Rattle.flat_surface.proofs.Records.{flat_pass_3, flat_pass_archived}

-- F, U and V^T the identity, sigma x and 1, phase, plastic determinant and hardenings 1, gain and alpha 0
abbrev rows : List ℕ → List ℕ
rows l = unit ∷ 0 ∷ 0 ∷ unit ∷ l

abbrev of : ℕ → List ℕ
of x = rows (rows (x ∷ unit ∷ rows (unit ∷ unit ∷ unit ∷ unit ∷ 0 ∷ 0 ∷ [])))

in_pass : (x : ℕ) → InPassOver floats (of x) answers 0
in_pass x = record { sized = tt; index = lit< tt }

abbrev Assumed : ℕ → Type 0
Assumed x = Premises arguments (of x) (flat_law (Rankine arguments) (of x)).outcome

taken : Assumed two × Assumed unit × T (not (first_test_at_in flat arguments (of two))) × T (first_test_at_in flat arguments (of unit))
unfolding flat_law updated_at walk_of over.arguments_walk over.floats body.floats_of over.run_walk over.strained_walk first_walk second_walk over.way_walk over.moved_walk over.harden_walk over.exps_walk body.store_walk logs_of formula.total formula.sum formula.entry order_of lambda_of shear_modulus_of ln.ln_of ln.exponent_of ln.fraction_of ln.part_of exp.exp_of exp.nearest_of exp.rest_of exp.series_of exp.scale_bits exp.times_of sqrt_of floor_root root_in mag val L fits finite is_number of_bits to_bits round size Ieee.add Ieee.sub Ieee.mul Ieee.div Ieee.neg Ieee.le Ieee.lt Ieee.eq sum_of dot_of scaled_row_of
taken =
    let g : RangesIn 2 (law_of arguments) (softened_at_in flat arguments (of two)) = record { mu_low = lit≤ tt; mu_high = lit≤ tt; la_low = lit≤ tt; la_high = lit≤ tt; s_size = lit≤ tt } in (
      record { accepted = tt; ranges = g; s_finite = tt; strains = (lit≤ tt, (lit≤ tt, tt)); strength = tt },
      record { accepted = tt; ranges = g; s_finite = tt; strains = (lit≤ tt, (lit≤ tt, tt)); strength = tt },
      tt,
      tt,
    )

stretched : ReturnedAtIn flat arguments (of two) (pass_found_over floats (flat_law (Rankine arguments)) (of two) answers 0)
stretched = (flat_pass_3 (in_pass two) taken.0).fails taken.2

in_the_archive : ArchivedAtIn flat arguments (of two) (pass_found_over floats (flat_law (Rankine arguments)) (of two) answers 0)
in_the_archive = flat_pass_archived (in_pass two) taken.0 stretched.answer.0

at_rest : InsideAtIn flat arguments (of unit) (pass_found_over floats (flat_law (Rankine arguments)) (of unit) answers 0)
at_rest = (flat_pass_3 (in_pass unit) taken.1).holds taken.3
