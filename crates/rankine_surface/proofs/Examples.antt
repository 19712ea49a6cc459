-- Records that demand 3 takes: one is projected and stored, one is untouched; and a sheet that brings the first. By computation.
use mathlib.Core.Path.{refl}
use mathlib.Core.Bool.{not}
use mathlib.Core.List.{List, [], ◌∷◌}
use Prim.Native.Nat.{ℕ}
use lib.Dec.{T, lit≤, lit<}
use lib.ListN.{take}
use lib.Ieee as Ieee
use lib.Ieee.{binary64, of_bits, to_bits, fits, round, size}
use Rattle.exact.specs.Units.{L, mag}
use Rattle.exact.specs.Value.{val}
use Rattle.exact.specs.RootOf.{sqrt_of, floor_root, root_in}
use Rattle.numbers.specs.Floats.{finite, is_number}
use Rattle.logarithm.specs.Worked as ln
use Rattle.exponential.specs.Worked as exp
use Rattle.physics.specs.Physics.{lambda_of, shear_modulus_of}
use Rattle.tensor.specs.Matrix.{one, sum_of, dot_of, scaled_row_of}
use Rattle.walk.specs.Matrix as formula
use Rattle.plasticity_rankine.specs.declared.RankineArguments.{RankineArguments}
use Rattle.plasticity_rankine.specs.Sorting.{order_of}
use Rattle.plasticity_rankine.specs.Law.{arguments_of, law_of}
use Rattle.plasticity_rankine.specs.Projection.{third_walk, second_walk, first_walk}
use Rattle.walk.specs.Body as body
use Rattle.plasticity_rankine.specs.Over as over
use Rattle.record.specs.Layout.{bare, determinant_at, determinant_right}
use Rattle.model.specs.declared.Model.TheVariants.{Rankine}
use Rattle.one_record.specs.RecordLaw.{updated_at, law_at, record_law}
use Rattle.sheet.specs.Sheet.{number_at, word_of, word_at, words_of, parameter_at, parameters_at, preamble_of, records_end, header_of, read_of, room_of}
use Rattle.sheet.specs.Records.{sheet_floats, completed, each}
use Rattle.sheet.specs.Spelling.{spell_number, spell_bytes, spell_words, spell}
use Rattle.sheet_run.specs.Run.{front_of}
use Rattle.model.specs.Kinds as model
use Rattle.model.specs.Fields.{model_of}
use Rattle.rankine_surface.specs.Surface.{Ranges, logs_of}
use Rattle.rankine_surface.specs.Record.{Premises, softened_at, first_test_at, InsideAt, ReturnedAt, ArchivedAt, InPass, pass_found}
use Rattle.rankine_surface.specs.Sheet.{InSheet, SheetPremises, sheet_found}
use Rattle.rankine_surface.proofs.Records.{pass_3}
use Rattle.rankine_surface.proofs.Sheets.{sheet_3}
use Rattle.rankine_surface.proofs.Stored.{pass_archived}

-- mu and lambda are 4, strength and rate 1
abbrev pub arguments : RankineArguments
arguments = arguments_of (of_bits binary64 0x4024000000000000) (of_bits binary64 0x3fd0000000000000) one one

-- F, U and V^T the identity, sigma x, 1 and 1, phase, plastic determinant and hardenings 1, gain and alpha 0; F's determinant is 1
abbrev pub unit : ℕ
unit = 0x3ff0000000000000

abbrev rows : List ℕ → List ℕ
rows l = unit ∷ 0 ∷ 0 ∷ 0 ∷ unit ∷ 0 ∷ 0 ∷ 0 ∷ unit ∷ l

abbrev of : ℕ → List ℕ
of x = rows (rows (x ∷ unit ∷ unit ∷ rows (unit ∷ unit ∷ unit ∷ unit ∷ 0 ∷ 0 ∷ unit ∷ [])))

abbrev pub two : ℕ
two = 0x4000000000000000

abbrev pub answers : List ℕ
answers = 0 ∷ 0 ∷ []

in_pass : (x : ℕ) → InPass (of x) answers 0
in_pass x = record { sized = tt; index = lit< tt }

abbrev Assumed : ℕ → Type 0
Assumed x = Premises arguments (of x) (record_law (Rankine arguments) (of x)).outcome

taken : Assumed two × Assumed unit × T (not (first_test_at arguments (of two))) × T (first_test_at arguments (of unit))
unfolding record_law law_at updated_at determinant_right determinant_at over.arguments_walk over.floats body.floats_of over.run_walk over.strained_walk first_walk second_walk third_walk over.way_walk over.moved_walk over.harden_walk over.exps_walk body.store_walk logs_of formula.total formula.sum formula.entry order_of lambda_of shear_modulus_of ln.ln_of ln.exponent_of ln.fraction_of ln.part_of exp.exp_of exp.nearest_of exp.rest_of exp.series_of exp.scale_bits exp.times_of sqrt_of floor_root root_in mag val L fits finite is_number of_bits to_bits round size Ieee.add Ieee.sub Ieee.mul Ieee.div Ieee.neg Ieee.le Ieee.lt Ieee.eq sum_of dot_of scaled_row_of
taken =
    let g : Ranges (law_of arguments) (softened_at arguments (of two)) = record { mu_low = lit≤ tt; mu_high = lit≤ tt; la_low = lit≤ tt; la_high = lit≤ tt; s_size = lit≤ tt } in (
      record { accepted = tt; ranges = g; s_finite = tt; strains = (lit≤ tt, (lit≤ tt, (lit≤ tt, tt))); strength = tt },
      record { accepted = tt; ranges = g; s_finite = tt; strains = (lit≤ tt, (lit≤ tt, (lit≤ tt, tt))); strength = tt },
      tt,
      tt,
    )

stretched : ReturnedAt arguments (of two) (pass_found (record_law (Rankine arguments)) (of two) answers 0)
stretched = (pass_3 (in_pass two) taken.0).fails taken.2

in_the_archive : ArchivedAt arguments (of two) (pass_found (record_law (Rankine arguments)) (of two) answers 0)
in_the_archive = pass_archived (in_pass two) taken.0 stretched.answer.0

at_rest : InsideAt arguments (of unit) (pass_found (record_law (Rankine arguments)) (of unit) answers 0)
at_rest = (pass_3 (in_pass unit) taken.1).holds taken.3

-- ---- a sheet of one record without its determinant, run with a room that holds another
abbrev sheet : List ℕ
sheet = spell 1 (0x4024000000000000 ∷ 0x3fd0000000000000 ∷ unit ∷ unit ∷ []) 1 (take bare (of two))

brought : ReturnedAt arguments (of two) (sheet_found sheet (of unit) answers 0)
unfolding spell spell_number spell_bytes spell_words sheet_floats completed each determinant_at of_bits to_bits Ieee.add Ieee.sub Ieee.mul header_of preamble_of number_at parameters_at parameter_at word_at word_of words_of model.kinds_of model.law_of model_of records_end read_of room_of front_of
brought =
    let w : InSheet sheet (of unit) answers 0 = record { run = refl; rankine = refl; index = lit< tt } in
    let t = taken.0 in
    let g : SheetPremises sheet 0 = record { accepted = t.accepted; ranges = t.ranges; s_finite = t.s_finite; strains = t.strains } in
    (sheet_3 w g).fails taken.2
