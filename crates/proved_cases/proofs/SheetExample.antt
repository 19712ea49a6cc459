-- Section 7's example from its bytes to its answers: model 0, the default parameters and one record with F, U and V^T the identity,
-- sigma, phase, plastic determinant and hardenings 1, gain and alpha 0. By computation.
use mathlib.Core.Path.{◌≡◌, refl}
use mathlib.Core.List.{[], ◌∷◌}
use lib.Ieee as Ieee
use lib.Ieee.{of_bits, to_bits}
use Rattle.numbers.specs.Floats.{finite, is_number}
use Rattle.exponential.specs.Worked.{exp_of, nearest_of, rest_of, series_of, scale_bits, times_of}
use Rattle.tensor.specs.Matrix.{sum_of, dot_of, scaled_row_of}
use Rattle.walk.specs.Matrix.{total, product, entry}
use Rattle.walk.specs.Body as body
use Rattle.plasticity_snow.specs.Over as snow
use Rattle.record.specs.Layout.{floats, determinant_at, determinant_right}
use Rattle.model.specs.Kinds as model
use Rattle.model.specs.Fields.{model_of}
use Rattle.one_record.specs.RecordLaw.{updated_at, law_at, record_law}
use Rattle.particles.specs.Pass.{worked_over, answers_over, counts_over}
use Rattle.sheet.specs.Sheet.{number_at, word_of, word_at, words_of, parameter_at, parameters_at, preamble_of, records_end, header_of, read_of, room_of}
use Rattle.sheet.specs.Records.{sheet_floats, completed, each}
use Rattle.sheet.specs.Spelling.{spell_number, spell_bytes, spell_words, spell}
use Rattle.sheet_run.specs.Run.{front_of, front_answers, ran_of, ran_answers}
use Rattle.proved_cases.specs.SheetExample.{bytes, room, answers, told}

-- particles 1, 0 stored 3ff0000000000000
pub example_run : (ran_of bytes room answers ≡ told) × (ran_answers bytes room answers ≡ 1 ∷ 0x3ff0000000000000 ∷ [])
unfolding spell spell_number spell_bytes spell_words read_of room_of header_of preamble_of number_at word_at word_of words_of parameter_at parameters_at records_end sheet_floats completed each model.kinds_of model.law_of model_of front_of front_answers worked_over answers_over counts_over record_law law_at updated_at determinant_at determinant_right snow.snow_walk snow.floats body.floats_of snow.run_walk snow.harden_walk body.store_walk total product entry sum_of dot_of scaled_row_of exp_of nearest_of rest_of series_of scale_bits times_of finite is_number of_bits to_bits Ieee.add Ieee.sub Ieee.mul Ieee.div Ieee.neg Ieee.le Ieee.lt Ieee.eq
example_run = (refl, refl)
