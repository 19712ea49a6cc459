-- The answers of the calls that take a law's list and a record: the law's own of that record (`solid`), after 8 for either length and 6 for a flag (RULES, section 6; ticket 3).
use Rattle.std.specs.Prelude.{not, ◌&&◌, List, ℕ, eqb, get_or, Float}
use Rattle.std.specs.Float.{binary64}
use Rattle.std.specs.Float.Ieee.{to_bits}
use Rattle.answers.specs.declared.Answer.{Answer}
use Rattle.tensor.specs.declared.MatrixAnswer.{MatrixAnswer}
use Rattle.record.specs.Layout.{floats}
use Rattle.host_lists.specs.Laws.{neo_hookean_of, corotated_of}
use Rattle.solid.specs.NeoHookean as neo
use Rattle.solid.specs.Corotated as corotated
use Rattle.host_lists.specs.Refused.{has, sized_number, sized_matrix, flagged_number}

-- ---- neo-Hookean
unfoldable pub record_neo_hookean_fpk_stress : List ℕ → List ℕ → MatrixAnswer
record_neo_hookean_fpk_stress p r = sized_matrix (has 3 p && has floats r) (neo.fpk_stress (neo_hookean_of p) r)

unfoldable pub record_neo_hookean_elastic_energy_density : List ℕ → List ℕ → Answer
record_neo_hookean_elastic_energy_density p r = sized_number (has 3 p && has floats r) (neo.elastic_energy_density (neo_hookean_of p) r)

-- the flag comes as a number: its bits tell it
unfoldable pub record_neo_hookean_elastic_energy_density_in : List ℕ → Float → List ℕ → Answer
record_neo_hookean_elastic_energy_density_in p one_split r =
    let w = to_bits binary64 one_split in
    sized_number (has 3 p && has floats r) (flagged_number w (neo.elastic_energy_density_in (not (eqb w 0)) (neo_hookean_of p) r))

unfoldable pub record_neo_hookean_pos_energy : List ℕ → List ℕ → Answer
record_neo_hookean_pos_energy p r = sized_number (has 3 p && has floats r) (neo.pos_energy (neo_hookean_of p) r)

-- ---- corotated
unfoldable pub record_corotated_elastic_energy_density : List ℕ → List ℕ → Answer
record_corotated_elastic_energy_density p r =
    sized_number (has 4 p && has floats r) (flagged_number (get_or p 0 0) (corotated.elastic_energy_density (corotated_of p) r))

unfoldable pub record_corotated_pos_energy : List ℕ → List ℕ → Answer
record_corotated_pos_energy p r =
    sized_number (has 4 p && has floats r) (flagged_number (get_or p 0 0) (corotated.pos_energy (corotated_of p) r))
