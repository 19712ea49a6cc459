-- Of a record that nothing refuses before, the steps with the stored determinant are the calls of its F. Assumes nothing.
use mathlib.Core.Path.{◌≡◌, ap, sym, ◌∙◌}
use mathlib.Core.Bool.{Bool, true, cond, ◌&&◌}
use mathlib.Core.List.{List, [], ◌∷◌}
use Prim.Native.Nat.{ℕ}
use lib.Ieee.{Float}
use Rattle.answers.specs.Refusals.{not_finite}
use Rattle.answers.specs.declared.Answer.TheVariants.{Refused}
use Rattle.numbers.specs.Floats.{finite}
use Rattle.numbers.proofs.Laws.{and_both}
use Rattle.tensor.specs.Axes.{all_of}
use Rattle.tensor.specs.Answer.{refused_matrix}
use Rattle.walk.specs.Expr.{num}
use Rattle.walk.specs.Walk.{refused, walk_result, answer_as}
use Rattle.walk.specs.Answers.{matrix_as}
use Rattle.record.specs.Layout.{place_f, place_phase, place_elastic_hardening, place_determinant, float_at, mat_at, record_finite}
use Rattle.record.proofs.Parts.{state_parts, scalars_parts}
use Rattle.record.proofs.Stored.{stored}
use Rattle.elasticity_neo_hookean.specs.declared.NeoHookeanElasticity.{NeoHookeanElasticity}
use Rattle.elasticity_neo_hookean.specs.Law.{law_finite, floats}
use Rattle.elasticity_neo_hookean.specs.Stress as stress
use Rattle.elasticity_neo_hookean.specs.Stress.{kirchhoff_from, kirchhoff_steps, kirchhoff_walk, fpk_from, fpk_steps, fpk_walk}
use Rattle.elasticity_neo_hookean.specs.Energy as energy
use Rattle.elasticity_neo_hookean.specs.Energy.{energy_from, energy_steps, energy_walk_in, pos_from, pos_steps, pos_walk}
use Rattle.elasticity_neo_hookean.proofs.Laws.{inputs_law, fpk_inputs_law, kirchhoff_worked, fpk_worked, energy_worked, pos_worked}
use Rattle.solid.specs.OfRecord.{refusal_of}
use Rattle.solid.specs.NeoHookean.{stress_at, fpk_stress, elastic_energy_density_in, pos_energy}
use Rattle.solid.proofs.Passed.{passed, asked}

module _ (p : NeoHookeanElasticity) (r : List ℕ) where
  abbrev phase : Float
  phase = float_at r place_phase

  abbrev h : Float
  h = float_at r place_elastic_hardening

  abbrev f : List (List Float)
  f = mat_at r place_f

  -- the calls' inputs are among the law's and the record's floats
  module _ (k : law_finite p && record_finite r ≡ true) where
    abbrev fine : record_finite r ≡ true
    fine = (and_both (law_finite p) (record_finite r) k).1

    pub all_finite : all_of finite (floats p (phase ∷ h ∷ []) f) ≡ true
    all_finite =
        let s = scalars_parts r fine in
        inputs_law p phase h f ∙ rw ((and_both (law_finite p) (record_finite r) k).0, s.0.0, s.1.0, (state_parts r fine).0)

    pub fpk_finite : all_of finite (floats p (h ∷ []) f) ≡ true
    fpk_finite = fpk_inputs_law p h f ∙ rw ((and_both (law_finite p) (record_finite r) k).0, (scalars_parts r fine).1.0, (state_parts r fine).0)

  module _ (q : refusal_of (law_finite p) r ≡ 0) where
    abbrev j : Float
    j = float_at r place_determinant

    pub kirchhoff_stored : matrix_as (walk_result (kirchhoff_from p phase h f (num j))) ≡ stress_at p r
    unfolding kirchhoff_walk
    kirchhoff_stored =
        ap (λ x. matrix_as (walk_result (kirchhoff_from p phase h f (num x)))) (stored r (passed (law_finite p) r q).right)
        ∙ ap matrix_as (sym (kirchhoff_worked p phase h f))
        ∙ ap (λ b. matrix_as (cond b (walk_result (kirchhoff_steps p phase h f)) (refused not_finite))) (sym (all_finite (passed (law_finite p) r q).all))

    pub fpk_stored : matrix_as (walk_result (fpk_from p f h (num j))) ≡ fpk_stress p r
    unfolding fpk_walk
    fpk_stored =
        ap (λ x. matrix_as (walk_result (fpk_from p f h (num x)))) (stored r (passed (law_finite p) r q).right)
        ∙ ap matrix_as (sym (fpk_worked p f h))
        ∙ ap (λ b. matrix_as (cond b (walk_result (fpk_steps p f h)) (refused not_finite))) (sym (fpk_finite (passed (law_finite p) r q).all))
        ∙ sym (asked (law_finite p) r refused_matrix (stress.fpk_stress p f h) q)

    pub energy_stored : (m : Bool) → answer_as (walk_result (energy_from m p phase h f (num j))) ≡ elastic_energy_density_in m p r
    unfolding energy_walk_in
    energy_stored m =
        ap (λ x. answer_as (walk_result (energy_from m p phase h f (num x)))) (stored r (passed (law_finite p) r q).right)
        ∙ ap answer_as (sym (energy_worked m p phase h f))
        ∙ ap (λ b. answer_as (cond b (walk_result (energy_steps m p phase h f)) (refused not_finite))) (sym (all_finite (passed (law_finite p) r q).all))
        ∙ sym (asked (law_finite p) r Refused (energy.elastic_energy_density_in m p phase h f) q)

    pub pos_stored : answer_as (walk_result (pos_from p phase h f (num j))) ≡ pos_energy p r
    unfolding pos_walk
    pos_stored =
        ap (λ x. answer_as (walk_result (pos_from p phase h f (num x)))) (stored r (passed (law_finite p) r q).right)
        ∙ ap answer_as (sym (pos_worked p phase h f))
        ∙ ap (λ b. answer_as (cond b (walk_result (pos_steps p phase h f)) (refused not_finite))) (sym (all_finite (passed (law_finite p) r q).all))
        ∙ sym (asked (law_finite p) r Refused (energy.pos_energy p phase h f) q)
