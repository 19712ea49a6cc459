-- Of a record that nothing refuses before, the steps with the stored determinant are the calls of its F and its factors. Assumes nothing.
use mathlib.Core.Path.{◌≡◌, ap, sym, ◌∙◌}
use mathlib.Core.Bool.{true, cond, ◌&&◌}
use mathlib.Core.List.{List, [], ◌∷◌, ◌++◌}
use Prim.Native.Nat.{ℕ}
use lib.Ieee.{Float}
use Rattle.answers.specs.Refusals.{not_finite}
use Rattle.answers.specs.declared.Answer.TheVariants.{Refused}
use Rattle.numbers.specs.Floats.{finite}
use Rattle.numbers.proofs.Laws.{and_both}
use Rattle.tensor.specs.Axes.{all_of}
use Rattle.tensor.specs.Finite.{row_finite}
use Rattle.walk.specs.Expr.{num}
use Rattle.walk.specs.Walk.{refused, walk_result, answer_as}
use Rattle.walk.specs.Matrix.{joined}
use Rattle.walk.specs.Answers.{matrix_as}
use Rattle.record.specs.Layout.{place_f, place_sigma, place_phase, place_elastic_hardening, place_determinant, float_at, row_at, mat_at, u_at, vt_at, record_finite}
use Rattle.record.proofs.Parts.{record_parts, state_parts, scalars_parts}
use Rattle.record.proofs.Stored.{stored}
use Rattle.elasticity_corotated_linear.specs.declared.CorotatedLinearElasticity.{CorotatedLinearElasticity}
use Rattle.elasticity_corotated_linear.specs.Law.{law_finite, floats}
use Rattle.elasticity_corotated_linear.specs.Stress.{stress_from, stress_steps, stress_walk}
use Rattle.elasticity_corotated_linear.specs.Energy as energy
use Rattle.elasticity_corotated_linear.specs.Energy.{pos_from, pos_steps, pos_walk}
use Rattle.elasticity_corotated_linear.proofs.Laws.{stress_inputs, energy_inputs, pos_inputs, stress_worked, pos_worked}
use Rattle.solid.specs.OfRecord.{refusal_of}
use Rattle.solid.specs.Corotated.{stress_at, elastic_energy_density, pos_energy}
use Rattle.solid.proofs.Passed.{passed, asked}

module _ (p : CorotatedLinearElasticity) (r : List ℕ) where
  abbrev phase : Float
  phase = float_at r place_phase

  abbrev h : Float
  h = float_at r place_elastic_hardening

  abbrev f : List (List Float)
  f = mat_at r place_f

  abbrev u : List (List Float)
  u = u_at r

  abbrev s : List Float
  s = row_at r place_sigma

  abbrev vt : List (List Float)
  vt = vt_at r

  -- the calls' inputs are among the law's and the record's floats
  module _ (k : law_finite p && record_finite r ≡ true) where
    abbrev law : law_finite p ≡ true
    law = (and_both (law_finite p) (record_finite r) k).0

    abbrev fine : record_finite r ≡ true
    fine = (and_both (law_finite p) (record_finite r) k).1

    pub all_finite : all_of finite (floats p ((phase ∷ h ∷ []) ++ joined f ++ joined u ++ s ++ joined vt)) ≡ true
    all_finite =
        let t = scalars_parts r fine in
        let m = record_parts r fine in
        let d = state_parts r fine in
        stress_inputs p phase h f u s vt ∙ rw (law, t.0.0, t.1.0, d.0, m.0, d.1, m.1)

    pub energy_finite : all_of finite (floats p (s ++ (h ∷ []))) ≡ true
    energy_finite = energy_inputs p s h ∙ rw (law, (state_parts r fine).1, (scalars_parts r fine).1.0)

    pub pos_finite : all_of finite (floats p (joined f ++ s ++ (h ∷ []))) ≡ true
    pos_finite = let d = state_parts r fine in pos_inputs p f s h ∙ rw (law, d.0, d.1, (scalars_parts r fine).1.0)

  module _ (q : refusal_of (law_finite p) r ≡ 0) where
    abbrev j : Float
    j = float_at r place_determinant

    pub sigma_finite : row_finite s ≡ true
    sigma_finite = (state_parts r (passed (law_finite p) r q).fine).1

    pub kirchhoff_stored : matrix_as (walk_result (stress_from p phase h f u s vt (num j))) ≡ stress_at p r
    unfolding stress_walk
    kirchhoff_stored =
        ap (λ x. matrix_as (walk_result (stress_from p phase h f u s vt (num x)))) (stored r (passed (law_finite p) r q).right)
        ∙ ap matrix_as (sym (stress_worked p phase h f u s vt))
        ∙ ap (λ b. matrix_as (cond b (walk_result (stress_steps p phase h f u s vt)) (refused not_finite))) (sym (all_finite (passed (law_finite p) r q).all))

    pub pos_stored : answer_as (walk_result (pos_from p s h (num j))) ≡ pos_energy p r
    unfolding pos_walk
    pos_stored =
        ap (λ x. answer_as (walk_result (pos_from p s h (num x)))) (stored r (passed (law_finite p) r q).right)
        ∙ ap answer_as (sym (pos_worked p s h f))
        ∙ ap (λ b. answer_as (cond b (walk_result (pos_steps p f s h)) (refused not_finite))) (sym (pos_finite (passed (law_finite p) r q).all))
        ∙ sym (asked (law_finite p) r Refused (energy.pos_energy p f s h) q)

    -- sigma and its product alone: asked as it is
    pub energy_asked : energy.elastic_energy_density p s h ≡ elastic_energy_density p r
    energy_asked = sym (asked (law_finite p) r Refused (energy.elastic_energy_density p s h) q)
