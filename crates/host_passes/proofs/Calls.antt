-- Each kind of call, from what its function is told on each path: 8, 6, or what is done. Assumes nothing.
use mathlib.Core.Path.{◌≡◌}
use mathlib.Core.Bool.{Bool, true, false, ◌&&◌}
use mathlib.Core.List.{List, [], ◌∷◌}
use Prim.Native.Nat.{ℕ, ◌/◌}
use lib.ListN.{length}
use Rattle.numbers.proofs.Laws.{and_both}
use Rattle.answers.specs.Refusals.{unknown, wrong_length}
use Rattle.elasticity_corotated_linear.specs.declared.CorotatedLinearElasticity.{CorotatedLinearElasticity}
use Rattle.failure_maximum_stress.specs.declared.MaximumStressFailure.{MaximumStressFailure}
use Rattle.record.specs.Layout.{floats}
use Rattle.model.specs.declared.Model.{Model}
use Rattle.model.specs.Kinds.{parameters_fit, model_known}
use Rattle.model.specs.Fields.{model_of}
use Rattle.host_lists.specs.Laws.{corotated_of, limits_of}
use Rattle.particles.specs.declared.list.Passed.{Passed}
use Rattle.particles.specs.declared.list.Passed.TheVariants as passed
use Rattle.particles.specs.declared.failure.PassedWithFailure.{PassedWithFailure}
use Rattle.particles.specs.declared.failure.PassedWithFailure.TheVariants as judged
use Rattle.particles.specs.Pass.{Worked, three_of, well_sized_over, well_sized, worked_over, answers_over, counts_over, judged_over, passed_over, records_over, list_over}
use Rattle.host_lists.specs.Refused.{has}
use Rattle.host_lists.specs.Called.{called}
use Rattle.host_lists.proofs.Called.{goes, not_known, not_fitting, all_three}
use Rattle.host_passes.specs.Passes.{counts_of, failure_counts_of, worked_by, pass_by, failure_known, failure_by}
use Rattle.host_passes.specs.Inner.{passed_code, passed_counts, failure_code, failure_counts}

-- a pass of lists that fit
module _ (w : ℕ) (law : List ℕ → Worked) (xs out counts : List ℕ) (fit : well_sized_over w xs out ≡ true) where
  records_are : {ys : List ℕ} → ys ≡ records_over w law xs out → ys ≡ worked_over w law xs (length xs / w)
  records_are e = simp fit at e

  answers_are : {bs : List ℕ} → bs ≡ list_over w law xs out → bs ≡ answers_over w law xs (length xs / w)
  answers_are e = simp fit at e

  pub passed_all : {n : ℕ} {ys bs cs : List ℕ} (p : Passed) → p ≡ passed_over w law xs out → n ≡ passed_code p → ys ≡ records_over w law xs out → bs ≡ list_over w law xs out → cs ≡ passed_counts p counts
      → called n (ys ∷ bs ∷ cs ∷ []) ≡ worked_by w law (λ c. counts_of (three_of c)) xs
  passed_all p r code a b c =
      let d : p ≡ passed.Done (three_of (counts_over w law xs (length xs / w))) = simp fit at r in
      all_three (rw d at code) (records_are a) (answers_are b) (rw d at c)

  judged_all : {n : ℕ} {ys bs cs : List ℕ} (p : PassedWithFailure) → p ≡ judged_over w law xs out → n ≡ failure_code p → ys ≡ records_over w law xs out → bs ≡ list_over w law xs out → cs ≡ failure_counts p counts
      → called n (ys ∷ bs ∷ cs ∷ []) ≡ worked_by w law failure_counts_of xs
  judged_all p r code a b c =
      let d : p ≡ judged.Done (counts_over w law xs (length xs / w)) = simp fit at r in
      all_three (rw d at code) (records_are a) (answers_are b) (rw d at c)

-- ---- by a model's law
module _ (w : ℕ) (law : Model → List ℕ → Worked) (model : ℕ) (ps xs out counts : List ℕ) where
  abbrev fits : Bool
  fits = parameters_fit model ps && well_sized_over w xs out && has 3 counts

  pub pass_goes : fits ≡ true → model_known model ps ≡ true → {n : ℕ} {ys bs cs : List ℕ} (m : Model) (p : Passed) → m ≡ model_of model ps
      → p ≡ passed_over w (law m) xs out → n ≡ passed_code p → ys ≡ records_over w (law m) xs out → bs ≡ list_over w (law m) xs out → cs ≡ passed_counts p counts
      → called n (ys ∷ bs ∷ cs ∷ []) ≡ pass_by w law model ps xs out counts
  unfolding pass_by
  pass_goes f k m p e r code a b c =
      goes fits (model_known model ps) (worked_by w (law (model_of model ps)) (λ c. counts_of (three_of c)) xs) (xs ∷ out ∷ counts ∷ []) f k
      (passed_all w (law (model_of model ps)) xs out counts (and_both (parameters_fit model ps) (well_sized_over w xs out) (and_both (parameters_fit model ps && well_sized_over w xs out) (has 3 counts) f).0).1 p (rw e at r) code (rw e at a) (rw e at b) c)

  pub pass_unknown : fits ≡ true → model_known model ps ≡ false → called unknown (xs ∷ out ∷ counts ∷ []) ≡ pass_by w law model ps xs out counts
  unfolding pass_by
  pass_unknown f k = not_known fits (model_known model ps) _ (xs ∷ out ∷ counts ∷ []) f k

  pub pass_unfit : fits ≡ false → called wrong_length (xs ∷ out ∷ counts ∷ []) ≡ pass_by w law model ps xs out counts
  unfolding pass_by
  pass_unfit f = not_fitting fits _ (xs ∷ out ∷ counts ∷ []) f

-- ---- with failure
module _ (law : Model → MaximumStressFailure → CorotatedLinearElasticity → List ℕ → Worked) (model : ℕ) (ps ls es xs out counts : List ℕ) where
  abbrev failure_fits : Bool
  failure_fits = parameters_fit model ps && has 2 ls && has 4 es && well_sized xs out && has 4 counts

  pub failure_goes : failure_fits ≡ true → failure_known model ps es ≡ true → {n : ℕ} {ys bs cs : List ℕ} (m : Model) (l : MaximumStressFailure) (g : CorotatedLinearElasticity) (p : PassedWithFailure)
      → m ≡ model_of model ps → l ≡ limits_of ls → g ≡ corotated_of es
      → p ≡ judged_over floats (law m l g) xs out → n ≡ failure_code p → ys ≡ records_over floats (law m l g) xs out → bs ≡ list_over floats (law m l g) xs out → cs ≡ failure_counts p counts
      → called n (ys ∷ bs ∷ cs ∷ []) ≡ failure_by law model ps ls es xs out counts
  unfolding failure_by
  failure_goes f k m l g p em el eg r code a b c =
      let fit = parameters_fit model ps && has 2 ls && has 4 es in
      let law' = law (model_of model ps) (limits_of ls) (corotated_of es) in
      goes failure_fits (failure_known model ps es) (worked_by floats law' failure_counts_of xs) (xs ∷ out ∷ counts ∷ []) f k
      (judged_all floats law' xs out counts (and_both fit (well_sized xs out) (and_both (fit && well_sized xs out) (has 4 counts) f).0).1 p (rw (em, el, eg) at r) code (rw (em, el, eg) at a) (rw (em, el, eg) at b) c)

  pub failure_unknown : failure_fits ≡ true → failure_known model ps es ≡ false → called unknown (xs ∷ out ∷ counts ∷ []) ≡ failure_by law model ps ls es xs out counts
  unfolding failure_by
  failure_unknown f k = not_known failure_fits (failure_known model ps es) _ (xs ∷ out ∷ counts ∷ []) f k

  pub failure_unfit : failure_fits ≡ false → called wrong_length (xs ∷ out ∷ counts ∷ []) ≡ failure_by law model ps ls es xs out counts
  unfolding failure_by
  failure_unfit f = not_fitting failure_fits _ (xs ∷ out ∷ counts ∷ []) f
