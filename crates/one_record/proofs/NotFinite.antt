-- 1 comes first: what inputs that aren't finite leave of a record, by itself and in the pass with failure. Assumes nothing.
use mathlib.Core.Path.{◌≡◌, refl, ap}
use mathlib.Core.Bool.{Bool, true, false, cond, ◌&&◌}
use mathlib.Core.List.{List}
use Prim.Native.Nat.{ℕ}
use Rattle.numbers.specs.Floats.{finite}
use Rattle.numbers.proofs.Laws.{and_both}
use Rattle.answers.specs.Refusals.{not_finite}
use Rattle.plasticity.specs.declared.Updated.{Updated}
use Rattle.record.specs.Layout.{record_finite}
use Rattle.failure_maximum_stress.specs.declared.MaximumStressFailure.{MaximumStressFailure}
use Rattle.failure_maximum_stress.specs.declared.Verdict.{Verdict}
use Rattle.elasticity_corotated_linear.specs.declared.CorotatedLinearElasticity.{CorotatedLinearElasticity}
use Rattle.model.specs.declared.Model.{Model}
use Rattle.one_record.proofs.RecordLaws.{law_not_finite}
use Rattle.one_record.specs.RecordLaw.{law_at, kept_by, record_law}
use Rattle.one_record.specs.declared.judged.Judge.{Judge}
use Rattle.one_record.specs.declared.judged.Judge.TheVariants.{Nobody, By}
use Rattle.one_record.specs.RecordLaw.{Worked}
use Rattle.one_record.specs.Judged.{judge_finite, unless_refused, judged_at, refused_record, marked, failure_law, marked_by, finite_by, law_by}

-- ---- one record
module _ (m : Model) (r : List ℕ) where
  pub refused_law : record_finite r ≡ false → record_law m r ≡ refused_record not_finite r
  unfolding record_law
  refused_law f = ap (λ (d : Updated). kept_by m d r) (law_not_finite m r f)

  -- ---- with a judge: 1 comes first, of the limits, the corotated law and the record
  refused_failure : (l : MaximumStressFailure) (e : CorotatedLinearElasticity) → judge_finite l e && record_finite r ≡ false
      → failure_law m l e r ≡ refused_record not_finite r
  unfolding failure_law judged_at record_law
  refused_failure l e = go (judge_finite l e) _
    where
      left : Verdict → Updated → Worked
      left v d = marked (unless_refused d.outcome v) r (kept_by m d r)

      go : (b : Bool) (v : Verdict) → b && record_finite r ≡ false → cond b (left v (law_at m r)) (refused_record not_finite r) ≡ refused_record not_finite r
      go true v h = ap (left v) (law_not_finite m r h)
      go false v h = refl

  pub refused_first : (j : Judge) → finite_by j && record_finite r ≡ false → law_by m j r ≡ refused_record not_finite r
  refused_first Nobody q = refused_law q
  refused_first (By l e) q = refused_failure l e q

  -- all of them are finite
  pub finite_first : (j : Judge) → finite_by j && record_finite r ≡ true
      → (record_finite r ≡ true) × (law_by m j r ≡ marked_by m j r)
  unfolding failure_law judged_at
  finite_first Nobody q = (q, refl)
  finite_first (By l e) q = let h = and_both (judge_finite l e) (record_finite r) q in (h.1, rw h.0 refl)
