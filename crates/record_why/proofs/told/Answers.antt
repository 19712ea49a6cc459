-- Parameters first.
use Rattle.record_why.specs.Why.{told_of}
use Rattle.record_why.proofs.told.Goals as goal

pub finite_reason-requires : goal.finite_reason-requires
finite_reason-requires c =
    let t = simp c.all_finite.ensures at c.if-all_finite.true in
    (c.requires, t)

pub returns-then-all_finite : goal.returns-then-all_finite
unfolding told_of
returns-then-all_finite c =
    let t0 = simp c.model_finite.ensures at c.if-model_finite.true in
    let t1 = simp c.all_finite.ensures at c.if-all_finite.true in
    simp (c.finite_reason.ensures, t0, t1)

pub returns-else-all_finite : goal.returns-else-all_finite
unfolding told_of
returns-else-all_finite c =
    let t0 = simp c.model_finite.ensures at c.if-model_finite.true in
    let t1 = simp c.all_finite.ensures at c.if-all_finite.false in
    simp (c.place.ensures, t0, t1)

pub returns-else-model_finite : goal.returns-else-model_finite
unfolding told_of
returns-else-model_finite c =
    let t0 = simp c.model_finite.ensures at c.if-model_finite.false in
    simp (c.place-else-model_finite.ensures, t0)
