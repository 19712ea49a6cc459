-- A pass is refused by 8 alone, and an answer list holds each record's refusal. Assumes nothing.
use mathlib.Core.Path.{◌≡◌, refl, sym, ap, ◌∙◌}
use mathlib.Core.Logic.{⊎_elim, ◌↔◌}
use mathlib.Core.Bool.{Bool, true, false, cond}
use mathlib.Core.List.{List}
use Prim.Native.Nat.{ℕ, ◌+◌, ◌*◌, ◌/◌, ◌<◌}
use native.Mathlib.Omega.{arith}
use lib.ListN.{length, get_or}
use Rattle.plasticity.specs.declared.Outcome.{Outcome}
use Rattle.plasticity.specs.declared.Outcome.TheVariants.{Untouched, Stored, Refused}
use Rattle.record.specs.Layout.{floats}
use Rattle.particles.specs.declared.list.Counts.{Counts}
use Rattle.particles.specs.declared.list.Passed.TheVariants as pass
use Rattle.particles.specs.declared.failure.FailureCounts.{FailureCounts}
use Rattle.particles.specs.declared.failure.PassedWithFailure.TheVariants as failure_pass
use Rattle.particles.specs.Pass.{code_of, value_of, record_at, answers, well_sized, pass_answers}
use Rattle.particles.proofs.PassLaws.{answers_at}
use Rattle.sheet_run.proofs.Parts.{taken, sized, quotient, well}
use Rattle.refusals.specs.Refusals.{AnyStep, any_law, StepRefuses, Answers, Sized, Eight, Pass}
use Rattle.refusals.proofs.Numbers.{record_transfer}
use Rattle.refusals.proofs.Inputs.{no_both, decide}

-- ---- 8
pub left_out : {P : Type 0} (b : Bool) (X Y : P) → b ≡ false → cond b X Y ≡ Y
left_out true X Y q = absurd (no_both true refl q)
left_out false X Y q = refl

done_not : (c : Counts) (n : ℕ) → pass.Done c ≡ pass.Refused n → ⊥
done_not c n e = let z : ◌≡◌ {A = ℕ} 0 1 = cc in omega arith

failure_not : (c : FailureCounts) (n : ℕ) → failure_pass.Done c ≡ failure_pass.Refused n → ⊥
failure_not c n e = let z : ◌≡◌ {A = ℕ} 0 1 = cc in omega arith

eight : {P : Type 0} (done : P) (by : ℕ → P) → ((n : ℕ) → done ≡ by n → ⊥) → ((n : ℕ) → by 8 ≡ by n → n ≡ 8) → (xs out : List ℕ)
    → Eight (λ n. cond (well_sized xs out) done (by 8) ≡ by n) xs out
eight done by never same xs out = record { when = when; only_then = only }
  where
    w : Bool
    w = well_sized xs out

    when : ((k : ℕ) → Sized xs out k → ⊥) → cond w done (by 8) ≡ by 8
    when f = left_out w done (by 8) (⊎_elim (λ t. absurd (f (length xs / floats) (sized xs out t))) (λ q. q) (decide w))

    off : (n : ℕ) → cond w done (by 8) ≡ by n → w ≡ false
    off n e = ⊎_elim (λ t. absurd (never n (sym (taken w done (by 8) t) ∙ e))) (λ q. q) (decide w)

    only : (n : ℕ) → cond w done (by 8) ≡ by n → (n ≡ 8) × ((k : ℕ) → Sized xs out k → ⊥)
    only n e = (same n (sym (left_out w done (by 8) (off n e)) ∙ e), λ k s. no_both w (well xs out k s) (off n e))

pub pass_eight : (c : Counts) (xs out : List ℕ) → Eight (λ n. cond (well_sized xs out) (pass.Done c) (pass.Refused 8) ≡ pass.Refused n) xs out
pass_eight c = eight (pass.Done c) pass.Refused (done_not c) (λ n e. cc)

pub failure_eight : (c : FailureCounts) (xs out : List ℕ)
    → Eight (λ n. cond (well_sized xs out) (failure_pass.Done c) (failure_pass.Refused 8) ≡ failure_pass.Refused n) xs out
failure_eight c = eight (failure_pass.Done c) failure_pass.Refused (failure_not c) (λ n e. cc)

-- ---- the answers
-- code 2 is a refusal by the value beside it
refused_by : (o : Outcome) → code_of o ≡ 2 → o ≡ Refused (value_of o)
refused_by Untouched e = absurd (omega arith)
refused_by (Stored a) e = absurd (omega arith)
refused_by (Refused n) e = refl

-- the answer (2, n) is a refusal by n
answered : (o : Outcome) (n : ℕ) → ((code_of o ≡ 2) × (value_of o ≡ n)) ↔ (o ≡ Refused n)
answered o n = (λ p. refused_by o p.0 ∙ ap Refused p.1, λ e. (ap code_of e, ap value_of e))

answers_of : (s : AnyStep) (r : List ℕ) (o : Outcome) → StepRefuses o s r → (a : List ℕ) (i : ℕ)
    → get_or a (i * 2) 0 ≡ code_of o → get_or a (i * 2 + 1) 0 ≡ value_of o → Answers a i s r
answers_of s r o f a i c v = record_transfer (λ n. (to n, from n)) f
  where
    to : (n : ℕ) → (get_or a (i * 2) 0 ≡ 2) × (get_or a (i * 2 + 1) 0 ≡ n) → o ≡ Refused n
    to n p = (answered o n).0 (sym c ∙ p.0, sym v ∙ p.1)

    from : (n : ℕ) → o ≡ Refused n → (get_or a (i * 2) 0 ≡ 2) × (get_or a (i * 2 + 1) 0 ≡ n)
    from n e = let q = (answered o n).1 e in (c ∙ q.0, v ∙ q.1)

pub pass_refuses : (s : AnyStep) (R : ℕ → Type 0) (xs out : List ℕ) → ((r : List ℕ) → StepRefuses (any_law s r).outcome s r) → Eight R xs out → Pass s R xs out
pass_refuses s R xs out f e = record { eight = e; records = records }
  where
    records : (k : ℕ) → Sized xs out k → (i : ℕ) → i < k → Answers (pass_answers (any_law s) xs out) i s (record_at xs i)
    records k z i h =
        let q : pass_answers (any_law s) xs out ≡ answers (any_law s) xs k =
        taken (well_sized xs out) (answers (any_law s) xs (length xs / floats)) out (well xs out k z) ∙ ap (answers (any_law s) xs) (quotient xs out k z.0) in
        let u = answers_at floats (any_law s) xs k i h in
        answers_of s (record_at xs i) (any_law s (record_at xs i)).outcome (f (record_at xs i)) (pass_answers (any_law s) xs out) i (ap (λ (a : List ℕ). get_or a (i * 2) 0) q ∙ u.0)
        (ap (λ (a : List ℕ). get_or a (i * 2 + 1) 0) q ∙ u.1)
