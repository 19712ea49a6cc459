-- The counts read off the answers are those of the run of the whole sheet. Assumes nothing.
use mathlib.Core.Path.{◌≡◌, refl, sym, ap, ◌∙◌}
use mathlib.Core.Bool.{Bool, true, false}
use mathlib.Core.List.{List, [], ◌∷◌, ◌++◌}
use Prim.Native.Nat.{ℕ, zero, suc, ◌+◌, ◌*◌, ◌≤◌, ◌<◌}
use native.Mathlib.Omega.{arith}
use lib.ListN.{length, get_or, drop, get_or-append}
use lib.Seq.{get_or-append-add}
use lib.Dec.{eqb}
use borrow.Author.Tests.{eqb-true, eqb-false}
use Rattle.plasticity.specs.declared.Outcome.{Outcome}
use Rattle.plasticity.specs.declared.Outcome.TheVariants.{Untouched, Stored, Refused}
use Rattle.particles.specs.declared.list.Counts.{Counts}
use Rattle.particles.specs.declared.failure.FailureCounts.{FailureCounts}
use Rattle.particles.specs.Pass.{Worked, code_of, value_of, record_at, answers, counted_if, counted, counts, three_of, answers_over, counts_over}
use Rattle.particles.proofs.PassLaws.{answers_length}
use Rattle.sheet.specs.Sheet.{header_of, records_of}
use Rattle.sheet_run.specs.Run.{law_of, ran_of, ran_answers}
use Rattle.parts.specs.Parts.{Lent}
use Rattle.parts.specs.Counts.{coded, coded_counts}
use Rattle.parts.proofs.Ran.{ran_refused, ran_particles, answers_are, counts_are}
use Rattle.record.specs.Layout.{floats}

coded_front : (c : ℕ) (a b : List ℕ) (n : ℕ) → n * 2 ≤ length a → coded c (a ++ b) n ≡ coded c a n
unfolding coded
coded_front c a b zero h = refl
coded_front c a b (suc n) h = rw (coded_front c a b n (omega arith), get_or-append a b 0 (n * 2) (omega arith))

-- one answer more
abbrev with : Counts → Outcome → Counts
with k o =
    record {
      untouched = counted_if k.untouched (eqb (code_of o) 0);
      stored = counted_if k.stored (eqb (code_of o) 1);
      refused = counted_if k.refused (eqb (code_of o) 2);
    }

counted_with : (k : FailureCounts) (o : Outcome) (f : Bool) → with (three_of k) o ≡ three_of (counted k o f)
counted_with k Untouched f = refl
counted_with k (Stored a) f = refl
counted_with k (Refused n) f = refl

module _ (law : List ℕ → Worked) (l : List ℕ) where
  abbrev outcome : ℕ → Outcome
  outcome n = (law (record_at l n)).outcome

  one : (c n : ℕ) → coded c (answers law l (suc n)) (suc n) ≡ counted_if (coded c (answers law l n) n) (eqb (code_of (outcome n)) c)
  unfolding coded answers_over
  one c n =
      let a = answers law l n in
      let two = code_of (outcome n) ∷ value_of (outcome n) ∷ [] in
      let m = answers_length floats law l n in
      let e : get_or (a ++ two) (n * 2) 0 ≡ code_of (outcome n) = ap (λ (x : ℕ). get_or (a ++ two) x 0) (let y : n * 2 ≡ length a + 0 = omega arith in y) ∙ get_or-append-add a two 0 0 in
      rw (coded_front c a two n (omega arith), e)

  none : (c : ℕ) → coded c (answers law l 0) 0 ≡ 0
  unfolding coded
  none c = refl

  pub answers_counted : (n : ℕ) → coded_counts (answers law l n) n ≡ three_of (counts law l n)
  unfolding counts_over
  answers_counted zero = rw (none 0, none 1, none 2)
  answers_counted (suc n) =
      rw (one 0 n, one 1 n, one 2 n)
      (ap (λ (k : Counts). with k (outcome n)) (answers_counted n) ∙ counted_with (counts law l n) (outcome n) (law (record_at l n)).failed)

module _ (s xs out : List ℕ) (lent : Lent xs out) where
  of_good : (header_of s).refusal ≡ 0 → coded_counts (ran_answers s xs out) (ran_of s xs out).particles ≡ (ran_of s xs out).counts
  of_good z =
      let h = header_of s in
      let a = answers (law_of h) (records_of s h) h.count in
      let r = drop (h.count * 2) out in
      let m = answers_length floats (law_of h) (records_of s h) h.count in
      let f : (c : ℕ) → coded c (a ++ r) h.count ≡ coded c a h.count = λ c. coded_front c a r h.count (omega arith) in
      ap (λ (x : List ℕ). coded_counts x (ran_of s xs out).particles) (answers_are s xs out lent z)
      ∙ ap (coded_counts (a ++ r)) (ran_particles s xs out lent z)
      ∙ rw (f 0, f 1, f 2) (answers_counted (law_of h) (records_of s h) h.count)
      ∙ sym (counts_are s xs out lent z)

  -- of a sheet that is not refused
  pub counts_told : (ran_of s xs out).refusal ≡ 0 → coded_counts (ran_answers s xs out) (ran_of s xs out).particles ≡ (ran_of s xs out).counts
  counts_told q = by_header (eqb (header_of s).refusal 0) refl
    where
      by_header : (b : Bool) → eqb (header_of s).refusal 0 ≡ b → coded_counts (ran_answers s xs out) (ran_of s xs out).particles ≡ (ran_of s xs out).counts
      by_header true t = of_good (eqb-true (header_of s).refusal 0 t)
      by_header false t = let n = eqb-false (header_of s).refusal 0 t in absurd (n (sym (ran_refused s xs out lent n) ∙ q))
