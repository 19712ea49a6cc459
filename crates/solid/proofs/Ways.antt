-- Stress and verdict as one: when each number comes, of any stress that the law answers. Assumes nothing.
use mathlib.Core.Path.{◌≡◌, refl, ap, sym, subst, ◌∙◌}
use mathlib.Core.Bool.{Bool, true, false, cond, ◌&&◌, true≢false, false≢true}
use mathlib.Core.List.{List}
use mathlib.Core.Logic.Iff
use mathlib.Core.Logic.{◌⊎◌, inl, inr, ◌↔◌}
use Prim.Native.Nat.{ℕ}
use native.Mathlib.Omega.{arith}
use lib.Dec.{eqb}
use lib.Ieee.{Float}
use lib.ListN.{length}
use borrow.Author.Tests.{eqb-true, eqb-false, eq-eqb}
use Rattle.answers.specs.Refusals.{not_finite, not_accepted}
use Rattle.numbers.specs.Floats.{finite}
use Rattle.tensor.specs.Matrix.{of_rows, transpose_of}
use Rattle.tensor.specs.Finite.{row_finite, mat_finite, rows_finite}
use Rattle.tensor.specs.declared.Rows.{Rows}
use Rattle.tensor.specs.declared.MatrixAnswer.{MatrixAnswer}
use Rattle.record.specs.Layout.{floats, record_finite, determinant_right}
use Rattle.factors.specs.declared.Principal.{Principal}
use Rattle.factors.specs.PrincipalValues.{mirrored_of, principal_of, principal_accepted}
use Rattle.factors.specs.Check.{near_all, orthogonal_of, largest_in}
use Rattle.factors.specs.Answers.{principals_of}
use Rattle.factors.proofs.Answers.{principals_accepted, principals_refused}
use Rattle.factors.specs.Diagonal.{Zero}
use Rattle.factors.proofs.Diagonal.{diagonal_principals}
use Rattle.failure_maximum_stress.specs.Failure.{limits_finite, exceeds_of, verdict_of}
use Rattle.failure_maximum_stress.specs.declared.MaximumStressFailure.{MaximumStressFailure}
use Rattle.failure_maximum_stress.specs.declared.Verdict.{Verdict}
use Rattle.failure_maximum_stress.specs.declared.Verdict.TheVariants.{No, Yes, Refused}
use Rattle.solid.specs.OfRecord.{of_record}
use Rattle.solid.specs.Judged.{refused_judged, with_verdict, judged_of}
use Rattle.solid.specs.Told.{Other, Clear, Told, ToldJudged, principals, accepted, entry, diagonal, together}
use Rattle.solid.specs.declared.StressVerdict.{StressVerdict}
use Rattle.solid.proofs.Passed.{told}
use Rattle.solid.proofs.Numbers.{all_told, clear_asked}

-- ---- a verdict on finite values is a yes or a no
picked : (b : Bool) (m : Rows) → with_verdict m (cond b Yes No) ≡ record { refusal = 0; stress = m; failed = b }
picked true m = refl
picked false m = refl

plain_verdict : (l : MaximumStressFailure) (v : List Float) → limits_finite l ≡ true → row_finite v ≡ true → verdict_of l v ≡ cond (exceeds_of l v) Yes No
unfolding verdict_of
plain_verdict l v f g =
    ap (λ (b : Bool). cond (b && row_finite v) (cond (exceeds_of l v) Yes No) (Refused not_finite)) f
    ∙ ap (λ (b : Bool). cond b (cond (exceeds_of l v) Yes No) (Refused not_finite)) g

third : (a b c d e : Bool) → (a && b && c && d && e) ≡ true → c ≡ true
third a b true d e q = refl
third true true false d e q = q
third true false false d e q = q
third false b false d e q = q

accepted_finite : (f : List (List Float)) (x : Principal) → principal_accepted f x ≡ true → row_finite x.values ≡ true
unfolding principal_accepted
accepted_finite f x q =
    let u = transpose_of (of_rows x.axes) in
    third (mat_finite (mirrored_of f)) (rows_finite x.axes) (row_finite x.values) (near_all u x.values u (mirrored_of f) (largest_in (mirrored_of f))) (orthogonal_of u) q

-- ---- the three ways
module _ (l : MaximumStressFailure) (x : MatrixAnswer) where
  abbrev Own : Type 0
  Own = (x.refusal ≡ 0 → ⊥) × (judged_of l x ≡ refused_judged x.refusal)

  abbrev Missed : Type 0
  Missed = (x.refusal ≡ 0) × (accepted x ≡ false) × (judged_of l x ≡ refused_judged not_accepted)

  abbrev Given : Type 0
  Given = (x.refusal ≡ 0) × (accepted x ≡ true) × (judged_of l x ≡ together x (exceeds_of l (principals x)))

  abbrev Ways : Type 0
  Ways = Own ⊎ (Missed ⊎ Given)

  by_values : (v : List Float) → eqb x.refusal 0 ≡ true → principals_of (of_rows x.matrix) ≡ record { refusal = 0; vector = v }
      → limits_finite l ≡ true → row_finite v ≡ true → judged_of l x ≡ together x (exceeds_of l v)
  unfolding judged_of
  by_values v e p f g = simp (e, p, plain_verdict l v f g, picked (exceeds_of l v) x.matrix)

  way : (b c : Bool) → eqb x.refusal 0 ≡ b → accepted x ≡ c → limits_finite l ≡ true → Ways
  unfolding judged_of
  way false c e a f = inl (eqb-false x.refusal 0 e, simp e)
  way true false e a f = inr (inl (eqb-true x.refusal 0 e, a, simp (e, principals_refused (of_rows x.matrix) a)))
  way true true e a f =
      inr (inr (eqb-true x.refusal 0 e, a, by_values (principals x) e (principals_accepted (of_rows x.matrix) a) f (accepted_finite (of_rows x.matrix) (principal_of (of_rows x.matrix)) a)))

  ways : limits_finite l ≡ true → Ways
  ways f = way (eqb x.refusal 0) (accepted x) refl refl f

  number : {a b : StressVerdict} → a ≡ b → a.refusal ≡ b.refusal
  number e = ap (λ (a : StressVerdict). a.refusal) e

  own_number : Ways → (n : ℕ) → (n ≡ 0 → ⊥) → (n ≡ not_accepted → ⊥) → ((judged_of l x).refusal ≡ n) ↔ (x.refusal ≡ n)
  own_number (inl q) n z f = (λ e. sym (number q.1) ∙ e, λ e. number q.1 ∙ e)
  own_number (inr (inl q)) n z f = (λ e. absurd (f (sym e ∙ number q.2)), λ e. absurd (z (sym e ∙ q.0)))
  own_number (inr (inr q)) n z f = (λ e. absurd (z (sym e ∙ number q.2)), λ e. absurd (z (sym e ∙ q.0)))

  fourteen_number : Ways → (x.refusal ≡ not_accepted → ⊥) → ((judged_of l x).refusal ≡ not_accepted) ↔ ((x.refusal ≡ 0) × (accepted x ≡ false))
  fourteen_number (inl q) w = (λ e. absurd (w (sym (number q.1) ∙ e)), λ e. absurd (q.0 e.0))
  fourteen_number (inr (inl q)) w = (λ e. (q.0, q.1), λ e. number q.2)
  fourteen_number (inr (inr q)) w = (λ e. let z : 0 ≡ not_accepted = sym (number q.2) ∙ e in absurd (omega arith), λ e. absurd (true≢false (sym q.1 ∙ e.1)))

  zero_number : Ways → ((judged_of l x).refusal ≡ 0) ↔ ((x.refusal ≡ 0) × (accepted x ≡ true))
  zero_number (inl q) = (λ e. absurd (q.0 (sym (number q.1) ∙ e)), λ e. absurd (q.0 e.0))
  zero_number (inr (inl q)) = (λ e. let z : not_accepted ≡ 0 = sym (number q.2) ∙ e in absurd (omega arith), λ e. absurd (false≢true (sym q.1 ∙ e.1)))
  zero_number (inr (inr q)) = (λ e. (q.0, q.1), λ e. number q.2)

  both_given : Ways → (judged_of l x).refusal ≡ 0 → judged_of l x ≡ together x (exceeds_of l (principals x))
  both_given (inl q) e = absurd (q.0 (sym (number q.1) ∙ e))
  both_given (inr (inl q)) e = let z : not_accepted ≡ 0 = sym (number q.2) ∙ e in absurd (omega arith)
  both_given (inr (inr q)) e = q.2

  alone : (a : StressVerdict) (m : ℕ) → a ≡ refused_judged m → a ≡ refused_judged a.refusal
  alone a m e = e ∙ ap refused_judged (sym (number e))

  none_given : Ways → ((judged_of l x).refusal ≡ 0 → ⊥) → judged_of l x ≡ refused_judged (judged_of l x).refusal
  none_given (inl q) z = alone (judged_of l x) x.refusal q.1
  none_given (inr (inl q)) z = alone (judged_of l x) not_accepted q.2
  none_given (inr (inr q)) z = absurd (z (number q.2))

  -- the law's numbers, 14 and 0 are none of 8, 1 and 11
  other_fourteen : Other not_accepted
  other_fourteen = (λ e. omega arith, λ e. omega arith, λ e. omega arith)

  other_zero : Other 0
  other_zero = (λ e. omega arith, λ e. omega arith, λ e. omega arith)

  other_number : Ways → ((n : ℕ) → x.refusal ≡ n → Other n) → (n : ℕ) → (judged_of l x).refusal ≡ n → Other n
  other_number (inl q) w n e = w n (sym (number q.1) ∙ e)
  other_number (inr (inl q)) w n e = subst Other (sym (number q.2) ∙ e) other_fourteen
  other_number (inr (inr q)) w n e = subst Other (sym (number q.2) ∙ e) other_zero

  -- ---- a diagonal stress: what stands above the diagonal is not read
  entries : row_finite (diagonal x) ≡ true → (finite (entry x 0 0) ≡ true) × (finite (entry x 1 1) ≡ true) × (finite (entry x 2 2) ≡ true)
  entries q = three_finite (finite (entry x 0 0)) (finite (entry x 1 1)) (finite (entry x 2 2)) q
    where
      three_finite : (a b c : Bool) → (a && b && c) ≡ true → (a ≡ true) × (b ≡ true) × (c ≡ true)
      three_finite true true true q = (refl, refl, refl)
      three_finite true true false q = absurd (false≢true q)
      three_finite true false c q = absurd (false≢true q)
      three_finite false b c q = absurd (false≢true q)

  lower : row_finite (diagonal x) ≡ true → Zero (entry x 1 0) → Zero (entry x 2 0) → Zero (entry x 2 1)
      → principals_of (of_rows x.matrix) ≡ record { refusal = 0; vector = diagonal x }
  unfolding principals_of principal_of principal_accepted
  lower q z₁ z₂ z₃ =
      let d = entries q in
      diagonal_principals (entry x 0 0) (entry x 1 1) (entry x 2 2) (entry x 1 0) (entry x 2 0) (entry x 2 1) (entry x 0 1) (entry x 0 2) (entry x 1 2) z₁ z₂ z₃ d.0 d.1 d.2

  diagonal_judged : x.refusal ≡ 0 → limits_finite l ≡ true → row_finite (diagonal x) ≡ true → Zero (entry x 1 0) → Zero (entry x 2 0) → Zero (entry x 2 1)
      → judged_of l x ≡ together x (exceeds_of l (diagonal x))
  diagonal_judged z f q z₁ z₂ z₃ = by_values (diagonal x) (eq-eqb x.refusal 0 z) (lower q z₁ z₂ z₃) f q

  -- ---- of a record
  module _ (ok : Bool) (r : List ℕ) (limits : ok && record_finite r ≡ true → limits_finite l ≡ true)
      (law : ok && record_finite r ≡ true → (n : ℕ) → x.refusal ≡ n → Other n × (n ≡ not_accepted → ⊥)) (finite_entries : row_finite (diagonal x) ≡ true) where
    abbrev a : StressVerdict
    a = of_record refused_judged ok r (judged_of l x)

    was : ok && record_finite r ≡ true → Ways
    was k = ways (limits k)

    front : Told (λ n. a.refusal ≡ n) (λ n. (judged_of l x).refusal ≡ n) ok r
    front = all_told refused_judged (λ y n. y.refusal ≡ n) (λ m n. Iff.rfl) (judged_of l x) ok r (λ k. other_number (was k) (λ n e. (law k n e).0))

    worked : Clear ok r → a ≡ judged_of l x
    worked c = clear_asked refused_judged (judged_of l x) ok r c

    alone_by : (b c d : Bool) → (c ≡ true → Ways) → ((told refused_judged b c d (judged_of l x)).refusal ≡ 0 → ⊥)
        → told refused_judged b c d (judged_of l x) ≡ refused_judged (told refused_judged b c d (judged_of l x)).refusal
    alone_by true true true w z = none_given (w refl) z
    alone_by true true false w z = refl
    alone_by true false d w z = refl
    alone_by false c d w z = refl

    stands_alone : (a.refusal ≡ 0 → ⊥) → a ≡ refused_judged a.refusal
    unfolding of_record
    stands_alone z = alone_by (eqb (length r) floats) (ok && record_finite r) (determinant_right r) was z

    pub all_judged : ToldJudged l a x ok r
    all_judged = record {
      before = front;
      own = λ n k z f.
          let o = front.other n k in (
            λ q. let y = o.0 q in (y.0, (own_number (was y.0.1) n z f).0 y.1),
            λ q. o.1 (q.0, (own_number (was q.0.1) n z f).1 q.1),
          );
      fourteen =
          let o = front.other not_accepted other_fourteen in (
            λ q. let y = o.0 q in (y.0, (fourteen_number (was y.0.1) (λ e. (law y.0.1 not_accepted e).1 refl)).0 y.1),
            λ q. o.1 (q.0, (fourteen_number (was q.0.1) (λ e. (law q.0.1 not_accepted e).1 refl)).1 q.1),
          );
      answered =
          let o = front.other 0 other_zero in (
            λ q. let y = o.0 q in (y.0, (zero_number (was y.0.1)).0 y.1),
            λ q. o.1 (q.0, (zero_number (was q.0.1)).1 q.1),
          );
      both = λ e. let y = (front.other 0 other_zero).0 e in worked y.0 ∙ both_given (was y.0.1) y.1;
      neither = stands_alone;
      on_diagonal = λ c z z₁ z₂ z₃. worked c ∙ diagonal_judged z (limits c.1) finite_entries z₁ z₂ z₃;
    }
