-- What is known of a record that nothing refuses before the law is asked, and what is answered of any other. Assumes nothing.
use mathlib.Core.Path.{◌≡◌, refl}
use mathlib.Core.Bool.{Bool, true, false, cond, ◌&&◌}
use mathlib.Core.List.{List}
use Prim.Native.Nat.{ℕ}
use native.Mathlib.Omega.{arith}
use lib.Dec.{eqb}
use lib.ListN.{length}
use borrow.Author.Tests.{eqb-true}
use Rattle.answers.specs.Refusals.{not_finite, wrong_length, wrong_determinant}
use Rattle.numbers.proofs.Laws.{and_both}
use Rattle.record.specs.Layout.{floats, record_finite, determinant_right}
use Rattle.solid.specs.OfRecord.{of_record, refusal_of}

pub record Passed (ok : Bool) (r : List ℕ) : Type 0 where
  pub long : length r ≡ floats
  pub all : ok && record_finite r ≡ true
  pub fine : record_finite r ≡ true
  pub right : determinant_right r ≡ true

-- the three tests in their order
module _ {A : Type 0} (refused : ℕ → A) where
  abbrev pub told : Bool → Bool → Bool → A → A
  told a b c x = cond a (cond b (cond c x (refused wrong_determinant)) (refused not_finite)) (refused wrong_length)

abbrev number : Bool → Bool → Bool → ℕ
number a b c = told (λ n. n) a b c 0

all_three : (a b c : Bool) → number a b c ≡ 0 → (a ≡ true) × (b ≡ true) × (c ≡ true)
all_three true true true q = (refl, refl, refl)
all_three true true false q = absurd (omega arith)
all_three true false c q = absurd (omega arith)
all_three false b c q = absurd (omega arith)

module _ {A : Type 0} (refused : ℕ → A) (x : A) where
  told_answer : (a b c : Bool) → number a b c ≡ 0 → told refused a b c x ≡ x
  told_answer true true true q = refl
  told_answer true true false q = absurd (omega arith)
  told_answer true false c q = absurd (omega arith)
  told_answer false b c q = absurd (omega arith)

  told_refused : (a b c : Bool) → (number a b c ≡ 0 → ⊥) → told refused a b c x ≡ refused (number a b c)
  told_refused true true true q = absurd (q refl)
  told_refused true true false q = refl
  told_refused true false c q = refl
  told_refused false b c q = refl

module _ (ok : Bool) (r : List ℕ) where
  pub passed : refusal_of ok r ≡ 0 → Passed ok r
  unfolding of_record
  passed q =
      let t = all_three (eqb (length r) floats) (ok && record_finite r) (determinant_right r) q in
      record { long = eqb-true (length r) floats t.0; all = t.1; fine = (and_both ok (record_finite r) t.1).1; right = t.2 }

  pub asked : {A : Type 0} (refused : ℕ → A) (x : A) → refusal_of ok r ≡ 0 → of_record refused ok r x ≡ x
  unfolding of_record
  asked refused x q = told_answer refused x (eqb (length r) floats) (ok && record_finite r) (determinant_right r) q

  pub unasked : {A : Type 0} (refused : ℕ → A) (x : A) → (refusal_of ok r ≡ 0 → ⊥) → of_record refused ok r x ≡ refused (refusal_of ok r)
  unfolding of_record
  unasked refused x q = told_refused refused x (eqb (length r) floats) (ok && record_finite r) (determinant_right r) q

-- what passes with more floats passes with fewer
fewer_tests : (a k l f c : Bool) → number a ((k && l) && f) c ≡ 0 → number a (k && f) c ≡ 0
fewer_tests true true true true true q = q
fewer_tests true true true true false q = q
fewer_tests true true true false c q = q
fewer_tests true true false f c q = absurd (omega arith)
fewer_tests true false l f c q = q
fewer_tests false k l f c q = q

pub fewer : (k l : Bool) (r : List ℕ) → refusal_of (k && l) r ≡ 0 → refusal_of k r ≡ 0
unfolding of_record
fewer k l r q = fewer_tests (eqb (length r) floats) k l (record_finite r) (determinant_right r) q
