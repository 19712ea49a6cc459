-- 8, 1 and 11 of an answer of any kind, where the law itself gives none of them. Assumes nothing.
use mathlib.Core.Path.{◌≡◌, refl, sym}
use mathlib.Core.Bool.{Bool, true, false, ◌&&◌, true≢false, false≢true}
use mathlib.Core.List.{List}
use mathlib.Core.Logic.{◌↔◌}
use Prim.Native.Nat.{ℕ}
use native.Mathlib.Omega.{arith}
use lib.Dec.{eqb}
use lib.ListN.{length, get_or}
use borrow.Author.Tests.{eqb-true, eqb-false, eq-eqb, ne_eqb}
use Rattle.answers.specs.Refusals.{not_finite, wrong_length, wrong_determinant}
use Rattle.record.specs.Layout.{floats, place_determinant, record_finite, determinant_at, determinant_right}
use Rattle.solid.specs.OfRecord.{of_record}
use Rattle.solid.specs.Told.{Right, Other, Clear, Told}
use Rattle.solid.proofs.Passed.{told}

-- S y n: the answer y is a refusal by n; x is the law's own answer
module _ {A : Type 0} (refused : ℕ → A) (S : A → ℕ → Type 0) (says : (m n : ℕ) → S (refused m) n ↔ (m ≡ n)) (x : A) where
  abbrev Own : Bool → Bool → Bool → Type 0
  Own a b c = a ≡ true → b ≡ true → c ≡ true → (n : ℕ) → S x n → Other n

  -- ---- by the three tests
  by_length : (a b c : Bool) → Own a b c → S (told refused a b c x) wrong_length ↔ (a ≡ false)
  by_length true true true o = (λ q. absurd ((o refl refl refl wrong_length q).0 refl), λ e. absurd (true≢false e))
  by_length true true false o = (λ q. let z = (says wrong_determinant wrong_length).0 q in absurd (omega arith), λ e. absurd (true≢false e))
  by_length true false c o = (λ q. let z = (says not_finite wrong_length).0 q in absurd (omega arith), λ e. absurd (true≢false e))
  by_length false b c o = (λ q. refl, λ e. (says wrong_length wrong_length).1 refl)

  by_float : (a b c : Bool) → Own a b c → S (told refused a b c x) not_finite ↔ ((a ≡ true) × (b ≡ false))
  by_float true true true o = (λ q. absurd ((o refl refl refl not_finite q).1 refl), λ e. absurd (true≢false e.1))
  by_float true true false o = (λ q. let z = (says wrong_determinant not_finite).0 q in absurd (omega arith), λ e. absurd (true≢false e.1))
  by_float true false c o = (λ q. (refl, refl), λ e. (says not_finite not_finite).1 refl)
  by_float false b c o = (λ q. let z = (says wrong_length not_finite).0 q in absurd (omega arith), λ e. absurd (false≢true e.0))

  by_determinant : (a b c : Bool) → Own a b c → S (told refused a b c x) wrong_determinant ↔ ((a ≡ true) × (b ≡ true) × (c ≡ false))
  by_determinant true true true o = (λ q. absurd ((o refl refl refl wrong_determinant q).2 refl), λ e. absurd (true≢false e.2))
  by_determinant true true false o = (λ q. (refl, refl, refl), λ e. (says wrong_determinant wrong_determinant).1 refl)
  by_determinant true false c o = (λ q. let z = (says not_finite wrong_determinant).0 q in absurd (omega arith), λ e. absurd (false≢true e.1))
  by_determinant false b c o = (λ q. let z = (says wrong_length wrong_determinant).0 q in absurd (omega arith), λ e. absurd (false≢true e.0))

  by_law : (a b c : Bool) (n : ℕ) → Other n → S (told refused a b c x) n ↔ (((a ≡ true) × (b ≡ true) × (c ≡ true)) × S x n)
  by_law true true true n k = (λ q. ((refl, refl, refl), q), λ q. q.1)
  by_law true true false n k = (λ q. absurd (k.2 (sym ((says wrong_determinant n).0 q))), λ q. absurd (false≢true q.0.2))
  by_law true false c n k = (λ q. absurd (k.1 (sym ((says not_finite n).0 q))), λ q. absurd (false≢true q.0.1))
  by_law false b c n k = (λ q. absurd (k.0 (sym ((says wrong_length n).0 q))), λ q. absurd (false≢true q.0.0))

  -- ---- of a record
  module _ (ok : Bool) (r : List ℕ) (own : ok && record_finite r ≡ true → (n : ℕ) → S x n → Other n) where
    abbrev long : Bool
    long = eqb (length r) floats

    abbrev fine : Bool
    fine = ok && record_finite r

    given : Own long fine (determinant_right r)
    given a b c n q = own b n q

    is_right : (determinant_right r ≡ true) ↔ Right r
    unfolding determinant_right
    is_right = (eqb-true (get_or r place_determinant 0) (determinant_at r), eq-eqb (get_or r place_determinant 0) (determinant_at r))

    is_wrong : (determinant_right r ≡ false) ↔ (Right r → ⊥)
    unfolding determinant_right
    is_wrong = (eqb-false (get_or r place_determinant 0) (determinant_at r), ne_eqb (get_or r place_determinant 0) (determinant_at r))

    pub all_told : Told (λ n. S (of_record refused ok r x) n) (λ n. S x n) ok r
    unfolding of_record
    all_told =
        let e = by_length long fine (determinant_right r) given in
        let f = by_float long fine (determinant_right r) given in
        let d = by_determinant long fine (determinant_right r) given in
        record {
          eight = (λ q. eqb-false (length r) floats (e.0 q), λ q. e.1 (ne_eqb (length r) floats q));
          one = (λ q. let z = f.0 q in (eqb-true (length r) floats z.0, z.1), λ q. f.1 (eq-eqb (length r) floats q.0, q.1));
          eleven = (
            λ q. let z = d.0 q in (eqb-true (length r) floats z.0, z.1, is_wrong.0 z.2),
            λ q. d.1 (eq-eqb (length r) floats q.0, q.1, is_wrong.1 q.2),
          );
          other = λ n k.
              let l = by_law long fine (determinant_right r) n k in (
                λ q. let z = l.0 q in ((eqb-true (length r) floats z.0.0, z.0.1, is_right.0 z.0.2), z.1),
                λ q. l.1 ((eq-eqb (length r) floats q.0.0, q.0.1, is_right.1 q.0.2), q.1),
              );
        }

-- what none of the three refuses is answered
pub clear_asked : {A : Type 0} (refused : ℕ → A) (x : A) (ok : Bool) (r : List ℕ) → Clear ok r → of_record refused ok r x ≡ x
unfolding of_record determinant_right
clear_asked refused x ok r c =
    let a = eq-eqb (length r) floats c.0 in
    let b = c.1 in
    let d = eq-eqb (get_or r place_determinant 0) (determinant_at r) c.2 in
    simp (a, b, d)
