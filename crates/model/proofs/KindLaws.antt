-- A flag's place among parameters of which at most one is a flag, and how many parameters a law has. Assumes nothing.
use mathlib.Core.Path.{◌≡◌, refl, sym, ap, ◌∙◌}
use mathlib.Core.Bool.{Bool, true, false, not, ◌&&◌, ◌||◌, true≢false}
use mathlib.Core.List.{List, [], ◌∷◌}
use Prim.Native.Nat.{ℕ, zero, suc, ◌+◌, ◌≤◌}
use native.Mathlib.Omega.{arith}
use lib.Dec.{eqb, ltb, leb, leb-zero, leb-suc-zero, leb-suc-suc, eqb-zero-suc, eqb-suc-zero, eqb-suc-suc}
use lib.ListN.{length, get_or}
use Rattle.model.specs.Kinds.{law_of, kinds_of, flag_of, allowed, flags_allowed}
use Rattle.model.proofs.RowLaws.{no_flag, one_flag, kinds_few}

pub and_true : (b : Bool) → b && true ≡ b
and_true true = refl
and_true false = refl

and_false : (b : Bool) → b && false ≡ false
and_false true = refl
and_false false = refl

-- ---- of parameters without a flag
none_there : (l : List Bool) → no_flag l ≡ true → (i : ℕ) → false ≡ get_or l i false
none_there [] h i = refl
none_there (true ∷ l) h i = absurd (true≢false (sym h))
none_there (false ∷ l) h zero = refl
none_there (false ∷ l) h (suc i) = none_there l h i

none_refused : (l : List Bool) → no_flag l ≡ true → (k : ℕ) (p : List ℕ) → flags_allowed k l p ≡ true
none_refused [] h k p = refl
none_refused (true ∷ l) h k p = absurd (true≢false (sym h))
none_refused (false ∷ l) h k p = none_refused l h (k + 1) p

-- ---- the flag stands at its place, and there alone
pub flag_there : (l : List Bool) → one_flag l ≡ true → (i : ℕ) → ltb (flag_of l) (length l) && eqb i (flag_of l) ≡ get_or l i false
flag_there [] h i = refl
flag_there (true ∷ l) h zero = rw (leb-suc-suc 0 (length l), leb-zero (length l)) refl
flag_there (true ∷ l) h (suc i) = rw (eqb-suc-zero i) (and_false (ltb 0 (suc (length l))) ∙ none_there l h i)
flag_there (false ∷ l) h zero = rw (eqb-zero-suc (flag_of l)) (and_false (ltb (suc (flag_of l)) (suc (length l))))
flag_there (false ∷ l) h (suc i) = rw (leb-suc-suc (suc (flag_of l)) (length l), eqb-suc-suc i (flag_of l)) (flag_there l h i)

flags_from : (l : List Bool) → one_flag l ≡ true → (k : ℕ) (p : List ℕ) → leb (length l) (flag_of l) || allowed true (get_or p (k + flag_of l) 0) ≡ flags_allowed k l p
flags_from [] h k p = refl
flags_from (true ∷ l) h k p =
    let e : k + 0 ≡ k = omega arith in
    rw (leb-suc-zero (length l), none_refused l h (k + 1) p, e) (sym (and_true (allowed true (get_or p k 0))))
flags_from (false ∷ l) h k p =
    let e : k + suc (flag_of l) ≡ k + 1 + flag_of l = omega arith in
    rw (leb-suc-suc (length l) (flag_of l), e) (flags_from l h (k + 1) p)

pub flags_law : (l : List Bool) → one_flag l ≡ true → (p : List ℕ) → leb (length l) (flag_of l) || allowed true (get_or p (flag_of l) 0) ≡ flags_allowed 0 l p
flags_law l h p =
    let e : 0 + flag_of l ≡ flag_of l = omega arith in
    ap (λ (i : ℕ). leb (length l) (flag_of l) || allowed true (get_or p i 0)) (sym e) ∙ flags_from l h 0 p

pub kinds_most : (number : ℕ) → length (kinds_of number) ≤ 8
unfolding kinds_of
kinds_most number = kinds_few (law_of number)
