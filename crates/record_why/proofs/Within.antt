-- Where 1 is told, its place is one of the list: what fails the test has a float that isn't finite.
use mathlib.Core.Bool.{Bool, true, false, true≢false}
use mathlib.Core.List.{List}
use mathlib.Core.Path.{◌≡◌, refl, sym, ◌∙◌}
use native.Mathlib.Omega.{arith}
use Prim.Native.Nat.{ℕ, ◌<◌}
use lib.Dec.{eqb}
use lib.ListN.{length}
use borrow.Author.Tests.{eqb-true, eqb-false}
use Rattle.record.specs.Layout.{floats, record_finite}
use Rattle.model.specs.Model.{model_finite}
use Rattle.model.specs.Kinds.{law_of, kinds_of}
use Rattle.model.specs.Fields.{model_of}
use Rattle.model.proofs.RowLaws.{Finite, made_finite}
use Rattle.record_why.specs.Why.{place_in}
use Rattle.record_why.proofs.First.{first_place}

below : (w : List ℕ) (n : ℕ) → (Finite w n → ⊥) → (b : Bool) → eqb (place_in w n) n ≡ b → place_in w n < n
below w n f true t = let e = eqb-true (place_in w n) n t in absurd (f (λ j g. (first_place w n).1.0 j (omega arith)))
below w n f false t = let e = eqb-false (place_in w n) n t in let h = (first_place w n).0 in omega arith

-- ---- of a record
record_finite_lem : (r : List ℕ) → Finite r 37 → record_finite r ≡ true
record_finite_lem r f =
    simp (f 0 (omega arith), f 1 (omega arith), f 2 (omega arith), f 3 (omega arith), f 4 (omega arith), f 5 (omega arith), f 6 (omega arith), f 7 (omega arith), f 8 (omega arith), f 9 (omega arith), f 10 (omega arith), f 11 (omega arith), f 12 (omega arith), f 13 (omega arith), f 14 (omega arith), f 15 (omega arith), f 16 (omega arith), f 17 (omega arith), f 18 (omega arith), f 19 (omega arith), f 20 (omega arith), f 21 (omega arith), f 22 (omega arith), f 23 (omega arith), f 24 (omega arith), f 25 (omega arith), f 26 (omega arith), f 27 (omega arith), f 28 (omega arith), f 29 (omega arith), f 30 (omega arith), f 31 (omega arith), f 32 (omega arith), f 33 (omega arith), f 34 (omega arith), f 35 (omega arith), f 36 (omega arith))

pub record_within : (r : List ℕ) → length r ≡ floats → record_finite r ≡ false → place_in r (length r) < length r
record_within r h q =
    let e : length r ≡ 37 = h in
    below r (length r) (λ f. true≢false (sym (record_finite_lem r (λ j g. f j (omega arith))) ∙ q)) (eqb (place_in r (length r)) (length r)) refl

-- ---- of a model's parameters; a flag is no float of the law, and is finite where it is allowed
pub parameter_within : (number : ℕ) (p : List ℕ) → length p ≡ length (kinds_of number) → model_finite (model_of number p) ≡ false → place_in p (length p) < length p
unfolding model_of kinds_of
parameter_within number p h q =
    below p (length p) (λ f. true≢false (sym (made_finite (law_of number) p h (λ j g. f j (omega arith))) ∙ q)) (eqb (place_in p (length p)) (length p)) refl
