-- The digits that `io` puts are those of the text: of a decimal number, as many as `places` counts.
use mathlib.Core.Path.{◌≡◌, refl, sym, ap, ◌∙◌}
use mathlib.Core.Logic.{◌⊎◌, inl, inr}
use mathlib.Core.Bool.{Bool, true, false, cond}
use mathlib.Core.List.{List}
use Prim.Native.Nat.{ℕ, zero, suc, ◌+◌, ◌-◌, ◌^◌, ◌≤◌, ◌<◌}
use native.Mathlib.Nat.{pow-le-pow_right, eq-or-lt_of_le, lt_irrefl, lt_of_lt_of_le, le_trans, lt_trans}
use native.Mathlib.Omega.{arith}
use lib.Dec.{ltb, lit<, lit≤}
use lib.ListN.{take}
use borrow.Author.Tests.{ltb-true, ltb-false}
use Rattle.io.specs.Digits.{last_digits, IsDigitCount}
use Rattle.answer_text.specs.Text.{places, decimal, hex}

-- as many digits as hold a number are enough
fewest_least : (b least k r n : ℕ) → 0 < b → (least < r → b ^ (r - 1) ≤ n) → least ≤ k → k ≤ r → n < b ^ k → r ≡ k
fewest_least b least k r n pos needed low high holds = go (eq-or-lt_of_le high)
  where
    go : (k ≡ r) ⊎ (k < r) → r ≡ k
    go (inl is) = sym is
    go (inr over) = absurd (lt_irrefl n (lt_of_lt_of_le holds (le_trans (pow-le-pow_right pos {i = k} {j = r - 1} (omega arith)) (needed (omega arith)))))

module _ (n r : ℕ) (small : n < 2 ^ 64) where
  places_from : (f k : ℕ) → IsDigitCount 10 1 n r → f + k ≡ 20 → 1 ≤ k → k ≤ r → r ≡ places f k n
  places_from zero k fewest all one low = fewest_least 10 1 k r n (lit< tt) fewest.2 one low (let e : k ≡ 20 = omega arith in rw e (lt_trans small (lit< tt)))
  places_from (suc f) k fewest all one low = go (ltb n (10 ^ k)) refl (eq-or-lt_of_le low) (places_from f (suc k) fewest (omega arith) (omega arith))
    where
      go : (b : Bool) → ltb n (10 ^ k) ≡ b → (k ≡ r) ⊎ (k < r) → (k < r → r ≡ places f (suc k) n) → r ≡ cond b k (places f (suc k) n)
      go true e s more = fewest_least 10 1 k r n (lit< tt) fewest.2 one low (ltb-true n (10 ^ k) e)
      go false e (inl is) more = absurd (lt_irrefl n (lt_of_lt_of_le fewest.1 (rw (← is) (ltb-false n (10 ^ k) e))))
      go false e (inr over) more = more over

  module _ (out : List ℕ) where
    pub decimal_is : IsDigitCount 10 1 n r → take r out ≡ last_digits 10 r n → take r out ≡ decimal n
    unfolding decimal
    decimal_is fewest is = is ∙ ap (λ (k : ℕ). last_digits 10 k n) (places_from 19 1 fewest refl (lit≤ tt) fewest.0)

    pub hex_is : IsDigitCount 16 16 n r → take r out ≡ last_digits 16 r n → take r out ≡ hex n
    unfolding hex
    hex_is fewest is = is ∙ ap (λ (k : ℕ). last_digits 16 k n) (fewest_least 16 16 16 r n (lit< tt) fewest.2 (lit≤ tt) fewest.0 small)
