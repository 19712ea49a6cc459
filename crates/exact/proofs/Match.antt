-- A table as a match: what the default arm knows, and a test at each entry. Assumes nothing.
use mathlib.Core.Path.{◌≡◌, refl, sym, ap, ◌∙◌, subst}
use mathlib.Core.Logic.{◌≢◌}
use mathlib.Core.Bool.{Bool}
use mathlib.Core.List.{List, [], ◌∷◌, ◌++◌}
use Prim.Native.Nat.{ℕ, zero, suc, ◌+◌, ◌≤◌, ◌<◌, zero-le}
use native.Mathlib.Nat.{not-suc-le-zero, le_of_suc-le-suc, suc-add, add-suc, add-zero, zero-add}
use native.Mathlib.Omega.{arith}
use lib.Dec.{T}
use lib.ListN.{length, get_or}
use Rattle.exact.proofs.Both.{both, both_left, both_right}

abbrev pub Rest : ℕ → ℕ → Type 0
Rest j zero = Unit {0}
Rest j (suc n) = Rest j n × (j ≡ n → ⊥)

pub beyond : (j n : ℕ) → Rest j n → n ≤ j
beyond j zero r = zero-le
beyond j (suc n) r = let h = beyond j n r.0 in let f : j ≢ n = r.1 in omega arith

pub past : (xs : List ℕ) (d j : ℕ) → length xs ≤ j → get_or xs j d ≡ d
past [] d j h = refl
past (x ∷ xs) d zero h = absurd (not-suc-le-zero h)
past (x ∷ xs) d (suc j) h = past xs d j (le_of_suc-le-suc h)

-- the test f passes at each entry and its place, counted from i, and at d after the last
abbrev pub all : (ℕ → ℕ → Bool) → ℕ → ℕ → List ℕ → Bool
all f d i [] = f i d
all f d i (x ∷ xs) = both (f i x) (all f d (suc i) xs)

from : (f : ℕ → ℕ → Bool) (d : ℕ) (xs : List ℕ) (i : ℕ) → T (all f d i xs) → (k : ℕ) → k < suc (length xs) → T (f (i + k) (get_or xs k d))
from f d [] i t zero h = subst (λ (m : ℕ). T (f m d)) (sym (add-zero i)) t
from f d [] i t (suc k) h = absurd (not-suc-le-zero (le_of_suc-le-suc h))
from f d (x ∷ xs) i t zero h = subst (λ (m : ℕ). T (f m x)) (sym (add-zero i)) (both_left (f i x) (all f d (suc i) xs) t)
from f d (x ∷ xs) i t (suc k) h = subst (λ (m : ℕ). T (f m (get_or xs k d))) (suc-add i k ∙ sym (add-suc i k)) (from f d xs (suc i) (both_right (f i x) (all f d (suc i) xs) t) k (le_of_suc-le-suc h))

pub at_or_last : (f : ℕ → ℕ → Bool) (xs : List ℕ) (d : ℕ) → T (all f d 0 xs) → (k : ℕ) → k < suc (length xs) → T (f k (get_or xs k d))
at_or_last f xs d t k h = subst (λ (m : ℕ). T (f m (get_or xs k d))) (zero-add k) (from f d xs 0 t k h)
