-- Lists with an entry for each axis, however many axes. Sums and products go by rising index, from the left (RULES, section 4):
-- nothing stands before the first entry, since 0.0 + -0.0 is no -0.0.
use Rattle.std.specs.Prelude.{Bool, true, ◌&&◌, ℕ, zero, suc, get_or}
use mathlib.Core.List.{List, [], ◌∷◌, foldl, map}

-- the entries put together by f; e at no entries
abbrev pub from_left : {A : Type 0} → (A → A → A) → A → List A → A
from_left f e [] = e
from_left f e (x ∷ xs) = foldl f x xs

-- whether the test holds of every entry
abbrev pub all_of : {A : Type 0} → (A → Bool) → List A → Bool
all_of t l = from_left ◌&&◌ true (map t l)

-- entry by entry
abbrev pub pairwise : {A : Type 0} → (A → A → A) → List A → List A → List A
pairwise f (x ∷ xs) (y ∷ ys) = f x y ∷ pairwise f xs ys
pairwise f (x ∷ xs) [] = []
pairwise f [] ys = []

-- n axes from the i-th
abbrev pub axes_from : ℕ → ℕ → List ℕ
axes_from i zero = []
axes_from i (suc n) = i ∷ axes_from (suc i) n

-- the entries of a list, one for each of n axes, and d where there is none
abbrev pub entries_of : {A : Type 0} → ℕ → A → List A → List A
entries_of n d l = map (λ i. get_or l i d) (axes_from 0 n)
