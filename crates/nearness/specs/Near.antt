-- Sums of products of three floats, one for each axis, near a float (RULES, section 7; ticket 6: "each entry of U sigma V^T is within m/2^40 of F; U and V times
-- their transposes are within 2^-40 of the identity"). Exact over whole numbers, for any number of axes: `val` counts units of 2 ^ -1074, of which 1 has L.
use Rattle.std.specs.Prelude.{Bool, true, ◌&&◌, List, [], ◌∷◌, ℕ, ◌*◌, ◌^◌, leb, ℤ, pos, ◌+ℤ◌, ◌-ℤ◌, ◌*ℤ◌, Float}
use Rattle.exact.specs.Units.{L}
use Rattle.exact.specs.Integers.{abs}
use Rattle.exact.specs.Value.{val}
use Rattle.tensor.specs.Axes.{from_left}
use Rattle.tensor.specs.Matrix.{zero, one, three}

abbrev pub exact_sum : List Float → List Float → List Float → ℤ
exact_sum (u ∷ us) (s ∷ ss) (v ∷ vs) = val u *ℤ val s *ℤ val v +ℤ exact_sum us ss vs
exact_sum (u ∷ us) (s ∷ ss) [] = pos 0
exact_sum (u ∷ us) [] vs = pos 0
exact_sum [] ss vs = pos 0

-- within m / 2 ^ 40 of f, where m counts units
unfoldable pub near : List Float → List Float → List Float → Float → ℕ → Bool
near u s v f m = leb (abs (exact_sum u s v -ℤ val f *ℤ pos (L * L)) * 2 ^ 40) (m * (L * L))

abbrev pub zipped : {A B C : Type 0} → (A → B → C) → List A → List B → List C
zipped f (x ∷ xs) (y ∷ ys) = f x y ∷ zipped f xs ys
zipped f (x ∷ xs) [] = []
zipped f [] ys = []

unfoldable pub near_row : List Float → List Float → List (List Float) → List Float → ℕ → Bool
near_row u s vs fs m = from_left ◌&&◌ true (zipped (λ v f. near u s v f m) vs fs)

-- each entry of U sigma V ^ T within m / 2 ^ 40 of f: us has the rows of U, vs those of V
unfoldable pub near_all : List (List Float) → List Float → List (List Float) → List (List Float) → ℕ → Bool
near_all us s vs fs m = from_left ◌&&◌ true (zipped (λ u f. near_row u s vs f m) us fs)

abbrev pub identity_of : List (List Float)
identity_of = three (three one zero zero) (three zero one zero) (three zero zero one)

-- U U ^ T within 2 ^ -40 of the identity
unfoldable pub orthogonal_of : List (List Float) → Bool
orthogonal_of us = near_all us (three one one one) us identity_of L
