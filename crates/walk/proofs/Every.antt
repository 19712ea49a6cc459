-- A test of every entry of a list, of two lists put together and of a list of lists; and the place of the first float that isn't finite.
use mathlib.Core.Bool.{Bool, true, false, cond, ◌&&◌, true≢false}
use mathlib.Core.List.{List, [], ◌∷◌, ◌++◌, foldl, map}
use mathlib.Core.Path.{◌≡◌, refl, ap, sym, ◌∙◌}
use native.Mathlib.Omega.{arith}
use Prim.Native.Nat.{ℕ, zero, suc, ◌<◌}
use lib.ListN.{get_or}
use lib.Ieee.{Float, nan}
use Rattle.numbers.specs.Floats.{finite}
use Rattle.tensor.specs.Axes.{all_of}
use Rattle.walk.specs.Exact.{place_of}
use Rattle.walk.specs.Matrix.{joined}

pub and_left : (a b : Bool) → a && b ≡ true → a ≡ true
and_left true b h = refl
and_left false b h = h

pub and_right : (a b : Bool) → a && b ≡ true → b ≡ true
and_right true b h = h
and_right false b h = absurd (true≢false (sym h))

and_true : (a : Bool) → a ≡ a && true
and_true true = refl
and_true false = refl

pub and_assoc : (a b c : Bool) → a && b && c ≡ a && (b && c)
and_assoc true b c = refl
and_assoc false b c = refl

-- from the right
abbrev pub every : {A : Type 0} → (A → Bool) → List A → Bool
every t [] = true
every t (x ∷ l) = t x && every t l

module _ {A : Type 0} (t : A → Bool) where
  folded : (b : Bool) (l : List A) → foldl ◌&&◌ b (map t l) ≡ b && every t l
  folded b [] = and_true b
  folded b (x ∷ l) = folded (b && t x) l ∙ and_assoc b (t x) (every t l)

  pub all_every : (l : List A) → all_of t l ≡ every t l
  all_every [] = refl
  all_every (x ∷ l) = folded (t x) l

  every_append : (a b : List A) → every t (a ++ b) ≡ every t a && every t b
  every_append [] b = refl
  every_append (x ∷ a) b = ap (λ c. t x && c) (every_append a b) ∙ sym (and_assoc (t x) (every t a) (every t b))

  pub all_append : (a b : List A) → all_of t (a ++ b) ≡ all_of t a && all_of t b
  all_append a b = rw (all_every (a ++ b), all_every a, all_every b) (every_append a b)

module _ {A : Type 0} (t : A → Bool) where
  every_joined : (m : List (List A)) → every t (joined m) ≡ every (all_of t) m
  every_joined [] = refl
  every_joined (l ∷ m) = every_append t l (joined m) ∙ rw (all_every t l, every_joined m)

  pub all_joined : (m : List (List A)) → all_of t (joined m) ≡ all_of (all_of t) m
  all_joined m = all_every t (joined m) ∙ every_joined m ∙ sym (all_every (all_of t) m)
