-- RULES, section 6, "When, and only then", of any walk: refused by n exactly where the path stops by n, and by no number
-- exactly where all of it passes.
use Rattle.std.specs.Prelude.{Bool, true, false, ◌&&◌, List, [], ◌∷◌, ◌⊎◌, ◌≡◌, ℕ}
use Rattle.std.specs.Float.Ieee as Ieee
use Rattle.numbers.specs.Floats.{finite}
use Rattle.answers.specs.Refusals.{below_range, above_range}
use Rattle.answers.specs.Range.{in_range}
use Rattle.tensor.specs.Axes.{all_of}
use Rattle.walk.specs.Expr.{value, clean}
use Rattle.walk.specs.Walk.{low_of, high_of, compared}
use Rattle.walk.specs.Exact.{Met, input, argument, worked, tested, result_of, all_clean}

-- no input, modulus or result that isn't finite, and no NaN
abbrev pub sound : Met → Bool
sound (input l) = all_of finite l
sound (argument n f e) = clean e
sound (worked n es) = all_clean es
sound (tested n t) = all_clean (compared t)
sound (result_of n rows) = all_of (all_of (λ e. clean e && finite (value e))) rows

-- within section 3's range
abbrev pub within : Met → Bool
within (argument n f e) = in_range (low_of f) (high_of f) (value e)
within (input l) = true
within (worked n es) = true
within (tested n t) = true
within (result_of n rows) = true

-- on which side of it an argument lies
abbrev pub below : Met → Bool
below (argument n f e) = Ieee.lt (value e) (low_of f)
below (input l) = false
below (worked n es) = false
below (tested n t) = false
below (result_of n rows) = false

abbrev pub above : Met → Bool
above (argument n f e) = Ieee.lt (high_of f) (value e)
above (input l) = false
above (worked n es) = false
above (tested n t) = false
above (result_of n rows) = false

-- 1 of an input, otherwise 3
abbrev pub unsound : Met → ℕ
unsound (input l) = 1
unsound (argument n f e) = 3
unsound (worked n es) = 3
unsound (tested n t) = 3
unsound (result_of n rows) = 3

abbrev pub Passes : Met → Type 0
Passes m = (sound m ≡ true) × (within m ≡ true)

-- 2 below the range, 10 above it, 1 and 3 of what isn't sound
abbrev pub Refuses : ℕ → Met → Type 0
Refuses n m = ((below m ≡ true) × (below_range ≡ n)) ⊎ (((above m ≡ true) × (above_range ≡ n)) ⊎ ((sound m ≡ false) × (unsound m ≡ n)))

-- all before it passes, and then n is met
abbrev pub Stops : ℕ → List Met → Type 0
Stops n [] = ⊥
Stops n (m ∷ ms) = Refuses n m ⊎ (Passes m × Stops n ms)

-- all before it passes, and then an argument lies on that side of its range
abbrev pub Comes : (Met → Bool) → List Met → Type 0
Comes on [] = ⊥
Comes on (m ∷ ms) = (on m ≡ true) ⊎ (Passes m × Comes on ms)

abbrev pub Clear : List Met → Type 0
Clear [] = Unit {0}
Clear (m ∷ ms) = Passes m × Clear ms
