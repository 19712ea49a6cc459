-- The square root of a binary64 value, correctly rounded: IEEE 754, 5.4.1 (RULES, section 3).
use Rattle.std.specs.Prelude.{◌≡◌, false, cond, ℕ, zero, suc, ◌+◌, ◌*◌, ◌/◌, ◌≤◌, ◌<◌, T, leb, eqb, Float}
use Rattle.std.specs.Float.{binary64}
use Rattle.std.specs.Float.Ieee.{round, size, le}
use Rattle.exact.specs.Units.{L, mag, sgn, Fin64}

-- r is the root of x, rounded: every fraction a / c whose square is at most x rounds to at most r, and every one
-- whose square is at least x to at least r; -0 keeps its sign. RootLaws.rooted-one: there is one such r.
pub record Rooted (x r : Float) : Type 0 where
  pub fine : Fin64 r
  pub sign : sgn r ≡ sgn x
  pub above : (a c : ℕ) → 0 < c → a * a * L ≤ mag x * (c * c) → T (le (round binary64 false a c) r)
  pub below : (a c : ℕ) → 0 < c → mag x * (c * c) ≤ a * a * L → T (le r (round binary64 false a c))

-- what has a root: what is not below zero
abbrev pub NotBelow : Float → Type 0
NotBelow x = 0 < mag x → sgn x ≡ false

-- the largest r with r * r ≤ n, for an n below 2 ^ k, two binary digits of n after the other
unfoldable pub root_in : ℕ → ℕ → ℕ
root_in zero n = 0
root_in (suc k) n = let r = 2 * root_in k (n / 4) in r + cond (leb (suc r * suc r) n) 1 0

unfoldable pub floor_root : ℕ → ℕ
floor_root n = root_in (size n) n

-- In units of 2 ^ -1074 the root of x is that of mag x * L. It is taken down to a whole number, a half is added where
-- that is less than the root, and the sum is rounded: with 538 digits or more it lies on the root's side of every midpoint.
unfoldable pub sqrt_of : Float → Float
unfolding floor_root
sqrt_of x =
    let n = mag x * L in
    let r = floor_root n in
    round binary64 (sgn x) (2 * r + cond (eqb (r * r) n) 0 1) (2 * L)
