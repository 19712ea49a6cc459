-- The integer power (RULES, section 3: by halving from r = 1; a negative exponent inverts r at the end).
use Rattle.std.specs.Prelude.{ℕ, zero, suc, ◌-◌, ◌/◌, ◌%◌, ◌^◌, ◌<◌, Bool, true, false, cond, ◌==◌, nat_lt, Float}
use Rattle.std.specs.Float.Ieee as Ieee
use Rattle.std.specs.Float.{binary64}
use Rattle.std.specs.Float.Ieee.{of_bits}
pub use Rattle.numbers.specs.Constants.{one}

-- at most k halvings of e, until it is 0; done says whether e is 0
unfoldable pub halvings : ℕ → Bool → Float → Float → ℕ → Float
halvings zero z r b e = r
halvings (suc k) true r b e = r
halvings (suc k) false r b e =
    halvings k (e / 2 == 0) (cond (e % 2 == 1) (Ieee.mul binary64 r b) r) (Ieee.mul binary64 b b) (e / 2)

abbrev pub power_of : ℕ → Float → Float → ℕ → Float
power_of k r b e = halvings k (e == 0) r b e

-- the size of a u32 read as an i32
abbrev pub magnitude_of : ℕ → ℕ
magnitude_of g = cond (nat_lt g (2 ^ 31)) g (2 ^ 32 - g)

unfoldable pub powi_of : Float → ℕ → Float
powi_of b g =
    let r = power_of 32 one b (magnitude_of g) in
    cond (nat_lt g (2 ^ 31)) r (Ieee.div binary64 one r)
