-- The whole number of a value is its floor in 2^-30: the largest that is not above it. Assumes nothing.
use Rattle.std.proofs.Common.{◌≡◌, ℕ, zero, suc, ◌+◌, ◌*◌, ◌/◌, ◌%◌, ◌^◌, ◌<◌, ◌≤◌, ℤ, pos, negsuc, ◌+ℤ◌, ◌*ℤ◌, neg_ℤ, sym, refl, ap, mod-lt, div-add-mod', arith, pow_pos, pow-add}
use lib.Ieee.{Float}
use Rattle.exact.specs.Integers.{p, n, ◌≤ᶻ◌}
use Rattle.exact.proofs.Integers.{+-parts, *-parts}
use Rattle.exact.specs.Units.{L}
use Rattle.exact.specs.Value.{val}
use Rattle.report.specs.Whole.{down, whole_of}

-- one is L units: 2^1044 units are 2^-30, and 2^1094 are 2^20
pub unit_is : 2 ^ 1044 * 2 ^ 30 ≡ L
unfolding L
unit_is = sym (pow-add 2 1044 30)

pub bound_is : 2 ^ 20 * L ≡ 2 ^ 1094
unfolding L
bound_is = sym (pow-add 2 20 1074)

quotient : (d u : ℕ) → 0 < d → (u / d * d ≤ u) × (u < u / d * d + d)
quotient d u h = let e = div-add-mod' u d in let k = mod-lt u h in (omega arith, omega arith)

-- k units of 2^-30 are not above v, and k + 1 are
abbrev pub IsFloor : ℕ → ℤ → ℤ → Type 0
IsFloor d k v = (k *ℤ pos d ≤ᶻ v) × (v +ℤ pos 1 ≤ᶻ (k +ℤ pos 1) *ℤ pos d)

plus_floor : (d u q : ℕ) → q * d ≤ u → u < q * d + d → IsFloor d (pos q) (pos u)
plus_floor d u q h k = (omega arith, omega arith)

minus_floor : (d u q : ℕ) → q * d ≤ u → u < q * d + d → IsFloor d (negsuc q) (negsuc u)
minus_floor d u q h k =
    let a = negsuc q in
    let b = negsuc q +ℤ pos 1 in
    (omega (arith, *-parts a (pos d)), omega (arith, *-parts b (pos d), ap (λ x. x * d) (+-parts a (pos 1)), +-parts (negsuc u) (pos 1)))

pub down_floor : (v : ℤ) → IsFloor (2 ^ 1044) (down v) v
down_floor (pos u) = let q = quotient (2 ^ 1044) u (pow_pos 1044) in plus_floor (2 ^ 1044) u (u / 2 ^ 1044) q.0 q.1
down_floor (negsuc u) = let q = quotient (2 ^ 1044) u (pow_pos 1044) in minus_floor (2 ^ 1044) u (u / 2 ^ 1044) q.0 q.1

pub whole_floor : (x : Float) → IsFloor (2 ^ 1044) (whole_of x) (val x)
unfolding whole_of
whole_floor x = down_floor (val x)
