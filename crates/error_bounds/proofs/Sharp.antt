-- Where a rounding is exact: of a number of at most 53 binary digits. Assumes nothing.
use mathlib.Core.Path.{◌≡◌, ap, ◌∙◌, subst}
use Prim.Native.Nat.{ℕ, ◌*◌, ◌/◌, ◌^◌, ◌<◌}
use native.Mathlib.Nat.{mul-div_cancel}
use mathlib.Core.Bool.{Bool}
use lib.Ieee.{Float, nan, inf, fin, binary64, down, round}
use lib.Ieee.Fits.{down_pos}
use lib.Ieee.Exact.{HasValue, round_exact}
use Rattle.exact.specs.Units.{L, mag, sgn}
use Rattle.exact.proofs.Units.{L_pos}
use Rattle.exact.proofs.Digits.{Digits}

-- a whole number of units with few digits is rounded to itself
pub exact_round : (s : Bool) (A : ℕ) → A < 2 ^ 2098 → Digits A → (mag (round binary64 s A L) ≡ A) × (sgn (round binary64 s A L) ≡ s)
unfolding L mag
exact_round s A h d = go (round binary64 s A L) (round_exact binary64 s A L d.q d.j L_pos d.few (subst (λ x. x < 2 ^ 2098) d.is h) (ap (λ x. x * L) d.is))
  where
    go : (x : Float) → HasValue x s A (2 ^ 1074) → (mag x ≡ A) × (sgn x ≡ s)
    go nan v = absurd v
    go (inf t) v = absurd v
    go (fin t m e) v = (ap (λ z. z / down e) v.1 ∙ mul-div_cancel A (down_pos e), v.0)
