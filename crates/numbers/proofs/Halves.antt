-- One halving of an integer power's exponent. Assumes nothing.
use Rattle.std.proofs.Common.{◌≡◌, ℕ, zero, suc, ◌*◌, ◌/◌, ◌%◌, ◌^◌, ◌<◌, Bool, true, false, cond, eqb, sym, refl, ◌∙◌, pow-suc, arith, eq-eqb, ne_eqb}
use native.Mathlib.Nat.{pow-zero}
use lib.Ieee as Ieee
use lib.Ieee.{Float, binary64}
use Rattle.numbers.specs.Power.{power_of, halvings}

pub at_zero : (k : ℕ) (r b : Float) (e : ℕ) → e ≡ 0 → r ≡ power_of k r b e
unfolding halvings
at_zero zero r b e z = refl
at_zero (suc k) r b e z = rw (eq-eqb e 0 z)

-- what is true of the halved exponent at every k is true of the exponent
pub halved : (k : ℕ) (r b : Float) (e : ℕ) → (e ≡ 0 → ⊥) → e < 2 ^ k → (x : Float) → ((j : ℕ) → e / 2 < 2 ^ j → x ≡ power_of j (cond (eqb (e % 2) 1) (Ieee.mul binary64 r b) r) (Ieee.mul binary64 b b) (e / 2)) → x ≡ power_of k r b e
unfolding halvings
halved zero r b e n h x f = absurd (n (omega (arith, rw pow-zero at h)))
halved (suc k) r b e n h x f =
    let p = pow-suc 2 k in
    let g : e / 2 < 2 ^ k = omega arith in
    rw (ne_eqb e 0 n) (f k g)
