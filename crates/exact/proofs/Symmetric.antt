-- A value between -h and h is finite, and no larger than h. Assumes nothing.
use mathlib.Core.Path.{◌≡◌, subst}
use Prim.Native.Nat.{ℕ, suc, ◌+◌, ◌≤◌}
use native.Mathlib.Omega.{arith}
use lib.Dec.{T}
use lib.IntN.{ℤ, pos, negsuc, neg_ℤ}
use lib.Ieee.{Float, binary64, fits, le}
use Rattle.exact.specs.Units.{mag, Fin64}
use Rattle.exact.specs.Integers.{p, n, abs, ◌≤ᶻ◌}
use Rattle.exact.proofs.Integers.{abs_is}
use Rattle.exact.specs.Value.{val}
use Rattle.exact.proofs.Value.{abs_val}
use Rattle.exact.proofs.OrderLe.{le_val, between_finite}

within_ends : (z : ℤ) (m : ℕ) → neg_ℤ (pos (suc m)) ≤ᶻ z → z ≤ᶻ pos (suc m) → abs z ≤ suc m
within_ends z m h k = rw (abs_is z) (go z h k)
  where
    go : (z : ℤ) → neg_ℤ (pos (suc m)) ≤ᶻ z → z ≤ᶻ pos (suc m) → p z + n z ≤ suc m
    go (pos a) h k = omega arith
    go (negsuc a) h k = omega arith

module _ (low high x : Float) (fl : Fin64 low) (fh : Fin64 high) (f : T (fits binary64 x)) (l : T (le low x)) (h : T (le x high)) where
  pub symmetric_finite : Fin64 x
  symmetric_finite = (between_finite low x high fl.0 fh.0 l h, f)

  pub symmetric_mag : (m : ℕ) → val low ≡ neg_ℤ (pos (suc m)) → val high ≡ pos (suc m) → mag x ≤ suc m
  symmetric_mag m a b =
      rw (abs_val x) at
      (within_ends (val x) m (subst (λ (z : ℤ). z ≤ᶻ val x) a (le_val low x fl symmetric_finite l)) (subst (λ (z : ℤ). val x ≤ᶻ z) b (le_val x high symmetric_finite fh h)))
