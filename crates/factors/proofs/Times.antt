-- Work done over and over, as a loop counts it. Assumes nothing.
use mathlib.Core.Path.{◌≡◌, refl, ap, ◌∙◌}
use Prim.Native.Nat.{ℕ, zero, suc, ◌+◌, ◌-◌, ◌<◌}
use native.Mathlib.Omega.{arith}
use Rattle.factors.specs.declared.Work.{Work}
use Rattle.factors.specs.Sweeps.{times}

-- what g leaves alone stays
pub stays : (n : ℕ) (g : Work → Work) (w : Work) → g w ≡ w → times n g w ≡ w
stays zero g w e = refl
stays (suc n) g w e = ap (times n g) e ∙ stays n g w e

pub once_more : (n i : ℕ) (g : Work → Work) (w : Work) → i < n → times (n - i) g w ≡ times (n - (i + 1)) g (g w)
once_more n i g w h = let e : n - i ≡ suc (n - (i + 1)) = omega arith in rw e refl
