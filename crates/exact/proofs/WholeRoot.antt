-- The root of a whole number, rounded down, and what squares say of the order. Assumes nothing.
use mathlib.Core.Path.{◌≡◌, sym}
use mathlib.Core.Bool.{Bool, true, false, not, cond}
use Prim.Native.Nat.{ℕ, zero, suc, ◌+◌, ◌-◌, ◌*◌, ◌/◌, ◌^◌, ◌≤◌, ◌<◌}
use native.Mathlib.Nat.{lt_of_lt_of_le, lt_irrefl, mul_comm, add_comm, mul-le-mul, pow-suc, pow-zero}
use native.Mathlib.Omega.{arith, sub_cases, by_contra}
use lib.Dec.{T, leb, leb→le, nleb→lt}
use lib.Ieee.{size}
use lib.Ieee.Digits.{size-lt}
use Rattle.exact.specs.RootOf.{root_in, floor_root}
use Rattle.exact.specs.WholeRoot.{Floor}

pub root_in_lem : (k n : ℕ) → n < 2 ^ k → Floor n (root_in k n)
unfolding root_in
root_in_lem zero n h = record { under = omega arith; over = omega (arith, rw pow-zero at h) }
root_in_lem (suc k) n h = go (root_in k (n / 4)) (root_in_lem k (n / 4) (omega (arith, pow-suc 2 k))) (leb (suc (2 * root_in k (n / 4)) * suc (2 * root_in k (n / 4))) n) (leb→le _ n) (nleb→lt _ n)
  where
    go : (r : ℕ) → Floor (n / 4) r → (b : Bool) → (T b → suc (2 * r) * suc (2 * r) ≤ n) → (T (not b) → n < suc (2 * r) * suc (2 * r)) → Floor n (2 * r + cond b 1 0)
    go r f true g g' = record { under = omega (arith, g tt); over = omega (arith, f.over) }
    go r f false g g' = record { under = omega (arith, f.under); over = omega (arith, g' tt) }

pub floor_root_lem : (n : ℕ) → Floor n (floor_root n)
unfolding floor_root
floor_root_lem n = root_in_lem (size n) n (size-lt n)

pub square_lt : (a b : ℕ) → a * a < b * b → a < b
square_lt a b h = by_contra (suc a) b (λ g. lt_irrefl (a * a) (lt_of_lt_of_le h (mul-le-mul {n₁ = b} {m₁ = b} {n₂ = a} {m₂ = a} (omega arith) (omega arith))))

pub square_le : (a b : ℕ) → a * a ≤ b * b → a ≤ b
square_le a b h = by_contra a b (λ g. more (mul-le-mul g g))
  where
    more : suc b * suc b ≤ a * a → ⊥
    more k = omega arith

-- the square of the mean of two numbers is at least their product
pub mean_product : (a b : ℕ) → 4 * (a * b) ≤ (a + b) * (a + b)
mean_product a b = sub_cases a b _ (λ h e. more b (a - b) a (sym e)) (λ h e. rw (mul_comm a b, add_comm a b) (more a (b - a) b (omega arith)))
  where
    more : (b d a : ℕ) → a ≡ d + b → 4 * (a * b) ≤ (a + b) * (a + b)
    more b d a e = rw e (omega arith)
