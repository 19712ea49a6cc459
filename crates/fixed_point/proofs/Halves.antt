-- The product of two numbers of 64 bits by their halves. Assumes nothing.
use mathlib.Core.Path.{◌≡◌, sym, ap, ap₂, ◌∙◌}
use Prim.Native.Nat.{ℕ, ◌+◌, ◌*◌, ◌/◌, ◌%◌, ◌^◌, ◌≤◌, ◌<◌}
use native.Mathlib.Nat.{mul-le-mul, div-add-mod'}
use native.Mathlib.Omega.{arith}

halves : (x y : ℕ) → x < 2 ^ 32 → y < 2 ^ 32 → x * y ≤ 18446744065119617025
halves x y h k = mul-le-mul {n₁ = x} {m₁ = y} {n₂ = 4294967295} {m₂ = 4294967295} (omega arith) (omega arith)

by_halves : (u v : ℕ) → u * v ≡ (u / 2 ^ 32 * 2 ^ 32 + u % 2 ^ 32) * (v / 2 ^ 32 * 2 ^ 32 + v % 2 ^ 32)
by_halves u v = ap₂ (λ x y. x * y) (sym (div-add-mod' u (2 ^ 32))) (sym (div-add-mod' v (2 ^ 32)))

columns_id : (P a b c d q₀ r₀ q r q₁ r₁ : ℕ) → b * d ≡ q₀ * P + r₀ → a * d + q₀ ≡ q * P + r → r + b * c ≡ q₁ * P + r₁ → r₁ * P + r₀ + (a * c + q + q₁) * (P * P) ≡ (a * P + b) * (c * P + d)
columns_id P a b c d q₀ r₀ q r q₁ r₁ e₀ e e₁ = omega (arith, ap (λ x. x * P) e, ap (λ x. x * P) e₁)

-- what `both_halves` computes, by its columns
module _ (u v : ℕ) (hu : u < 2 ^ 64) (hv : v < 2 ^ 64) where
  abbrev pub a : ℕ
  a = u / 2 ^ 32

  abbrev pub b : ℕ
  b = u % 2 ^ 32

  abbrev pub c : ℕ
  c = v / 2 ^ 32

  abbrev pub d : ℕ
  d = v % 2 ^ 32

  abbrev pub mid : ℕ
  mid = a * d + b * d / 2 ^ 32

  abbrev pub next : ℕ
  next = mid % 2 ^ 32 + b * c

  pub record Columns : Type 0 where
    pub bd : b * d < 2 ^ 64
    pub ad : a * d < 2 ^ 64
    pub bc : b * c < 2 ^ 64
    pub ac : a * c < 2 ^ 64
    pub mid_fits : mid < 2 ^ 64
    pub next_fits : next < 2 ^ 64
    pub part : a * c + mid / 2 ^ 32 < 2 ^ 64
    pub all : a * c + mid / 2 ^ 32 + next / 2 ^ 32 < 2 ^ 64
    pub value : next % 2 ^ 32 * 2 ^ 32 + b * d % 2 ^ 32 + (a * c + mid / 2 ^ 32 + next / 2 ^ 32) * 2 ^ 64 ≡ u * v

  whole : next % 2 ^ 32 * 2 ^ 32 + b * d % 2 ^ 32 + (a * c + mid / 2 ^ 32 + next / 2 ^ 32) * 2 ^ 64 ≡ u * v
  whole =
      columns_id (2 ^ 32) a b c d (b * d / 2 ^ 32) (b * d % 2 ^ 32) (mid / 2 ^ 32) (mid % 2 ^ 32) (next / 2 ^ 32) (next % 2 ^ 32)
      (sym (div-add-mod' (b * d) (2 ^ 32))) (sym (div-add-mod' mid (2 ^ 32))) (sym (div-add-mod' next (2 ^ 32)))
      ∙ sym (by_halves u v)

  pub columns : Columns
  columns =
      let p₁ = halves b d (omega arith) (omega arith) in
      let p₂ = halves a d (omega arith) (omega arith) in
      let p₃ = halves b c (omega arith) (omega arith) in
      let p₄ = halves a c (omega arith) (omega arith) in
      record {
        bd = omega arith;
        ad = omega arith;
        bc = omega arith;
        ac = omega arith;
        mid_fits = omega arith;
        next_fits = omega arith;
        part = omega arith;
        all = omega arith;
        value = whole;
      }

-- the upper half by a division
pub upper : (x l h : ℕ) → l + h * 2 ^ 64 ≡ x → l < 2 ^ 64 → h ≡ x / 2 ^ 64
upper x l h e k = omega arith
