-- Small powers as products. Assumes nothing.
use mathlib.Core.Path.{◌≡◌, ap, ◌∙◌}
use Prim.Native.Nat.{ℕ, ◌*◌, ◌^◌}
use native.Mathlib.Nat.{pow-suc, pow-zero, one-mul}

pub pow1 : (h : ℕ) → h ^ 1 ≡ h
pow1 h = pow-suc h 0 ∙ ap (λ x. x * h) (pow-zero h) ∙ one-mul h

pub pow2 : (h : ℕ) → h ^ 2 ≡ h * h
pow2 h = pow-suc h 1 ∙ ap (λ x. x * h) (pow1 h)

pub pow3 : (h : ℕ) → h ^ 3 ≡ h * h * h
pow3 h = pow-suc h 2 ∙ ap (λ x. x * h) (pow2 h)

pub pow4 : (h : ℕ) → h ^ 4 ≡ h * h * h * h
pow4 h = pow-suc h 3 ∙ ap (λ x. x * h) (pow3 h)

pub pow5 : (h : ℕ) → h ^ 5 ≡ h * h * h * h * h
pow5 h = pow-suc h 4 ∙ ap (λ x. x * h) (pow4 h)
