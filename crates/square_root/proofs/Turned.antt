-- A value whose sign is set and that isn't below zero is -0: turned it is 0, and its root is turned back. Assumes nothing.
use Rattle.std.proofs.Common.{◌≡◌, ℕ, zero, suc, ◌+◌, ◌*◌, ◌/◌, ◌%◌, ◌^◌, ◌<◌, ◌≤◌, true, false, cond, leb, ◌⊎◌, sym, refl, ap, ◌∙◌, inl, inr, true≢false, le_of_eq, lt_of_lt_of_le, lt_irrefl, eq-zero-or-pos, zero-mul, arith, le→leb, pow_pos}
use lib.Arith.{lt→nleb}
use lib.Ieee.{Float, nan, inf, fin, neg, binary64, to_bits}
use lib.Ieee.Bits.{is_true, is_false}
use Rattle.exact.specs.Units.{L, mag, sgn, Fin64}
use Rattle.exact.proofs.Positives.{neg_mag, neg_fine, neg_sign}
use Rattle.exact.specs.RootOf.{sqrt_of}
use Rattle.exact.proofs.RootZero.{sqrt_zero}
use Rattle.exact.specs.RootOf.{NotBelow}
use Rattle.square_root.proofs.Unpacked.{sign_is, small_mag, normal_mag}

-- 1 where the sign is set
abbrev pub minus : Float → ℕ
minus x = cond (sgn x) 1 0

pub unsigned : (x : Float) → Fin64 x → to_bits binary64 x < 2 ^ 63 → sgn x ≡ false
unsigned x f h = sign_is x (to_bits binary64 x) f refl ∙ is_false (leb (2 ^ 63) (to_bits binary64 x)) (lt→nleb (2 ^ 63) (to_bits binary64 x) h)

pub zero_mag : (x : Float) → Fin64 x → to_bits binary64 x ≡ 0 → mag x ≡ 0
zero_mag x f h = small_mag x (to_bits binary64 x) f refl (omega arith) ∙ ap (λ n. n % 2 ^ 52) h

pub above_zero : (x : Float) → Fin64 x → to_bits binary64 x < 2 ^ 63 → (to_bits binary64 x ≡ 0 → ⊥) → 0 < mag x
above_zero x f h z = elim (eq-zero-or-pos (mag x)) [
  | inl o ↦ absurd (z (none o (eq-zero-or-pos (n / 2 ^ 52))))
  | inr o ↦ o
]
  where
    n : ℕ
    n = to_bits binary64 x

    none : mag x ≡ 0 → (n / 2 ^ 52 ≡ 0) ⊎ (0 < n / 2 ^ 52) → n ≡ 0
    none o (inl e) = let m = small_mag x n f refl e in omega arith
    none o (inr e) = absurd (lt_irrefl 0 (lt_of_lt_of_le (positive (n % 2 ^ 52) (2 ^ (n / 2 ^ 52 + 1073)) (pow_pos (n / 2 ^ 52 + 1073))) (le_of_eq (sym (normal_mag x n f refl (unsigned x f h) (omega arith) (λ e'. omega arith)) ∙ ap (λ m. m * L) o ∙ zero-mul L))))
      where
        positive : (t b : ℕ) → 0 < b → 0 < (2 ^ 52 + t) * b
        positive t zero h = elim h [ ]
        positive t (suc b) h = omega arith

twice : (x : Float) → neg (neg x) ≡ x
unfolding neg
twice nan = refl
twice (inf true) = refl
twice (inf false) = refl
twice (fin true m e) = refl
twice (fin false m e) = refl

-- x has its sign set
module _ (x : Float) (f : Fin64 x) (g : NotBelow x) (h : 2 ^ 63 ≤ to_bits binary64 x) where
  signed : sgn x ≡ true
  signed = sign_is x (to_bits binary64 x) f refl ∙ is_true (leb (2 ^ 63) (to_bits binary64 x)) (le→leb (2 ^ 63) (to_bits binary64 x) h)

  none : mag x ≡ 0
  none = elim (eq-zero-or-pos (mag x)) [
    | inl z ↦ z
    | inr o ↦ absurd (true≢false (sym signed ∙ g o))
  ]

  pub turned_fine : Fin64 (neg x) × NotBelow (neg x)
  turned_fine = (neg_fine x f, λ o. absurd (lt_irrefl 0 (lt_of_lt_of_le o (le_of_eq (neg_mag x ∙ none)))))

  pub turned_below : minus (neg x) < minus x
  turned_below = rw (neg_sign x f, signed) (omega arith)

  pub turned_root : neg (sqrt_of (neg x)) ≡ sqrt_of x
  turned_root = ap neg (sym (sqrt_zero (neg x) (neg_fine x f) (neg_mag x ∙ none))) ∙ twice x ∙ sqrt_zero x f none
