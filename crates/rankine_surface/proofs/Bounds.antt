-- Bounds u ≤ v + K / 2 ^ k between whole numbers
use mathlib.Core.Path.{◌≡◌, sym, ap, ◌∙◌, subst₂}
use Prim.Native.Nat.{ℕ, ◌+◌, ◌*◌, ◌^◌, ◌≤◌, ◌<◌}
use native.Mathlib.Nat.{le_refl, le_trans, mul-le-mul_right, le_of_mul-le-mul_right}
use native.Mathlib.Omega.{arith}
use lib.Dec.{T, leb, leb→le}
use lib.IntN.{ℤ, pos, ◌+ℤ◌, ◌*ℤ◌, ◌-ℤ◌}
use Rattle.exact.specs.Integers.{p, n, ◌≤ᶻ◌, abs}
use Rattle.exact.proofs.Integers.{+-parts, *-parts}
use Rattle.exact.proofs.Ring.{ring, var, ◌:+◌, ◌:*◌}
use Rattle.exact.proofs.Value.{near_abs}
use Rattle.rankine_surface.specs.Surface.{Under, demanded, archived}

pub times_le : (u v : ℤ) (k : ℕ) → u ≤ᶻ v → u *ℤ pos k ≤ᶻ v *ℤ pos k
times_le u v k h = omega (arith, *-parts u (pos k), *-parts v (pos k), mul-le-mul_right k h)

pub trans_le : (u v w : ℤ) → u ≤ᶻ v → v ≤ᶻ w → u ≤ᶻ w
trans_le u v w h k = omega arith

pub plus_le : (u v w x : ℤ) → u ≤ᶻ v → w ≤ᶻ x → u +ℤ w ≤ᶻ v +ℤ x
plus_le u v w x h k = omega (arith, +-parts u w, +-parts v x)

-- two numbers within K / 2 ^ k of each other
pub apart : (k : ℕ) (u v : ℤ) (K : ℕ) → abs (u -ℤ v) * 2 ^ k ≤ K → Under k u v K × Under k v u K
apart k u v K h = (record { under = go (2 ^ k) u v h (near_abs u v).0 }, record { under = go (2 ^ k) v u h (near_abs u v).1 })
  where
    go : (q : ℕ) (x y : ℤ) → abs (u -ℤ v) * q ≤ K → p x + n y ≤ p y + n x + abs (u -ℤ v) → x *ℤ pos q ≤ᶻ y *ℤ pos q +ℤ pos K
    go q x y d k = omega (arith, *-parts x (pos q), *-parts y (pos q), +-parts (y *ℤ pos q) (pos K), mul-le-mul_right q k, d)

pub near_under : (u v : ℤ) (e K : ℕ) → abs (u -ℤ v) * 2 ^ 53 ≤ e * K → T (leb e 512) → Under demanded u v K × Under demanded v u K
near_under u v e K h t = apart demanded u v K (small (abs (u -ℤ v)) (le_trans h (mul-le-mul_right K (leb→le e 512 t))))
  where
    small : (a : ℕ) → a * 2 ^ 53 ≤ 512 * K → a * 2 ^ demanded ≤ K
    small a h = omega arith

pub under_up : {k : ℕ} (u v w : ℤ) (K : ℕ) → Under k u v K → v ≤ᶻ w → Under k u w K
under_up {k} u v w K h g =
    let q = pos (2 ^ k) in
    record {
      under = trans_le (u *ℤ q) (v *ℤ q +ℤ pos K) (w *ℤ q +ℤ pos K) h.under
          (plus_le (v *ℤ q) (w *ℤ q) (pos K) (pos K) (times_le v w (2 ^ k) g) (le_refl _));
    }

pub under_down : {k : ℕ} (u v w : ℤ) (K : ℕ) → u ≤ᶻ v → Under k v w K → Under k u w K
under_down {k} u v w K g h =
    let q = pos (2 ^ k) in record { under = trans_le (u *ℤ q) (v *ℤ q) (w *ℤ q +ℤ pos K) (times_le u v (2 ^ k) g) h.under }

-- a larger distance; and two of K / 2 ^ 43 are together at most K / 2 ^ 40
cut : (z : ℤ) (c : ℕ) → p (z *ℤ pos c) + n z * c ≡ n (z *ℤ pos c) + p z * c
cut z c = omega (arith, *-parts z (pos c))

top : (z : ℤ) (c K : ℕ) → p (z *ℤ pos c +ℤ pos K) + n z * c ≡ n (z *ℤ pos c +ℤ pos K) + (p z * c + K)
top z c K = omega (arith, *-parts z (pos c), +-parts (z *ℤ pos c) (pos K))

pub larger : (u v : ℤ) (K : ℕ) → Under demanded u v K → Under 43 u v K
larger u v K h = record { under = go h.under }
  where
    go : u *ℤ pos (2 ^ demanded) ≤ᶻ v *ℤ pos (2 ^ demanded) +ℤ pos K → u *ℤ pos (2 ^ 43) ≤ᶻ v *ℤ pos (2 ^ 43) +ℤ pos K
    go h = omega (arith, cut u (2 ^ demanded), top v (2 ^ demanded) K, cut u (2 ^ 43), top v (2 ^ 43) K)

pub chained : (u v w : ℤ) (K : ℕ) → Under 43 u v K → Under 43 v w K → Under archived u w K
chained u v w K h g = record { under = go h.under g.under }
  where
    go : u *ℤ pos (2 ^ 43) ≤ᶻ v *ℤ pos (2 ^ 43) +ℤ pos K → v *ℤ pos (2 ^ 43) ≤ᶻ w *ℤ pos (2 ^ 43) +ℤ pos K
        → u *ℤ pos (2 ^ archived) ≤ᶻ w *ℤ pos (2 ^ archived) +ℤ pos K
    go h g = omega (arith, cut u (2 ^ 43), top v (2 ^ 43) K, cut v (2 ^ 43), top w (2 ^ 43) K, cut u (2 ^ archived), top w (2 ^ archived) K)

-- a mean of two that are under v is under v
pub mean : {j : ℕ} (u w x v : ℤ) (A B K : ℕ) → 0 < A + B → x *ℤ pos (A + B) ≡ u *ℤ pos A +ℤ w *ℤ pos B → Under j u v K → Under j w v K → Under j x v K
mean {j} u w x v A B K o e h k =
    let q = pos (2 ^ j) in
    let top = v *ℤ q +ℤ pos K in
    record {
      under =
          cancel (x *ℤ q) top (A + B) o
          (subst₂ (λ i j. i ≤ᶻ j) (sym (left q)) (sym (ring 3 (top, (pos A, (pos B, tt))) (var 0 :* (var 1 :+ var 2)) (var 0 :* var 1 :+ var 0 :* var 2) tt))
          (plus_le (u *ℤ q *ℤ pos A) (top *ℤ pos A) (w *ℤ q *ℤ pos B) (top *ℤ pos B) (times_le (u *ℤ q) top A h.under)
          (times_le (w *ℤ q) top B k.under)));
    }
  where
    cancel : (a b : ℤ) (c : ℕ) → 0 < c → a *ℤ pos c ≤ᶻ b *ℤ pos c → a ≤ᶻ b
    cancel a b c o h = le_of_mul-le-mul_right {k = c} (omega (arith, *-parts a (pos c), *-parts b (pos c))) o

    left : (q : ℤ) → x *ℤ q *ℤ pos (A + B) ≡ u *ℤ q *ℤ pos A +ℤ w *ℤ q *ℤ pos B
    left q = ring 3 (x, (q, (pos (A + B), tt))) (var 0 :* var 1 :* var 2) (var 0 :* var 2 :* var 1) tt ∙ ap (λ y. y *ℤ q) e
        ∙ ring 5 (u, (w, (q, (pos A, (pos B, tt))))) ((var 0 :* var 3 :+ var 1 :* var 4) :* var 2) (var 0 :* var 2 :* var 3 :+ var 1 :* var 2 :* var 4) tt
