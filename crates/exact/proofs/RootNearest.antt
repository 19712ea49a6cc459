-- The root that the digits give is the defined one, is correctly rounded, and is the only one. Assumes nothing.
use mathlib.Core.Path.{◌≡◌, refl, sym, ap, ◌∙◌, subst}
use mathlib.Core.Bool.{Bool, true, false, cond}
use Prim.Native.Nat.{ℕ, suc, ◌+◌, ◌*◌, ◌^◌, ◌≤◌, ◌<◌}
use native.Mathlib.Nat.{lt_trans, le_of_lt, zero-lt-suc, le_of_suc-le-suc, lt-suc_self, mul-le-mul_right, mul-lt-mul_of_pos_right, mul-pos, pow-succ'}
use native.Mathlib.Omega.{arith}
use lib.Dec.{T, eqb, eqb→eq, lit<}
use lib.Pow.{pow_pos}
use lib.Ieee.{Float, binary64, round, le}
use lib.Ieee.Fits.{round-fits}
use lib.Ieee.Order.{round_mono}
use Rattle.exact.proofs.Midpoints.{same_units, below_mid, above_mid}
use Rattle.exact.specs.Units.{L, mag, sgn, Fin64}
use Rattle.exact.specs.RootOf.{Rooted, floor_root, sqrt_of}
use Rattle.exact.specs.WholeRoot.{Floor}
use Rattle.exact.proofs.WholeRoot.{floor_root_lem, mean_product, square_lt}
use Rattle.exact.proofs.RootDigits.{Last, Parted, above_root, below_root, clear_is, last, nearest_root, root_units, rounded, set_is, squeezed, clear, set}

-- ---- n is N * P * P, m the root of N and r that of n: r lies from m * P to (m + 1) * P; and where neither is exact, r and a half is past m * P
module _ (N P n m r : ℕ) (j : n ≡ N * (P * P)) (O : 0 < P) (F : Floor N m) (G : Floor n r) where
  from_digits : m * P ≤ r
  from_digits = le_of_suc-le-suc (square_lt (m * P) (suc r) (omega (arith, G.over, mul-le-mul_right (P * P) F.under)))

  to_digits : r < suc m * P
  to_digits = square_lt r (suc m * P) (omega (arith, G.under, mul-lt-mul_of_pos_right F.over (mul-pos O O)))

  past_digits : m * m < N → (b : Bool) → (T b → r * r ≡ n) → 2 * (m * P) < 2 * r + cond b 0 1
  past_digits h true e =
      let q : m * P < r = square_lt (m * P) r (omega (arith, e tt, mul-lt-mul_of_pos_right h (mul-pos O O))) in
      omega arith
  past_digits h false e = omega (arith, from_digits)

-- ---- the definition's value: with the 54 digits m of the root, it is (m + 1) / 2 times a power of two
module _ (x : Float) (v t m : ℕ) (s : sgn x ≡ false) (p : Parted (mag x * L) v t m) where
  pub sqrt_nearest : sqrt_of x ≡ nearest_root m t
  unfolding sqrt_of L
  sqrt_nearest =
      let n = mag x * L in
      let r = floor_root n in
      rw s (go r (eqb (r * r) n) (eqb→eq (r * r) n) (floor_root_lem n) (last v m p.low p.high p.root))
    where
      most : (b : Bool) → cond b 0 1 ≤ 1
      most true = omega arith
      most false = omega arith

      clear_lt : (r s k P l : ℕ) → 0 < l → s ≤ 1 → m ≡ 2 * k → r < suc m * P → 2 * ((2 * r + s) * l) < (2 * k + 1) * (2 * P) * (2 * l)
      clear_lt r s k P l O S e h =
          let q : 2 * r + s < 2 * ((2 * k + 1) * P) = omega (arith, rw e at h) in
          omega (arith, mul-lt-mul_of_pos_right q O)

      clear_le : (r s k P l : ℕ) → m ≡ 2 * k → m * P ≤ r → k * (2 * P) * (2 * l) ≤ (2 * r + s) * l
      clear_le r s k P l e h = omega (arith, mul-le-mul_right l (rw e at h))

      set_le : (r s k P l : ℕ) → s ≤ 1 → m ≡ 2 * k + 1 → r < suc m * P → (2 * r + s) * l ≤ suc k * (2 * P) * (2 * l)
      set_le r s k P l S e h =
          let q : 2 * r + s ≤ 2 * (suc k * (2 * P)) = omega (arith, rw e at h) in
          omega (arith, mul-le-mul_right l q)

      set_lt : (r s k P l : ℕ) → 0 < l → m ≡ 2 * k + 1 → 2 * (m * P) < 2 * r + s → (2 * k + 1) * (2 * P) * (2 * l) < 2 * ((2 * r + s) * l)
      set_lt r s k P l O e h = omega (arith, mul-lt-mul_of_pos_right (rw e at h) O)

      go : (r : ℕ) (b : Bool) → (T b → r * r ≡ mag x * L) → Floor (mag x * L) r → Last (v * 2 ^ 54) m → round binary64 false (2 * r + cond b 0 1) (2 * 2 ^ 1074) ≡ nearest_root m t
      go r b e G (clear k d f g) =
          let z : ℕ = cond b 0 1 in
          let lo = from_digits (v * 2 ^ 54) (2 ^ t) (mag x * L) m r p.is (pow_pos t) p.root G in
          let hi = to_digits (v * 2 ^ 54) (2 ^ t) (mag x * L) m r p.is (pow_pos t) p.root G in
          sym
          (squeezed (mag x) (mag x * L) v t m refl p (round binary64 false (2 * r + z) (2 * 2 ^ 1074)) (round-fits binary64 false (2 * r + z) (2 * 2 ^ 1074))
          (rw (clear_is k m d) (round_mono binary64 (k * 2 ^ suc t) (2 ^ 1074) (2 * r + z) (2 * 2 ^ 1074) (pow_pos 1074) (pow_pos 1075) (rw (pow-succ' 2 t) (clear_le r z k (2 ^ t) (2 ^ 1074) d lo))))
          (rw (clear_is k m d) (below_mid (2 * r + z) (2 * 2 ^ 1074) k (suc t) (pow_pos 1075) f g p.few (rw (pow-succ' 2 t) (clear_lt r z k (2 ^ t) (2 ^ 1074) (pow_pos 1074) (most b) d hi)))))
      go r b e G (set k d f g o) =
          let z : ℕ = cond b 0 1 in
          let lo = past_digits (v * 2 ^ 54) (2 ^ t) (mag x * L) m r p.is (pow_pos t) p.root G o b e in
          let hi = to_digits (v * 2 ^ 54) (2 ^ t) (mag x * L) m r p.is (pow_pos t) p.root G in
          sym
          (squeezed (mag x) (mag x * L) v t m refl p (round binary64 false (2 * r + z) (2 * 2 ^ 1074)) (round-fits binary64 false (2 * r + z) (2 * 2 ^ 1074))
          (rw (set_is k m d) (above_mid (2 * r + z) (2 * 2 ^ 1074) k (suc t) (pow_pos 1075) f (lt_trans (lt-suc_self k) g) p.few g (rw (pow-succ' 2 t) (set_lt r z k (2 ^ t) (2 ^ 1074) (pow_pos 1074) d lo))))
          (rw (set_is k m d) (round_mono binary64 (2 * r + z) (2 * 2 ^ 1074) (suc k * 2 ^ suc t) (2 ^ 1074) (pow_pos 1075) (pow_pos 1074) (rw (pow-succ' 2 t) (set_le r z k (2 ^ t) (2 ^ 1074) (most b) d hi)))))

  -- so what has that many units is the root
  pub sqrt_is : (r : Float) → Fin64 r → sgn r ≡ false → mag r ≡ rounded m t → r ≡ sqrt_of x
  unfolding L
  sqrt_is r f g h =
      let u = root_units (mag x) (mag x * L) v t m refl p in
      same_units r (nearest_root m t) f (u.2, round-fits binary64 false (rounded m t) (2 ^ 1074)) (g ∙ sym u.1) (h ∙ sym u.0) ∙ sym sqrt_nearest

  pub rooted_nearest : Rooted x (nearest_root m t)
  unfolding L
  rooted_nearest =
      let u = root_units (mag x) (mag x * L) v t m refl p in
      record {
        fine = (u.2, round-fits binary64 false (rounded m t) (2 ^ 1074));
        sign = u.1 ∙ sym s;
        above = above_root (mag x) (mag x * L) v t m refl p;
        below = below_root (mag x) (mag x * L) v t m refl p;
      }

  -- On one side r is held by the nearest root itself, on the other by a fraction between the root and the midpoint, which rounds to
  -- the nearest root: the arithmetic mean of the root and its upper bound (m + 1) * P, or the harmonic one of it and m * P.
  pub nearest_one : (r : Float) → Rooted x r → nearest_root m t ≡ r
  unfolding L
  nearest_one r R = go (last v m p.low p.high p.root)
    where
      own_le : (X l n N P k q : ℕ) → n ≡ X * l → n ≡ N * (P * P) → m ≡ 2 * k → q ≡ k * (2 * P) → m * m ≤ N → q * q * l ≤ X * (l * l)
      own_le X l n N P k q i j e d f =
          let g : q * q ≤ n = rw (d, j) (omega (arith, mul-le-mul_right (P * P) (rw e at f))) in
          omega (arith, mul-le-mul_right l g, ap (λ z. z * l) i)

      own_ge : (X l n N P k q : ℕ) → n ≡ X * l → n ≡ N * (P * P) → m ≡ 2 * k + 1 → q ≡ suc k * (2 * P) → N ≤ suc m * suc m → X * (l * l) ≤ q * q * l
      own_ge X l n N P k q i j e d f =
          let g : n ≤ q * q = rw (d, j) (omega (arith, mul-le-mul_right (P * P) (rw e at f))) in
          omega (arith, mul-le-mul_right l g, ap (λ z. z * l) i)

      mean_ge : (X l n Y : ℕ) → n ≡ X * l → X * (2 * Y * l * (2 * Y * l)) ≤ (Y * Y + n) * (Y * Y + n) * l
      mean_ge X l n Y i = omega (arith, mul-le-mul_right l (mean_product (Y * Y) n), ap (λ z. z * (4 * (Y * Y) * l)) i)

      mean_lt : (l n P k Y : ℕ) → 0 < l → Y ≡ (2 * k + 1) * P → n < Y * Y → 2 * ((Y * Y + n) * l) < (2 * k + 1) * (2 * P) * (2 * Y * l)
      mean_lt l n P k Y O e h = omega (arith, mul-lt-mul_of_pos_right h O, ap (λ z. z * (4 * Y * l)) e)

      mean_le : (X l n D : ℕ) → n ≡ X * l → 2 * n * D * (2 * n * D) * l ≤ X * ((n + D * D) * l * ((n + D * D) * l))
      mean_le X l n D i = omega (arith, mul-le-mul_right (n * l) (mean_product n (D * D)), ap (λ z. z * ((n + D * D) * (n + D * D) * l)) i)

      mean_gt : (l n P k D : ℕ) → 0 < l → 0 < D → D ≡ (2 * k + 1) * P → D * D < n → (2 * k + 1) * (2 * P) * ((n + D * D) * l) < 2 * (2 * n * D * l)
      mean_gt l n P k D O Q e h = omega (arith, mul-lt-mul_of_pos_right h (mul-pos Q O), ap (λ z. z * (2 * (n + D * D) * l)) e)

      up_one : (k m : ℕ) → m ≡ 2 * k → suc m ≡ 2 * k + 1
      up_one k m e = omega arith

      some : (n D : ℕ) → 0 < D → 0 < n + D * D
      some n D h = omega (arith, mul-pos h h)

      over_square : (n N P : ℕ) → 0 < P → n ≡ N * (P * P) → N < suc m * suc m → n < suc m * P * (suc m * P)
      over_square n N P O j h = rw j (omega (arith, mul-lt-mul_of_pos_right h (mul-pos O O)))

      under_square : (n N P : ℕ) → 0 < P → n ≡ N * (P * P) → m * m < N → m * P * (m * P) < n
      under_square n N P O j h = rw j (omega (arith, mul-lt-mul_of_pos_right h (mul-pos O O)))

      -- a fraction that rounds to the nearest root and is at least the root, or at most
      by_below : (a c : ℕ) → 0 < c → mag x * (c * c) ≤ a * a * L → T (le (round binary64 false a c) (nearest_root m t)) → T (le (nearest_root m t) r) → nearest_root m t ≡ r
      by_below a c C h k o =
          let is = squeezed (mag x) (mag x * L) v t m refl p (round binary64 false a c) (round-fits binary64 false a c) (rooted_nearest.below a c C h) k in
          squeezed (mag x) (mag x * L) v t m refl p r R.fine.1 o (subst (λ z. T (le r z)) (sym is) (R.below a c C h))

      by_above : (a c : ℕ) → 0 < c → a * a * L ≤ mag x * (c * c) → T (le (nearest_root m t) (round binary64 false a c)) → T (le r (nearest_root m t)) → nearest_root m t ≡ r
      by_above a c C h k o =
          let is = squeezed (mag x) (mag x * L) v t m refl p (round binary64 false a c) (round-fits binary64 false a c) k (rooted_nearest.above a c C h) in
          squeezed (mag x) (mag x * L) v t m refl p r R.fine.1 (subst (λ z. T (le z r)) (sym is) (R.above a c C h)) o

      go : Last (v * 2 ^ 54) m → nearest_root m t ≡ r
      go (clear k e f g) =
          let n = mag x * L in
          let P = 2 ^ t in
          let Y = suc m * P in
          let d : rounded m t ≡ k * (2 * P) = rw (clear_is k m e, pow-succ' 2 t) refl in
          let C : 0 < 2 * Y * 2 ^ 1074 = mul-pos (mul-pos (lit< tt) (mul-pos (zero-lt-suc m) (pow_pos t))) (pow_pos 1074) in
          by_below (Y * Y + n) (2 * Y * 2 ^ 1074) C (mean_ge (mag x) (2 ^ 1074) n Y refl)
          (rw (clear_is k m e) (below_mid (Y * Y + n) (2 * Y * 2 ^ 1074) k (suc t) C f g p.few (rw (pow-succ' 2 t) (mean_lt (2 ^ 1074) n P k Y (pow_pos 1074) (ap (λ z. z * P) (up_one k m e)) (over_square n (v * 2 ^ 54) P (pow_pos t) p.is p.root.over)))))
          (R.above (rounded m t) (2 ^ 1074) (pow_pos 1074) (own_le (mag x) (2 ^ 1074) n (v * 2 ^ 54) P k (rounded m t) refl p.is e d p.root.under))
      go (set k e f g o) =
          let n = mag x * L in
          let P = 2 ^ t in
          let D = m * P in
          let d : rounded m t ≡ suc k * (2 * P) = rw (set_is k m e, pow-succ' 2 t) refl in
          let u = under_square n (v * 2 ^ 54) P (pow_pos t) p.is o in
          let M : 0 < D = mul-pos (rw e (omega arith)) (pow_pos t) in
          let C : 0 < (n + D * D) * 2 ^ 1074 = mul-pos (some n D M) (pow_pos 1074) in
          by_above (2 * n * D) ((n + D * D) * 2 ^ 1074) C (mean_le (mag x) (2 ^ 1074) n D refl)
          (rw (set_is k m e) (above_mid (2 * n * D) ((n + D * D) * 2 ^ 1074) k (suc t) C f (lt_trans (lt-suc_self k) g) p.few g (rw (pow-succ' 2 t) (mean_gt (2 ^ 1074) n P k D (pow_pos 1074) M (ap (λ z. z * P) e) u))))
          (R.below (rounded m t) (2 ^ 1074) (pow_pos 1074) (own_ge (mag x) (2 ^ 1074) n (v * 2 ^ 54) P k (rounded m t) refl p.is e d (le_of_lt p.root.over)))
