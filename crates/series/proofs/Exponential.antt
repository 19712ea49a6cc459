-- The products of the partial sums of the exponential series.
use mathlib.Core.Path.{◌≡◌, sym, ap, ap₂, ◌∙◌, subst}
use Prim.Native.Nat.{ℕ, zero, suc, ◌+◌, ◌*◌, ◌/◌, ◌^◌, ◌≤◌, ◌<◌, ◌∣◌}
use native.Mathlib.Nat.{mul-mul-mul_comm, dvd_refl, dvd-mul_right_of_dvd, le_dest, div-mul_cancel, one-mul, mul-one, div-one, eq_of_mul-eq-mul_right, mul_right_comm, le_refl, le_trans, le_of_eq, mul-pos, zero-lt-suc, eq_of_mul-eq-mul_left, mul_comm, mul_assoc, mul_left_comm, add_comm, mul-add, add-mul, pow-succ', pow-zero, le_of_mul-le-mul_left, suc-add, zero-add, mul-le-mul_right}
use native.Mathlib.Omega.{arith}
use Rattle.series.proofs.FiniteSums.{sum, diag, tri, rect, diag_last, diag_ext, diag_add, diag_mul, tri_suc, tri_le_rect, rect_le_tri, rect_mul}
use Rattle.series.specs.Exponential.{den, num}

-- ---- terms: sequences with u (k + 1) (k + 1) q = p u k, for k < N
module _ (q N : ℕ) (hq : 0 < q) (p r : ℕ) (u v w : ℕ → ℕ) (c : ℕ)
    (hu : (k : ℕ) → k < N → suc k * q * u (suc k) ≡ p * u k)
    (hv : (k : ℕ) → k < N → suc k * q * v (suc k) ≡ r * v k)
    (hw : (k : ℕ) → k < N → suc k * q * w (suc k) ≡ (p + r) * w k)
    (h0 : u 0 * v 0 ≡ c * w 0) where
  F : ℕ → ℕ → ℕ
  F i j = u i * v j

  -- each term of the diagonal, times its first index, or its second
  by_first : (n : ℕ) → n < N → diag (λ i j. i * q * F i j) (suc n) ≡ p * diag F n
  unfolding diag F
  by_first n l =
      let e : diag (λ i j. suc i * q * F (suc i) j) n ≡ diag (λ i j. p * F i j) n = diag_ext _ _ n (λ i j e. omega (arith, ap (λ x. x * v j) (hu i (omega arith)))) in
      omega (arith, e, diag_mul p F n)

  by_second : (n : ℕ) → n < N → diag (λ i j. j * q * F i j) (suc n) ≡ r * diag F n
  unfolding diag F
  by_second n l =
      let e : diag (λ i j. suc j * q * F i (suc j)) n ≡ diag (λ i j. r * F i j) n = diag_ext _ _ n (λ i j e. omega (arith, ap (λ x. u i * x) (hv j (omega arith)))) in
      omega (arith, e, diag_mul r F n, diag_last (λ i j. j * q * F i j) n)

  binomial : (n : ℕ) → n ≤ N → diag F n ≡ c * w n
  unfolding diag F
  binomial zero l = h0
  binomial (suc n) l = eq_of_mul-eq-mul_left (suc n * q) (mul-pos (zero-lt-suc n) hq) _ _
      (sym (diag_mul (suc n * q) F (suc n))
      ∙ diag_ext (λ i j. suc n * q * F i j) (λ i j. i * q * F i j + j * q * F i j) (suc n) (λ i j e. omega (arith, ap (λ x. x * q * F i j) (sym e)))
      ∙ diag_add (λ i j. i * q * F i j) (λ i j. j * q * F i j) (suc n)
      ∙ ap₂ (λ x y. x + y) (by_first n l) (by_second n l)
      ∙ sym (add-mul p r (diag F n))
      ∙ ap (λ x. (p + r) * x) (binomial n (omega arith))
      ∙ mul_left_comm (p + r) c (w n) ∙ ap (λ x. c * x) (sym (hw n l)) ∙ mul_left_comm c (suc n * q) (w (suc n)))

  tri_binomial : (n : ℕ) → n ≤ N → tri F n ≡ c * sum w n
  unfolding tri sum F
  tri_binomial zero l = h0
  tri_binomial (suc n) l = tri_suc F n ∙ ap₂ (λ x y. x + y) (tri_binomial n (omega arith)) (binomial (suc n) l) ∙ sym (mul-add c (sum w n) (w (suc n)))

  pub upper : (n : ℕ) → n ≤ N → c * sum w n ≤ sum u n * sum v n
  unfolding F
  upper n l = le_trans (le_of_eq (sym (tri_binomial n l))) (le_trans (tri_le_rect F n 0) (le_of_eq (ap (rect F n) (zero-add n) ∙ rect_mul u v n n)))

  pub lower : (n m : ℕ) → n + m ≤ N → sum u n * sum v m ≤ c * sum w (n + m)
  unfolding F
  lower n m l = le_trans (le_of_eq (sym (rect_mul u v n m))) (le_trans (rect_le_tri F n m) (le_of_eq (tri_binomial (n + m) l)))

-- ---- the terms themselves, over the common denominator den q N
pub den_pos : (q : ℕ) → 0 < q → (n : ℕ) → 0 < den q n
unfolding den
den_pos q h zero = zero-lt-suc 0
den_pos q h (suc n) = mul-pos (den_pos q h n) (mul-pos (zero-lt-suc n) h)

den_dvd : (q k d : ℕ) → den q k ∣ den q (d + k)
unfolding den
den_dvd q k zero = rw zero-add (dvd_refl (den q k))
den_dvd q k (suc d) = rw suc-add (dvd-mul_right_of_dvd (den q k) (den_dvd q k d) (suc (d + k) * q))

den_dvd_le : (q k N : ℕ) → k ≤ N → den q k ∣ den q N
den_dvd_le q k N h = let e = le_dest h in subst (λ (x : ℕ). den q k ∣ den q x) (add_comm e.0 k ∙ e.1) (den_dvd q k e.0)

-- (p / q) ^ k / k! over den q N
term : ℕ → ℕ → ℕ → ℕ → ℕ
term p q N k = p ^ k * (den q N / den q k)

term_den : (p q N k : ℕ) → k ≤ N → term p q N k * den q k ≡ p ^ k * den q N
unfolding term
term_den p q N k h = mul_assoc (p ^ k) (den q N / den q k) (den q k) ∙ ap (λ x. p ^ k * x) (div-mul_cancel (den q k) (den_dvd_le q k N h))

term_zero : (p q N : ℕ) → term p q N 0 ≡ den q N
unfolding term den
term_zero p q N = simp (pow-zero, one-mul, div-one)

term_step : (p q N : ℕ) → 0 < q → (k : ℕ) → k < N → suc k * q * term p q N (suc k) ≡ p * term p q N k
unfolding den
term_step p q N hq k h = eq_of_mul-eq-mul_right (den q k) (den_pos q hq k) _ _
    (mul_right_comm (suc k * q) (term p q N (suc k)) (den q k)
    ∙ mul_comm (suc k * q * den q k) (term p q N (suc k))
    ∙ ap (λ x. term p q N (suc k) * x) (mul_comm (suc k * q) (den q k))
    ∙ term_den p q N (suc k) h
    ∙ ap (λ x. x * den q N) (pow-succ' p k)
    ∙ mul_assoc p (p ^ k) (den q N)
    ∙ ap (λ x. p * x) (sym (term_den p q N k (omega arith)))
    ∙ sym (mul_assoc p (term p q N k) (den q k)))

sum_den : (p q N n : ℕ) → n ≤ N → sum (term p q N) n * den q n ≡ num p q n * den q N
unfolding sum den num
sum_den p q N zero h = mul-one (term p q N 0) ∙ term_zero p q N ∙ sym (one-mul (den q N))
sum_den p q N (suc n) h = omega (arith, ap (λ x. x * (suc n * q)) (sum_den p q N n (omega arith)), term_den p q N (suc n) h)

sum_all : (p q N : ℕ) → 0 < q → sum (term p q N) N ≡ num p q N
sum_all p q N hq = eq_of_mul-eq-mul_right (den q N) (den_pos q hq N) _ _ (sum_den p q N N (le_refl N))

-- ---- E_n (a + b) ≤ E_n a * E_n b, and E_n a * E_m b ≤ E_(n + m) (a + b), for a = p / q and b = r / q
module _ (p r q : ℕ) (hq : 0 < q) where
  at_zero : (N : ℕ) → term p q N 0 * term r q N 0 ≡ den q N * term (p + r) q N 0
  at_zero N = ap₂ (λ x y. x * y) (term_zero p q N) (term_zero r q N ∙ sym (term_zero (p + r) q N))

  pub exp_add_le : (n : ℕ) → num (p + r) q n * den q n ≤ num p q n * num r q n
  exp_add_le n =
      let h = upper q n hq p r (term p q n) (term r q n) (term (p + r) q n) (den q n) (term_step p q n hq) (term_step r q n hq) (term_step (p + r) q n hq) (at_zero n) n (le_refl n) in
      omega (arith, rw (sum_all p q n hq, sum_all r q n hq, sum_all (p + r) q n hq) at h)

  pub exp_le_add : (n m : ℕ) → num p q n * num r q m * den q (n + m) ≤ num (p + r) q (n + m) * (den q n * den q m)
  exp_le_add n m =
      let N = n + m in
      let h = lower q N hq p r (term p q N) (term r q N) (term (p + r) q N) (den q N) (term_step p q N hq) (term_step r q N hq) (term_step (p + r) q N hq) (at_zero N) n m (le_refl N) in
      let a = sum_den p q N n (omega arith) in
      let b = sum_den r q N m (omega arith) in
      let k = mul-le-mul_right (den q n * den q m) (rw (sum_all (p + r) q N hq) at h) in
      let e = mul-mul-mul_comm (sum (term p q N) n) (sum (term r q N) m) (den q n) (den q m) ∙ ap₂ (λ x y. x * y) a b in
      le_of_mul-le-mul_left {k = den q N} (omega (arith, rw e at k)) (den_pos q hq N)
