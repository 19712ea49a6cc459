-- Finite sums of natural numbers, over one index and over two. Assumes nothing.
use mathlib.Core.Path.{◌≡◌, refl, sym, ap, ap₂, ◌∙◌}
use Prim.Native.Nat.{ℕ, zero, suc, ◌+◌, ◌*◌, ◌≤◌}
use native.Mathlib.Nat.{le_refl, le_trans, le_of_eq, add-le-add, le-add_right, zero-add, add-suc, suc-add, add-mul}
use native.Mathlib.Omega.{arith}

-- f 0 + .. + f n
unfoldable pub sum : (ℕ → ℕ) → ℕ → ℕ
sum f zero = f 0
sum f (suc n) = sum f n + f (suc n)

-- the sum over i + j = n
unfoldable pub diag : (ℕ → ℕ → ℕ) → ℕ → ℕ
diag f zero = f 0 0
diag f (suc n) = f 0 (suc n) + diag (λ i j. f (suc i) j) n

-- over i + j ≤ n, by rows
unfoldable pub tri : (ℕ → ℕ → ℕ) → ℕ → ℕ
unfolding sum
tri f zero = f 0 0
tri f (suc n) = sum (f 0) (suc n) + tri (λ i j. f (suc i) j) n

-- over i ≤ n, j ≤ m, by rows
unfoldable pub rect : (ℕ → ℕ → ℕ) → ℕ → ℕ → ℕ
unfolding sum
rect f zero m = sum (f 0) m
rect f (suc n) m = sum (f 0) m + rect (λ i j. f (suc i) j) n m

pub diag_last : (f : ℕ → ℕ → ℕ) (n : ℕ) → diag f (suc n) ≡ f (suc n) 0 + diag (λ i j. f i (suc j)) n
unfolding diag
diag_last f zero = omega arith
diag_last f (suc n) = omega (arith, diag_last (λ i j. f (suc i) j) n)

pub diag_ext : (f g : ℕ → ℕ → ℕ) (n : ℕ) → ((i j : ℕ) → i + j ≡ n → f i j ≡ g i j) → diag f n ≡ diag g n
unfolding diag
diag_ext f g zero h = h 0 0 refl
diag_ext f g (suc n) h = ap₂ (λ x y. x + y) (h 0 (suc n) (zero-add (suc n))) (diag_ext (λ i j. f (suc i) j) (λ i j. g (suc i) j) n (λ i j e. h (suc i) j (suc-add i j ∙ ap suc e)))

pub diag_add : (f g : ℕ → ℕ → ℕ) (n : ℕ) → diag (λ i j. f i j + g i j) n ≡ diag f n + diag g n
unfolding diag
diag_add f g zero = refl
diag_add f g (suc n) = omega (arith, diag_add (λ i j. f (suc i) j) (λ i j. g (suc i) j) n)

pub diag_mul : (c : ℕ) (f : ℕ → ℕ → ℕ) (n : ℕ) → diag (λ i j. c * f i j) n ≡ c * diag f n
unfolding diag
diag_mul c f zero = refl
diag_mul c f (suc n) = omega (arith, diag_mul c (λ i j. f (suc i) j) n)

pub tri_suc : (f : ℕ → ℕ → ℕ) (n : ℕ) → tri f (suc n) ≡ tri f n + diag f (suc n)
unfolding tri diag
tri_suc f zero = omega arith
tri_suc f (suc n) = omega (arith, tri_suc (λ i j. f (suc i) j) n)

pub sum_mono : (f : ℕ → ℕ) (n k : ℕ) → sum f n ≤ sum f (k + n)
unfolding sum
sum_mono f n zero = le_of_eq (ap (sum f) (sym (zero-add n)))
sum_mono f n (suc k) = rw suc-add (le_trans (sum_mono f n k) (le-add_right (sum f (k + n)) (f (suc (k + n)))))

pub tri_le_rect : (f : ℕ → ℕ → ℕ) (n k : ℕ) → tri f n ≤ rect f n (k + n)
unfolding tri rect
tri_le_rect f zero k = sum_mono (f 0) 0 k
tri_le_rect f (suc n) k = add-le-add (sum_mono (f 0) (suc n) k) (le_trans (tri_le_rect (λ i j. f (suc i) j) n (suc k)) (le_of_eq (ap (rect (λ i j. f (suc i) j) n) (suc-add k n ∙ sym (add-suc k n)))))

sum_le_tri : (f : ℕ → ℕ → ℕ) (m : ℕ) → sum (f 0) m ≤ tri f m
unfolding tri
sum_le_tri f zero = le_refl (f 0 0)
sum_le_tri f (suc m) = le-add_right (sum (f 0) (suc m)) (tri (λ i j. f (suc i) j) m)

pub rect_le_tri : (f : ℕ → ℕ → ℕ) (n m : ℕ) → rect f n m ≤ tri f (n + m)
unfolding tri rect
rect_le_tri f zero m = rw zero-add (sum_le_tri f m)
rect_le_tri f (suc n) m = rw suc-add (add-le-add (le_trans (sum_mono (f 0) m (suc n)) (le_of_eq (ap (sum (f 0)) (suc-add n m)))) (rect_le_tri (λ i j. f (suc i) j) n m))

pub sum_mul : (c : ℕ) (f : ℕ → ℕ) (n : ℕ) → sum (λ i. c * f i) n ≡ c * sum f n
unfolding sum
sum_mul c f zero = refl
sum_mul c f (suc n) = omega (arith, sum_mul c f n)

pub sum_first : (f : ℕ → ℕ) (n : ℕ) → sum f (suc n) ≡ f 0 + sum (λ i. f (suc i)) n
unfolding sum
sum_first f zero = refl
sum_first f (suc n) = omega (arith, sum_first f n)

-- a product of sums is the sum of the products
pub rect_mul : (u v : ℕ → ℕ) (n m : ℕ) → rect (λ i j. u i * v j) n m ≡ sum u n * sum v m
unfolding rect sum
rect_mul u v zero m = sum_mul (u 0) v m
rect_mul u v (suc n) m =
    ap₂ (λ x y. x + y) (sum_mul (u 0) v m) (rect_mul (λ i. u (suc i)) v n m)
    ∙ sym (add-mul (u 0) (sum (λ i. u (suc i)) n) (sum v m))
    ∙ ap (λ x. x * sum v m) (sym (sum_first u n))
