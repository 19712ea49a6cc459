-- A carry that runs over cells from the lowest to the highest, kept K too high, tells at the end whether the number is at least 0.
-- Assumes nothing.
use mathlib.Core.Path.{◌≡◌, refl, sym, ap, ap₂, ◌∙◌}
use mathlib.Core.Bool.{Bool, true, false, cond}
use mathlib.Core.List.{List, [], ◌∷◌}
use Prim.Native.Nat.{ℕ, zero, suc, ◌+◌, ◌-◌, ◌*◌, ◌/◌, ◌^◌, ◌≤◌, ◌<◌}
use native.Mathlib.Nat.{add-mul-div_right, div-div-eq-div-mul, mul-div_cancel, le-div_iff_mul-le, pow-zero, pow-suc, one-le-pow, add_assoc, add-suc, add-zero, zero-mul}
use native.Mathlib.Omega.{arith}
use lib.Pow.{pow-add}
use lib.Dec.{T, leb, ltb, leb→le, le→leb, lt→ltb}
use lib.Arith.{le→nltb}
use lib.Ieee.Bits.{is_true, is_false}
use lib.ListN.{length, get_or}
use Rattle.exact.specs.Sums.{pl, mi}

pub same : (b c : Bool) → (T b → T c) → (T c → T b) → b ≡ c
same true true f g = refl
same true false f g = absurd (f tt)
same false true f g = absurd (g tt)
same false false f g = refl

-- the number whose cell of weight B ^ i is f i, up to the cell before n
abbrev pub sum : ℕ → (ℕ → ℕ) → ℕ → ℕ
sum B f zero = 0
sum B f (suc i) = sum B f i + f i * B ^ i

weight : (B i : ℕ) → 0 < B → 0 < B ^ i
weight B i o = one-le-pow i B o

-- the carry into cell i, kept K too high
abbrev pub carry : ℕ → ℕ → (ℕ → ℕ) → ℕ → ℕ
carry K B f i = (K + sum B f i) / B ^ i

pub carried : (K B : ℕ) → 0 < B → (f : ℕ → ℕ) (i : ℕ) → (carry K B f i + f i) / B ≡ carry K B f (suc i)
carried K B o f i =
    ap (λ (y : ℕ). y / B) (sym (add-mul-div_right (K + sum B f i) (f i) (weight B i o)))
    ∙ div-div-eq-div-mul (K + sum B f i + f i * B ^ i) (B ^ i) B
    ∙ ap₂ ◌/◌ (add_assoc K (sum B f i) (f i * B ^ i)) (sym (pow-suc B i))

-- f is p - n + b, kept K * (B - 1) too high
module _ (K B : ℕ) (o : 0 < B) (f p n b : ℕ → ℕ) (h : (i : ℕ) → f i + n i + K ≡ K * B + p i + b i) where
  pub balance : (N : ℕ) → K + sum B f N + sum B n N ≡ K * B ^ N + sum B p N + sum B b N
  balance zero = rw (pow-zero B) (omega arith)
  balance (suc i) = rw (pow-suc B i) (step (B ^ i) (sum B f i) (sum B n i) (sum B p i) (sum B b i) (f i) (n i) (p i) (b i) (balance i) (h i))
    where
      step : (P F N G M x y z w : ℕ) → K + F + N ≡ K * P + G + M → x + y + K ≡ K * B + z + w → K + (F + x * P) + (N + y * P) ≡ K * (P * B) + (G + z * P) + (M + w * P)
      step P F N G M x y z w e k = omega (arith, ap (λ (v : ℕ). v * P) k)

  pub decides : (N : ℕ) → leb K (carry K B f N) ≡ leb (sum B n N) (sum B p N + sum B b N)
  decides N = same (leb K (carry K B f N)) (leb (sum B n N) (sum B p N + sum B b N))
      (λ t. le→leb (sum B n N) (sum B p N + sum B b N) (there ((le-div_iff_mul-le {k = B ^ N} {x = K} {y = K + sum B f N} (weight B N o)).0 (leb→le K (carry K B f N) t)) (balance N)))
      (λ t. le→leb K (carry K B f N) ((le-div_iff_mul-le {k = B ^ N} {x = K} {y = K + sum B f N} (weight B N o)).1 (back (leb→le (sum B n N) (sum B p N + sum B b N) t) (balance N))))
    where
      there : K * B ^ N ≤ K + sum B f N → K + sum B f N + sum B n N ≡ K * B ^ N + sum B p N + sum B b N → sum B n N ≤ sum B p N + sum B b N
      there a e = omega arith

      back : sum B n N ≤ sum B p N + sum B b N → K + sum B f N + sum B n N ≡ K * B ^ N + sum B p N + sum B b N → K * B ^ N ≤ K + sum B f N
      back a e = omega arith

  -- below the lowest cell the carry stays K
  pub starts : (i : ℕ) → sum B p i ≡ 0 → sum B n i ≡ 0 → sum B b i ≡ 0 → K ≡ carry K B f i
  starts i e g k = sym (ap (λ (y : ℕ). y / B ^ i) (all (balance i)) ∙ mul-div_cancel K (weight B i o))
    where
      all : K + sum B f i + sum B n i ≡ K * B ^ i + sum B p i + sum B b i → K + sum B f i ≡ K * B ^ i
      all q = omega arith

-- ---- sums of cells
pub sum_zero : (B : ℕ) (f : ℕ → ℕ) (n : ℕ) → ((i : ℕ) → i < n → f i ≡ 0) → sum B f n ≡ 0
sum_zero B f zero h = refl
sum_zero B f (suc n) h = ap₂ ◌+◌ (sum_zero B f n (λ i k. h i (omega arith))) (ap (λ (x : ℕ). x * B ^ n) (h n (omega arith)) ∙ zero-mul (B ^ n))

pub sum_add : (B : ℕ) (f g : ℕ → ℕ) (n : ℕ) → sum B (λ i. f i + g i) n ≡ sum B f n + sum B g n
sum_add B f g zero = refl
sum_add B f g (suc n) = step (B ^ n) _ _ _ (f n) (g n) (sum_add B f g n)
  where
    step : (P s t u x y : ℕ) → s ≡ t + u → s + (x + y) * P ≡ t + x * P + (u + y * P)
    step P s t u x y e = omega arith

pub sum_pl : (B : ℕ) (s : Bool) (f : ℕ → ℕ) (n : ℕ) → sum B (λ i. pl s (f i)) n ≡ pl s (sum B f n)
sum_pl B false f n = refl
sum_pl B true f n = sum_zero B (λ i. 0) n (λ i h. refl)

pub sum_mi : (B : ℕ) (s : Bool) (f : ℕ → ℕ) (n : ℕ) → sum B (λ i. mi s (f i)) n ≡ mi s (sum B f n)
sum_mi B true f n = refl
sum_mi B false f n = sum_zero B (λ i. 0) n (λ i h. refl)

-- the lowest cell by itself
front : (B : ℕ) (f : ℕ → ℕ) (n : ℕ) → sum B f (suc n) ≡ f 0 + sum B (λ i. f (suc i)) n * B
front B f zero = rw (pow-zero B) (omega arith)
front B f (suc n) = rw (front B f n, pow-suc B n) (omega arith)

abbrev pub horner : ℕ → List ℕ → ℕ
horner B [] = 0
horner B (x ∷ xs) = x + horner B xs * B

listed : (B : ℕ) (w : List ℕ) (n : ℕ) → length w ≤ n → sum B (λ i. get_or w i 0) n ≡ horner B w
listed B [] n h = sum_zero B (λ i. get_or [] i 0) n (λ i k. refl)
listed B (x ∷ w) zero h = absurd (omega arith)
listed B (x ∷ w) (suc n) h = front B (λ i. get_or (x ∷ w) i 0) n ∙ ap (λ (y : ℕ). x + y * B) (listed B w n (omega arith))

-- a list of cells, the first at the place q
abbrev pub placed : List ℕ → ℕ → ℕ → ℕ
placed w q i = cond (ltb i q) 0 (get_or w (i - q) 0)

placed_below : (w : List ℕ) (q i : ℕ) → i < q → placed w q i ≡ 0
placed_below w q i h = ap (λ (b : Bool). cond b 0 (get_or w (i - q) 0)) (is_true (ltb i q) (lt→ltb i q h))

placed_above : (w : List ℕ) (q k : ℕ) → placed w q (q + k) ≡ get_or w k 0
placed_above w q k = ap (λ (b : Bool). cond b 0 (get_or w (q + k - q) 0)) (is_false (ltb (q + k) q) (le→nltb (q + k) q (omega arith))) ∙ ap (λ (j : ℕ). get_or w j 0) (omega arith)

pub sum_below : (B : ℕ) (w : List ℕ) (q n : ℕ) → n ≤ q → sum B (placed w q) n ≡ 0
sum_below B w q n h = sum_zero B (placed w q) n (λ i k. placed_below w q i (omega arith))

sum_above : (B : ℕ) (w : List ℕ) (q k : ℕ) → sum B (placed w q) (q + k) ≡ sum B (λ i. get_or w i 0) k * B ^ q
sum_above B w q zero = ap (sum B (placed w q)) (add-zero q) ∙ sum_below B w q q (omega arith) ∙ sym (zero-mul (B ^ q))
sum_above B w q (suc k) =
    ap (sum B (placed w q)) (add-suc q k)
    ∙ ap₂ (λ (x y : ℕ). x + y * B ^ (q + k)) (sum_above B w q k) (placed_above w q k)
    ∙ step (B ^ q) (B ^ k) (B ^ (q + k)) (sum B (λ i. get_or w i 0) k) (get_or w k 0) (pow-add B q k)
  where
    step : (P Q R s x : ℕ) → R ≡ P * Q → s * P + x * R ≡ (s + x * Q) * P
    step P Q R s x e = omega (arith, ap (λ (v : ℕ). x * v) e)

pub sum_placed : (B : ℕ) (w : List ℕ) (q n : ℕ) → q + length w ≤ n → sum B (placed w q) n ≡ horner B w * B ^ q
sum_placed B w q n h =
    ap (sum B (placed w q)) (up h) ∙ sum_above B w q (n - q) ∙ ap (λ (x : ℕ). x * B ^ q) (listed B w (n - q) (rest h))
  where
    up : q + length w ≤ n → n ≡ q + (n - q)
    up h = omega arith

    rest : q + length w ≤ n → length w ≤ n - q
    rest h = omega arith
