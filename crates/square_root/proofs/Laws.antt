-- The whole-number work of the square root: one digit after the other. Assumes nothing.
use Rattle.std.proofs.Common.{◌≡◌, ℕ, zero, suc, ◌+◌, ◌-◌, ◌*◌, ◌/◌, ◌%◌, ◌^◌, ◌<◌, ◌≤◌, refl, ap, ◌∙◌, pow-suc, arith, pow_pos}
use Rattle.square_root.specs.Digits.{Going, Nearest}
use Rattle.square_root.specs.declared.digits.Begun.{Begun}

pub start : (n : ℕ) → n < 2 ^ 54 → Going (n * 2 ^ 54) 54 (record { rest = n; trial = 2 ^ 53; step = 2 ^ 54 })
start n h = record { q = 0; weight = refl; tried = omega arith; left = omega arith; over = omega arith; fits = omega arith }

-- what the code asks of a root begun, so that nothing overflows
pub small : (N k : ℕ) (s : Begun) → Going N k s → (s.rest < 2 ^ 56) × (s.trial < 2 ^ 56) × (s.step ≤ 2 ^ 54) × (s.step / 4 ≤ s.trial)
small N k s G =
    let t = G.tried in
    (omega (arith, G.over, G.fits), omega (arith, G.fits), omega (arith, G.fits), omega arith)

-- ---- the next digit, from d = rest + rest - trial, which may have wrapped
module _ (N k : ℕ) (s : Begun) (G : Going N (suc k) s) (d : ℕ) (w : (d + s.trial) % 2 ^ 64 ≡ s.rest + s.rest) where
  both : s.step ≡ 2 ^ k + 2 ^ k
  both = let e : s.step ≡ 2 ^ k * 2 = G.weight ∙ pow-suc 2 k in omega arith

  half : s.step / 2 ≡ 2 ^ k
  half = let e = both in omega arith

  tries : s.trial ≡ G.q + G.q + s.step / 2
  tries = omega (arith, G.tried, both, half)

  -- below 2 ^ 63 it has not
  pub one : d < 2 ^ 63 → Going N k (record { rest = d; trial = s.trial - s.step / 4 + s.step; step = s.step / 2 })
  one b =
      let e = straight s.trial (s.rest + s.rest) w (omega (arith, tries, G.fits, both, half)) in
      record {
        q = G.q + s.step / 2;
        weight = half;
        tried = next s.trial G.q s.step (s.step / 2) (omega (arith, both, half)) tries;
        left = taken s.rest G.q s.step (s.step / 2) (omega (arith, both, half)) (omega (arith, e, tries)) G.left;
        over = below s.trial s.rest G.q s.step (s.step / 2) (omega (arith, both, half)) tries e G.over;
        fits = omega (arith, G.fits, both, half);
      }
    where
      next : (t q g h : ℕ) → g ≡ h + h → t ≡ q + q + h → t - g / 4 + g ≡ q + h + (q + h) + (h + 1) / 2
      next t q g h i j = omega arith

      below : (t r q g h : ℕ) → g ≡ h + h → t ≡ q + q + h → d + t ≡ r + r → r < q + q + g → d < q + h + (q + h) + h
      below t r q g h i j e o = omega arith

      straight : (t m : ℕ) → (d + t) % 2 ^ 64 ≡ m → t < 2 ^ 63 → d + t ≡ m
      straight t m v l = omega arith

      taken : (rest q r h : ℕ) → r ≡ h + h → d + (q + q + h) ≡ rest + rest → rest * r + q * q ≡ N → d * h + (q + h) * (q + h) ≡ N
      taken rest q r h s e f = omega (arith, ap (λ x. rest * x) s, ap (λ x. x * h) e)

  -- from there up it has
  pub nought : d < 2 ^ 64 → 2 ^ 63 ≤ d → Going N k (record { rest = s.rest + s.rest; trial = s.trial - s.step / 4; step = s.step / 2 })
  nought a b = record {
    q = G.q;
    weight = half;
    tried = omega (arith, tries, both, half);
    left = kept s.rest G.q s.step (s.step / 2) (omega (arith, both, half)) G.left;
    over = omega (arith, wrapped s.trial (s.rest + s.rest) w (omega (arith, G.over, G.fits)), tries);
    fits = omega (arith, G.fits, both, half);
  }
    where
      kept : (rest q r h : ℕ) → r ≡ h + h → rest * r + q * q ≡ N → (rest + rest) * h + q * q ≡ N
      kept rest q r h s f = omega (arith, ap (λ x. rest * x) s)

      wrapped : (t m : ℕ) → (d + t) % 2 ^ 64 ≡ m → m < 2 ^ 63 → m < t
      wrapped t m v l = omega arith

-- where the last weight is above 1 there is a digit more
abbrev pub Turning : ℕ → Begun → Type 0
Turning N s = (k : ℕ) × Going N k s

pub more : (N : ℕ) (s : Begun) → Turning N s → 1 < s.step → (k : ℕ) × Going N (suc k) s
more N s (zero, G) h = absurd (omega (arith, G.weight))
more N s (suc k, G) h = (k, G)

-- and its weight is lower
pub lower : (N k : ℕ) (s o : Begun) → Going N (suc k) s → Going N k o → o.step < s.step
lower N k s o G H = omega (arith, G.weight ∙ pow-suc 2 k, H.weight, pow_pos k)

-- with the digit of weight 1 they are all there
pub ended : (n k : ℕ) (s : Begun) → Going (n * 2 ^ 54) k s → s.step ≤ 1 → Nearest n ((s.trial + 1) / 4)
ended n k s G h = go s.rest G.q s.trial s.step G.tried G.left G.over (omega (arith, G.weight, pow_pos k)) h
  where
    go : (rest q t g : ℕ) → t ≡ q + q + (g + 1) / 2 → rest * g + q * q ≡ n * 2 ^ 54 → rest < q + q + g → 0 < g → g ≤ 1 → Nearest n ((t + 1) / 4)
    go rest q t zero i e o p h = absurd (omega arith)
    go rest q t (suc zero) i e o p h = record { m = q; floor = record { under = omega arith; over = omega arith }; half = omega arith }
    go rest q t (suc (suc g)) i e o p h = absurd (omega arith)
