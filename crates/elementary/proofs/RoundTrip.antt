-- Our logarithm of our exponential: the two distances add up, and exp's answers between -40 and 40 lie in ln's range.
use mathlib.Core.Path.{◌≡◌, refl, subst}
use mathlib.Core.Bool.{true, false}
use Prim.Native.Nat.{ℕ, zero, suc, ◌+◌, ◌-◌, ◌*◌, ◌^◌, ◌≤◌, ◌<◌}
use native.Mathlib.Nat.{mul-pos, zero-lt-suc, one-mul, mul-le-mul_right}
use native.Mathlib.Omega.{arith, by_contra}
use lib.Dec.{lit<, lit≤}
use lib.IntN.{ℤ, pos, negsuc, ◌+ℤ◌, ◌*ℤ◌, ◌-ℤ◌}
use lib.Ieee as Ieee
use lib.Ieee.{Float, of_bits, fits}
use Rattle.exact.specs.Units.{L, mag, sgn, Fin64}
use Rattle.exact.proofs.Units.{L_pos}
use Rattle.exact.specs.Integers.{p, n, ◌≤ᶻ◌}
use Rattle.exact.proofs.Integers.{abs_is}
use Rattle.exact.specs.Value.{val}
use Rattle.exact.proofs.Value.{abs_val, abs_near}
use Rattle.exact.proofs.Distances.{le_is}
use Rattle.series.specs.Exponential.{num, den}
use Rattle.series.proofs.Exponential.{den_pos}
use Rattle.series.specs.Remainder.{Above, Under}
use Rattle.series.proofs.Remainder.{above}
use Rattle.series.proofs.Bounds.{above_mono, above_weak, above_pow, under_add, under_mono, one_plus}
use Rattle.series.proofs.Scale.{above_scale, under_scale}
use Rattle.series.proofs.ExpNear as exp
use Rattle.series.specs.ExpNear.{AtMost, AtLeast, ExpNear}
use Rattle.series.proofs.ExpNear.{at_most_weak, at_least_weak}
use Rattle.series.proofs.LogNear as log
use Rattle.series.specs.LogNear.{LogNear}
use Rattle.series.proofs.LogNear.{at_most, at_least, low_parts, high_parts}
use Rattle.answers.specs.Range.{in_range}
use Rattle.exponential.specs.Worked as exponential
use Rattle.exponential.proofs.Near.{exp_near, sized_ranged}
use Rattle.logarithm.specs.Worked as logarithm
use Rattle.logarithm.proofs.Laws.{ln_near}
use Rattle.elementary.specs.RoundTrip.{Back, ReturnsOurs, InBoth, RoundTrip}

-- ---- a bound at z / q, and u / w ≤ exp (b / (q c)), bound exp b below and b above, over the denominator q c
lower : (z z' : ℤ) (b q c x y u w : ℕ) → 0 < c → 0 < q * c → AtMost z q x y → Under b (q * c) u w → p z' + b + n z * c ≤ p z * c + n z'
    → AtMost z' (q * c) (x * w) (y * u)
lower (pos a) z' b q c x y u w hc hq h g e = at_most z' (a * c) b (q * c) x y u w hq (above_scale a q c x y h) g (omega arith)
lower (negsuc k) (pos a) b q c x y u w hc hq h g e = absurd (omega (arith, mul-pos (zero-lt-suc k) hc))
lower (negsuc k) (negsuc j) b q c x y u w hc hq h g e =
    under_mono (suc k * c + b) (suc j) (q * c) (y * u) (x * w) (omega arith) (under_add (suc k * c) b (q * c) y x u w hq (under_scale (suc k) q c y x h) g)

higher : (z z' : ℤ) (b q c x y u w : ℕ) → 0 < c → 0 < q * c → AtLeast z q x y → Under b (q * c) u w → p z * c + b + n z' ≤ p z' + n z * c
    → AtLeast z' (q * c) (u * x) (w * y)
higher (pos a) (pos j) b q c x y u w hc hq h g e =
    under_mono (b + a * c) j (q * c) (u * x) (w * y) (omega arith) (under_add b (a * c) (q * c) u w x y hq g (under_scale a q c x y h))
higher (pos a) (negsuc j) b q c x y u w hc hq h g e = absurd (omega arith)
higher (negsuc k) z' b q c x y u w hc hq h g e = at_least z' b (suc k * c) (q * c) u w y x hq g (above_scale (suc k) q c y x h) (omega arith)

-- ---- the two distances add up
-- an exponential is above 0
positive : (z : ℤ) (m y : ℕ) → 0 < y → AtMost z L (m * 2 ^ 45) y → 0 < m
unfolding num den
positive (pos a) m y h b = let k = b 0 in omega arith
positive (negsuc a) m y h (j, b) = go m (den L j) (num (suc a) L j) (den_pos L L_pos j) b
  where
    go : (m d k : ℕ) → 0 < d → y * d ≤ k * (m * 2 ^ 45) → 0 < m
    go zero d k g l = absurd (omega (arith, mul-pos h g))
    go (suc m) d k g l = omega arith

-- 1 ≤ (1 - h) (1 + 2 h), and 1 + h itself, for an h of 1 / P, where o is P - 1
shrink : (m l P o : ℕ) → P ≡ o + 1 → 1 ≤ o → m * P * (l * P) * l ≤ m * (l * o * (l * P + 2 * l))
shrink m l P o e h = rw e (omega (arith, mul-le-mul_right (m * l * l) h))

grow : (m l P : ℕ) → m * (l * P * (l * (P + 1))) ≤ (l * P + l) * (m * P) * l
grow m l P = omega arith

module _ (e r v : Float) (E : ExpNear e r) (N : LogNear r v) where
  q_pos : 0 < L * 2 ^ 45
  q_pos = mul-pos L_pos (lit< {m = 0} {n = 2 ^ 45} tt)

  some : 0 < mag r
  some = positive (val e) (mag r) (L * (2 ^ 45 - 1)) (mul-pos L_pos (lit< {m = 0} {n = 2 ^ 45 - 1} tt)) E.above

  -- exp (e - 2^-44) ≤ r ≤ exp (e + 2^-45)
  low : AtMost (val e *ℤ pos (2 ^ 45) -ℤ pos (2 * L)) (L * 2 ^ 45) (mag r) L
  low =
      at_most_weak (val e *ℤ pos (2 ^ 45) -ℤ pos (2 * L)) (L * 2 ^ 45) (mag r * 2 ^ 45 * (L * 2 ^ 45)) (L * (2 ^ 45 - 1) * (L * 2 ^ 45 + 2 * L)) (mag r) L
      (mul-pos (mul-pos some (lit< {m = 0} {n = 2 ^ 45} tt)) q_pos) (omega (arith, mul-pos L_pos L_pos)) (shrink (mag r) L (2 ^ 45) (2 ^ 45 - 1) refl (lit≤ tt))
      (lower (val e) (val e *ℤ pos (2 ^ 45) -ℤ pos (2 * L)) (2 * L) L (2 ^ 45) (mag r * 2 ^ 45) (L * (2 ^ 45 - 1)) (L * 2 ^ 45 + 2 * L) (L * 2 ^ 45)
      (lit< {m = 0} {n = 2 ^ 45} tt) q_pos E.above (one_plus (2 * L) (L * 2 ^ 45)) (omega (arith, low_parts (val e) (2 ^ 45) (2 * L))))

  high : AtLeast (val e *ℤ pos (2 ^ 45) +ℤ pos L) (L * 2 ^ 45) (mag r) L
  high =
      at_least_weak (val e *ℤ pos (2 ^ 45) +ℤ pos L) (L * 2 ^ 45) ((L * 2 ^ 45 + L) * (mag r * 2 ^ 45)) (L * 2 ^ 45 * (L * (2 ^ 45 + 1))) (mag r) L
      (omega (arith, mul-pos L_pos some)) (omega (arith, mul-pos L_pos L_pos)) (grow (mag r) L (2 ^ 45))
      (higher (val e) (val e *ℤ pos (2 ^ 45) +ℤ pos L) L L (2 ^ 45) (mag r * 2 ^ 45) (L * (2 ^ 45 + 1)) (L * 2 ^ 45 + L) (L * 2 ^ 45)
      (lit< {m = 0} {n = 2 ^ 45} tt) q_pos E.below (one_plus L (L * 2 ^ 45)) (omega (arith, high_parts (val e) (2 ^ 45) L)))

  back : Back e v
  back =
      record {
        fine = N.fine;
        near = abs_near (val v) (val e) (2 ^ 43) L (close (val v) (val e) L
            (log.ordered (val v *ℤ pos (2 ^ 45) -ℤ pos L) (val e *ℤ pos (2 ^ 45) +ℤ pos L) (L * 2 ^ 45) (mag r) L q_pos some L_pos N.low high)
            (log.ordered (val e *ℤ pos (2 ^ 45) -ℤ pos (2 * L)) (val v *ℤ pos (2 ^ 45) +ℤ pos L) (L * 2 ^ 45) (mag r) L q_pos some L_pos low N.high));
      }
    where
      close : (a b : ℤ) (l : ℕ) → a *ℤ pos (2 ^ 45) -ℤ pos l ≤ᶻ b *ℤ pos (2 ^ 45) +ℤ pos l → b *ℤ pos (2 ^ 45) -ℤ pos (2 * l) ≤ᶻ a *ℤ pos (2 ^ 45) +ℤ pos l
          → ((p a + n b) * 2 ^ 43 ≤ (p b + n a) * 2 ^ 43 + l) × ((p b + n a) * 2 ^ 43 ≤ (p a + n b) * 2 ^ 43 + l)
      close a b l h k =
          (omega (arith, low_parts a (2 ^ 45) l, high_parts b (2 ^ 45) l), omega (arith, low_parts b (2 ^ 45) (2 * l), high_parts a (2 ^ 45) l))

-- ---- exp between -40 and 40
-- exp 40 ≤ 2^59, by exp 1 ≤ 11 / 4
most : Above 40 1 (2 ^ 59) 1
unfolding num den
most =
    above_weak 40 1 (11 ^ 40) (4 ^ 40) (2 ^ 59) 1 (lit< tt) (lit≤ tt)
    (above_pow 1 1 11 4 (lit< tt) (above 1 1 4 11 4 (lit< tt) (lit≤ tt) (lit≤ tt)) 40)

up_to : (k : ℕ) → k ≤ 40 * L → Above k L (2 ^ 59) 1
up_to k h = above_mono k (40 * L) L (2 ^ 59) 1 h (subst (λ q. Above (40 * L) q (2 ^ 59) 1) (one-mul L) (above_scale 40 1 L (2 ^ 59) 1 most))

least : (k : ℕ) → Under k L 1 (2 ^ 59)
unfolding num den
least k = (0, lit≤ tt)

-- 2^-59 ≤ exp (z / L) ≤ 2^59
within : (z : ℤ) → p z + n z ≤ 40 * L → AtMost z L (2 ^ 59) 1 × AtLeast z L 1 (2 ^ 59)
within (pos k) h = (up_to k (omega arith), least k)
within (negsuc k) h = (least (suc k), up_to (suc k) (omega arith))

-- below twice Q, and above half its inverse, where P is 2^45 and o is P - 1
below : (m l P Q : ℕ) → 2 ≤ P → 0 < Q → 0 < l → m * P * 1 ≤ Q * (l * (P + 1)) → m < 2 * Q * l
below m l P Q k c o h = by_contra (suc m) (2 * Q * l) (λ g. let a : 2 * Q * l ≤ m = omega arith in omega (arith, mul-le-mul_right P a, mul-le-mul_right (Q * l) k, mul-pos c o))

over : (m l o Q : ℕ) → 2 ≤ o → 0 < l → 1 * (l * o) ≤ m * (o + 1) * Q → l < 2 * Q * m
over m l o Q k c h = by_contra (suc l) (2 * Q * m) (λ g. let a : 2 * Q * m ≤ l = omega arith in omega (arith, mul-le-mul_right o a, mul-le-mul_right (Q * m) k, mul-le-mul_right l k))

small : (e r : Float) → mag e ≤ 40 * L → ExpNear e r → (mag r < 2 ^ 60 * L) × (L < 2 ^ 60 * mag r)
small e r h E =
    let w = within (val e) (omega (arith, abs_is (val e), abs_val e)) in (
      below (mag r) L (2 ^ 45) (2 ^ 59) (lit≤ tt) (lit< tt) L_pos
          (exp.ordered (val e) L (mag r * 2 ^ 45) (L * (2 ^ 45 + 1)) (2 ^ 59) 1 L_pos E.below w.0),
      over (mag r) L (2 ^ 45 - 1) (2 ^ 59) (lit≤ tt) L_pos
          (exp.ordered (val e) L 1 (2 ^ 59) (mag r * 2 ^ 45) (L * (2 ^ 45 - 1)) L_pos w.1 E.above),
    )

-- ---- a number between the ends of a range is in it
between : (low high x : Float) → Fin64 low → Fin64 high → Fin64 x → (val x ≤ᶻ val low → ⊥) → (val high ≤ᶻ val x → ⊥) → in_range low high x ≡ true
between low high x f g i h k = rw (le_is low x f i h, le_is x high i g k) refl

ln_ends : (val logarithm.low ≡ pos (mag logarithm.low)) × (2 ^ 60 * mag logarithm.low ≡ L) × (val logarithm.high ≡ pos (2 ^ 60 * L)) × Fin64 logarithm.low × Fin64 logarithm.high
unfolding val mag L of_bits fits
ln_ends = (refl, refl, refl, (tt, tt), (tt, tt))

by_exp : (e : Float) → Fin64 e → mag e ≤ 40 * L → in_range exponential.low exponential.high e ≡ true
by_exp e f h = sized_ranged e f (omega arith)

plain : (x : Float) → sgn x ≡ false → val x ≡ pos (mag x)
unfolding val
plain x s = rw s refl

by_ln : (e r : Float) → mag e ≤ 40 * L → ExpNear e r → in_range logarithm.low logarithm.high r ≡ true
by_ln e r h E =
    let b = small e r h E in
    let u = plain r E.sign in
    between logarithm.low logarithm.high r ln_ends.3 ln_ends.4 E.fine
    (λ k. under (mag r) (mag logarithm.low) L b.1 ln_ends.1 (rw (u, ln_ends.0) at k))
    (λ k. over (mag r) L b.0 (rw (u, ln_ends.2) at k))
  where
    under : (m a l : ℕ) → l < 2 ^ 60 * m → 2 ^ 60 * a ≡ l → pos m ≤ᶻ pos a → ⊥
    under m a l h e k = omega arith

    over : (m l : ℕ) → m < 2 ^ 60 * l → pos (2 ^ 60 * l) ≤ᶻ pos m → ⊥
    over m l h k = omega arith

in_both : (e : Float) → Fin64 e → mag e ≤ 40 * L → InBoth e
in_both e f h = let r = by_exp e f h in record { by_exp = r; by_ln = by_ln e (exponential.exp_of e) h (exp_near e f.1 r) }

ours : ReturnsOurs
ours e f i j =
    let E = exp_near e f i in
    back e (exponential.exp_of e) (logarithm.ln_of (exponential.exp_of e)) E (ln_near (exponential.exp_of e) E.fine.1 j)

pub round_trip : RoundTrip
round_trip = record { returns = back; ours = ours; in_both = in_both }
