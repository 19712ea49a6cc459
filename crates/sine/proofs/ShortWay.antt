-- From -1 to 1 the short way is as near as RULES, section 3, asks: short-near. Assumes nothing.
use mathlib.Core.Path.{◌≡◌, refl, sym, ap, ap₂, ◌∙◌, subst, subst₂}
use mathlib.Core.Bool.{Bool, true, false, cond}
use mathlib.Core.List.{List, [], ◌∷◌}
use Prim.Native.Nat.{ℕ, zero, suc, ◌+◌, ◌-◌, ◌*◌, ◌^◌, ◌≤◌, ◌<◌}
use native.Mathlib.Nat.{le_refl, le_trans, mul-le-mul, mul-le-mul_right, le_of_mul-le-mul_right, zero-lt-suc}
use native.Mathlib.Omega.{arith}
use native.Mathlib.Bridge.{le_by_compare, IsLe}
use lib.Dec.{T, leb, leb→le}
use lib.IntN.{ℤ, pos, negsuc, neg_ℤ, ◌*ℤ◌, ◌-ℤ◌}
use lib.Ieee as Ieee
use lib.Ieee.{Float, binary64, of_bits, fits, unlike}
use lib.Ieee.Scale.{finite}
use Rattle.exact.proofs.Both.{both, both_left, both_right}
use Rattle.exact.specs.Units.{L, mag, sgn, Fin64}
use Rattle.exact.specs.Integers.{p, n, abs, ◌≤ᶻ◌}
use Rattle.exact.proofs.Integers.{neg_is, 1*, abs-*, abs_pos, +-parts, *-parts, neg_parts}
use Rattle.exact.proofs.Ring.{ring, Ex, var, con, ◌:+◌, ◌:-◌, ◌:*◌}
use Rattle.exact.proofs.Ring as Ring
use Rattle.exact.specs.Sums.{pl, mi}
use Rattle.exact.specs.Value.{val}
use Rattle.exact.proofs.Value.{near_abs}
use Rattle.exact.proofs.OrderLe.{le_val}
use Rattle.exact.proofs.Symmetric.{symmetric_finite, symmetric_mag}
use Rattle.error_bounds.proofs.Line.{Q}
use Rattle.error_bounds.proofs.Box.{min_z, max_z, floor, ceil}
use Rattle.error_bounds.proofs.Span.{S, In}
use Rattle.error_bounds.proofs.Prog.{Op, ◌⊞◌, ◌⊟◌, ◌⊠◌, ◌⊘◌, lit, nth, zero_q, zero_b, zero_f, run_f, run_q, run_b, goods, All, sound, self, nth_stands}
use Rattle.answers.specs.Range.{in_range}
use Rattle.answers.proofs.Values.{between}
use Rattle.series.specs.SinNear.{SinNear}
use Rattle.series.proofs.SinSure.{Sure}
use Rattle.series.specs.Sine.{odd, ratio, den, added, taken, even}
use Rattle.sine.specs.Sine.{one, shorts, horner_of, short_of}
use Rattle.sine.proofs.Last.{factorial, next_small, near_by}

-- ---- the code, over x and the coefficients
abbrev code : List Op
code = (0 ⊠ 0) ∷ (0 ⊠ 8) ∷ (8 ⊞ 0) ∷ (2 ⊠ 0) ∷ (9 ⊞ 0) ∷ (4 ⊠ 0) ∷ (10 ⊞ 0) ∷ (6 ⊠ 0) ∷ (11 ⊞ 0) ∷ (8 ⊠ 0) ∷ (12 ⊞ 0) ∷ (10 ⊠ 0) ∷ (13 ⊞ 0) ∷ (13 ⊠ 12) ∷ (0 ⊠ 1) ∷ (15 ⊞ 0) ∷ []

code_is : (x : Float) → nth zero_f (run_f code (x ∷ shorts)) 0 ≡ short_of x
unfolding run_f short_of horner_of
code_is x = refl

-- ---- what the coefficients stand for
-- -1 where s is so, else 1
abbrev unit : Bool → ℤ
unit s = cond s (negsuc 0) (pos 1)

abbrev each : {A B : Type 0} → (A → B) → List A → List B
each f [] = []
each f (a ∷ us) = f a ∷ each f us

-- the signs, and 3!, 5!, .. 15!
abbrev terms : List (Bool × ℕ)
terms = (true, 6) ∷ (false, 120) ∷ (true, 5040) ∷ (false, 362880) ∷ (true, 39916800) ∷ (false, 6227020800) ∷ (true, 1307674368000) ∷ []

abbrev part : Bool × ℕ → Q
part t = record { num = unit t.0 *ℤ pos L; den = pos t.1 }

-- each coefficient is within 2 ^ -56 of its fraction, and x lies from -1 to 1
abbrev about : Float → S
about c = record { lo = val c; hi = val c; err = 2 ^ 1018; good = true }

abbrev within : S
within = record { lo = neg_ℤ (pos (2 ^ 1074)); hi = pos (2 ^ 1074); err = 0; good = true }

abbrev parts : List Q
parts = each part terms

abbrev spans : List S
spans = within ∷ each about shorts

abbrev worked : S
worked = nth zero_b (run_b code spans) 0

-- the code's result is within 2 ^ -50 of what it stands for
test : T (goods code spans) × T (leb worked.err (2 ^ 1024))
unfolding goods run_b L mag val fits of_bits min_z max_z floor ceil Ieee.neg
test = (tt, tt)

abbrev near : Float → Bool × ℕ → Bool
near c t = leb (abs (val c *ℤ pos t.1 -ℤ (part t).num)) (2 ^ 1018 * abs (pos t.1))

unfoldable fair : List Float → List (Bool × ℕ) → Bool
fair [] [] = true
fair [] (t ∷ ts) = false
fair (c ∷ cs) [] = false
fair (c ∷ cs) (t ∷ ts) = both (both (finite c) (fits binary64 c)) (both (near c t) (fair cs ts))

stand : (cs : List Float) (ts : List (Bool × ℕ)) → T (fair cs ts) → All cs (each part ts) (each about cs)
unfolding fair
stand [] [] h = tt
stand [] (t ∷ ts) h = absurd h
stand (c ∷ cs) [] h = absurd h
stand (c ∷ cs) (t ∷ ts) h =
    let f = both_left (both (finite c) (fits binary64 c)) (both (near c t) (fair cs ts)) h in
    let o = both_right (both (finite c) (fits binary64 c)) (both (near c t) (fair cs ts)) h in (
      record {
        fine = (both_left (finite c) (fits binary64 c) f, both_right (finite c) (fits binary64 c) f);
        above = le_refl _;
        below = le_refl _;
        near = leb→le (abs (val c *ℤ pos t.1 -ℤ (part t).num)) (2 ^ 1018 * abs (pos t.1)) (both_left (near c t) (fair cs ts) o);
      },
      stand cs ts (both_right (near c t) (fair cs ts) o),
    )

coefficients : T (fair shorts terms)
unfolding fair L mag val abs fits of_bits Ieee.neg
coefficients = tt

-- ---- the same over fractions is the sum of the terms 0 to 7
abbrev whole : Float → Q
whole x = record { num = val x; den = pos 1 }

-- a fraction, written out for `ring`
record F : Type 0 where
  num : Ex
  den : Ex

abbrev zero_e : F
zero_e = record { num = con (pos 0); den = con (pos 1) }

abbrev step_e : Op → List F → F
step_e (i ⊞ j) es = let a = nth zero_e es i in let b = nth zero_e es j in record { num = a.num :* b.den :+ b.num :* a.den; den = a.den :* b.den }
step_e (i ⊟ j) es = zero_e
step_e (i ⊠ j) es = let a = nth zero_e es i in let b = nth zero_e es j in record { num = a.num :* b.num; den = a.den :* b.den :* var 1 }
step_e (i ⊘ j) es = zero_e
step_e (lit c) es = zero_e

abbrev run_e : List Op → List F → List F
run_e [] es = es
run_e (o ∷ os) es = run_e os (step_e o es ∷ es)

abbrev part_e : Bool × ℕ → F
part_e t = record { num = con (unit t.0) :* var 1; den = con (pos t.1) }

-- x is p with the sign s, in units of which l are 1
abbrev result_e : Bool → F
result_e s = nth zero_e (run_e code (record { num = con (unit s) :* var 0; den = con (pos 1) } ∷ each part_e terms)) 0

abbrev ratio_e : ℕ → Ex
ratio_e n = con (pos (2 * n + 2)) :* con (pos (2 * n + 3)) :* (var 1 :* var 1)

abbrev odd_e : ℕ → Ex
odd_e zero = var 0
odd_e (suc n) = odd_e n :* (var 0 :* var 0)

abbrev den_e : ℕ → Ex
den_e zero = var 1
den_e (suc n) = den_e n :* ratio_e n

abbrev added_e : ℕ → Ex
added_e zero = var 0
added_e (suc n) = added_e n :* ratio_e n :+ con (pos (even (suc n))) :* odd_e (suc n)

abbrev taken_e : ℕ → Ex
taken_e zero = con (pos 0)
taken_e (suc n) = taken_e n :* ratio_e n :+ con (pos (even n)) :* odd_e (suc n)

-- 3! 5! .. 13!
abbrev g : ℕ
g = 6 * 120 * 5040 * 362880 * 39916800 * 6227020800

same_den : (s : Bool) (p l : ℤ) → Ring.den 2 (p, (l, tt)) (result_e s).den ≡ pos g *ℤ Ring.den 2 (p, (l, tt)) (den_e 7)
same_den true p l = ring 2 (p, (l, tt)) (result_e true).den (con (pos g) :* den_e 7) tt
same_den false p l = ring 2 (p, (l, tt)) (result_e false).den (con (pos g) :* den_e 7) tt

same_num : (s : Bool) (p l : ℤ) → Ring.den 2 (p, (l, tt)) (result_e s).num ≡ pos g *ℤ (unit s *ℤ (l *ℤ Ring.den 2 (p, (l, tt)) (added_e 7 :- taken_e 7)))
unfolding even
same_num true p l = ring 2 (p, (l, tt)) (result_e true).num (con (pos g) :* (con (unit true) :* (var 1 :* (added_e 7 :- taken_e 7)))) tt
same_num false p l = ring 2 (p, (l, tt)) (result_e false).num (con (pos g) :* (con (unit false) :* (var 1 :* (added_e 7 :- taken_e 7)))) tt

series : (p l : ℕ) → (Ring.den 2 (pos p, (pos l, tt)) (added_e 7) ≡ pos (added p l 7)) × (Ring.den 2 (pos p, (pos l, tt)) (taken_e 7) ≡ pos (taken p l 7)) × (Ring.den 2 (pos p, (pos l, tt)) (den_e 7) ≡ pos (den l 7))
unfolding even added taken den odd
series p l = (refl, refl, refl)

signed : (x : Float) → val x ≡ unit (sgn x) *ℤ pos (mag x)
unfolding val
signed x = go (sgn x) (mag x)
  where
    go : (s : Bool) (m : ℕ) → cond s (neg_ℤ (pos m)) (pos m) ≡ unit s *ℤ pos m
    go true m = neg_is (pos m)
    go false m = sym (1* (pos m))

abbrev meant : Float → Q
meant x = nth zero_q (run_q code (whole x ∷ parts)) 0

meant_den : (x : Float) → (meant x).den ≡ pos g *ℤ pos (den L 7)
unfolding run_q
meant_den x = same_den (sgn x) (pos (mag x)) (pos L) ∙ ap (λ d. pos g *ℤ d) (series (mag x) L).2

meant_num : (x : Float) → (meant x).num ≡ pos g *ℤ (unit (sgn x) *ℤ (pos L *ℤ (pos (added (mag x) L 7) -ℤ pos (taken (mag x) L 7))))
unfolding run_q
meant_num x = rw (signed x) (same_num (sgn x) (pos (mag x)) (pos L) ∙ ap₂ (λ a t. pos g *ℤ (unit (sgn x) *ℤ (pos L *ℤ (a -ℤ t)))) (series (mag x) L).0 (series (mag x) L).1)

-- ---- the distance
turn : (s : Bool) (g R D M : ℤ) → R *ℤ (g *ℤ D) -ℤ g *ℤ (unit s *ℤ M) ≡ g *ℤ unit s *ℤ (unit s *ℤ R *ℤ D -ℤ M)
turn true g R D M = ring 4 (g, (R, (D, (M, tt)))) (var 1 :* (var 0 :* var 2) :- var 0 :* (con (unit true) :* var 3)) (var 0 :* con (unit true) :* (con (unit true) :* var 1 :* var 2 :- var 3)) tt
turn false g R D M = ring 4 (g, (R, (D, (M, tt)))) (var 1 :* (var 0 :* var 2) :- var 0 :* (con (unit false) :* var 3)) (var 0 :* con (unit false) :* (con (unit false) :* var 1 :* var 2 :- var 3)) tt

abs_unit : (s : Bool) → abs (unit s) ≡ 1
unfolding abs
abs_unit true = refl
abs_unit false = refl

cancel : (g : ℕ) → 0 < g → (s : Bool) (R M : ℤ) (D e : ℕ) → abs (R *ℤ (pos g *ℤ pos D) -ℤ pos g *ℤ (unit s *ℤ M)) ≤ e * abs (pos g *ℤ pos D) → abs (unit s *ℤ R *ℤ pos D -ℤ M) ≤ e * D
cancel g hg s R M D e h = go (abs (unit s *ℤ R *ℤ pos D -ℤ M)) (rw (turn s (pos g) R (pos D) M, abs-* (pos g *ℤ unit s) (unit s *ℤ R *ℤ pos D -ℤ M), abs-* (pos g) (unit s), abs_pos g, abs_unit s, abs_pos (g * D)) at h)
  where
    go : (z : ℕ) → g * 1 * z ≤ e * (g * D) → z ≤ e * D
    go z k = le_of_mul-le-mul_right {k = g} (omega arith) hg

-- r with the sign of x taken off
minus_parts : (m : ℕ) → (p (neg_ℤ (pos m)) ≡ 0) × (n (neg_ℤ (pos m)) ≡ m)
minus_parts zero = (refl, refl)
minus_parts (suc m) = (refl, refl)

same_parts : (z w : ℤ) (a b : ℕ) → z ≡ w → (p w ≡ a) × (n w ≡ b) → (p z ≡ a) × (n z ≡ b)
same_parts z w a b e h = (ap p e ∙ h.0, ap n e ∙ h.1)

off : (s t : Bool) (m : ℕ) → (p (unit s *ℤ (unit t *ℤ pos m)) ≡ pl (unlike s t) m) × (n (unit s *ℤ (unit t *ℤ pos m)) ≡ mi (unlike s t) m)
off true true m = same_parts (negsuc 0 *ℤ (negsuc 0 *ℤ pos m)) (pos m) m 0 (ring 1 (pos m, tt) (con (negsuc 0) :* (con (negsuc 0) :* var 0)) (var 0) tt) (refl, refl)
off true false m = same_parts (negsuc 0 *ℤ (pos 1 *ℤ pos m)) (neg_ℤ (pos m)) 0 m (ap (λ z. negsuc 0 *ℤ z) (1* (pos m)) ∙ sym (neg_is (pos m))) (minus_parts m)
off false true m = same_parts (pos 1 *ℤ (negsuc 0 *ℤ pos m)) (neg_ℤ (pos m)) 0 m (1* (negsuc 0 *ℤ pos m) ∙ sym (neg_is (pos m))) (minus_parts m)
off false false m = same_parts (pos 1 *ℤ (pos 1 *ℤ pos m)) (pos m) m 0 (1* (pos 1 *ℤ pos m) ∙ 1* (pos m)) (refl, refl)

split : (Z : ℤ) (D l A T E : ℕ) → abs (Z *ℤ pos D -ℤ pos l *ℤ (pos A -ℤ pos T)) ≤ E → (p Z * D + T * l ≤ n Z * D + A * l + E) × (n Z * D + A * l ≤ p Z * D + T * l + E)
split Z D l A T E h =
    let W = pos A -ℤ pos T in
    let w : p W + T ≡ n W + A = omega (arith, +-parts (pos A) (neg_ℤ (pos T)), neg_parts (pos T)) in
    omega (arith, near_abs (Z *ℤ pos D) (pos l *ℤ W), *-parts Z (pos D), *-parts (pos l) W, ap (λ v. v * l) w)

side : (u v A T D f R l w E : ℕ) → u * D + T * l ≤ v * D + A * l + E * D → 32 * (E * w) ≤ l → R * (8 * w) ≤ 1 * (D * f) → (u * (D * f) + T * f * l) * w + R * w * l ≤ (v * (D * f) + A * f * l) * w + D * f * l
side u v A T D f R l w E h k j = omega (arith, mul-le-mul_right (f * w) h, mul-le-mul_right (D * f) k, mul-le-mul_right l j)

next_closed : odd 1 8 * (8 * 2 ^ 45) ≤ 1 * factorial 8
unfolding odd factorial IsLe
next_closed = le_by_compare (odd 1 8 * (8 * 2 ^ 45)) (1 * factorial 8) tt

small_err : 32 * (2 ^ 1024 * 2 ^ 45) ≤ L
unfolding L IsLe
small_err = le_by_compare (32 * (2 ^ 1024 * 2 ^ 45)) (2 ^ 1074) tt

falls_plain : (p q : ℕ) → p ≤ q → p * p ≤ 272 * (q * q)
falls_plain p q h = omega (arith, mul-le-mul h h)

once : (p q : ℕ) → p ≤ q → p ≤ 1 * q
once p q h = omega arith

-- ---- within the range
ends : Fin64 (Ieee.neg one) × Fin64 one × (val (Ieee.neg one) ≡ neg_ℤ (pos (2 ^ 1074))) × (val one ≡ pos (2 ^ 1074))
unfolding of_bits fits val mag L Ieee.neg
ends = ((tt, tt), (tt, tt), refl, refl)

module _ (x : Float) (f : T (fits binary64 x)) (h : in_range (Ieee.neg one) one x ≡ true) where
  at_least : T (Ieee.le (Ieee.neg one) x)
  at_least = (between (Ieee.neg one) one x h).0

  at_most : T (Ieee.le x one)
  at_most = (between (Ieee.neg one) one x h).1

  finite_x : Fin64 x
  finite_x = symmetric_finite (Ieee.neg one) one x ends.0 ends.1 f at_least at_most

  small_x : mag x ≤ L
  unfolding L
  small_x = symmetric_mag (Ieee.neg one) one x ends.0 ends.1 f at_least at_most (2 ^ 1074 - 1) ends.2 ends.3

  inside : In x (whole x) within
  inside = self x within finite_x (subst (λ (z : ℤ). z ≤ᶻ val x) ends.2 (le_val (Ieee.neg one) x ends.0 finite_x at_least)) (subst (λ (z : ℤ). val x ≤ᶻ z) ends.3 (le_val x one finite_x ends.1 at_most))

  abbrev r : Float
  r = short_of x

  result : In r (meant x) worked
  result = subst (λ (z : Float). In z (meant x) worked) (code_is x) (nth_stands (run_f code (x ∷ shorts)) (run_q code (whole x ∷ parts)) (run_b code spans) (sound code (x ∷ shorts) (whole x ∷ parts) spans (inside, stand shorts terms coefficients) test.0) 0)

  apart : abs (unit (sgn x) *ℤ val r *ℤ pos (den L 7) -ℤ pos L *ℤ (pos (added (mag x) L 7) -ℤ pos (taken (mag x) L 7))) ≤ 2 ^ 1024 * den L 7
  apart =
      cancel g (zero-lt-suc (g - 1)) (sgn x) (val r) (pos L *ℤ (pos (added (mag x) L 7) -ℤ pos (taken (mag x) L 7))) (den L 7) (2 ^ 1024)
      (subst₂ (λ (d m : ℤ). abs (val r *ℤ d -ℤ m) ≤ 2 ^ 1024 * abs d) (meant_den x) (meant_num x)
      (le_trans result.near (mul-le-mul_right (abs (meant x).den) (leb→le worked.err (2 ^ 1024) test.1))))

  decided : Sure (mag x) L (pl (unlike (sgn x) (sgn r)) (mag r)) (mi (unlike (sgn x) (sgn r)) (mag r)) L (2 ^ 45) 7
  unfolding den
  decided =
      let o = off (sgn x) (sgn r) (mag r) in
      let D = den L 7 in
      let A = added (mag x) L 7 in
      let T = taken (mag x) L 7 in
      let d = split (unit (sgn x) *ℤ (unit (sgn r) *ℤ pos (mag r))) D L A T (2 ^ 1024 * D) (subst (λ (z : ℤ). abs (unit (sgn x) *ℤ z *ℤ pos D -ℤ pos L *ℤ (pos A -ℤ pos T)) ≤ 2 ^ 1024 * D) (signed r) apart) in
      let b = subst₂ (λ (u v : ℕ). (u * D + T * L ≤ v * D + A * L + 2 ^ 1024 * D) × (v * D + A * L ≤ u * D + T * L + 2 ^ 1024 * D)) o.0 o.1 d in
      let n = next_small 1 (mag x) L 8 (8 * 2 ^ 45) 1 (once (mag x) L small_x) next_closed in
      let u = pl (unlike (sgn x) (sgn r)) (mag r) in
      let v = mi (unlike (sgn x) (sgn r)) (mag r) in
      record {
        falls = falls_plain (mag x) L small_x;
        most = side u v A T D (ratio L 7) (odd (mag x) 8) L (2 ^ 45) (2 ^ 1024) b.0 small_err n;
        least = side v u T A D (ratio L 7) (odd (mag x) 8) L (2 ^ 45) (2 ^ 1024) b.1 small_err n;
      }

  pub short_near : SinNear x r
  short_near = near_by x r 7 result.fine decided
