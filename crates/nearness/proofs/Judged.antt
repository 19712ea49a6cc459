-- From the terms' sizes to the definition. Assumes nothing.
use mathlib.Core.Path.{◌≡◌, refl, sym, ap, ap₂, ◌∙◌}
use mathlib.Core.Bool.{Bool, true, false, ◌&&◌}
use mathlib.Core.List.{List, [], ◌∷◌}
use Prim.Native.Nat.{ℕ, zero, suc, ◌+◌, ◌*◌, ◌^◌, ◌<◌}
use native.Mathlib.Nat.{le_of_mul-le-mul_right, mul-le-mul_right}
use native.Mathlib.Omega.{arith}
use lib.Dec.{T, leb, leb→le, le→leb}
use lib.Ieee.Bits.{is_true}
use lib.IntN.{ℤ, pos, negsuc, neg_ℤ, ◌+ℤ◌, ◌-ℤ◌, ◌*ℤ◌}
use lib.Ieee.{Float, nan, inf, fin, unlike, neg, binary64, of_bits}
use Rattle.exact.specs.Units.{L, mag}
use Rattle.exact.specs.Sums.{pl, mi}
use Rattle.exact.specs.Integers.{p, n, abs}
use Rattle.exact.proofs.Integers.{ext, abs_pos, abs_neg, abs-*pos, +-parts, neg_parts, *-parts, neg-*, *-assoc}
use Rattle.exact.specs.Value.{val, signed}
use Rattle.exact.proofs.Value.{abs_val}
use Rattle.nearness.specs.declared.Whole.{Whole}
use Rattle.nearness.specs.declared.Term.{Term}
use Rattle.nearness.specs.Whole.{WholeOf}
use Rattle.nearness.specs.Cells.{worth, plus_of, minus_of}
use Rattle.nearness.specs.Terms.{TermOf, TripleOf}
use Rattle.nearness.specs.Near.{exact_sum, near}
use Rattle.nearness.proofs.Carry.{same}

-- ---- signs
neg_neg : (k : ℕ) → neg_ℤ (neg_ℤ (pos k)) ≡ pos k
neg_neg zero = refl
neg_neg (suc k) = refl

abs_signed : (s : Bool) (a : ℕ) → abs (signed s a) ≡ a
abs_signed false a = abs_pos a
abs_signed true a = abs_neg (pos a) ∙ abs_pos a

pos_neg : (a b : ℕ) → pos a *ℤ neg_ℤ (pos b) ≡ neg_ℤ (pos (a * b))
pos_neg a b = ext _ _ (omega (arith, *-parts (pos a) (neg_ℤ (pos b)), neg_parts (pos (a * b)), ap (λ (x : ℕ). a * x) (neg_parts (pos b))))

signed-* : (s t : Bool) (a b : ℕ) → signed s a *ℤ signed t b ≡ signed (unlike s t) (a * b)
signed-* false false a b = refl
signed-* false true a b = pos_neg a b
signed-* true false a b = neg-* (pos a) (pos b)
signed-* true true a b = neg-* (pos a) (neg_ℤ (pos b)) ∙ ap neg_ℤ (pos_neg a b) ∙ neg_neg (a * b)

pub tripled : (x y z : Float) (a b c : Whole) (t : Term) → WholeOf x a → WholeOf y b → WholeOf z c → TermOf a b c t → TripleOf x y z t
tripled x y z a b c t p q r h = record {
  small = h.small;
  value = ap₂ signed h.sign h.value ∙ sym ((λ i. p.value i *ℤ q.value i *ℤ r.value i) ∙ ap (λ (w : ℤ). w *ℤ signed c.negative (c.n * 2 ^ c.e)) (signed-* a.negative b.negative (a.n * 2 ^ a.e) (b.n * 2 ^ b.e)) ∙ signed-* (unlike a.negative b.negative) c.negative (a.n * 2 ^ a.e * (b.n * 2 ^ b.e)) (c.n * 2 ^ c.e));
}

-- ---- the terms' sum
abbrev total_of : List Term → ℤ
total_of [] = pos 0
total_of (t ∷ ts) = signed t.negative (worth t) +ℤ total_of ts

signed_parts : (s : Bool) (a : ℕ) → p (signed s a) + mi s a ≡ n (signed s a) + pl s a
signed_parts false a = omega arith
signed_parts true zero = refl
signed_parts true (suc a) = omega arith

total_parts : (ts : List Term) → p (total_of ts) + minus_of ts ≡ n (total_of ts) + plus_of ts
total_parts [] = refl
total_parts (t ∷ ts) =
    let s = signed t.negative (worth t) in
    go s (total_of ts) (mi t.negative (worth t)) (pl t.negative (worth t)) (minus_of ts) (plus_of ts) (signed_parts t.negative (worth t)) (total_parts ts)
  where
    go : (y z : ℤ) (a b c d : ℕ) → p y + a ≡ n y + b → p z + c ≡ n z + d → p (y +ℤ z) + (a + c) ≡ n (y +ℤ z) + (b + d)
    go y z a b c d e f = omega (arith, +-parts y z)

and_true : (b : Bool) → b && true ≡ b
and_true true = refl
and_true false = refl

-- |z| ≤ m, where z is P - N
within_is : (z : ℤ) (P N m : ℕ) → p z + N ≡ n z + P → leb N (P + m) && leb P (N + m) ≡ leb (abs z) m
unfolding abs
within_is (pos k) P N m e =
    ap (λ (b : Bool). b && leb P (N + m)) (is_true (leb N (P + m)) (le→leb N (P + m) (omega arith)))
    ∙ same (leb P (N + m)) (leb (k + 0) m) (λ t. le→leb (k + 0) m (omega (arith, leb→le P (N + m) t))) (λ t. le→leb P (N + m) (omega (arith, leb→le (k + 0) m t)))
within_is (negsuc k) P N m e =
    ap (λ (b : Bool). leb N (P + m) && b) (is_true (leb P (N + m)) (le→leb P (N + m) (omega arith)))
    ∙ and_true (leb N (P + m))
    ∙ same (leb N (P + m)) (leb (0 + suc k) m) (λ t. le→leb (0 + suc k) m (omega (arith, leb→le N (P + m) t))) (λ t. le→leb N (P + m) (omega (arith, leb→le (0 + suc k) m t)))

-- ---- the distance
scaled : (a m X K : ℕ) → 0 < K → leb a (m * X * X) ≡ leb (a * K) (m * (X * X * K))
scaled a m X K o = same (leb a (m * X * X)) (leb (a * K) (m * (X * X * K)))
    (λ t. le→leb (a * K) (m * (X * X * K)) (omega (arith, mul-le-mul_right K (leb→le a (m * X * X) t))))
    (λ t. le→leb a (m * X * X) (le_of_mul-le-mul_right {k = K} (omega (arith, leb→le (a * K) (m * (X * X * K)) t)) o))

neg_val : (x : Float) → val (neg x) ≡ neg_ℤ (val x)
unfolding val neg mag
neg_val nan = refl
neg_val (inf true) = refl
neg_val (inf false) = refl
neg_val (fin true m e) = sym (neg_neg (mag (fin true m e)))
neg_val (fin false m e) = refl

pub one_val : val (of_bits binary64 0x3ff0_0000_0000_0000) ≡ pos L
unfolding val of_bits mag L
one_val = refl

small_val : val (of_bits binary64 0x3eb0_0000_0000_0000) ≡ pos (2 ^ 1054)
unfolding val of_bits mag L
small_val = refl

squares : L * L ≡ 2 ^ 1054 * 2 ^ 1054 * 2 ^ 40
unfolding L
squares = refl

regroup : (a b c d : ℤ) → a +ℤ (b +ℤ (c +ℤ (d +ℤ pos 0))) ≡ a +ℤ (b +ℤ (c +ℤ pos 0)) +ℤ d
regroup a b c d = ext _ _ (omega (arith, +-parts a (b +ℤ (c +ℤ (d +ℤ pos 0))), +-parts b (c +ℤ (d +ℤ pos 0)), +-parts c (d +ℤ pos 0), +-parts d (pos 0), +-parts (a +ℤ (b +ℤ (c +ℤ pos 0))) d, +-parts a (b +ℤ (c +ℤ pos 0)), +-parts b (c +ℤ pos 0), +-parts c (pos 0)))

abbrev one : Float
one = of_bits binary64 0x3ff0_0000_0000_0000

abbrev small : Float
small = of_bits binary64 0x3eb0_0000_0000_0000

less_times : (x : Float) → val (neg x) *ℤ val one *ℤ val one ≡ neg_ℤ (val x *ℤ pos (L * L))
less_times x =
    (λ i. neg_val x i *ℤ one_val i *ℤ one_val i)
    ∙ ap (λ (z : ℤ). z *ℤ pos L) (neg-* (val x) (pos L)) ∙ neg-* (val x *ℤ pos L) (pos L) ∙ ap neg_ℤ (*-assoc (val x) (pos L) (pos L))

module _ (u₀ u₁ u₂ s₀ s₁ s₂ v₀ v₁ v₂ f m : Float) (a b c d e : Term)
    (ha : TripleOf u₀ s₀ v₀ a) (hb : TripleOf u₁ s₁ v₁ b) (hc : TripleOf u₂ s₂ v₂ c) (hd : TripleOf (neg f) one one d) (he : TripleOf m small small e) where
  size : worth e ≡ mag m * 2 ^ 1054 * 2 ^ 1054
  size =
      sym (abs_signed e.negative (worth e)) ∙ ap abs (he.value ∙ (λ i. val m *ℤ small_val i *ℤ small_val i))
      ∙ abs-*pos (val m *ℤ pos (2 ^ 1054)) (2 ^ 1054) ∙ ap (λ (k : ℕ). k * 2 ^ 1054) (abs-*pos (val m) (2 ^ 1054) ∙ ap (λ (k : ℕ). k * 2 ^ 1054) (abs_val m))

  total : total_of (a ∷ b ∷ c ∷ d ∷ []) ≡ exact_sum (u₀ ∷ u₁ ∷ u₂ ∷ []) (s₀ ∷ s₁ ∷ s₂ ∷ []) (v₀ ∷ v₁ ∷ v₂ ∷ []) -ℤ val f *ℤ pos (L * L)
  total = (λ i. ha.value i +ℤ (hb.value i +ℤ (hc.value i +ℤ ((hd.value ∙ less_times f) i +ℤ pos 0)))) ∙ regroup (val u₀ *ℤ val s₀ *ℤ val v₀) (val u₁ *ℤ val s₁ *ℤ val v₁) (val u₂ *ℤ val s₂ *ℤ val v₂) (neg_ℤ (val f *ℤ pos (L * L)))

  pub near_is : leb (minus_of (a ∷ b ∷ c ∷ d ∷ [])) (plus_of (a ∷ b ∷ c ∷ d ∷ []) + worth e) && leb (plus_of (a ∷ b ∷ c ∷ d ∷ [])) (minus_of (a ∷ b ∷ c ∷ d ∷ []) + worth e)
      ≡ near (u₀ ∷ u₁ ∷ u₂ ∷ []) (s₀ ∷ s₁ ∷ s₂ ∷ []) (v₀ ∷ v₁ ∷ v₂ ∷ []) f (mag m)
  unfolding near
  near_is =
      let ts = a ∷ b ∷ c ∷ d ∷ [] in
      let z = exact_sum (u₀ ∷ u₁ ∷ u₂ ∷ []) (s₀ ∷ s₁ ∷ s₂ ∷ []) (v₀ ∷ v₁ ∷ v₂ ∷ []) -ℤ val f *ℤ pos (L * L) in
      within_is (total_of ts) (plus_of ts) (minus_of ts) (worth e) (total_parts ts)
      ∙ (λ i. leb (abs (total i)) (size i))
      ∙ scaled (abs z) (mag m) (2 ^ 1054) (2 ^ 40) (omega arith)
      ∙ ap (λ (k : ℕ). leb (abs z * 2 ^ 40) (mag m * k)) (sym squares)
