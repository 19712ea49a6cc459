-- An elementary function that answers with a value was asked within its range, and the value is its own.
use mathlib.Core.Path.{◌≡◌, refl, sym, subst}
use mathlib.Core.Bool.{Bool, true, false, cond, ◌&&◌}
use Prim.Native.Nat.{ℕ}
use native.Mathlib.Omega.{arith}
use lib.Dec.{T}
use lib.Ieee as Ieee
use lib.Ieee.{Float, nan, inf, fin}
use Rattle.numbers.specs.Floats.{finite, is_number}
use Rattle.numbers.proofs.Laws.{and_both}
use Rattle.answers.specs.Refusals.{not_finite, no_number}
use Rattle.answers.specs.Range.{in_range, all_in_range, side_of, ranged, bare, on_path, refusal_of, first_refusal}
use Rattle.answers.specs.Answer.{triple_of}
use Rattle.answers.specs.declared.Answer.{Answer}
use Rattle.answers.specs.declared.Answer.TheVariants.{Value, Refused}
use Rattle.answers.specs.declared.Triple.TheVariants as triple

never : (n : ℕ) (r : Float) → Refused n ≡ Value r → ⊥
never n r e = let z : ◌≡◌ {A = ℕ} 0 1 = cc in omega arith

answered : (a b : Bool) (m n : ℕ) (v r : Float) → cond a (cond b (Value v) (Refused m)) (Refused n) ≡ Value r → (b ≡ true) × (v ≡ r)
answered true true m n v r e = (refl, cc)
answered true false m n v r e = absurd (never m r e)
answered false b m n v r e = absurd (never n r e)

pub bare_inside : (low high x v w : Float) → bare x (ranged low high x w) ≡ Value v → in_range low high x ≡ true
bare_inside low high x v w e = (answered (finite x) (in_range low high x) (side_of low high x) not_finite w v e).0

-- what a call by itself answers as a value is as near as the function's value is within its range
pub bare_near : (low high x v w : Float) (Near : Float → Type 0) → (in_range low high x ≡ true → Near w) → bare x (ranged low high x w) ≡ Value v → Near v
bare_near low high x v w Near near e = let a = answered (finite x) (in_range low high x) (side_of low high x) not_finite w v e in subst Near a.1 (near a.0)

-- a number in the range lies between its ends
pub between : (low high x : Float) → in_range low high x ≡ true → T (Ieee.le low x) × T (Ieee.le x high)
between low high x r = let b = and_both (Ieee.le low x) (Ieee.le x high) r in (subst T (sym b.0) tt, subst T (sym b.1) tt)

-- and is no NaN
number_at_most : (x high : Float) → Ieee.le x high ≡ true → is_number x ≡ true
unfolding Ieee.le Ieee.lt Ieee.eq is_number
number_at_most nan high h = h
number_at_most (inf s) high h = refl
number_at_most (fin s m e) high h = refl

pub in_range_number : (low high x : Float) → in_range low high x ≡ true → is_number x ≡ true
in_range_number low high x r = number_at_most x high (and_both (Ieee.le low x) (Ieee.le x high) r).1

-- a call by itself may be worked as one on a path
pub bare_path : (x : Float) (a : Answer) → bare x (on_path x a) ≡ bare x a
unfolding finite is_number
bare_path nan a = refl
bare_path (inf s) a = refl
bare_path (fin s m e) a = refl

-- within the range a law is answered with the value, and of three numbers with all three

pub on_path_inside : (low high x v : Float) → in_range low high x ≡ true → on_path x (ranged low high x v) ≡ Value v
on_path_inside low high x v r = rw (in_range_number low high x r, r) refl

pub each_inside : (low high a b c : Float) → all_in_range low high a b c ≡ true → (in_range low high a ≡ true) × (in_range low high b ≡ true) × (in_range low high c ≡ true)
each_inside low high a b c r =
    let p = and_both (in_range low high a && in_range low high b) (in_range low high c) r in
    let q = and_both (in_range low high a) (in_range low high b) p.0 in
    (q.0, q.1, p.1)

pub three_inside : (low high a b c u v w : Float) → all_in_range low high a b c ≡ true
    → triple_of (on_path a (ranged low high a u)) (on_path b (ranged low high b v)) (on_path c (ranged low high c w)) ≡ triple.Values u v w
three_inside low high a b c u v w r =
    let i = each_inside low high a b c r in
    rw (on_path_inside low high a u i.0, on_path_inside low high b v i.1, on_path_inside low high c w i.2) refl

-- outside it a law is refused, and of three numbers by the first that isn't in it

pub on_path_outside : (low high x v : Float) → in_range low high x ≡ false → on_path x (ranged low high x v) ≡ Refused (refusal_of low high x)
on_path_outside low high x v r = rw r (go (is_number x))
  where
    go : (b : Bool) → cond b (Refused (side_of low high x)) (Refused no_number) ≡ Refused (cond b (side_of low high x) no_number)
    go true = refl
    go false = refl

pub three_outside : (low high a b c u v w : Float) → all_in_range low high a b c ≡ false
    → triple_of (on_path a (ranged low high a u)) (on_path b (ranged low high b v)) (on_path c (ranged low high c w)) ≡ triple.Refused (first_refusal low high a b c)
three_outside low high a b c u v w r = by (in_range low high a) refl
  where
    third : in_range low high a ≡ true → in_range low high b ≡ true → in_range low high c ≡ false
    third p q = simp (p, q) at r

    by_second : in_range low high a ≡ true → (y : Bool) → in_range low high b ≡ y
        → triple_of (on_path a (ranged low high a u)) (on_path b (ranged low high b v)) (on_path c (ranged low high c w)) ≡ triple.Refused (first_refusal low high a b c)
    by_second p true q = rw (on_path_inside low high a u p, on_path_inside low high b v q, on_path_outside low high c w (third p q), p, q) refl
    by_second p false q = rw (on_path_inside low high a u p, on_path_outside low high b v q, p, q) refl

    by : (x : Bool) → in_range low high a ≡ x
        → triple_of (on_path a (ranged low high a u)) (on_path b (ranged low high b v)) (on_path c (ranged low high c w)) ≡ triple.Refused (first_refusal low high a b c)
    by true p = by_second p (in_range low high b) refl
    by false p = rw (on_path_outside low high a u p, p) refl
