-- What the steps made of others answer where no NaN is met: maximum, minimum, and several tests at once.
use mathlib.Core.Bool.{Bool, true, false, cond, ◌&&◌}
use mathlib.Core.List.{List, [], ◌∷◌, map}
use mathlib.Core.Path.{◌≡◌, refl, ap, sym, ◌∙◌}
use Prim.Native.Nat.{ℕ}
use lib.Ieee as Ieee
use lib.Ieee.{Float}
use Rattle.answers.specs.Refusals.{no_number}
use Rattle.numbers.specs.Floats.{is_number, max_of, min_of}
use Rattle.answers.specs.Range.{in_range, side_of}
use Rattle.answers.specs.declared.Answer.{Answer}
use Rattle.answers.specs.declared.Answer.TheVariants as answers
use Rattle.exact.specs.RootOf.{sqrt_of}
use Rattle.tensor.specs.Axes.{all_of}
use Rattle.tensor.specs.Matrix.{sub, zero}
use Rattle.walk.specs.Expr.{Expr, num, value}
use Rattle.walk.proofs.Expr.{zero_number}
use Rattle.walk.proofs.Number.{picked_number, finite_sub, zero_finite, root_number}
use Rattle.walk.specs.Walk.{root, low_of, high_of, answer_of, Walk, Test, holds, tellable, most, least, mosts, leasts, size, when, given, refused, read, unnoted, walk_result}
use Rattle.walk.proofs.Every.{and_left, and_right, every, all_every}

-- ---- of any reading
module _ {B S A : Type 0} (stop : ℕ → ℕ → B) (note : S → ℕ → Test → Bool → S) (ends : S → A → B) (r : S) where
  abbrev R : Walk A → B
  R w = read answer_of stop note ends r w

  pub most_read : (n : ℕ) (a b : Expr) (k : Expr → Walk A) → is_number (value a) ≡ true → is_number (value b) ≡ true
      → R (most n a b k) ≡ R (k (num (max_of (value a) (value b))))
  most_read n a b k h i = simp (h, i, picked_number (Ieee.lt (value b) (value a)) (value a) (value b) h i)

  pub least_read : (n : ℕ) (a b : Expr) (k : Expr → Walk A) → is_number (value a) ≡ true → is_number (value b) ≡ true
      → R (least n a b k) ≡ R (k (num (min_of (value a) (value b))))
  least_read n a b k h i = simp (h, i, picked_number (Ieee.lt (value a) (value b)) (value a) (value b) h i)

  pub mosts_read : (n : ℕ) (l : List Float) (b : Expr) (k : List Float → Walk A) → every is_number l ≡ true → is_number (value b) ≡ true
      → R (mosts n l b k) ≡ R (k (map (λ x. max_of x (value b)) l))
  mosts_read n [] b k h i = refl
  mosts_read n (x ∷ l) b k h i =
      most_read n (num x) b (λ v. mosts n l b (λ vs. k (value v ∷ vs))) (and_left (is_number x) (every is_number l) h) i
      ∙ mosts_read n l b (λ vs. k (max_of x (value b) ∷ vs)) (and_right (is_number x) (every is_number l) h) i

  pub leasts_read : (n : ℕ) (l : List Float) (b : Expr) (k : List Float → Walk A) → every is_number l ≡ true → is_number (value b) ≡ true
      → R (leasts n l b k) ≡ R (k (map (λ x. min_of x (value b)) l))
  leasts_read n [] b k h i = refl
  leasts_read n (x ∷ l) b k h i =
      least_read n (num x) b (λ v. leasts n l b (λ vs. k (value v ∷ vs))) (and_left (is_number x) (every is_number l) h) i
      ∙ leasts_read n l b (λ vs. k (min_of x (value b) ∷ vs)) (and_right (is_number x) (every is_number l) h) i

  forked : (a b : Bool) (x y : B) → cond a (cond b x y) y ≡ cond (a && b) x y
  forked true b x y = refl
  forked false b x y = refl

  tests : (n : ℕ) (ts : List Test) (w v : Walk A) → every tellable ts ≡ true → R (when n ts w v) ≡ cond (every holds ts) (R w) (R v)
  tests n [] w v h = refl
  tests n (t ∷ ts) w v h =
      rw (and_left (tellable t) (every tellable ts) h, tests n ts w v (and_right (tellable t) (every tellable ts) h))
      (forked (holds t) (every holds ts) (R w) (R v))

  pub when_read : (n : ℕ) (ts : List Test) (w v : Walk A) → all_of tellable ts ≡ true → R (when n ts w v) ≡ cond (all_of holds ts) (R w) (R v)
  when_read n ts w v h = rw (all_every holds ts) (tests n ts w v (sym (all_every tellable ts) ∙ h))

-- ---- of the walk's answer
module _ {A : Type 0} where
  pub most_answers : (n : ℕ) (a b : Expr) (k : Expr → Walk A) → is_number (value a) ≡ true → is_number (value b) ≡ true
      → walk_result (most n a b k) ≡ walk_result (k (num (max_of (value a) (value b))))
  most_answers = most_read (λ m n. refused m) unnoted (λ r a. given a) tt

  pub least_answers : (n : ℕ) (a b : Expr) (k : Expr → Walk A) → is_number (value a) ≡ true → is_number (value b) ≡ true
      → walk_result (least n a b k) ≡ walk_result (k (num (min_of (value a) (value b))))
  least_answers = least_read (λ m n. refused m) unnoted (λ r a. given a) tt

  pub mosts_answer : (n : ℕ) (l : List Float) (b : Expr) (k : List Float → Walk A) → every is_number l ≡ true → is_number (value b) ≡ true
      → walk_result (mosts n l b k) ≡ walk_result (k (map (λ x. max_of x (value b)) l))
  mosts_answer = mosts_read (λ m n. refused m) unnoted (λ r a. given a) tt

  pub leasts_answer : (n : ℕ) (l : List Float) (b : Expr) (k : List Float → Walk A) → every is_number l ≡ true → is_number (value b) ≡ true
      → walk_result (leasts n l b k) ≡ walk_result (k (map (λ x. min_of x (value b)) l))
  leasts_answer = leasts_read (λ m n. refused m) unnoted (λ r a. given a) tt

-- ---- what a root answers is a number
tells : Answer → Bool
tells (answers.Value x) = is_number x
tells (answers.Refused n) = true

told : (a b : Bool) (n : ℕ) (v : Float) → is_number v ≡ true → tells (cond a (cond b (answers.Value v) (answers.Refused n)) (answers.Refused no_number)) ≡ true
unfolding tells
told true true n v h = h
told true false n v h = refl
told false b n v h = refl

pub root_told : (w x : Float) → answer_of root w ≡ answers.Value x → is_number x ≡ true
unfolding tells
root_told w x h = sym (ap tells h) ∙ told (is_number w) (in_range (low_of root) (high_of root) w) (side_of (low_of root) (high_of root) w) (sqrt_of w) (root_number w)
