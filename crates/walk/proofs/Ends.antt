-- What holds at every end of a walk holds of what the walk gives. Assumes nothing.
use mathlib.Core.Path.{◌≡◌, refl}
use mathlib.Core.Bool.{Bool, true, false, cond}
use mathlib.Core.List.{List, [], ◌∷◌, map}
use Prim.Native.Nat.{ℕ}
use lib.Ieee.{Float}
use Rattle.answers.specs.declared.Answer.{Answer}
use Rattle.answers.specs.declared.Answer.TheVariants as answers
use Rattle.numbers.specs.Floats.{finite, is_number}
use Rattle.tensor.specs.Axes.{all_of}
use Rattle.walk.specs.Expr.{Expr, num, value, values}
use Rattle.walk.specs.Walk.{Function, Walk, inputs, ask, asks, works, either, branch, split, results, end, ◌then◌, Ended, given, refused, answer_of, asked, numbers, holds, tellable, picked, walk_result}

-- P holds at every end, where the results tested before it are finite
abbrev pub Ends : {A : Type 0} → (A → Type 0) → Walk A → Type 0
Ends P (inputs l w) = Ends P w
Ends P (ask n f e k) = (v : Expr) → Ends P (k v)
Ends P (works n es k) = (vs : List Float) → Ends P (k vs)
Ends P (either n t a b k) = (v : Expr) → Ends P (k v)
Ends P (branch n t w v) = Ends P w × Ends P v
Ends P (split n t w v) = Ends P w × Ends P v
Ends P (results n rows w) = all_of (all_of finite) (map values rows) ≡ true → Ends P w
Ends P (end a) = P a

-- P holds of what is given
abbrev pub Given : {A : Type 0} → (A → Type 0) → Ended A → Type 0
Given P (given a) = P a
Given P (refused n) = Unit {0}

module _ {A : Type 0} (P : A → Type 0) where
  gate : (b : Bool) (n : ℕ) (x : Ended A) → (b ≡ true → Given P x) → Given P (cond b x (refused n))
  gate true n x h = h refl
  gate false n x h = tt

  fork : (b : Bool) (x y : Ended A) → Given P x → Given P y → Given P (cond b x y)
  fork true x y h i = h
  fork false x y h i = i

  told : (e : Answer) (k : Float → Ended A) → ((v : Float) → Given P (k v)) → Given P (asked e k)
  told (answers.Value v) k h = h v
  told (answers.Refused n) k h = tt

  pub ends_given : (w : Walk A) → Ends P w → Given P (walk_result w)
  ends_given (inputs l w) h = gate (all_of finite l) 1 (walk_result w) (λ q. ends_given w h)
  ends_given (ask n f e k) h = told (answer_of f (value e)) (λ v. walk_result (k (num v))) (λ v. ends_given (k (num v)) (h (num v)))
  ends_given (works n es k) h = gate (numbers es) 3 (walk_result (k (values es))) (λ q. ends_given (k (values es)) (h (values es)))
  ends_given (either n t a b k) h =
      let v = num (picked t a b) in
      let x = walk_result (k v) in
      let ok = is_number (picked t a b) in
      gate (tellable t) 3 (cond ok x (refused 3)) (λ q. gate ok 3 x (λ r. ends_given (k (num (picked t a b))) (h (num (picked t a b)))))
  ends_given (branch n t w v) h =
      gate (tellable t) 3 (cond (holds t) (walk_result w) (walk_result v)) (λ q. fork (holds t) (walk_result w) (walk_result v) (ends_given w h.0) (ends_given v h.1))
  ends_given (split n t w v) h =
      gate (tellable t) 3 (cond (holds t) (walk_result w) (walk_result v)) (λ q. fork (holds t) (walk_result w) (walk_result v) (ends_given w h.0) (ends_given v h.1))
  ends_given (results n rows w) h = gate (all_of (all_of finite) (map values rows)) 3 (walk_result w) (λ q. ends_given w (h q))
  ends_given (end a) h = h

  -- ---- walks made of others
  pub ends_asks : (n : ℕ) (f : Function) (l : List Float) (k : List Float → Walk A) → ((vs : List Float) → Ends P (k vs)) → Ends P (asks n f l k)
  ends_asks n f [] k h = h []
  ends_asks n f (x ∷ l) k h = λ v. ends_asks n f l (λ vs. k (value v ∷ vs)) (λ vs. h (value v ∷ vs))

module _ {A B : Type 0} (Q : A → Type 0) (P : B → Type 0) (g : A → Walk B) (i : (a : A) → Q a → Ends P (g a)) where
  pub ends_then : (w : Walk A) → Ends Q w → Ends P (w then g)
  ends_then (inputs l w) h = ends_then w h
  ends_then (ask n f e k) h = λ v. ends_then (k v) (h v)
  ends_then (works n es k) h = λ vs. ends_then (k vs) (h vs)
  ends_then (either n t x y k) h = λ v. ends_then (k v) (h v)
  ends_then (branch n t w v) h = (ends_then w h.0, ends_then v h.1)
  ends_then (split n t w v) h = (ends_then w h.0, ends_then v h.1)
  ends_then (results n rows w) h = λ q. ends_then w (h q)
  ends_then (end a) h = i a h

-- whatever the walk before it gives
module _ {A B : Type 0} (P : B → Type 0) (g : A → Walk B) (i : (a : A) → Ends P (g a)) where
  pub ends_after : (w : Walk A) → Ends P (w then g)
  ends_after (inputs l w) = ends_after w
  ends_after (ask n f e k) = λ v. ends_after (k v)
  ends_after (works n es k) = λ vs. ends_after (k vs)
  ends_after (either n t x y k) = λ v. ends_after (k v)
  ends_after (branch n t w v) = (ends_after w, ends_after v)
  ends_after (split n t w v) = (ends_after w, ends_after v)
  ends_after (results n rows w) = λ q. ends_after w
  ends_after (end a) = i a
