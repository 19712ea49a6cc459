-- Three numbers asked at once, as a law's code asks them: all three values, or the first refusal in order, is what `asks` of three comes to.
-- By any reading of a walk. Assumes nothing.
use mathlib.Core.List.{List}
use mathlib.Core.Bool.{Bool}
use mathlib.Core.Path.{◌≡◌, refl, sym, ap, ◌∙◌}
use Prim.Native.Nat.{ℕ}
use lib.ListN.{get_or, length}
use lib.Ieee.{Float, nan}
use Rattle.answers.specs.Answer.{triple_of}
use Rattle.answers.specs.declared.Answer.{Answer}
use Rattle.answers.specs.declared.Answer.TheVariants.{Value, Refused}
use Rattle.answers.specs.declared.Triple.{Triple}
use Rattle.answers.specs.declared.Triple.TheVariants as triple
use Rattle.tensor.proofs.Axes.{of_one}
use Rattle.tensor.specs.Matrix.{three}
use Rattle.walk.specs.Walk.{Function, answer_of, Test, Walk, asks, by_answer, read}

abbrev pub answers_of : Function → List Float → Triple
answers_of f l = triple_of (answer_of f (get_or l 0 nan)) (answer_of f (get_or l 1 nan)) (answer_of f (get_or l 2 nan))

abbrev pub by_three : {B : Type 0} → (ℕ → B) → Triple → (List Float → B) → B
by_three stop (triple.Values x y z) k = k (three x y z)
by_three stop (triple.Refused n) k = stop n

module _ {B N A : Type 0} (stop : ℕ → ℕ → B) (note : N → ℕ → Test → Bool → N) (ends : N → A → B) (r : N) where
  in_order : (n : ℕ) (a b c : Answer) (k : List Float → B)
      → by_answer (λ m. stop m n) a (λ x. by_answer (λ m. stop m n) b (λ y. by_answer (λ m. stop m n) c (λ z. k (three x y z)))) ≡ by_three (λ m. stop m n) (triple_of a b c) k
  in_order n (Value x) (Value y) (Value z) k = refl
  in_order n (Value x) (Value y) (Refused m) k = refl
  in_order n (Value x) (Refused m) c k = refl
  in_order n (Refused m) b c k = refl

  pub asks_read : (n : ℕ) (f : Function) (l : List Float) (k : List Float → Walk A) (t : Triple) → length l ≡ 3 → answers_of f l ≡ t
      → by_three (λ m. stop m n) t (λ v. read answer_of stop note ends r (k v)) ≡ read answer_of stop note ends r (asks n f l k)
  asks_read n f l k t axes h =
      let a : ℕ → Answer = λ i. answer_of f (get_or l i nan) in
      let K : List Float → B = λ v. read answer_of stop note ends r (k v) in
      sym (in_order n (a 0) (a 1) (a 2) K ∙ ap (λ t. by_three (λ m. stop m n) t K) h) ∙ of_one (λ v. read answer_of stop note ends r (asks n f v k)) nan l axes
