-- A walk's answer with its step: by the first refusal on the path, and piece after piece.
use mathlib.Core.Bool.{true, cond}
use mathlib.Core.List.{List}
use mathlib.Core.Path.{◌≡◌, sym, ◌∙◌}
use Prim.Native.Nat.{ℕ}
use Rattle.numbers.specs.Floats.{is_number, max_of}
use Rattle.tensor.specs.Axes.{all_of}
use Rattle.walk.specs.Expr.{Expr, num, value}
use Rattle.walk.specs.Walk.{Test, holds, Walk, ◌then◌, tellable, unnoted, walk_result, when, most}
use Rattle.walk.proofs.Exact.{read_map, read_then}
use Rattle.walk.proofs.Steps.{most_read, when_read}
use Rattle.reason.specs.Traced.{reached, stopped, traced, untraced, onwards}

-- ---- without the step it is the walk's answer
pub result_traced : {A : Type 0} (w : Walk A) → walk_result w ≡ untraced (traced w)
result_traced w = sym (read_map untraced stopped unnoted (λ r a. reached a) tt w)

-- ---- a walk and what follows it
pub traced_then : {A B : Type 0} (w : Walk A) (g : A → Walk B) → traced (w then g) ≡ onwards (traced w) (λ a. traced (g a))
traced_then w g =
    read_then stopped unnoted (λ r a. reached a) g tt w ∙ sym (read_map (λ x. onwards x (λ a. traced (g a))) stopped unnoted (λ r a. reached a) tt w)

-- ---- steps made of others where no NaN is met
module _ {A : Type 0} where
  pub most_traced : (n : ℕ) (a b : Expr) (k : Expr → Walk A) → is_number (value a) ≡ true → is_number (value b) ≡ true
      → traced (most n a b k) ≡ traced (k (num (max_of (value a) (value b))))
  most_traced = most_read stopped unnoted (λ r a. reached a) tt

  pub when_traced : (n : ℕ) (ts : List Test) (w v : Walk A) → all_of tellable ts ≡ true → traced (when n ts w v) ≡ cond (all_of holds ts) (traced w) (traced v)
  when_traced = when_read stopped unnoted (λ r a. reached a) tt
