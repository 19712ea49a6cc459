-- What is met on the path that a walk takes, the first refusal there and the last test; and that the walk answers by these.
use Rattle.std.specs.Prelude.{Bool, cond, ◌&&◌, List, [], ◌∷◌, ℕ, zero, suc, Float}
use Rattle.std.proofs.Math.Option.{Option, some, none}
use Rattle.numbers.specs.Floats.{finite}
use Rattle.answers.specs.Range.{in_range, side_of}
use Rattle.tensor.specs.Axes.{all_of}
use Rattle.walk.specs.Expr.{Expr, num, value, clean, values}
use Rattle.walk.specs.Walk.{Function, low_of, high_of, at, Test, holds, compared, Walk, inputs, ask, works, either, branch, split, results, end, Ended, given, refused, picked}

-- ---- the path
pub data Met : Type 0 where
  input : List Float → Met
  argument : ℕ → Function → Expr → Met
  worked : ℕ → List Expr → Met
  tested : ℕ → Test → Met
  result_of : ℕ → List (List Expr) → Met

-- the path taken; a number worked in one of two ways counts as the one that the test picks
abbrev pub path : {A : Type 0} → Walk A → List Met
path (inputs l w) = input l ∷ path w
path (ask n f e k) = argument n f e ∷ path (k (num (at f (value e))))
path (works n es k) = worked n es ∷ path (k (values es))
path (either n t a b k) = worked n (compared t) ∷ worked n (cond (holds t) a b ∷ []) ∷ path (k (num (picked t a b)))
path (branch n t w v) = tested n t ∷ cond (holds t) (path w) (path v)
path (split n t w v) = worked n (compared t) ∷ cond (holds t) (path w) (path v)
path (results n rows w) = result_of n rows ∷ path w
path (end a) = []

-- where it ends
abbrev pub final : {A : Type 0} → Walk A → A
final (inputs l w) = final w
final (ask n f e k) = final (k (num (at f (value e))))
final (works n es k) = final (k (values es))
final (either n t a b k) = final (k (num (picked t a b)))
final (branch n t w v) = cond (holds t) (final w) (final v)
final (split n t w v) = cond (holds t) (final w) (final v)
final (results n rows w) = final w
final (end a) = a

-- ---- section 6: the first refusal on the path, its number and its step; at step 0, the inputs, the place too
pub record Refusal : Type 0 where
  pub number : ℕ
  pub step : ℕ
  pub place : ℕ

abbrev pub stop_at : ℕ → ℕ → Option Refusal
stop_at n k = some (record { number = n; step = k; place = 0 })

-- the place of the first that isn't finite, from 0
abbrev pub place_of : List Float → ℕ
place_of [] = zero
place_of (x ∷ l) = cond (finite x) (suc (place_of l)) zero

-- 3 where any part of any of them is a NaN
abbrev pub all_clean : List Expr → Bool
all_clean es = all_of clean es

abbrev pub first : List Met → Option Refusal
first [] = none
first (input l ∷ ms) = cond (all_of finite l) (first ms) (some (record { number = 1; step = 0; place = place_of l }))
first (argument n f e ∷ ms) = cond (clean e) (cond (in_range (low_of f) (high_of f) (value e)) (first ms) (stop_at (side_of (low_of f) (high_of f) (value e)) n)) (stop_at 3 n)
first (worked n es ∷ ms) = cond (all_clean es) (first ms) (stop_at 3 n)
first (tested n t ∷ ms) = cond (all_clean (compared t)) (first ms) (stop_at 3 n)
first (result_of n rows ∷ ms) = cond (all_of (all_of (λ e. clean e && finite (value e))) rows) (first ms) (stop_at 3 n)

-- ---- ticket 8: the last test of section 5's branches, the numbers that it compared, and whether it held
pub record Reason : Type 0 where
  pub test : ℕ
  pub compares : List Float
  pub held : Bool

-- what is noted of the tests of a path
module _ {S : Type 0} (note : S → ℕ → Test → Bool → S) where
  abbrev pub noted : S → List Met → S
  noted r [] = r
  noted r (input l ∷ ms) = noted r ms
  noted r (argument n f e ∷ ms) = noted r ms
  noted r (worked n es ∷ ms) = noted r ms
  noted r (tested n t ∷ ms) = noted (note r n t (holds t)) ms
  noted r (result_of n rows ∷ ms) = noted r ms

abbrev pub last_test : Option Reason → ℕ → Test → Bool → Option Reason
last_test r n t held = some (record { test = n; compares = values (compared t); held = held })

abbrev pub last_from : Option Reason → List Met → Option Reason
last_from r ms = noted last_test r ms

abbrev pub last : List Met → Option Reason
last ms = last_from none ms

-- what is made of the first refusal, or of the end
abbrev pub ended_by : {B : Type 0} → (ℕ → ℕ → B) → Option Refusal → B → B
ended_by stop none b = b
ended_by stop (some r) b = stop r.number r.step

abbrev pub answer : {A : Type 0} → Option Refusal → A → Ended A
answer o a = ended_by (λ m n. refused m) o (given a)

-- one after the other
abbrev pub and_then : {A B : Type 0} → Ended A → (A → Ended B) → Ended B
and_then (given a) k = k a
and_then (refused n) k = refused n
