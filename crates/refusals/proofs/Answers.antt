-- Section 6 of an answer of each kind, from the walk that it answers as. Assumes nothing.
use mathlib.Core.Path.{◌≡◌, refl, sym, ap, ◌∙◌}
use mathlib.Core.Logic.{◌↔◌}
use mathlib.Core.Bool.{Bool, true, false, cond}
use mathlib.Core.List.{List}
use mathlib.Core.Option.{Option, some, none}
use Prim.Native.Nat.{ℕ, zero, suc, ◌<◌}
use native.Mathlib.Omega.{arith}
use lib.Ieee.{Float}
use Rattle.numbers.specs.Floats.{finite}
use Rattle.answers.specs.Answer.{answered_of}
use Rattle.answers.specs.declared.Answer.{Answer}
use Rattle.answers.specs.declared.Answer.TheVariants.{Value, Refused}
use Rattle.tensor.specs.Axes.{all_of}
use Rattle.tensor.specs.Finite.{mat_finite}
use Rattle.tensor.specs.Answer.{answered, refused_matrix}
use Rattle.walk.specs.Expr.{Expr, value}
use Rattle.walk.specs.Tensor.{worth}
use Rattle.walk.specs.Walk as walk
use Rattle.walk.specs.Walk.{Walk, inputs, Ended, given, refused, walk_result, answer_as}
use Rattle.walk.specs.Exact.{path}
use Rattle.walk.specs.Answers.{returned, returned_matrix, refusal_in}
use Rattle.walk.proofs.Answers.{refused_when, stops_positive}
use Rattle.refusals.specs.Refusals.{Numbers, Gives}
use Rattle.refusals.proofs.Inner.{Inner}
use Rattle.refusals.proofs.Numbers.{differ, nothing, numbers, told}

-- ---- a number
abbrev pub refusal_e : Answer → Option ℕ
refusal_e (Value x) = none
refusal_e (Refused n) = some n

as_number : (e : Answer) (n : ℕ) → refusal_e e ≡ some n → e ≡ Refused n
as_number (Value x) n q = absurd (nothing n q)
as_number (Refused m) n q = ap Refused (differ q)

number_told : (x : Ended Float) → refusal_e (answer_as x) ≡ refusal_in x
number_told (given v) = refl
number_told (refused n) = refl

pub gives : {A : Type 0} (e : Answer) (l : List Float) (w : Walk A) → Inner w → refusal_e e ≡ refusal_in (walk_result (inputs l w)) → Gives e (path (inputs l w))
gives e l w h q = told refusal_e Refused (λ n. refl) as_number e l w h q

pub walk_gives : (l : List Float) (w : Walk Float) → Inner w → Gives (answer_as (walk_result (inputs l w))) (path (inputs l w))
walk_gives l w h = gives (answer_as (walk_result (inputs l w))) l w h (number_told (walk_result (inputs l w)))

-- ---- a refusal beside the answer, 0 where there is none
abbrev pub beside : ℕ → Option ℕ
beside zero = none
beside (suc n) = some (suc n)

as_beside : (m n : ℕ) → ((0 < n) × (m ≡ n)) ↔ (beside m ≡ some n)
as_beside zero n = (λ q. absurd (omega arith), λ q. absurd (nothing n q))
as_beside (suc m) n = (λ q. ap some q.1, λ q. let e = differ q in (omega arith, e))

pub gives_beside : {A : Type 0} (m : ℕ) (l : List Float) (w : Walk A) → Inner w → beside m ≡ refusal_in (walk_result (inputs l w)) → Numbers (λ n. (0 < n) × (m ≡ n)) (path (inputs l w))
gives_beside m l w h e = numbers l w h (λ n. (λ q. sym e ∙ (as_beside m n).0 q, λ q. (as_beside m n).1 (e ∙ q)))

-- m tells the refusal beside what the walk ends in: no walk refuses by 0
pub ended_beside : {A : Type 0} (m : Ended A → ℕ) → ((a : A) → m (given a) ≡ 0) → ((n : ℕ) → m (refused n) ≡ n) → (l : List Float) (w : Walk A) → Inner w
    → Numbers (λ n. (0 < n) × (m (walk_result (inputs l w)) ≡ n)) (path (inputs l w))
ended_beside {A} m none_of Some-of l w h =
    numbers l w h (λ n. (λ q. to (walk_result (inputs l w)) n q, λ q. (stops_positive (path (inputs l w)) n ((refused_when (inputs l w) n).0 q), from (walk_result (inputs l w)) n q)))
  where
    to : (x : Ended A) (n : ℕ) → (0 < n) × (m x ≡ n) → refusal_in x ≡ some n
    to (given a) n q = let z = none_of a in let y = q.1 in absurd (omega arith)
    to (refused k) n q = ap some (sym (Some-of k) ∙ q.1)

    from : (x : Ended A) (n : ℕ) → refusal_in x ≡ some n → m x ≡ n
    from (given a) n q = absurd (nothing n q)
    from (refused k) n q = Some-of k ∙ differ q

-- the steps after the inputs
abbrev pub after : {A : Type 0} → Walk A → Walk A
after (inputs l w) = w
after (walk.ask n f e k) = walk.ask n f e k
after (walk.works n es k) = walk.works n es k
after (walk.either n t a b k) = walk.either n t a b k
after (walk.branch n t w v) = walk.branch n t w v
after (walk.split n t w v) = walk.split n t w v
after (walk.results n rows w) = walk.results n rows w
after (walk.end a) = walk.end a

-- ---- T tells an answer's number: it is the walk's
module _ {X A : Type 0} (T : X → Option ℕ) where
  -- a test, refused by n
  pub tested : (n : ℕ) (b : Bool) (x y : X) (p : Ended A) → T x ≡ refusal_in p → T y ≡ some n → T (cond b x y) ≡ refusal_in (cond b p (refused n))
  tested n true x y p h i = h
  tested n false x y p h i = i

  -- the inputs, by the contract's test of them
  pub entered : (l : List Float) (ok : Bool) → all_of finite l ≡ ok → (x y : X) (w : Walk A) → T x ≡ refusal_in (walk_result w) → T y ≡ some 1
      → T (cond ok x y) ≡ refusal_in (walk_result (inputs l w))
  entered l ok q x y w h i = tested 1 ok x y (walk_result w) h i ∙ ap (λ b. refusal_in (cond b (walk_result w) (refused 1))) (sym q)

-- an elementary function is asked
pub asked : {A : Type 0} (T : Answer → Option ℕ) → ((n : ℕ) → T (Refused n) ≡ some n) → (e : Answer) (k : Float → Ended A) → ((v : Float) → T (Value v) ≡ refusal_in (k v))
    → T e ≡ refusal_in (walk.asked e k)
asked T on (Value v) k h = h v
asked T on (Refused n) k h = on n

-- ---- a result
pub number_result : (n : ℕ) (e : Expr) → refusal_e (answered_of (value e)) ≡ refusal_in (walk_result (returned n e))
number_result n e = tested refusal_e 3 (finite (value e)) (Value (value e)) (Refused 3) (given (value e)) refl refl

pub matrix_result : (n : ℕ) (m : List (List Expr)) → beside (answered (worth m)).refusal ≡ refusal_in (walk_result (returned_matrix n m))
unfolding answered
matrix_result n m = tested (λ a. beside a.refusal) 3 (mat_finite (worth m)) _ (refused_matrix 3) (given (worth m)) refl refl
