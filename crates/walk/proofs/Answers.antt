-- Walks that end in a number, a matrix or a vector: what the code answers, and when it refuses (RULES, section 6).
use mathlib.Core.Bool.{Bool, true, false, cond, ◌&&◌}
use mathlib.Core.List.{List, [], ◌∷◌}
use mathlib.Core.Logic.{◌↔◌, inl, inr}
use mathlib.Core.Option.{Option, some, none}
use mathlib.Core.Path.{◌≡◌, refl, ap, sym, ◌∙◌}
use Prim.Native.Nat.{ℕ, ◌<◌}
use native.Mathlib.Omega.{arith}
use lib.Ieee.{Float, nan, inf, fin}
use Rattle.answers.specs.Refusals.{no_number}
use Rattle.answers.specs.Range.{in_range, side_of}
use Rattle.answers.specs.Answer.{answered_of}
use Rattle.answers.specs.declared.Answer.TheVariants as answers
use Rattle.numbers.specs.Floats.{finite, is_number}
use Rattle.tensor.specs.Matrix.{rows_of}
use Rattle.tensor.specs.Finite.{row_finite, mat_finite}
use Rattle.tensor.specs.Answer.{refused_matrix, refused_vector, answered, answered_vector}
use Rattle.walk.specs.Expr.{Expr, value, values}
use Rattle.walk.specs.Walk.{Function, low_of, high_of, at, answer_of, Walk, Test, tellable, holds, split, Ended, given, refused, asked, walk_result, answer_as}
use Rattle.walk.specs.Exact.{path, first, final, answer, Refusal, Met, input, argument, worked, tested, result_of}
use Rattle.walk.proofs.Exact.{exactly}
use Rattle.walk.specs.Update.{number_of}
use Rattle.walk.specs.Numbers.{Stops, Refuses, Clear}
use Rattle.walk.proofs.Numbers.{first_stops, first_clear}
use Rattle.walk.specs.Tensor.{worth}
use Rattle.walk.specs.Answers.{matrix, returned, returned_matrix, returned_vector, vector_as, matrix_as, refusal_in}

-- ---- what the code tests
number_picked : (b : Bool) (x : Float) → answer_as (cond b (given x) (refused no_number)) ≡ cond b (answers.Value x) (answers.Refused no_number)
number_picked true x = refl
number_picked false x = refl

pub returned_law : (n : ℕ) (e : Expr) → answer_as (walk_result (returned n e)) ≡ answered_of (value e)
returned_law n e = number_picked (finite (value e)) (value e)

matrix_picked : (b : Bool) (m : List (List Float)) → matrix_as (cond b (given m) (refused no_number)) ≡ cond b (record { refusal = 0; matrix = rows_of m }) (refused_matrix no_number)
matrix_picked true m = refl
matrix_picked false m = refl

pub returned_matrix_lem : (n : ℕ) (m : List (List Expr)) → matrix_as (walk_result (returned_matrix n m)) ≡ answered (worth m)
unfolding answered
returned_matrix_lem n m = matrix_picked (mat_finite (worth m)) (worth m)

vector_picked : (b : Bool) (v : List Float) → vector_as (cond b (given v) (refused no_number)) ≡ cond b (record { refusal = 0; vector = v }) (refused_vector no_number)
vector_picked true v = refl
vector_picked false v = refl

pub returned_vector_lem : (n : ℕ) (v : List Expr) → vector_as (walk_result (returned_vector n v)) ≡ answered_vector (values v)
unfolding answered_vector
returned_vector_lem n v = vector_picked (row_finite (values v)) (values v)

-- two results, by a test of numbers
pub number_split : (b : Bool) (x y : Ended Float) → answer_as (cond b x y) ≡ cond b (answer_as x) (answer_as y)
number_split true x y = refl
number_split false x y = refl

pub split_number : (n m : ℕ) (t : Test) (a b : Expr) → tellable t ≡ true
    → answer_as (walk_result (split n t (returned m a) (returned m b))) ≡ cond (holds t) (answered_of (value a)) (answered_of (value b))
split_number n m t a b h =
    rw (h, number_split (holds t) (walk_result (returned m a)) (walk_result (returned m b)), returned_law m a, returned_law m b)

pub matrix_split : (b : Bool) (x y : Ended (List (List Float))) → matrix_as (cond b x y) ≡ cond b (matrix_as x) (matrix_as y)
matrix_split true x y = refl
matrix_split false x y = refl

pub vector_split : (b : Bool) (x y : Ended (List Float)) → vector_as (cond b x y) ≡ cond b (vector_as x) (vector_as y)
vector_split true x y = refl
vector_split false x y = refl

pub split_vector : (n m : ℕ) (t : Test) (a b : List Expr) → tellable t ≡ true
    → vector_as (walk_result (split n t (returned_vector m a) (returned_vector m b))) ≡ cond (holds t) (answered_vector (values a)) (answered_vector (values b))
split_vector n m t a b h =
    rw (h, vector_split (holds t) (walk_result (returned_vector m a)) (walk_result (returned_vector m b)), returned_vector_lem m a, returned_vector_lem m b)

pub split_matrix : (n m : ℕ) (t : Test) (a b : List (List Expr)) → tellable t ≡ true
    → matrix_as (walk_result (split n t (returned_matrix m a) (returned_matrix m b))) ≡ cond (holds t) (answered (worth a)) (answered (worth b))
split_matrix n m t a b h =
    rw (h, matrix_split (holds t) (walk_result (returned_matrix m a)) (walk_result (returned_matrix m b)), returned_matrix_lem m a, returned_matrix_lem m b)

-- ---- a NaN that a later step refuses needs no test of its own
pub tested_later : {A : Type 0} (x : Float) (r : Float → Ended A) → r nan ≡ refused no_number → cond (is_number x) (r x) (refused no_number) ≡ r x
unfolding is_number
tested_later nan r h = sym h
tested_later (inf s) r h = refl
tested_later (fin s m e) r h = refl

-- two tests in one
pub both : {A : Type 0} (a b : Bool) (x y : Ended A) → cond a (cond b x y) y ≡ cond (a && b) x y
both true b x y = refl
both false b x y = refl

pub same : {A : Type 0} (a : Bool) (x : Ended A) → cond a x x ≡ x
same true x = refl
same false x = refl

-- a NaN is refused where it is asked
pub asked_nan : {A : Type 0} (f : Function) (k : Float → Ended A) → asked (answer_of f nan) k ≡ refused no_number
unfolding is_number
asked_nan f k = refl

pub asked_later : {A : Type 0} (x : Float) (a : Bool) (f : Function) (k : Float → Float → Ended A)
    → cond (is_number x) (cond a (asked (answer_of f x) (k x)) (refused no_number)) (refused no_number) ≡ cond a (asked (answer_of f x) (k x)) (refused no_number)
asked_later x a f k =
    tested_later x (λ y. cond a (asked (answer_of f y) (k y)) (refused no_number)) (ap (λ e. cond a e (refused no_number)) (asked_nan f (k nan)) ∙ same a (refused no_number))

-- what is asked and answered is a number
answering : (a b : Bool) (n : ℕ) (x v : Float) → cond a (cond b (answers.Value v) (answers.Refused n)) (answers.Refused no_number) ≡ answers.Value x → a ≡ true
answering true b n x v h = refl
answering false b n x v h = absurd (let z : ◌≡◌ {A = ℕ} 0 1 = cc in omega arith)

pub asked_number : (f : Function) (x v : Float) → answer_of f x ≡ answers.Value v → is_number x ≡ true
asked_number f x v h = answering (is_number x) (in_range (low_of f) (high_of f) x) (side_of (low_of f) (high_of f) x) v (at f x) h

-- ---- section 6, "When, and only then": refused by n exactly where the path stops by n, by no number exactly where all of it passes
told : {A : Type 0} (o : Option Refusal) (a : A) → refusal_in (answer o a) ≡ number_of o
told none a = refl
told (some r) a = refl

module _ {A : Type 0} (w : Walk A) where
  refusal_told : refusal_in (walk_result w) ≡ number_of (first (path w))
  refusal_told = ap refusal_in (exactly w) ∙ told (first (path w)) (final w)

  pub refused_when : (n : ℕ) → (refusal_in (walk_result w) ≡ some n) ↔ Stops n (path w)
  refused_when n = (
    λ e. (first_stops (path w) n).0 (sym refusal_told ∙ e),
    λ q. refusal_told ∙ (first_stops (path w) n).1 q,
  )

  pub accepted_when : (refusal_in (walk_result w) ≡ none) ↔ Clear (path w)
  accepted_when = (
    λ e. (first_clear (path w)).0 (sym refusal_told ∙ e),
    λ q. refusal_told ∙ (first_clear (path w)).1 q,
  )

-- of a number
number_to : (x : Ended Float) (n : ℕ) → answer_as x ≡ answers.Refused n → refusal_in x ≡ some n
number_to (given v) n e = absurd (let z : ◌≡◌ {A = ℕ} 0 1 = cc in omega arith)
number_to (refused m) n e = let z : m ≡ n = cc in ap some z

number_from : (x : Ended Float) (n : ℕ) → refusal_in x ≡ some n → answer_as x ≡ answers.Refused n
number_from (given v) n e = absurd (let z : ◌≡◌ {A = ℕ} 0 1 = cc in omega arith)
number_from (refused m) n e = let z : m ≡ n = cc in ap answers.Refused z

pub number_refused : (w : Walk Float) (n : ℕ) → (answer_as (walk_result w) ≡ answers.Refused n) ↔ Stops n (path w)
number_refused w n = (
  λ e. (refused_when w n).0 (number_to (walk_result w) n e),
  λ q. number_from (walk_result w) n ((refused_when w n).1 q),
)

-- of a matrix: the refusal stands beside it, 0 where there is none
matrix_to : (x : Ended (List (List Float))) (n : ℕ) → 0 < n → (matrix_as x).refusal ≡ n → refusal_in x ≡ some n
matrix_to (given m) n h e = absurd (omega arith)
matrix_to (refused m) n h e = ap some e

matrix_from : (x : Ended (List (List Float))) (n : ℕ) → refusal_in x ≡ some n → (matrix_as x).refusal ≡ n
matrix_from (given m) n e = absurd (let z : ◌≡◌ {A = ℕ} 0 1 = cc in omega arith)
matrix_from (refused m) n e = cc

met_positive : (m : Met) (n : ℕ) → Refuses n m → 0 < n
met_positive m n (inl q) = let z = q.1 in omega arith
met_positive m n (inr (inl q)) = let z = q.1 in omega arith
met_positive (input l) n (inr (inr q)) = let z = q.1 in omega arith
met_positive (argument k f e) n (inr (inr q)) = let z = q.1 in omega arith
met_positive (worked k es) n (inr (inr q)) = let z = q.1 in omega arith
met_positive (tested k t) n (inr (inr q)) = let z = q.1 in omega arith
met_positive (result_of k l) n (inr (inr q)) = let z = q.1 in omega arith

pub stops_positive : (ms : List Met) (n : ℕ) → Stops n ms → 0 < n
stops_positive [] n q = absurd q
stops_positive (m ∷ ms) n (inl q) = met_positive m n q
stops_positive (m ∷ ms) n (inr q) = stops_positive ms n q.1

pub matrix_refused : (w : Walk (List (List Float))) (n : ℕ) → ((0 < n) × ((matrix_as (walk_result w)).refusal ≡ n)) ↔ Stops n (path w)
matrix_refused w n = (
  λ q. (refused_when w n).0 (matrix_to (walk_result w) n q.0 q.1),
  λ q. (stops_positive (path w) n q, matrix_from (walk_result w) n ((refused_when w n).1 q)),
)

-- of a vector
vector_to : (x : Ended (List Float)) (n : ℕ) → 0 < n → (vector_as x).refusal ≡ n → refusal_in x ≡ some n
vector_to (given v) n h e = absurd (omega arith)
vector_to (refused m) n h e = ap some e

vector_from : (x : Ended (List Float)) (n : ℕ) → refusal_in x ≡ some n → (vector_as x).refusal ≡ n
vector_from (given v) n e = absurd (let z : ◌≡◌ {A = ℕ} 0 1 = cc in omega arith)
vector_from (refused m) n e = cc

pub vector_refused : (w : Walk (List Float)) (n : ℕ) → ((0 < n) × ((vector_as (walk_result w)).refusal ≡ n)) ↔ Stops n (path w)
vector_refused w n = (
  λ q. (refused_when w n).0 (vector_to (walk_result w) n q.0 q.1),
  λ q. (stops_positive (path w) n q, vector_from (walk_result w) n ((refused_when w n).1 q)),
)
