-- A law as data: its steps in order, each with what follows it (RULES, section 6: "the steps run in the law's order to the first 2,
-- 10 or NaN met; whether the results are finite comes last"). A step's number is the one in docs.
use Rattle.std.specs.Prelude.{Bool, true, false, cond, ◌&&◌, List, [], ◌∷◌, map, ℕ, get_or, Float}
use Rattle.std.specs.Float.Ieee as Ieee
use Rattle.answers.specs.Refusals.{not_finite, no_number}
use Rattle.numbers.specs.Floats.{finite, is_number}
use Rattle.answers.specs.Range.{ranged, on_path}
use Rattle.answers.specs.declared.Answer.{Answer}
use Rattle.answers.specs.declared.Answer.TheVariants as answers
use Rattle.exact.specs.RootOf.{sqrt_of}
use Rattle.exponential.specs.Worked as exponential
use Rattle.exponential.specs.Sinh.{sinh_of}
use Rattle.logarithm.specs.Worked as logarithm
use Rattle.sine.specs.Sine as sine
use Rattle.square_root.specs.Sqrt as square_root_lem
use Rattle.thirds.specs.Thirds as thirds
use Rattle.tensor.specs.Axes.{all_of}
use Rattle.tensor.specs.Matrix.{zero}
use Rattle.walk.specs.Expr.{Expr, num, ◌-ᵉ◌, value, values, nums}

-- ---- section 3's functions
pub data Function : Type 0 where
  exp : Function
  ln : Function
  sin : Function
  root : Function
  sinh : Function
  third : Function
  two_thirds : Function
  minus_third : Function
  minus_two_thirds : Function
  -- x itself, its first power, within the range for powers
  itself : Function

abbrev pub low_of : Function → Float
low_of exp = exponential.low
low_of ln = logarithm.low
low_of sin = sine.low
low_of root = square_root_lem.least
low_of sinh = exponential.low
low_of third = thirds.low
low_of two_thirds = thirds.low
low_of minus_third = thirds.low
low_of minus_two_thirds = thirds.low
low_of itself = thirds.low

abbrev pub high_of : Function → Float
high_of exp = exponential.high
high_of ln = logarithm.high
high_of sin = sine.high
high_of root = square_root_lem.largest
high_of sinh = exponential.high
high_of third = thirds.high
high_of two_thirds = thirds.high
high_of minus_third = thirds.high
high_of minus_two_thirds = thirds.high
high_of itself = thirds.high

abbrev pub at : Function → Float → Float
at exp x = exponential.exp_of x
at ln x = logarithm.ln_of x
at sin x = sine.sin_of x
at root x = sqrt_of x
at sinh x = sinh_of x
at third x = thirds.cbrt_of x
at two_thirds x = thirds.cbrt_squared_of x
at minus_third x = thirds.inv_cbrt_of x
at minus_two_thirds x = thirds.inv_cbrt_squared_of x
at itself x = x

-- as a step: 3 of a NaN, 2 below the range, 10 above it
abbrev pub answer_of : Function → Float → Answer
answer_of f x = on_path x (ranged (low_of f) (high_of f) x (at f x))

-- ---- a test, with the numbers that it compares
pub data Test : Type 0 where
  less : Expr → Expr → Test
  at_most : Expr → Expr → Test
  zeros : List Float → Test
  flag : Bool → Test

abbrev pub holds : Test → Bool
holds (less a b) = Ieee.lt (value a) (value b)
holds (at_most a b) = Ieee.le (value a) (value b)
holds (zeros l) = all_of (λ x. Ieee.eq x zero) l
holds (flag b) = b

abbrev pub compared : Test → List Expr
compared (less a b) = a ∷ b ∷ []
compared (at_most a b) = a ∷ b ∷ []
compared (zeros l) = nums l
compared (flag b) = []

-- ---- the steps
pub data Walk (A : Type 0) : Type 0 where
  -- the inputs are finite: parameters first, then the record's floats in its order
  inputs : List Float → Walk A → Walk A
  -- an elementary function is asked
  ask : ℕ → Function → Expr → (Expr → Walk A) → Walk A
  -- numbers are worked
  works : ℕ → List Expr → (List Float → Walk A) → Walk A
  -- a number worked in one of two ways, by a test that is no branch of section 5
  either : ℕ → Test → Expr → Expr → (Expr → Walk A) → Walk A
  -- a branch of section 5, under the test's number
  branch : ℕ → Test → Walk A → Walk A → Walk A
  -- two ways to go on, by a test that is no branch of section 5
  split : ℕ → Test → Walk A → Walk A → Walk A
  -- the results are finite
  results : ℕ → List (List Expr) → Walk A → Walk A
  end : A → Walk A

abbrev pub work : {A : Type 0} → ℕ → Expr → (Expr → Walk A) → Walk A
work n e k = works n (e ∷ []) (λ l. k (num (get_or l 0 (value e))))

-- minimum and maximum hide a NaN: both sides are compared, so a NaN in either is met; of two that are alike the second
abbrev pub most : {A : Type 0} → ℕ → Expr → Expr → (Expr → Walk A) → Walk A
most n a b k = either n (less b a) a b k

abbrev pub least : {A : Type 0} → ℕ → Expr → Expr → (Expr → Walk A) → Walk A
least n a b k = either n (less a b) a b k

-- the size: of a negative number or a zero, 0 - e
abbrev pub size : {A : Type 0} → ℕ → Expr → (Expr → Walk A) → Walk A
size n e k = either n (at_most e (num zero)) (num zero -ᵉ e) e k

-- where all tests hold w, else v: a later test is made only where the earlier ones hold
abbrev pub when : {A : Type 0} → ℕ → List Test → Walk A → Walk A → Walk A
when n [] w v = w
when n (t ∷ ts) w v = split n t (when n ts w v) v

-- a function of each entry, in index order
abbrev pub asks : {A : Type 0} → ℕ → Function → List Float → (List Float → Walk A) → Walk A
asks n f [] k = k []
asks n f (x ∷ l) k = ask n f (num x) (λ v. asks n f l (λ vs. k (value v ∷ vs)))

-- of each entry the larger, the smaller, of it and b
abbrev pub mosts : {A : Type 0} → ℕ → List Float → Expr → (List Float → Walk A) → Walk A
mosts n [] b k = k []
mosts n (x ∷ l) b k = most n (num x) b (λ v. mosts n l b (λ vs. k (value v ∷ vs)))

abbrev pub leasts : {A : Type 0} → ℕ → List Float → Expr → (List Float → Walk A) → Walk A
leasts n [] b k = k []
leasts n (x ∷ l) b k = least n (num x) b (λ v. leasts n l b (λ vs. k (value v ∷ vs)))

-- a walk, and what follows its end
infixl 1 ◌then◌
abbrev pub ◌then◌ : {A B : Type 0} → Walk A → (A → Walk B) → Walk B
◌then◌ (inputs l w) g = inputs l (w then g)
◌then◌ (ask n f e k) g = ask n f e (λ v. k v then g)
◌then◌ (works n es k) g = works n es (λ vs. k vs then g)
◌then◌ (either n t a b k) g = either n t a b (λ v. k v then g)
◌then◌ (branch n t w v) g = branch n t (w then g) (v then g)
◌then◌ (split n t w v) g = split n t (w then g) (v then g)
◌then◌ (results n rows w) g = results n rows (w then g)
◌then◌ (end a) g = g a

-- ---- what a step tests
abbrev pub numbers : List Expr → Bool
numbers es = all_of is_number (values es)

-- the numbers that a test compares are numbers
abbrev pub tellable : Test → Bool
tellable (less a b) = is_number (value a) && is_number (value b)
tellable (at_most a b) = is_number (value a) && is_number (value b)
tellable (zeros l) = all_of is_number l
tellable (flag b) = true

abbrev pub picked : Test → Expr → Expr → Float
picked t a b = cond (holds t) (value a) (value b)

abbrev pub by_answer : {B : Type 0} → (ℕ → B) → Answer → (Float → B) → B
by_answer stop (answers.Value v) k = k v
by_answer stop (answers.Refused n) k = stop n

-- one reading of a walk: its steps in order to the first that refuses. `answered` is what an elementary function answers, `stop` what is made of a
-- refusal's number and its step, `note` what is noted of a test of section 5's branches and of whether it held, `ends` what is made of the notes and of
-- the walk's end
module _ {B S : Type 0} (answered : Function → Float → Answer) (stop : ℕ → ℕ → B) (note : S → ℕ → Test → Bool → S) where
  abbrev pub read : {A : Type 0} → (S → A → B) → S → Walk A → B
  read ends r (inputs l w) = cond (all_of finite l) (read ends r w) (stop not_finite 0)
  read ends r (ask n f e k) = by_answer (λ m. stop m n) (answered f (value e)) (λ v. read ends r (k (num v)))
  read ends r (works n es k) = cond (numbers es) (read ends r (k (values es))) (stop no_number n)
  read ends r (either n t a b k) =
      cond (tellable t) (cond (is_number (picked t a b)) (read ends r (k (num (picked t a b)))) (stop no_number n)) (stop no_number n)
  read ends r (branch n t w v) = cond (tellable t) (cond (holds t) (read ends (note r n t true) w) (read ends (note r n t false) v)) (stop no_number n)
  read ends r (split n t w v) = cond (tellable t) (cond (holds t) (read ends r w) (read ends r v)) (stop no_number n)
  read ends r (results n rows w) = cond (all_of (all_of finite) (map values rows)) (read ends r w) (stop no_number n)
  read ends r (end a) = ends r a

-- where no test is noted
abbrev pub unnoted : Unit {0} → ℕ → Test → Bool → Unit {0}
unnoted r n t held = r

-- ---- what the walk answers: what the code is held to
pub data Ended (A : Type 0) : Type 0 where
  given : A → Ended A
  refused : ℕ → Ended A

abbrev pub asked : {A : Type 0} → Answer → (Float → Ended A) → Ended A
asked e k = by_answer refused e k

abbrev pub answers_by : {A : Type 0} → (Function → Float → Answer) → Walk A → Ended A
answers_by f w = read f (λ m n. refused m) unnoted (λ r a. given a) tt w

abbrev pub walk_result : {A : Type 0} → Walk A → Ended A
walk_result w = answers_by answer_of w

abbrev pub answer_as : Ended Float → Answer
answer_as (given x) = answers.Value x
answer_as (refused n) = answers.Refused n
