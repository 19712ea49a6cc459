-- The inputs are tested once, before the steps: a walk without inputs, and the numbers that can stop it (RULES, section 6). Assumes nothing.
use mathlib.Core.Path.{◌≡◌, sym}
use mathlib.Core.Bool.{Bool, true, false, cond}
use mathlib.Core.List.{List, [], ◌∷◌}
use mathlib.Core.Logic.{◌⊎◌, inl, inr, ⊎_elim}
use Prim.Native.Nat.{ℕ, ◌≤◌}
use native.Mathlib.Omega.{arith}
use lib.Ieee.{Float}
use Rattle.answers.specs.Refusals.{below_range, above_range}
use Rattle.walk.specs.Expr.{Expr, num, value, values}
use Rattle.walk.specs.Walk.{Function, at, Test, holds, Walk, inputs, ask, asks, works, either, branch, split, when, mosts, leasts, results, end, ◌then◌, picked}
use Rattle.walk.specs.Exact.{Met, input, argument, worked, tested, result_of, path}
use Rattle.walk.specs.Numbers.{Refuses, Stops}

abbrev pub Inner : {A : Type 0} → Walk A → Type 0
Inner (inputs l w) = ⊥
Inner (ask n f e k) = (v : Expr) → Inner (k v)
Inner (works n es k) = (vs : List Float) → Inner (k vs)
Inner (either n t a b k) = (v : Expr) → Inner (k v)
Inner (branch n t w v) = Inner w × Inner v
Inner (split n t w v) = Inner w × Inner v
Inner (results n rows w) = Inner w
Inner (end a) = Unit {0}

-- no input is met on its path
abbrev pub Later : List Met → Type 0
Later [] = Unit {0}
Later (input l ∷ ms) = ⊥
Later (argument n f e ∷ ms) = Later ms
Later (worked n es ∷ ms) = Later ms
Later (tested n t ∷ ms) = Later ms
Later (result_of n rows ∷ ms) = Later ms

fork : (b : Bool) (p q : List Met) → Later p → Later q → Later (cond b p q)
fork true p q h i = h
fork false p q h i = i

pub later : {A : Type 0} (w : Walk A) → Inner w → Later (path w)
later (inputs l w) h = absurd h
later (ask n f e k) h = later (k (num (at f (value e)))) (h (num (at f (value e))))
later (works n es k) h = later (k (values es)) (h (values es))
later (either n t a b k) h = later (k (num (picked t a b))) (h (num (picked t a b)))
later (branch n t w v) h = fork (holds t) (path w) (path v) (later w h.0) (later v h.1)
later (split n t w v) h = fork (holds t) (path w) (path v) (later w h.0) (later v h.1)
later (results n rows w) h = later w h
later (end a) h = tt

-- ---- walks made of others
pub inner_then : {A B : Type 0} (w : Walk A) (g : A → Walk B) → Inner w → ((a : A) → Inner (g a)) → Inner (w then g)
inner_then (inputs l w) g h i = absurd h
inner_then (ask n f e k) g h i = λ v. inner_then (k v) g (h v) i
inner_then (works n es k) g h i = λ vs. inner_then (k vs) g (h vs) i
inner_then (either n t x y k) g h i = λ v. inner_then (k v) g (h v) i
inner_then (branch n t w v) g h i = (inner_then w g h.0 i, inner_then v g h.1 i)
inner_then (split n t w v) g h i = (inner_then w g h.0 i, inner_then v g h.1 i)
inner_then (results n rows w) g h i = inner_then w g h i
inner_then (end a) g h i = i a

module _ {A : Type 0} where
  pub inner_asks : (n : ℕ) (f : Function) (l : List Float) (k : List Float → Walk A) → ((vs : List Float) → Inner (k vs)) → Inner (asks n f l k)
  inner_asks n f [] k h = h []
  inner_asks n f (x ∷ l) k h = λ v. inner_asks n f l (λ vs. k (value v ∷ vs)) (λ vs. h (value v ∷ vs))

  pub inner_mosts : (n : ℕ) (l : List Float) (b : Expr) (k : List Float → Walk A) → ((vs : List Float) → Inner (k vs)) → Inner (mosts n l b k)
  inner_mosts n [] b k h = h []
  inner_mosts n (x ∷ l) b k h = λ v. inner_mosts n l b (λ vs. k (value v ∷ vs)) (λ vs. h (value v ∷ vs))

  pub inner_leasts : (n : ℕ) (l : List Float) (b : Expr) (k : List Float → Walk A) → ((vs : List Float) → Inner (k vs)) → Inner (leasts n l b k)
  inner_leasts n [] b k h = h []
  inner_leasts n (x ∷ l) b k h = λ v. inner_leasts n l b (λ vs. k (value v ∷ vs)) (λ vs. h (value v ∷ vs))

  pub inner_when : (n : ℕ) (ts : List Test) (w v : Walk A) → Inner w → Inner v → Inner (when n ts w v)
  inner_when n [] w v h i = h
  inner_when n (t ∷ ts) w v h i = (inner_when n ts w v h i, i)

-- ---- what stops a path
met_between : (m : Met) (n : ℕ) → Refuses n m → ((1 ≤ n) × (n ≤ 3)) ⊎ (n ≡ above_range)
met_between m n (inl q) = let z = q.1 in inl (omega arith)
met_between m n (inr (inl q)) = inr (sym q.1)
met_between (input l) n (inr (inr q)) = let z = q.1 in inl (omega arith)
met_between (argument k f e) n (inr (inr q)) = let z = q.1 in inl (omega arith)
met_between (worked k es) n (inr (inr q)) = let z = q.1 in inl (omega arith)
met_between (tested k t) n (inr (inr q)) = let z = q.1 in inl (omega arith)
met_between (result_of k l) n (inr (inr q)) = let z = q.1 in inl (omega arith)

pub between : (ms : List Met) (n : ℕ) → Stops n ms → ((1 ≤ n) × (n ≤ 3)) ⊎ (n ≡ above_range)
between [] n q = absurd q
between (m ∷ ms) n (inl q) = met_between m n q
between (m ∷ ms) n (inr q) = between ms n q.1

no_one : {a b c : Type 0} → (a × ◌≡◌ {A = ℕ} below_range 1) ⊎ ((b × ◌≡◌ {A = ℕ} above_range 1) ⊎ (c × ◌≡◌ {A = ℕ} 3 1)) → ⊥
no_one (inl q) = let z = q.1 in omega arith
no_one (inr (inl q)) = let z = q.1 in omega arith
no_one (inr (inr q)) = let z = q.1 in omega arith

pub never_one : (ms : List Met) → Later ms → Stops 1 ms → ⊥
never_one [] h q = q
never_one (input l ∷ ms) h q = h
never_one (argument k f e ∷ ms) h q = ⊎_elim no_one (λ p. never_one ms h p.1) q
never_one (worked k es ∷ ms) h q = ⊎_elim no_one (λ p. never_one ms h p.1) q
never_one (tested k t ∷ ms) h q = ⊎_elim no_one (λ p. never_one ms h p.1) q
never_one (result_of k l ∷ ms) h q = ⊎_elim no_one (λ p. never_one ms h p.1) q
