-- Of a law's walk over any number of axes: its inputs and results as the code tests them, and that it is refused exactly where a step of its path
-- refuses, by the number of the first (RULES, section 6).
use mathlib.Core.Bool.{Bool, true, false, cond, ◌&&◌}
use mathlib.Core.List.{List, [], ◌∷◌, ◌++◌, map}
use mathlib.Core.Option.{Option, some, none}
use mathlib.Core.Path.{◌≡◌, refl, ap, sym, ◌∙◌}
use Prim.Native.Nat.{ℕ}
use lib.Ieee.{Float}
use Rattle.numbers.specs.Floats.{finite}
use Rattle.answers.specs.Refusals.{no_number}
use Rattle.tensor.specs.Axes.{all_of}
use Rattle.tensor.specs.Finite.{row_finite, mat_finite}
use Rattle.plasticity.specs.State.{scalars_finite}
use Rattle.plasticity.specs.declared.Outcome.TheVariants as outcome
use Rattle.plasticity.specs.declared.Scalars.{Scalars}
use Rattle.walk.specs.Expr.{Expr, values, nums}
use Rattle.walk.specs.Matrix.{values_nums, joined}
use Rattle.walk.specs.Walk.{Test, Walk, given, refused, answer_of, read, unnoted, walk_result}
use Rattle.walk.specs.Exact.{Refusal, path, final, first, answer}
use Rattle.walk.proofs.Exact.{exactly}
use Rattle.walk.proofs.Every.{all_append, all_joined, and_left, and_right, and_assoc}
use Rattle.walk.specs.Body.{Body, Change, untouched, stored, scalars_of, floats_over, refusal_of, number_of, updated_of, state_finite, inputs_finite, floats_of, store_walk, kept_of, outcome_of}

ordered : (f u g v x : Bool) → f && (u && (g && (v && x))) ≡ u && v && (f && g && x)
ordered false false g v x = refl
ordered false true g false x = refl
ordered false true g true x = refl
ordered true false g v x = refl
ordered true true false false x = refl
ordered true true false true x = refl
ordered true true true v x = refl

finite_over : (f u : List (List Float)) (sigma : List Float) (vt : List (List Float)) (x : Scalars)
    → all_of finite (floats_over f u sigma vt x) ≡ mat_finite u && mat_finite vt && (mat_finite f && row_finite sigma && scalars_finite x)
finite_over f u sigma vt x =
    all_append finite (joined f) (joined u ++ (sigma ++ (joined vt ++ scalars_of x)))
    ∙ rw (all_append finite (joined u) (sigma ++ (joined vt ++ scalars_of x)), all_append finite sigma (joined vt ++ scalars_of x), all_append finite (joined vt) (scalars_of x), all_joined finite f, all_joined finite u, all_joined finite vt)
    (ordered (mat_finite f) (mat_finite u) (row_finite sigma) (mat_finite vt) (scalars_finite x))

map_append : {A B : Type 0} (f : A → B) (a b : List A) → map f (a ++ b) ≡ map f a ++ map f b
map_append f [] b = refl
map_append f (x ∷ a) b = ap (λ l. f x ∷ l) (map_append f a b)

module _ {S R : Type 0} (b : Body S R) where
  -- ---- the inputs
  pub floats_finite : (u vt : List (List Float)) (s : S) → all_of finite (floats_of b u vt s) ≡ inputs_finite b u vt s
  unfolding floats_of
  floats_finite u vt s = finite_over (b.f s) u (b.sigma s) vt (b.scalars s)

  -- after the parameters
  pub inputs_finite_lem : (l : List Float) (u vt : List (List Float)) (s : S) → all_of finite (l ++ floats_of b u vt s) ≡ all_of finite l && inputs_finite b u vt s
  inputs_finite_lem l u vt s = all_append finite l (floats_of b u vt s) ∙ ap (λ x. all_of finite l && x) (floats_finite u vt s)

  -- what finite inputs give
  pub finite_scalars : (u vt : List (List Float)) (s : S) → inputs_finite b u vt s ≡ true → scalars_finite (b.scalars s) ≡ true
  finite_scalars u vt s h =
      and_right (mat_finite (b.f s) && row_finite (b.sigma s)) (scalars_finite (b.scalars s)) (and_right (mat_finite u && mat_finite vt) (state_finite b s) h)

  pub finite_sigma : (u vt : List (List Float)) (s : S) → inputs_finite b u vt s ≡ true → row_finite (b.sigma s) ≡ true
  finite_sigma u vt s h =
      and_right (mat_finite (b.f s)) (row_finite (b.sigma s))
      (and_left (mat_finite (b.f s) && row_finite (b.sigma s)) (scalars_finite (b.scalars s)) (and_right (mat_finite u && mat_finite vt) (state_finite b s) h))

  -- ---- the results
  pub results_finite : (u : List (List Float)) (sigma : List Float) (vt : List (List Float)) (named : List Expr)
      → all_of (all_of finite) (map values (b.formulas u sigma vt ++ nums sigma ∷ named ∷ []))
      ≡ (mat_finite (b.recomposed u sigma vt) && row_finite sigma) && all_of finite (values named)
  results_finite u sigma vt named =
      ap (all_of (all_of finite)) (map_append values (b.formulas u sigma vt) (nums sigma ∷ named ∷ []))
      ∙ all_append (all_of finite) (map values (b.formulas u sigma vt)) (values (nums sigma) ∷ values named ∷ [])
      ∙ rw (b.formulas_worth u sigma vt, values_nums sigma)
      (sym (and_assoc (mat_finite (b.recomposed u sigma vt)) (row_finite sigma) (all_of finite (values named))))

  -- as the code tests them, by any reading
  pub store_read : {B N : Type 0} (stop : ℕ → ℕ → B) (note : N → ℕ → Test → Bool → N) (ends : N → Change S → B) (r : N)
      (n : ℕ) (u : List (List Float)) (sigma : List Float) (vt : List (List Float)) (named : List Expr) (x : Scalars) (amount : Float)
      → read answer_of stop note ends r (store_walk b n u sigma vt named x amount)
      ≡ cond ((mat_finite (b.recomposed u sigma vt) && row_finite sigma) && all_of finite (values named)) (ends r (stored (b.made (b.recomposed u sigma vt) sigma x) amount)) (stop no_number n)
  unfolding store_walk
  store_read stop note ends r n u sigma vt named x amount =
      ap (λ c. cond c (ends r (stored (b.made (b.recomposed u sigma vt) sigma x) amount)) (stop no_number n)) (results_finite u sigma vt named)

  kept : (s new : S) (amount : Float) (c : Bool)
      → updated_of b s (cond c (given (stored new amount)) (refused no_number)) ≡ cond c (b.handed new (outcome.Stored amount)) (b.handed s (outcome.Refused no_number))
  kept s new amount true = refl
  kept s new amount false = refl

  pub store_law : (n : ℕ) (u : List (List Float)) (sigma : List Float) (vt : List (List Float)) (named : List Expr) (x : Scalars) (amount : Float) (s : S)
      → updated_of b s (walk_result (store_walk b n u sigma vt named x amount)) ≡ kept_of b u sigma vt (all_of finite (values named)) x amount s
  store_law n u sigma vt named x amount s =
      ap (updated_of b s) (store_read (λ m k. refused m) unnoted (λ q c. given c) tt n u sigma vt named x amount)
      ∙ kept s (b.made (b.recomposed u sigma vt) sigma x) amount ((mat_finite (b.recomposed u sigma vt) && row_finite sigma) && all_of finite (values named))

  -- ---- section 6
  told : (s : S) (o : Option Refusal) (c : Change S) → refusal_of (outcome_of b s (answer o c)) ≡ number_of o
  told s none untouched = ap refusal_of (b.outcome_in_lem s outcome.Untouched)
  told s none (stored new amount) = ap refusal_of (b.outcome_in_lem new (outcome.Stored amount))
  told s (some r) c = ap refusal_of (b.outcome_in_lem s (outcome.Refused r.number))

  pub refused_exactly : (s : S) (w : Walk (Change S)) → refusal_of (outcome_of b s (walk_result w)) ≡ number_of (first (path w))
  refused_exactly s w = ap (λ a. refusal_of (outcome_of b s a)) (exactly w) ∙ told s (first (path w)) (final w)
