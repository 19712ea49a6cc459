-- The clamp's steps meet no NaN once the inputs are finite; the inputs as the code tests them.
use mathlib.Core.Bool.{Bool, true, ◌&&◌}
use mathlib.Core.List.{List, [], ◌∷◌}
use mathlib.Core.Path.{◌≡◌, refl, sym, ◌∙◌}
use Prim.Native.Nat.{ℕ}
use lib.Ieee.{Float, of_bits}
use Rattle.numbers.specs.Floats.{finite, is_number, max_of}
use Rattle.tensor.specs.Axes.{all_of}
use Rattle.tensor.specs.Matrix.{add, sub}
use Rattle.walk.specs.Expr.{Expr, num, ◌+ᵉ◌, ◌-ᵉ◌, value}
use Rattle.walk.specs.Walk.{Test, Walk, least, given, refused, answer_of, read, unnoted, walk_result}
use Rattle.walk.proofs.Number.{max_number, add_number, sub_number}
use Rattle.numbers.proofs.Laws.{finite_number}
use Rattle.walk.proofs.Every.{and_left, and_right, every, all_every}
use Rattle.walk.proofs.Steps.{most_read, least_read}
use Rattle.walk.specs.Body.{Body, Change, inputs_finite}
use Rattle.walk.proofs.Body.{inputs_finite_lem, finite_sigma}
use Rattle.plasticity_snow.specs.declared.SnowPlasticity.{SnowPlasticity}
use Rattle.plasticity_snow.specs.Clamp.{one, parameters_of, parameters_finite, clamp_of, clamped_of}
use Rattle.plasticity_snow.specs.Over.{clamps, harden_walk, run_walk, floats}

-- ---- the clamp
pub one_number : is_number one ≡ true
unfolding is_number of_bits
one_number = refl

-- by any reading of the walk
module _ {B N A : Type 0} (stop : ℕ → ℕ → B) (note : N → ℕ → Test → Bool → N) (ends : N → A → B) (r : N) (p : SnowPlasticity)
    (low : is_number (sub one p.min_epsilon) ≡ true) (high : is_number (add one p.max_epsilon) ≡ true) where
  clamps_read : (l : List Float) (k : List Float → Walk A) → every finite l ≡ true
      → read answer_of stop note ends r (clamps p l k) ≡ read answer_of stop note ends r (k (clamped_of p l))
  clamps_read [] k h = refl
  clamps_read (x ∷ l) k h =
      let bottom = num one -ᵉ num p.min_epsilon in
      let top = num one +ᵉ num p.max_epsilon in
      let rest : Expr → Walk A = λ z. clamps p l (λ vs. k (value z ∷ vs)) in
      let y = max_of x (sub one p.min_epsilon) in
      let number = finite_number x (and_left (finite x) (every finite l) h) in
      most_read stop note ends r 1 (num x) bottom (λ y. least 2 y top rest) number low
      ∙ least_read stop note ends r 2 (num y) top rest (max_number x (sub one p.min_epsilon) number low) high
      ∙ clamps_read l (λ vs. k (clamp_of p x ∷ vs)) (and_right (finite x) (every finite l) h)

-- ---- over any number of axes
module _ {S R : Type 0} (b : Body S R) (p : SnowPlasticity) (u vt : List (List Float)) (s : S) where
  pub inputs_law : all_of finite (floats b p u vt s) ≡ parameters_finite p && inputs_finite b u vt s
  unfolding floats
  inputs_law = inputs_finite_lem b (parameters_of p) u vt s

  -- what finite inputs give: both bounds are numbers, and sigma is finite
  pub bounds_numbers : parameters_finite p && inputs_finite b u vt s ≡ true → (is_number (sub one p.min_epsilon) ≡ true) × (is_number (add one p.max_epsilon) ≡ true)
  bounds_numbers h =
      let x = finite p.min_epsilon in
      let y = finite p.max_epsilon in
      let z = finite p.hardening_coeff in
      let two = and_left (x && y) z (and_left (parameters_finite p) (inputs_finite b u vt s) h) in
      (sub_number one p.min_epsilon one_number (and_left x y two), add_number one p.max_epsilon one_number (and_right x y two))

  pub sigma_finite : parameters_finite p && inputs_finite b u vt s ≡ true → every finite (b.sigma s) ≡ true
  sigma_finite h = sym (all_every finite (b.sigma s)) ∙ finite_sigma b u vt s (and_right (parameters_finite p) (inputs_finite b u vt s) h)

  pub run_read : {B N : Type 0} (stop : ℕ → ℕ → B) (note : N → ℕ → Test → Bool → N) (ends : N → Change S → B) (r : N) → parameters_finite p && inputs_finite b u vt s ≡ true
      → read answer_of stop note ends r (run_walk b p u vt s) ≡ read answer_of stop note ends r (harden_walk b p (clamped_of p (b.sigma s)) u vt s)
  unfolding run_walk
  run_read stop note ends r h =
      let q = bounds_numbers h in
      clamps_read stop note ends r p q.0 q.1 (b.sigma s) (λ new. harden_walk b p new u vt s) (sigma_finite h)

  pub run_law : parameters_finite p && inputs_finite b u vt s ≡ true → walk_result (run_walk b p u vt s) ≡ walk_result (harden_walk b p (clamped_of p (b.sigma s)) u vt s)
  run_law = run_read (λ m n. refused m) unnoted (λ q c. given c) tt
