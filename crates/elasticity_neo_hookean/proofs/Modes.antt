-- Ticket 14: the two modes of `elastic_energy_density`. All before the split is one walk, and from j = 1 up the split is one too.
use mathlib.Core.Bool.{Bool, true, false, cond, ◌&&◌}
use mathlib.Core.List.{List, [], ◌∷◌}
use mathlib.Core.Option.{Option, some, none}
use mathlib.Core.Path.{◌≡◌, refl, ap, sym, ◌∙◌}
use Prim.Native.Nat.{ℕ}
use native.Mathlib.Omega.{arith}
use lib.Ieee as Ieee
use lib.Ieee.{Float}
use Rattle.answers.specs.Refusals.{no_number}
use Rattle.answers.specs.Answer.{answered_of}
use Rattle.answers.specs.declared.Answer.TheVariants.{Value, Refused}
use Rattle.numbers.specs.Floats.{finite, is_number}
use Rattle.tensor.specs.Matrix as tensor
use Rattle.tensor.specs.Matrix.{det_of}
use Rattle.walk.specs.Expr.{Expr, num, ◌+ᵉ◌, ◌*ᵉ◌, value}
use Rattle.walk.proofs.Expr.{whole_tells}
use Rattle.walk.specs.Walk.{Walk, at_most, inputs, Ended, given, refused, walk_result, answer_as}
use Rattle.walk.specs.Exact.{path, final, first, answer, Refusal, and_then}
use Rattle.walk.proofs.Exact.{exactly, result_then}
use Rattle.walk.specs.Tensor.{one, determinant}
use Rattle.walk.proofs.Tensor.{one_number}
use Rattle.walk.specs.Answers.{refusal_in}
use Rattle.walk.proofs.Answers.{accepted_when, split_number}
use Rattle.elasticity_neo_hookean.specs.declared.NeoHookeanElasticity.{NeoHookeanElasticity}
use Rattle.elasticity_neo_hookean.specs.Law.{floats, coefficient}
use Rattle.elasticity_neo_hookean.specs.Energy.{Parts, parts_from, parts_walk, below, sum_walk, energy_steps, energy_walk_in, elastic_energy_density_in, elastic_energy_density}

-- what a walk gives is its end
ended : {A : Type 0} (o : Option Refusal) (x a : A) → answer o x ≡ given a → x ≡ a
ended none x a e = cc
ended (some r) x a e = absurd (let z : ◌≡◌ {A = ℕ} 0 1 = cc in omega arith)

-- after the split only 3 comes, of a result that isn't finite
at_the_end : (b s t : Bool) (x y : Float) (n : ℕ) → (n ≡ 3 → ⊥) → cond b (cond s (Value x) (Refused no_number)) (cond t (Value y) (Refused no_number)) ≡ Refused n → ⊥
at_the_end true true t x y n l e = let z : ◌≡◌ {A = ℕ} 0 1 = cc in omega arith
at_the_end true false t x y n l e = let z : ◌≡◌ {A = ℕ} n 3 = cc in l z
at_the_end false s true x y n l e = let z : ◌≡◌ {A = ℕ} 0 1 = cc in omega arith
at_the_end false s false x y n l e = let z : ◌≡◌ {A = ℕ} n 3 = cc in l z

module _ (p : NeoHookeanElasticity) (phase h : Float) (f : List (List Float)) where
  abbrev j : Float
  j = det_of f

  abbrev c : Expr
  c = coefficient phase

  -- the inputs and the parts
  abbrev parts_run : Walk Parts
  parts_run = inputs (floats p (phase ∷ h ∷ []) f) (parts_walk p h f)

  -- the split alone takes the mode
  pub split_alone : (m : Bool) → walk_result (energy_walk_in m p phase h f) ≡ and_then (walk_result parts_run) (λ q. walk_result (sum_walk m c q))
  unfolding energy_walk_in energy_steps
  split_alone m = result_then parts_run (sum_walk m c)

  -- refused before the split: by the same number in both modes
  pub refused_before : (n : ℕ) → walk_result parts_run ≡ refused n → (m : Bool) → elastic_energy_density_in m p phase h f ≡ Refused n
  refused_before n e m = rw (split_alone m, e)

  -- the split is made at F's determinant, a number
  parts_j : (q : Parts) → walk_result parts_run ≡ given q → q.j ≡ num j
  unfolding parts_walk parts_from determinant
  parts_j q e = sym (ap (λ (x : Parts). x.j) (ended (first (path parts_run)) (final parts_run) q (sym (exactly parts_run) ∙ e)))

  j_number : (q : Parts) → walk_result parts_run ≡ given q → is_number j ≡ true
  unfolding parts_walk parts_from determinant
  j_number q e = whole_tells (determinant f) ∙ ((accepted_when parts_run).0 (ap refusal_in e)).1.1.0.0

  -- not refused before the split
  pub split_law : (q : Parts) → walk_result parts_run ≡ given q → (m : Bool)
      → elastic_energy_density_in m p phase h f
      ≡ (let dev = value q.deviatoric in
      let vol = value q.volumetric in
      cond (Ieee.le tensor.one j) (answered_of (tensor.add (tensor.mul (value c) (tensor.add vol dev)) tensor.zero)) (answered_of (value (below m c q.deviatoric q.volumetric))))
  split_law q e m =
      let dev = q.deviatoric in
      let vol = q.volumetric in
      rw (split_alone m, e, parts_j q e) (split_number 6 7 (at_most one (num j)) (c *ᵉ (vol +ᵉ dev) +ᵉ num tensor.zero) (below m c dev vol) (rw (one_number, j_number q e)))

  -- every number but 3 comes in one mode exactly where it comes in the other
  alike : (x : Ended Parts) → walk_result parts_run ≡ x → (m k : Bool) (n : ℕ) → (n ≡ 3 → ⊥) → elastic_energy_density_in m p phase h f ≡ Refused n → elastic_energy_density_in k p phase h f ≡ Refused n
  alike (given q) e m k n l r =
      absurd (at_the_end (Ieee.le tensor.one j) (finite (tensor.add (tensor.mul (value c) (tensor.add (value q.volumetric) (value q.deviatoric))) tensor.zero)) (finite (value (below m c q.deviatoric q.volumetric))) _ _ n l (sym (split_law q e m) ∙ r))
  alike (refused i) e m k n l r = refused_before i e k ∙ sym (refused_before i e m) ∙ r

  pub refused_alike : (m k : Bool) (n : ℕ) → (n ≡ 3 → ⊥) → elastic_energy_density_in m p phase h f ≡ Refused n → elastic_energy_density_in k p phase h f ≡ Refused n
  refused_alike m k n l r = alike (walk_result parts_run) refl m k n l r

  -- "At j of at least 1 the two modes agree in every bit"
  agreed : (x : Ended Parts) → walk_result parts_run ≡ x → Ieee.le tensor.one j ≡ true → and_then x (λ q. walk_result (sum_walk true c q)) ≡ and_then x (λ q. walk_result (sum_walk false c q))
  agreed (given q) e t = simp (parts_j q e, t)
  agreed (refused n) e t = refl

  pub modes_agree : Ieee.le tensor.one j ≡ true → elastic_energy_density_in true p phase h f ≡ elastic_energy_density p phase h f
  modes_agree t = ap answer_as (split_alone true ∙ agreed (walk_result parts_run) refl t ∙ sym (split_alone false))

  -- "below j = 1 the deviatoric part is tensile"; in the Rust's mode the volumetric part
  pub one_split_below : (q : Parts) → walk_result parts_run ≡ given q → Ieee.le tensor.one j ≡ false
      → elastic_energy_density_in true p phase h f ≡ answered_of (tensor.add (tensor.mul (value c) (value q.deviatoric)) (value q.volumetric))
  one_split_below q e t = rw (split_law q e true, t)

  pub default_below : (q : Parts) → walk_result parts_run ≡ given q → Ieee.le tensor.one j ≡ false
      → elastic_energy_density p phase h f ≡ answered_of (tensor.add (tensor.mul (value c) (value q.volumetric)) (value q.deviatoric))
  default_below q e t = rw (split_law q e false, t)
