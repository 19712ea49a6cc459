-- RULES, section 6, of Snow over any number of axes, read off its walk: 1 of an input, 2, 10 and 3 of the exponential's argument, 3 of the
-- results, and nothing else.
use mathlib.Core.Bool.{Bool, true, false, cond}
use mathlib.Core.List.{List, [], ◌∷◌, ◌++◌}
use mathlib.Core.Logic.{◌↔◌}
use mathlib.Core.Option.{none}
use mathlib.Core.Path.{◌≡◌, refl, sym, ap, subst, ◌∙◌}
use Prim.Native.Nat.{ℕ}
use lib.Ieee.{Float}
use Rattle.numbers.specs.Floats.{finite}
use Rattle.exponential.specs.Worked.{exp_of}
use Rattle.tensor.specs.Axes.{all_of}
use Rattle.tensor.specs.Matrix.{sub, mul, div, product_of}
use Rattle.plasticity.specs.declared.Outcome.TheVariants.{Refused}
use Rattle.walk.specs.Expr.{Expr, num, ◌-ᵉ◌, ◌*ᵉ◌, value, nums}
use Rattle.walk.proofs.Matrix.{value_product}
use Rattle.walk.specs.Walk.{Walk, exp, inputs, Ended, refused, walk_result}
use Rattle.walk.specs.Exact.{Met, input, argument, result_of, path}
use Rattle.walk.specs.Body.{Body, Change, refusal_of, updated_of, store_walk}
use Rattle.walk.specs.Numbers.{Stops, Clear}
use Rattle.walk.proofs.Numbers.{refused_when, accepted_when}
use Rattle.plasticity_snow.specs.declared.SnowPlasticity.{SnowPlasticity}
use Rattle.plasticity_snow.specs.Clamp.{one, clamped_of}
use Rattle.plasticity_snow.specs.Over.{determinant, floats, harden_walk, run_walk, snow_walk, snow_over}
use Rattle.plasticity_snow.proofs.Laws.{inputs_law, run_law}

same : {A : Type 0} (c : Bool) (x y : Ended A) → (c ≡ true → x ≡ y) → cond c x (refused 1) ≡ cond c y (refused 1)
same true x y h = h refl
same false x y h = refl

module _ {S R : Type 0} (b : Body S R) (p : SnowPlasticity) (u vt : List (List Float)) (s : S) where
  abbrev new : List Float
  new = clamped_of p (b.sigma s)

  abbrev worked : Expr
  worked = determinant (b.scalars s).plastic_determinant (b.sigma s) new

  abbrev pub exponent : Expr
  exponent = num p.hardening_coeff *ᵉ (num one -ᵉ worked)

  -- the clamp's steps meet no NaN and stand in no refusal
  abbrev pub snow_path : List Met
  snow_path =
      input (floats b p u vt s)
      ∷ argument 3 exp exponent
      ∷ result_of 4 (b.formulas u new vt ++ nums new ∷ (worked ∷ num (exp_of (value exponent)) ∷ []) ∷ [])
      ∷ []

  abbrev unclamped : Walk (Change S)
  unclamped = inputs (floats b p u vt s) (harden_walk b p new u vt s)

  its_path : path unclamped ≡ snow_path
  unfolding harden_walk store_walk
  its_path = refl

  answers : snow_over b p u vt s ≡ updated_of b s (walk_result unclamped)
  unfolding snow_walk
  answers =
      ap (updated_of b s)
      (same (all_of finite (floats b p u vt s)) (walk_result (run_walk b p u vt s)) (walk_result (harden_walk b p new u vt s)) (λ h. run_law b p u vt s (sym (inputs_law b p u vt s) ∙ h)))

  -- "When, and only then"
  pub snow_refused : (n : ℕ) → (b.outcome_in (snow_over b p u vt s) ≡ Refused n) ↔ Stops n snow_path
  snow_refused n = (
    λ e. subst (Stops n) its_path ((refused_when b s unclamped n).0 (sym (ap b.outcome_in answers) ∙ e)),
    λ q. ap b.outcome_in answers ∙ (refused_when b s unclamped n).1 (subst (Stops n) (sym its_path) q),
  )

  pub snow_accepted : (refusal_of (b.outcome_in (snow_over b p u vt s)) ≡ none) ↔ Clear snow_path
  snow_accepted = (
    λ e. subst Clear its_path ((accepted_when b s unclamped).0 (sym (ap (λ v. refusal_of (b.outcome_in v)) answers) ∙ e)),
    λ q. ap (λ v. refusal_of (b.outcome_in v)) answers ∙ (accepted_when b s unclamped).1 (subst Clear (sym its_path) q),
  )
