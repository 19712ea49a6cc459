-- What is handed from one piece of the walk to the next, as the code hands it on; and the powers' range.
use mathlib.Core.Bool.{Bool, true, false, cond}
use mathlib.Core.List.{List}
use mathlib.Core.Path.{◌≡◌, refl, sym, ap, ◌∙◌}
use Prim.Native.Nat.{ℕ}
use native.Mathlib.Omega.{arith}
use lib.Ieee as Ieee
use lib.Ieee.{Float, binary64, of_bits, round, size}
use Rattle.exact.specs.Units.{mag, L}
use Rattle.exact.specs.RootOf.{sqrt_of, floor_root, root_in}
use Rattle.answers.specs.Range.{in_range, side_of}
use Rattle.answers.specs.Refusals.{no_number}
use Rattle.answers.specs.declared.Answer.{Answer}
use Rattle.answers.specs.declared.Answer.TheVariants as answers
use Rattle.numbers.specs.Floats.{finite, is_number, max_of}
use Rattle.tensor.specs.Matrix.{zero}
use Rattle.walk.specs.Expr.{num, value}
use Rattle.walk.specs.Walk.{Walk, root, itself, low_of, high_of, answer_of, ◌then◌, Ended, given, refused, walk_result}
use Rattle.walk.specs.Exact.{and_then}
use Rattle.walk.proofs.Exact.{result_then}
use Rattle.reason.specs.declared.Number.{Number}
use Rattle.reason.specs.declared.Number.TheVariants as number
use Rattle.reason.specs.Traced.{Traced, reached, stopped, traced, untraced, number_as}
use Rattle.reason.proofs.Laws.{result_traced}
use Rattle.plasticity_nacc.specs.declared.NaccPlasticity.{NaccPlasticity}
use Rattle.plasticity_nacc.specs.declared.Trial.{Trial}
use Rattle.plasticity_nacc.specs.Axes.{two_axes}
use Rattle.plasticity_nacc.specs.Formulas.{low, half}
use Rattle.plasticity_nacc.specs.Projection.{Way, upper, lower, surface, Shape, Landed, tip_walk, ends, press_walk, steps_walk}
use Rattle.plasticity_nacc.specs.Over.{outcome_of}
use Rattle.plasticity_nacc.proofs.Laws as nacc
use Rattle.flat.specs.Update.{in_two, updated_of}
use Rattle.flat.specs.declared.State.{State}
use Rattle.flat_nacc.specs.Nacc.{within_of, run_walk, shaped_of, stepped_of, followed_of}

-- ---- what is answered within the range of powers is x itself
abbrev answer_of_lem : Bool → Bool → ℕ → Float → Answer
answer_of_lem a b m x = cond a (cond b (answers.Value x) (answers.Refused m)) (answers.Refused no_number)

given_of : (a b : Bool) (m : ℕ) (x v : Float) → answer_of_lem a b m x ≡ answers.Value v → answer_of_lem a b m x ≡ answers.Value x
given_of true true m x v h = refl
given_of true false m x v h = absurd (let z : ◌≡◌ {A = ℕ} 0 1 = cc in omega arith)
given_of false b m x v h = absurd (let z : ◌≡◌ {A = ℕ} 0 1 = cc in omega arith)

pub within_given : (x : Float) {v : Float} → within_of x ≡ answers.Value v → within_of x ≡ answers.Value x
within_given x {v} h = given_of (is_number x) (in_range (low_of itself) (high_of itself) x) (side_of (low_of itself) (high_of itself) x) x v h

-- ---- the law's pieces tell the step of a refusal: it is left here
pub steps_law : (p : NaccPlasticity) (sigma : List Float) (alpha : Float) → finite alpha ≡ true
    → walk_result (steps_walk two_axes p sigma alpha) ≡ walk_result (press_walk two_axes p (num (max_of (Ieee.neg alpha) zero)) sigma alpha)
steps_law p sigma alpha h =
    let v = press_walk two_axes p (num (max_of (Ieee.neg alpha) zero)) sigma alpha in
    result_traced (steps_walk two_axes p sigma alpha) ∙ ap untraced (nacc.steps_law two_axes p sigma alpha h) ∙ sym (result_traced v)

module _ {B : Type 0} (g : Float → Ended B) where
  abbrev pub numbered : Number → Ended B
  numbered (number.Value x) = g x
  numbered (number.Refused n step) = refused n

  handed_on : (x : Traced Float) → and_then (untraced x) g ≡ numbered (number_as x)
  handed_on (reached v) = refl
  handed_on (stopped n step) = refl

-- the new alpha is handed on to what follows it
pub alpha_then : {B : Type 0} (w : Walk Float) (g : Float → Walk B) → walk_result (w then g) ≡ numbered (λ a. walk_result (g a)) (number_as (traced w))
alpha_then w g = result_then w g ∙ ap (λ x. and_then x (λ a. walk_result (g a))) (result_traced w) ∙ handed_on (λ a. walk_result (g a)) (traced w)

-- ---- one piece after the other
ended : (w : Way) → ((alpha : Float) → outcome_of w alpha ≡ outcome_of (surface alpha alpha) alpha) → (x : Ended Shape)
    → stepped_of (and_then x (λ q. walk_result (ends w q))) ≡ shaped_of x
ended w h (given q) = ap (λ o. record { outcome = o; sigma = q.sigma }) (h q.alpha)
ended w h (refused n) = refl

pub upper_then : (x y : Float) (v : Walk Shape) → stepped_of (walk_result (v then ends (upper x y))) ≡ shaped_of (walk_result v)
upper_then x y v = ap stepped_of (result_then v (ends (upper x y))) ∙ ended (upper x y) (λ alpha. refl) (walk_result v)

lower_then : (x y : Float) (v : Walk Shape) → stepped_of (walk_result (v then ends (lower x y))) ≡ shaped_of (walk_result v)
lower_then x y v = ap stepped_of (result_then v (ends (lower x y))) ∙ ended (lower x y) (λ alpha. refl) (walk_result v)

-- at the lower tip
pub lower_law : (p : NaccPlasticity) (t : Trial) (alpha x : Float)
    → stepped_of (walk_result (tip_walk two_axes p (num x) t.j alpha then ends (lower t.p (value (low p (num t.p0))))))
    ≡ shaped_of (walk_result (tip_walk two_axes p (num x) t.j alpha))
lower_law p t alpha x = lower_then t.p (value (low p (num t.p0))) (tip_walk two_axes p (num x) t.j alpha)

pub surface_then : (x y : Float) (v : Walk Shape) → stepped_of (walk_result (v then ends (surface x y))) ≡ shaped_of (walk_result v)
surface_then x y v = ap stepped_of (result_then v (ends (surface x y))) ∙ ended (surface x y) (λ alpha. refl) (walk_result v)

-- the steps are followed by their branch
module _ (u vt : List (List Float)) (s : State) where
  handed : (x : Ended Landed) → nacc.by_end in_two u vt s x ≡ followed_of (stepped_of x).outcome (stepped_of x).sigma u vt s
  handed (given q) = refl
  handed (refused n) = refl

  pub run_law : (p : NaccPlasticity) → let q = stepped_of (walk_result (steps_walk two_axes p s.sigma s.scalars.alpha)) in
      updated_of s (walk_result (run_walk p u vt s)) ≡ followed_of q.outcome q.sigma u vt s
  run_law p = nacc.over_run in_two u vt s two_axes p ∙ handed (walk_result (steps_walk two_axes p s.sigma s.scalars.alpha))

-- the root of (6 - 2) / 2, which the hardening step takes
pub half_root : answers.Value (of_bits binary64 0x3ff6_a09e_667f_3bcd) ≡ answer_of root (value (half (num (of_bits binary64 0x4000_0000_0000_0000))))
unfolding sqrt_of floor_root root_in mag L is_number of_bits round size Ieee.sub Ieee.div Ieee.le Ieee.lt Ieee.eq
half_root = refl
