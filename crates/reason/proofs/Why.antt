-- The reason worked step by step is what is read off the path; of a walk and what follows it; and of one whose end tells its last test.
use mathlib.Core.Bool.{cond, ◌&&◌}
use mathlib.Core.List.{List, [], ◌∷◌}
use mathlib.Core.Option.{Option, some, none}
use mathlib.Core.Path.{◌≡◌, refl, sym, ap, ◌∙◌}
use Prim.Native.Nat.{ℕ}
use lib.Ieee.{Float}
use Rattle.numbers.specs.Floats.{finite}
use Rattle.tensor.specs.Axes.{all_of}
use Rattle.tensor.specs.Finite.{row_finite, mat_finite}
use Rattle.plasticity.specs.declared.Scalars.{Scalars}
use Rattle.walk.specs.Expr.{Expr, values}
use Rattle.walk.specs.Walk.{holds, Walk, ◌then◌, answer_of, read, unnoted}
use Rattle.walk.specs.Exact as walk
use Rattle.walk.specs.Exact.{Met, input, argument, worked, tested, result_of, Refusal, path, final, first, last, noted, last_test, last_from, ended_by}
use Rattle.walk.proofs.Exact.{read_exactly, read_then}
use Rattle.walk.specs.Body.{Body, store_walk}
use Rattle.walk.proofs.Body.{store_read}
use Rattle.walk.specs.Update.{Change}
use Rattle.reason.specs.declared.Reason.{Reason}
use Rattle.reason.specs.declared.Reason.TheVariants.{Refused}
use Rattle.reason.specs.Reason.{last_or, refused_or, reason_from, untold, reason_of}
use Rattle.reason.specs.Traced.{Traced, reached, stopped, traced, follow}
use Rattle.reason.specs.Why.{tells_test, why_by, why}

module _ (d : Reason) where
  last_noted : (o : Option walk.Reason) (ms : List Met) → noted tells_test (last_or d o) ms ≡ last_or d (last_from o ms)
  last_noted o [] = refl
  last_noted o (input l ∷ ms) = last_noted o ms
  last_noted o (argument n f e ∷ ms) = last_noted o ms
  last_noted o (worked n es ∷ ms) = last_noted o ms
  last_noted o (tested n t ∷ ms) = last_noted (last_test o n t (holds t)) ms
  last_noted o (result_of n rows ∷ ms) = last_noted o ms

  pub why_read : {A : Type 0} (o : Option walk.Reason) (w : Walk A) → why (last_or d o) w ≡ refused_or (first (path w)) (last_or d (last_from o (path w)))
  why_read o w = read_exactly Refused tells_test (λ q a. q) (last_or d o) w ∙ ap (refused_or (first (path w))) (last_noted o (path w))

  pub why_exactly : {A : Type 0} (w : Walk A) → why d w ≡ reason_from d w
  unfolding reason_from
  why_exactly w = why_read none w

pub why_of : (w : Walk Change) → why untold w ≡ reason_of w
unfolding reason_of
why_of w = why_read untold none w

-- ---- a walk and what follows it tell one after the other
pub why_then : {A B : Type 0} (r : Reason) (w : Walk A) (g : A → Walk B) → why r (w then g) ≡ why_by (λ q a. why q (g a)) r w
why_then r w g = read_then Refused tells_test (λ q a. q) g r w

-- ---- a walk whose end a tells the last test, by T: what follows is told of that test, or the refusal with its step
module _ {A B : Type 0} (stop : ℕ → ℕ → B) (K : Reason → A → B) (T : A → Reason) where
  followed : (o : Option Refusal) (r : Reason) (a : A) → r ≡ T a → ended_by stop o (K r a) ≡ follow stop (λ x. K (T x) x) (ended_by stopped o (reached a))
  followed none r a h = ap (λ q. K q a) h
  followed (some q) r a h = refl

  pub told_read : (d : Reason) (w : Walk A) → last_or d (last (path w)) ≡ T (final w) → read answer_of stop tells_test K d w ≡ follow stop (λ a. K (T a) a) (traced w)
  told_read d w h =
      read_exactly stop tells_test K d w ∙ followed (first (path w)) (noted tells_test d (path w)) (final w) (last_noted d none (path w) ∙ h)
      ∙ sym (ap (follow stop (λ a. K (T a) a)) (read_exactly stopped unnoted (λ r a. reached a) tt w))

-- ---- the results of a law, over any number of axes
pub store_why : {S R : Type 0} (b : Body S R) (r : Reason) (n : ℕ) (u : List (List Float)) (sigma : List Float) (vt : List (List Float)) (named : List Expr) (x : Scalars) (amount : Float)
    → why r (store_walk b n u sigma vt named x amount) ≡ cond ((mat_finite (b.recomposed u sigma vt) && row_finite sigma) && all_of finite (values named)) r (Refused 3 n)
store_why b r = store_read b Refused tells_test (λ q c. q) r
