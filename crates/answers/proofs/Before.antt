-- An elementary function answers as it did before, but for 10 where it answered 2.
use mathlib.Core.Path.{◌≡◌, refl, ap}
use mathlib.Core.Bool.{Bool, true, false, cond}
use mathlib.Core.Logic.{⊎_elim}
use Prim.Native.Nat.{ℕ}
use lib.Ieee.{Float}
use Rattle.numbers.specs.Floats.{finite, is_number}
use Rattle.answers.specs.Range.{in_range, side_of, ranged, bare, on_path}
use Rattle.answers.specs.Before.{number_before, answer_before, ranged_before}
use Rattle.answers.specs.declared.Answer.{Answer}
use Rattle.answers.specs.declared.Answer.TheVariants.{Value, Refused}
use Rattle.answers.proofs.Sides.{side_is}

either_side : (low high x : Float) → number_before (side_of low high x) ≡ 2
either_side low high x = ⊎_elim (λ q. ap number_before q) (λ q. ap number_before q) (side_is low high x)

gated : (b : Bool) (e f : Answer) (n : ℕ) → number_before n ≡ n → answer_before e ≡ f → answer_before (cond b e (Refused n)) ≡ cond b f (Refused n)
gated true e f n h i = i
gated false e f n h i = ap Refused h

pub ranged_before_lem : (low high x v : Float) → answer_before (ranged low high x v) ≡ ranged_before low high x v
ranged_before_lem low high x v = go (in_range low high x)
  where
    go : (b : Bool) → answer_before (cond b (Value v) (Refused (side_of low high x))) ≡ cond b (Value v) (Refused 2)
    go true = refl
    go false = ap Refused (either_side low high x)

pub bare_before : (low high x v : Float) → answer_before (bare x (ranged low high x v)) ≡ bare x (ranged_before low high x v)
bare_before low high x v = gated (finite x) (ranged low high x v) (ranged_before low high x v) 1 refl (ranged_before_lem low high x v)

pub on_path_before : (low high x v : Float) → answer_before (on_path x (ranged low high x v)) ≡ on_path x (ranged_before low high x v)
on_path_before low high x v = gated (is_number x) (ranged low high x v) (ranged_before low high x v) 3 refl (ranged_before_lem low high x v)
