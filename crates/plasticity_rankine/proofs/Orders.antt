-- The order of three strains, by the tests that `rank` makes.
use mathlib.Core.Bool.{Bool, true, false, cond}
use mathlib.Core.List.{List, [], ◌∷◌, reverse}
use mathlib.Core.Path.{◌≡◌, refl, sym, ◌∙◌}
use lib.ListN.{length, get_or}
use lib.Ieee.{Float, nan, le}
use Rattle.tensor.proofs.Axes.{of_one}
use Rattle.tensor.specs.Matrix.{three}
use Rattle.plasticity_rankine.specs.declared.Rank.{Rank}
use Rattle.plasticity_rankine.specs.declared.Rank.TheVariants.{R012, R021, R102, R120, R201, R210}
use Rattle.plasticity_rankine.specs.Sorting.{placed_of, order_of}
use Rattle.plasticity_rankine.specs.Inner.{indexes_of}

-- x <= y, y <= z and x <= z tell the six apart
abbrev pub rank_of : Bool → Bool → Bool → Rank
rank_of a b c = cond a (cond b R012 (cond c R021 R201)) (cond c R102 (cond b R120 R210))

last_up : (b c : Bool) → reverse (cond b (2 ∷ 1 ∷ 0 ∷ []) (1 ∷ cond c (2 ∷ 0 ∷ []) (0 ∷ 2 ∷ []))) ≡ indexes_of (rank_of true b c)
last_up true c = refl
last_up false true = refl
last_up false false = refl

last_down : (b c : Bool) → reverse (cond c (2 ∷ 0 ∷ 1 ∷ []) (0 ∷ cond b (2 ∷ 1 ∷ []) (1 ∷ 2 ∷ []))) ≡ indexes_of (rank_of false b c)
last_down b true = refl
last_down true false = refl
last_down false false = refl

last : (x y z : Float) (a : Bool) → reverse (placed_of (three x y z) 2 (cond a (1 ∷ 0 ∷ []) (0 ∷ 1 ∷ []))) ≡ indexes_of (rank_of a (le y z) (le x z))
last x y z true = last_up (le y z) (le x z)
last x y z false = last_down (le y z) (le x z)

pub order_of_three : (x y z : Float) → order_of (three x y z) ≡ indexes_of (rank_of (le x y) (le y z) (le x z))
unfolding order_of
order_of_three x y z = last x y z (le x y)

pub order_of_lem : (e : List Float) → length e ≡ 3
    → indexes_of (rank_of (le (get_or e 0 nan) (get_or e 1 nan)) (le (get_or e 1 nan) (get_or e 2 nan)) (le (get_or e 0 nan) (get_or e 2 nan))) ≡ order_of e
order_of_lem e h = sym (order_of_three (get_or e 0 nan) (get_or e 1 nan) (get_or e 2 nan)) ∙ of_one order_of nan e h
