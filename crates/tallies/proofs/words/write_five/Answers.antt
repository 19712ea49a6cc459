-- `tallies::words::write_five` meets its contract: five places, each written.
use mathlib.Core.Path.{◌≡◌, refl}
use mathlib.Core.List.{List, [], ◌∷◌}
use Prim.Native.Nat.{ℕ}
use native.Mathlib.Omega.{arith}
use lib.ListN.{length, set, length-set}
use Rattle.tallies.proofs.words.write_five.Goals as goal

five_set : (l : List ℕ) (a b c d e : ℕ) → length l ≡ 5 → set (set (set (set (set l 0 a) 1 b) 2 c) 3 d) 4 e ≡ a ∷ b ∷ c ∷ d ∷ e ∷ []
five_set [] a b c d e h = absurd (omega (arith, h))
five_set (p ∷ []) a b c d e h = absurd (omega (arith, h))
five_set (p ∷ q ∷ []) a b c d e h = absurd (omega (arith, h))
five_set (p ∷ q ∷ r ∷ []) a b c d e h = absurd (omega (arith, h))
five_set (p ∷ q ∷ r ∷ s ∷ []) a b c d e h = absurd (omega (arith, h))
five_set (p ∷ q ∷ r ∷ s ∷ t ∷ []) a b c d e h = refl
five_set (p ∷ q ∷ r ∷ s ∷ t ∷ u ∷ l) a b c d e h = absurd (omega (arith, h))

pub bounds-five-4 : goal.bounds-five-4
bounds-five-4 c = let q = c.requires in simp length-set (omega arith)

pub returns : goal.returns
returns c = let t = c.args.t in five_set c.args.five.now t.particles t.untouched t.stored t.refused t.failed c.requires
