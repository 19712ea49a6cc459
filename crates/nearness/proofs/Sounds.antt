-- From a row of entries to one; 1 as the scale; and U U ^ T is alike on both sides of its diagonal. Assumes nothing.
use mathlib.Core.Path.{◌≡◌, refl, sym, ap, ap₂, ◌∙◌, subst}
use mathlib.Core.Bool.{Bool, true, false, ◌&&◌}
use mathlib.Core.List.{List, [], ◌∷◌}
use Prim.Native.Nat.{ℕ, ◌*◌, ◌^◌}
use native.Mathlib.Nat.{le_refl}
use lib.Dec.{leb, lit≤}
use lib.IntN.{ℤ, pos, ◌+ℤ◌, ◌-ℤ◌, ◌*ℤ◌}
use lib.ListN.{get_or}
use lib.Ieee.{Float, add, fits, of_bits, round}
use Rattle.exact.specs.Units.{L, mag, Fin64}
use Rattle.exact.proofs.Positives.{one_is}
use Rattle.exact.specs.Integers.{abs}
use Rattle.exact.proofs.Integers.{*-comm, *-assoc}
use Rattle.exact.specs.Value.{val}
use Rattle.numbers.specs.Floats.{finite}
use Rattle.tensor.specs.Matrix.{zero, one, three}
use Rattle.tensor.specs.Finite.{row_finite}
use Rattle.nearness.specs.Near.{exact_sum, near, near_row, near_all, orthogonal_of}
use Rattle.nearness.specs.Quick.{Tame, Bounded, RowBounded, Sound, SoundRow, two, fourfold}

module _ {u s : List Float} {v : List (List Float)} {m : Float} (h : SoundRow u s v m) where
  one_of : {a : List Float} → RowBounded a two → Sound u s a m
  one_of {a} r = record { scale = h.scale; sigma = h.sigma; left = h.left; right = r }

  pub sound0 : Sound u s (get_or v 0 []) m
  sound0 = one_of h.right.row0

  pub sound1 : Sound u s (get_or v 1 []) m
  sound1 = one_of h.right.row1

  pub sound2 : Sound u s (get_or v 2 []) m
  sound2 = one_of h.right.row2

-- ---- both sides of the diagonal
turn : (a b c : ℤ) → a *ℤ b *ℤ c ≡ c *ℤ b *ℤ a
turn a b c = *-comm (a *ℤ b) c ∙ ap (λ (x : ℤ). c *ℤ x) (*-comm a b) ∙ sym (*-assoc c b a)

sum_turned : (u s v : List Float) → exact_sum u s v ≡ exact_sum v s u
sum_turned (u ∷ us) (s ∷ ss) (v ∷ vs) = ap₂ ◌+ℤ◌ (turn (val u) (val s) (val v)) (sum_turned us ss vs)
sum_turned (u ∷ us) (s ∷ ss) [] = refl
sum_turned (u ∷ us) [] (v ∷ vs) = refl
sum_turned (u ∷ us) [] [] = refl
sum_turned [] (s ∷ ss) (v ∷ vs) = refl
sum_turned [] [] (v ∷ vs) = refl
sum_turned [] ss [] = refl

pub near_turned : (u s v : List Float) (f : Float) (m : ℕ) → near u s v f m ≡ near v s u f m
unfolding near
near_turned u s v f m = ap (λ (z : ℤ). leb (abs (z -ℤ val f *ℤ pos (L * L)) * 2 ^ 40) (m * (L * L))) (sum_turned u s v)

pub six_of_nine : (a b c d e f : Bool) → a && b && c && d && e && f ≡ (a && b && c) && (b && d && e) && (c && e && f)
six_of_nine false b c d e f = refl
six_of_nine true false c d e f = refl
six_of_nine true true false d e f = refl
six_of_nine true true true false e f = refl
six_of_nine true true true true false f = refl
six_of_nine true true true true true f = refl

abbrev ones : List Float
ones = three one one one

pub orthogonal_six : (a b c : List Float)
    → near a ones a one L && near a ones b zero L && near a ones c zero L && near b ones b one L && near b ones c zero L && near c ones c one L ≡ orthogonal_of (a ∷ b ∷ c ∷ [])
unfolding orthogonal_of near_all near_row
orthogonal_six a b c =
    six_of_nine (near a ones a one L) (near a ones b zero L) (near a ones c zero L) (near b ones b one L) (near b ones c zero L) (near c ones c one L)
    ∙ (λ i. (near a ones a one L && near a ones b zero L && near a ones c zero L) && (near_turned a ones b zero L i && near b ones b one L && near b ones c zero L)
    && (near_turned a ones c zero L i && near_turned b ones c zero L i && near c ones c one L))

-- ---- 1 as the scale
unit_scale : Fin64 one × Tame (mag one)
unfolding of_bits fits mag L
unit_scale = ((tt, tt), record { some = lit≤ tt; room = lit≤ tt })

one_bounded : Bounded one (fourfold one)
unfolding of_bits fits mag L add round
one_bounded = ((tt, tt), lit≤ tt)

ones_finite : row_finite ones ≡ true
unfolding of_bits finite
ones_finite = refl

pub unit_sound : {a b : List Float} → RowBounded a two → RowBounded b two → Sound a ones b one
unit_sound h k = record { scale = unit_scale; sigma = record { at0 = one_bounded; at1 = one_bounded; at2 = one_bounded; fine = ones_finite }; left = h; right = k }

-- what U U ^ T is held to
pub on_diagonal : Bounded one one
on_diagonal = (unit_scale.0, le_refl (mag one))

pub off_diagonal : Bounded zero one
unfolding of_bits fits mag L
off_diagonal = ((tt, tt), lit≤ tt)

pub of_unit : (u v : List Float) (f : Float) → near u ones v f (mag one) ≡ true → near u ones v f L ≡ true
of_unit u v f h = subst (λ (k : ℕ). near u ones v f k ≡ true) one_is.0 h
