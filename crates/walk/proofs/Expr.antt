-- A NaN in a part is a NaN of the whole.
use mathlib.Core.Bool.{true, ◌&&◌}
use mathlib.Core.Path.{◌≡◌, refl}
use lib.Ieee as Ieee
use lib.Ieee.{Float, nan, inf, fin, of_bits}
use Rattle.numbers.specs.Floats.{is_number}
use Rattle.tensor.specs.Matrix.{add, sub, mul, div, zero}
use Rattle.walk.specs.Expr.{Expr, num, neg, ◌+ᵉ◌, ◌-ᵉ◌, ◌*ᵉ◌, ◌/ᵉ◌, value, clean}

-- ---- an operation hands on a NaN, so the whole tells of every part
neg_number : (x : Float) → is_number (Ieee.neg x) ≡ is_number x && is_number (Ieee.neg x)
unfolding is_number Ieee.neg
neg_number nan = refl
neg_number (inf s) = refl
neg_number (fin s m e) = refl

module _ (f : Float → Float → Float) (left : (y : Float) → f nan y ≡ nan) (right : (x : Float) → f x nan ≡ nan) where
  hands_on : (x y : Float) → is_number (f x y) ≡ is_number x && is_number y && is_number (f x y)
  unfolding is_number
  hands_on nan y = rw (left y)
  hands_on (inf s) nan = rw (right (inf s))
  hands_on (inf s) (inf t) = refl
  hands_on (inf s) (fin t n d) = refl
  hands_on (fin s m e) nan = rw (right (fin s m e))
  hands_on (fin s m e) (inf t) = refl
  hands_on (fin s m e) (fin t n d) = refl

pub add_left : (y : Float) → add nan y ≡ nan
unfolding Ieee.add
add_left y = refl

pub add_right : (x : Float) → add x nan ≡ nan
unfolding Ieee.add
add_right nan = refl
add_right (inf s) = refl
add_right (fin s m e) = refl

pub sub_left : (y : Float) → sub nan y ≡ nan
unfolding Ieee.sub Ieee.add
sub_left y = refl

sub_right : (x : Float) → sub x nan ≡ nan
unfolding Ieee.sub Ieee.add Ieee.neg
sub_right nan = refl
sub_right (inf s) = refl
sub_right (fin s m e) = refl

pub mul_left : (y : Float) → mul nan y ≡ nan
unfolding Ieee.mul
mul_left y = refl

pub mul_right : (x : Float) → mul x nan ≡ nan
unfolding Ieee.mul
mul_right nan = refl
mul_right (inf s) = refl
mul_right (fin s m e) = refl

div_left : (y : Float) → div nan y ≡ nan
unfolding Ieee.div
div_left y = refl

div_right : (x : Float) → div x nan ≡ nan
unfolding Ieee.div
div_right nan = refl
div_right (inf s) = refl
div_right (fin s m e) = refl

-- the whole is a number exactly where every part is
pub whole_tells : (e : Expr) → is_number (value e) ≡ clean e
whole_tells (num x) = refl
whole_tells (neg a) = rw (← whole_tells a) (neg_number (value a))
whole_tells (a +ᵉ b) = rw (← whole_tells a, ← whole_tells b) (hands_on add add_left add_right (value a) (value b))
whole_tells (a -ᵉ b) = rw (← whole_tells a, ← whole_tells b) (hands_on sub sub_left sub_right (value a) (value b))
whole_tells (a *ᵉ b) = rw (← whole_tells a, ← whole_tells b) (hands_on mul mul_left mul_right (value a) (value b))
whole_tells (a /ᵉ b) = rw (← whole_tells a, ← whole_tells b) (hands_on div div_left div_right (value a) (value b))

pub zero_number : is_number zero ≡ true
unfolding is_number of_bits
zero_number = refl
