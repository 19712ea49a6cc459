-- The turns, as they are worked. What comes out is judged by the check, so that nothing here is promised of an angle.
use Rattle.std.specs.Prelude.{Bool, cond, ◌||◌, Float}
use Rattle.std.specs.Float.Ieee as Ieee
use Rattle.std.specs.Float.{binary64}
use Rattle.std.specs.Float.Ieee.{of_bits}
pub use Rattle.numbers.specs.Constants.{half}
use Rattle.tensor.specs.Matrix.{add, sub, mul, div, zero, one}
use Rattle.factors.specs.declared.Turn.{Turn}

unfoldable pub size_of : Float → Float
size_of x = cond (Ieee.lt x zero) (Ieee.neg x) x

-- 0, or at most e in size
unfoldable pub tiny_of : Float → Float → Bool
tiny_of x e = Ieee.eq x zero || Ieee.le (size_of x) e

-- near the tangent of a quarter of the angle with the tangent r
unfoldable pub quarter_of : Float → Float
quarter_of r =
    let z = mul r r in
    mul r (sub (of_bits binary64 0x3fd0_0000_0000_0000) (mul z (sub (of_bits binary64 0x3fb3_9b00_0000_0000) (mul z (sub (of_bits binary64 0x3fa2_0c00_0000_0000) (mul z (of_bits binary64 0x3f84_0800_0000_0000)))))))

-- by twice the angle with the tangent t
unfoldable pub doubled_of : Float → Turn
doubled_of t =
    let i = div one (add one (mul t t)) in
    record { c = mul (sub one (mul t t)) i; s = mul (add t t) i }

-- the root of 1/2
abbrev root_half : Float
root_half = of_bits binary64 0x3fe6_a09e_667f_3bcd

unfoldable pub steep_of : Float → Turn → Turn
steep_of r t =
    cond (Ieee.lt r zero)
    (record { c = mul root_half (sub t.c t.s); s = mul root_half (add t.c t.s) })
    (record { c = mul root_half (add t.c t.s); s = mul root_half (sub t.s t.c) })

unfoldable pub back_of : Turn → Turn
back_of t = record { c = t.c; s = Ieee.neg t.s }

-- back by half the angle with the tangent y / x
unfoldable pub half_angle_of : Float → Float → Turn
half_angle_of x y =
    cond (Ieee.lt (size_of x) (size_of y))
    (steep_of (div x y) (doubled_of (quarter_of (div x y))))
    (back_of (doubled_of (quarter_of (div y x))))

-- by nothing where y is at most e in size
unfoldable pub half_turn_of : Float → Float → Float → Turn
half_turn_of x y e = cond (tiny_of y e) (record { c = one; s = Ieee.neg zero }) (half_angle_of x y)

unfoldable pub after_of : Turn → Turn → Turn
after_of a b = record { c = sub (mul a.c b.c) (mul a.s b.s); s = add (mul a.s b.c) (mul a.c b.s) }
