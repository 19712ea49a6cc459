-- The sine as it is worked (RULES, section 3), by its own series: from -1 to 1 in floats, eight terms; beyond, in whole numbers, by nesting, the terms with a plus and
-- those with a minus apart. What it is near is said by series/specs/SinNear.
use Rattle.std.specs.Prelude.{Bool, not, cond, List, [], ◌∷◌, ℕ, ◌+◌, ◌-◌, ◌*◌, ◌/◌, ◌^◌, leb, Float}
use Rattle.std.specs.Float.{binary64}
use Rattle.std.specs.Float.Ieee.{to_bits, of_bits, neg, add, mul}
use Rattle.exact.specs.Fields.{sign_at, exponent_at, digits_at}
use Rattle.answers.specs.Range.{in_range, ranged}
use Rattle.answers.specs.declared.Answer.{Answer}
use Rattle.fixed_point.specs.ToFloat.{to_float_of}

-- 1, and (-1) ^ k / (2 k + 1)! for k = 1 to 7, each the nearest float
abbrev pub one : Float
one = of_bits binary64 0x3ff0_0000_0000_0000

abbrev pub shorts : List Float
shorts = neg (of_bits binary64 0x3fc5_5555_5555_5555) ∷ of_bits binary64 0x3f81_1111_1111_1111 ∷ neg (of_bits binary64 0x3f2a_01a0_1a01_a01a) ∷ of_bits binary64 0x3ec7_1de3_a556_c734 ∷ neg (of_bits binary64 0x3e5a_e645_67f5_44e4) ∷ of_bits binary64 0x3de6_1246_13a8_6d09 ∷ neg (of_bits binary64 0x3d6a_e7f3_e733_b81f) ∷ []

-- c + y (d + y (..))
unfoldable pub horner_of : Float → List Float → Float
horner_of y [] = of_bits binary64 0
horner_of y (c ∷ []) = c
horner_of y (c ∷ d ∷ cs) = add binary64 c (mul binary64 y (horner_of y (d ∷ cs)))

-- x + x y (-1 / 6 + y (1 / 120 + ..)), y = x x
unfoldable pub short_of : Float → Float
short_of x = let y = mul binary64 x x in add binary64 x (mul binary64 (mul binary64 x y) (horner_of y shorts))

-- 8 ^ (2 k + 1) / (2 k + 1)! in units of 2 ^ -54, cut: k = 0, 2, .. 20, and k = 1, 3, .. 21
abbrev pub plusses : List ℕ
plusses = 144115188075855872 ∷ 4919131752989213764 ∷ 6662950945847823934 ∷ 1590410668659247484 ∷ 114046255231587494 ∷ 3252112652663480 ∷ 43875670043839 ∷ 315275750669 ∷ 1314933075 ∷ 3397914 ∷ 5726 ∷ []

abbrev pub minuses : List ℕ
minuses = 1537228672809129301 ∷ 7495819814078801926 ∷ 3876626004856915743 ∷ 484696584734246852 ∷ 21341989283104092 ∷ 411334406660993 ∷ 4000061086617 ∷ 21696395744 ∷ 70719089 ∷ 146738 ∷ 202 ∷ []

-- c + h z, z in units of 2 ^ -64, the product cut
unfoldable pub step_of : ℕ → ℕ → ℕ → ℕ
step_of c h z = c + h * z / 2 ^ 64

-- c + z (d + z (..))
unfoldable pub nested : ℕ → List ℕ → ℕ
nested z [] = 0
nested z (c ∷ []) = c
nested z (c ∷ d ∷ cs) = step_of c (nested z (d ∷ cs)) z

-- an eighth of the number with the exponent's field e and the digits m, in units of 2 ^ -64, cut; at 8 two units less than 1
unfoldable pub eighth_of : ℕ → ℕ → ℕ
eighth_of e m = cond (leb 1026 e) (2 ^ 64 - 2) (2 * (m * 2 ^ (e + 7) / 2 ^ 1022))

-- the terms with a plus, and those with a minus, at 8 v
abbrev pub square : ℕ → ℕ
square v = v * v / 2 ^ 64

unfoldable pub plus_of : ℕ → ℕ
plus_of v = nested (square (square v)) plusses * v / 2 ^ 64

unfoldable pub minus_of : ℕ → ℕ
minus_of v = nested (square (square v)) minuses * square v / 2 ^ 64 * v / 2 ^ 64

-- a - c in units of 2 ^ -54, or with the other sign c - a
unfoldable pub difference_of : ℕ → ℕ → Bool → Float
difference_of a c s = cond (leb c a) (to_float_of (a - c) 54 s) (to_float_of (c - a) 54 (not s))

-- the ends of the range (RULES, section 3): -8 and 8
abbrev pub low : Float
low = neg (of_bits binary64 0x4020_0000_0000_0000)

abbrev pub high : Float
high = of_bits binary64 0x4020_0000_0000_0000

-- by the pattern's sign, exponent and digits
abbrev pub eighth_at : ℕ → ℕ
eighth_at b = eighth_of (exponent_at b) (2 ^ 52 + digits_at b)

abbrev pub sin_at : ℕ → Float
sin_at b = difference_of (plus_of (eighth_at b)) (minus_of (eighth_at b)) (sign_at b)

-- from -1 to 1 the short way
unfoldable pub sin_of : Float → Float
sin_of x = cond (in_range (neg one) one x) (short_of x) (sin_at (to_bits binary64 x))

-- within its range
abbrev pub sin_ranged : Float → Answer
sin_ranged x = ranged low high x (sin_of x)
