-- A formula as data: what it is worth, and whether every part of it is a number (RULES, section 6: "a NaN arises on the path taken").
use Rattle.std.specs.Prelude.{Bool, ◌&&◌, List, map, Float}
use Rattle.std.specs.Float.Ieee as Ieee
use Rattle.numbers.specs.Floats.{is_number}
use Rattle.tensor.specs.Matrix.{add, sub, mul, div}

infixl 85 ◌+ᵉ◌ ◌-ᵉ◌
infixl 90 ◌*ᵉ◌ ◌/ᵉ◌
pub data Expr : Type 0 where
  num : Float → Expr
  neg : Expr → Expr
  ◌+ᵉ◌ : Expr → Expr → Expr
  ◌-ᵉ◌ : Expr → Expr → Expr
  ◌*ᵉ◌ : Expr → Expr → Expr
  ◌/ᵉ◌ : Expr → Expr → Expr

abbrev pub value : Expr → Float
value (num x) = x
value (neg a) = Ieee.neg (value a)
value (a +ᵉ b) = add (value a) (value b)
value (a -ᵉ b) = sub (value a) (value b)
value (a *ᵉ b) = mul (value a) (value b)
value (a /ᵉ b) = div (value a) (value b)

-- every part of it is a number
abbrev pub clean : Expr → Bool
clean (num x) = is_number x
clean (neg a) = clean a && is_number (value (neg a))
clean (a +ᵉ b) = clean a && clean b && is_number (value (a +ᵉ b))
clean (a -ᵉ b) = clean a && clean b && is_number (value (a -ᵉ b))
clean (a *ᵉ b) = clean a && clean b && is_number (value (a *ᵉ b))
clean (a /ᵉ b) = clean a && clean b && is_number (value (a /ᵉ b))

abbrev pub values : List Expr → List Float
values es = map value es

abbrev pub nums : List Float → List Expr
nums l = map num l
