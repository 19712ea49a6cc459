-- What sums, products and scalar products of numbers are worth as formulas.
use mathlib.Core.List.{List, [], ◌∷◌, foldl}
use mathlib.Core.Path.{◌≡◌, refl, ap, ◌∙◌}
use lib.Ieee.{Float}
use Rattle.tensor.specs.Matrix.{mul, sum_of, product_of, dot_of}
use Rattle.walk.specs.Expr.{Expr, num, ◌*ᵉ◌, value, values, nums}
use Rattle.walk.specs.Matrix.{sum, product, dot, values_nums, value_total, value_dots}

multiplied : (x : Expr) (l : List Expr) → value (foldl ◌*ᵉ◌ x l) ≡ foldl mul (value x) (values l)
multiplied x [] = refl
multiplied x (y ∷ l) = multiplied (x *ᵉ y) l

pub value_sum : (e : List Float) → value (sum e) ≡ sum_of e
unfolding sum
value_sum e = value_total (nums e) ∙ ap sum_of (values_nums e)

pub value_product : (s : List Float) → value (product s) ≡ product_of s
unfolding product product_of
value_product [] = refl
value_product (x ∷ s) = multiplied (num x) (nums s) ∙ ap (foldl mul x) (values_nums s)

pub value_dot : (a b : List Float) → value (dot a b) ≡ dot_of a b
unfolding dot
value_dot a b = value_dots (nums a) (nums b) ∙ rw (values_nums a, values_nums b)
