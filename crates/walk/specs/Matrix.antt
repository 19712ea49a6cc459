-- Rows and matrices of formulas, with the orders of RULES, section 4, over however many axes.
use mathlib.Core.List.{List, [], ◌∷◌, ◌++◌, foldl, map}
use Rattle.std.specs.Prelude.{◌≡◌, refl, Float}
use Rattle.std.proofs.Common.{ap, ◌∙◌}
use Rattle.tensor.specs.Axes.{from_left, pairwise}
use Rattle.tensor.specs.Matrix.{add, mul, zero, one, sum_of, dot_of, scaled_row_of}
use Rattle.walk.specs.Expr.{Expr, num, ◌+ᵉ◌, ◌*ᵉ◌, value, values, nums}

-- of formulas
unfoldable pub total : List Expr → Expr
total es = from_left ◌+ᵉ◌ (num zero) es

abbrev pub dots : List Expr → List Expr → Expr
dots a b = total (pairwise ◌*ᵉ◌ a b)

-- of numbers
unfoldable pub sum : List Float → Expr
sum e = total (nums e)

unfoldable pub product : List Float → Expr
product s = from_left ◌*ᵉ◌ (num one) (nums s)

unfoldable pub dot : List Float → List Float → Expr
dot a b = dots (nums a) (nums b)

-- U sigma V^T by the rows of U and the columns of V^T: U's columns are scaled first
unfoldable pub entry : List Float → List Float → List Float → Expr
entry row s column = dots (pairwise ◌*ᵉ◌ (nums row) (nums s)) (nums column)

abbrev pub recompose : List (List Float) → List Float → List (List Float) → List (List Expr)
recompose rows s columns = map (λ row. map (λ column. entry row s column) columns) rows

-- one row after the other
abbrev pub joined : {A : Type 0} → List (List A) → List A
joined [] = []
joined (l ∷ m) = l ++ joined m

-- ---- what they are worth, as `Body` has it of U sigma V^T
pub values_nums : (l : List Float) → values (nums l) ≡ l
values_nums [] = refl
values_nums (x ∷ l) = ap (λ t. x ∷ t) (values_nums l)

values_times : (a b : List Expr) → values (pairwise ◌*ᵉ◌ a b) ≡ pairwise mul (values a) (values b)
values_times [] b = refl
values_times (x ∷ a) [] = refl
values_times (x ∷ a) (y ∷ b) = ap (λ t. mul (value x) (value y) ∷ t) (values_times a b)

summed : (x : Expr) (l : List Expr) → value (foldl ◌+ᵉ◌ x l) ≡ foldl add (value x) (values l)
summed x [] = refl
summed x (y ∷ l) = summed (x +ᵉ y) l

pub value_total : (l : List Expr) → value (total l) ≡ sum_of (values l)
unfolding total sum_of
value_total [] = refl
value_total (x ∷ l) = summed x l

pub value_dots : (a b : List Expr) → value (dots a b) ≡ dot_of (values a) (values b)
unfolding dot_of
value_dots a b = value_total (pairwise ◌*ᵉ◌ a b) ∙ ap sum_of (values_times a b)

pub value_entry : (row s column : List Float) → value (entry row s column) ≡ dot_of (scaled_row_of row s) column
unfolding entry scaled_row_of
value_entry row s column =
    value_dots (pairwise ◌*ᵉ◌ (nums row) (nums s)) (nums column) ∙ rw (values_times (nums row) (nums s), values_nums row, values_nums s, values_nums column)
