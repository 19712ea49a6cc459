-- What these matrices of formulas are worth, and whether no entry is a NaN.
use mathlib.Core.List.{List, [], ◌∷◌, ◌++◌}
use mathlib.Core.Path.{◌≡◌, refl, ap, ◌∙◌}
use Prim.Native.Nat.{ℕ, suc}
use lib.Ieee.{Float}
use Rattle.numbers.specs.Floats.{is_number}
use Rattle.tensor.specs.Axes.{all_of}
use Rattle.tensor.specs.Matrix.{sum_of}
use Rattle.decomposed.specs.Matrix.{trace_of, diagonal_from}
use Rattle.decomposed.specs.Decomposed.{deviatoric_of}
use Rattle.decomposed.specs.Inverse.{cofactors_of, mat_over_of}
use Rattle.decomposed.specs.Number.{mat_number}
use Rattle.walk.specs.Expr.{Expr, value, values}
use Rattle.walk.specs.Matrix.{value_total, joined}
use Rattle.walk.proofs.Every.{all_joined}
use Rattle.walk.specs.Tensor.{worth}
use Rattle.walk.proofs.Tensor.{value_item, row_at}
use Rattle.decomposed.specs.Formulas.{trace, deviatoric, cofactors_over, diagonal}

values_diagonal : (i : ℕ) (m : List (List Expr)) → values (diagonal i m) ≡ diagonal_from i (worth m)
values_diagonal i [] = refl
values_diagonal i (row ∷ m) = rw (value_item row i, values_diagonal (suc i) m)

pub value_trace : (m : List (List Expr)) → value (trace m) ≡ trace_of (worth m)
unfolding trace trace_of
value_trace m = value_total (diagonal 0 m) ∙ ap sum_of (values_diagonal 0 m)

pub worth_deviatoric : (m : List (List Expr)) → worth (deviatoric m) ≡ deviatoric_of (worth m)
unfolding deviatoric
worth_deviatoric m = simp (value_trace, value_item, row_at)

pub worth_cofactors : (m : List (List Float)) (d : Expr) → worth (cofactors_over m d) ≡ mat_over_of (cofactors_of m) (value d)
unfolding cofactors_over cofactors_of mat_over_of
worth_cofactors m d = refl

-- ---- whether no entry is a NaN, as the code tests it
values_append : (a b : List Expr) → values (a ++ b) ≡ values a ++ values b
values_append [] b = refl
values_append (x ∷ a) b = ap (λ l. value x ∷ l) (values_append a b)

values_joined : (m : List (List Expr)) → values (joined m) ≡ joined (worth m)
values_joined [] = refl
values_joined (r ∷ m) = values_append r (joined m) ∙ ap (λ l. values r ++ l) (values_joined m)

pub numbers_joined : (m : List (List Expr)) → all_of is_number (values (joined m)) ≡ mat_number (worth m)
unfolding mat_number
numbers_joined m = ap (all_of is_number) (values_joined m) ∙ all_joined is_number (worth m)
