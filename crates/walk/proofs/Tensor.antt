-- What matrices of formulas are worth.
use mathlib.Core.Bool.{true}
use mathlib.Core.List.{List, [], ◌∷◌}
use mathlib.Core.Path.{◌≡◌, refl, ap}
use Prim.Native.Nat.{ℕ, zero, suc}
use lib.ListN.{get_or}
use lib.Ieee.{Float, nan, of_bits}
use Rattle.numbers.specs.Floats.{is_number}
use Rattle.tensor.specs.Matrix as tensor
use Rattle.tensor.specs.Matrix.{add, mul, transpose_of, mul_of, row_add_of, row_scale_of, mat_add_of, mat_scale_of, identity_times_of}
use Rattle.walk.specs.Expr.{Expr, num, value, values}
use Rattle.walk.specs.Matrix.{value_dots, values_nums}
use Rattle.walk.specs.Tensor.{worth, rows, turned, times, row_plus, plus, row_scaled, scaled, identity_times}

pub one_number : is_number tensor.one ≡ true
unfolding is_number of_bits
one_number = refl

-- ---- what they are worth
pub value_item : (l : List Expr) (i : ℕ) → value (get_or l i (num nan)) ≡ get_or (values l) i nan
value_item [] i = refl
value_item (e ∷ l) zero = refl
value_item (e ∷ l) (suc i) = value_item l i

pub row_at : (m : List (List Expr)) (i : ℕ) → values (get_or m i []) ≡ get_or (worth m) i []
row_at [] i = refl
row_at (r ∷ m) zero = refl
row_at (r ∷ m) (suc i) = row_at m i

pub worth_rows : (m : List (List Float)) → worth (rows m) ≡ m
unfolding rows
worth_rows [] = refl
worth_rows (r ∷ m) = rw (values_nums r, worth_rows m)

pub worth_turned : (m : List (List Expr)) → worth (turned m) ≡ transpose_of (worth m)
unfolding turned
worth_turned m = simp (value_item, row_at)

pub worth_times : (a b : List (List Expr)) → worth (times a b) ≡ mul_of (worth a) (worth b)
unfolding times turned
worth_times a b = simp (value_dots, value_item, row_at)

pub values_plus : (a b : List Expr) → values (row_plus a b) ≡ row_add_of (values a) (values b)
unfolding row_add_of
values_plus [] b = refl
values_plus (x ∷ a) [] = refl
values_plus (x ∷ a) (y ∷ b) = ap (λ l. add (value x) (value y) ∷ l) (values_plus a b)

pub worth_plus : (a b : List (List Expr)) → worth (plus a b) ≡ mat_add_of (worth a) (worth b)
unfolding plus
worth_plus a b = simp (values_plus, row_at)

pub values_scaled : (k : Expr) (a : List Expr) → values (row_scaled k a) ≡ row_scale_of (value k) (values a)
unfolding row_scale_of
values_scaled k [] = refl
values_scaled k (x ∷ a) = ap (λ l. mul (value k) (value x) ∷ l) (values_scaled k a)

pub worth_scaled : (k : Expr) (a : List (List Expr)) → worth (scaled k a) ≡ mat_scale_of (value k) (worth a)
unfolding scaled
worth_scaled k a = simp (values_scaled, row_at)

pub worth_identity : (k : Expr) → worth (identity_times k) ≡ identity_times_of (value k)
unfolding identity_times
worth_identity k = refl
