-- How many records a column speaks of, and the values of two lists of records one after the other. Assumes nothing.
use Rattle.std.proofs.Common.{◌≡◌, ℕ, zero, suc, ◌+◌, ◌*◌, ◌/◌, ◌<◌, ◌≤◌, Bool, true, false, cond, not, ◌&&◌, List, [], ◌∷◌, ◌++◌, map, length, get_or, ℤ, sym, refl, ap, ◌∙◌, ap₂, append_assoc, append-nil, add-zero, add-suc, add-one, arith, length-append, get_or-append-add}
use lib.ListN.{length-map, get_or-append}
use lib.Ieee.{Float, binary64, of_bits}
use Rattle.numbers.specs.Floats.{finite}
use Rattle.record.specs.Layout.{floats, float_at}
use Rattle.report.specs.Whole.{whole_of, within, is_counted, is_outside, is_not_finite}
use Rattle.report.specs.Column.{those, wholes, column_of}
use Rattle.report.specs.Joined.{join_columns, records_in, most}
use Rattle.report.specs.Report.{values}
use Rattle.report.specs.declared.column.Column.{Column}
use Rattle.report.proofs.Columns.{column_append}

-- ---- each value goes to one place
three_places : (x : Float) (xs : List Float)
    → length (those is_counted (x ∷ xs)) + length (those is_outside (x ∷ xs)) + length (those is_not_finite (x ∷ xs))
    ≡ suc (length (those is_counted xs) + length (those is_outside xs) + length (those is_not_finite xs))
unfolding those is_counted is_outside is_not_finite
three_places x xs = go (finite x) (within x)
  where
    go : (f w : Bool)
        → length (cond (f && w) (x ∷ those is_counted xs) (those is_counted xs)) + length (cond (f && not w) (x ∷ those is_outside xs) (those is_outside xs)) + length (cond (not f) (x ∷ those is_not_finite xs) (those is_not_finite xs))
        ≡ suc (length (those is_counted xs) + length (those is_outside xs) + length (those is_not_finite xs))
    go true true = omega arith
    go true false = omega arith
    go false w = omega arith

places_length : (xs : List Float) → length (those is_counted xs) + length (those is_outside xs) + length (those is_not_finite xs) ≡ length xs
unfolding those
places_length [] = refl
places_length (x ∷ xs) = three_places x xs ∙ ap suc (places_length xs)

pub column_records : (xs : List Float) → records_in (column_of xs) ≡ length xs
unfolding column_of
column_records xs =
    ap (λ k. k + length (those is_outside xs) + length (those is_not_finite xs)) (length-map (those is_counted xs) whole_of) ∙ places_length xs

-- ---- the values at a place
module _ (place : ℕ) where
  pub values_length : (l : List ℕ) (i : ℕ) → length (values place l i) ≡ i
  unfolding values
  values_length l zero = refl
  values_length l (suc i) = length-append (values place l i) (float_at l (i * floats + place) ∷ []) ∙ ap (λ k. k + 1) (values_length l i) ∙ add-one i

  pub records_at : (l : List ℕ) (i : ℕ) → records_in (column_of (values place l i)) ≡ i
  records_at l i = column_records (values place l i) ∙ values_length l i

  pub column_next : (l : List ℕ) (i : ℕ) → join_columns (column_of (values place l i)) (column_of (float_at l (i * floats + place) ∷ [])) ≡ column_of (values place l (i + 1))
  unfolding values
  column_next l i = sym (column_append (values place l i) (float_at l (i * floats + place) ∷ [])) ∙ ap (λ k. column_of (values place l k)) (sym (add-one i))

  -- a prefix's are its own
  values_left : (l m : List ℕ) → place < floats → (i : ℕ) → i * floats ≤ length l → values place (l ++ m) i ≡ values place l i
  unfolding values
  values_left l m h zero k = refl
  values_left l m h (suc i) k =
      ap₂ (λ (a : List Float) (v : ℕ). a ++ (of_bits binary64 v ∷ [])) (values_left l m h i (omega arith)) (get_or-append l m 0 (i * floats + place) (omega arith))

  -- and after it come those of the rest
  pub values_append : (l m : List ℕ) (a : ℕ) → place < floats → a * floats ≡ length l → (b : ℕ) → values place (l ++ m) (a + b) ≡ values place l a ++ values place m b
  unfolding values
  values_append l m a h e zero = ap (λ k. values place (l ++ m) k) (add-zero a) ∙ values_left l m h a (omega arith) ∙ sym (append-nil (values place l a))
  values_append l m a h e (suc b) =
      ap (λ k. values place (l ++ m) k) (add-suc a b)
      ∙ ap₂ (λ (u : List Float) (v : ℕ). u ++ (of_bits binary64 v ∷ [])) (values_append l m a h e b) (ap (λ k. get_or (l ++ m) k 0) at ∙ get_or-append-add l m (b * floats + place) 0)
      ∙ append_assoc (values place l a) (values place m b) (float_at m (b * floats + place) ∷ [])
    where
      at : (a + b) * floats + place ≡ length l + (b * floats + place)
      at = omega arith

  pub column_joined : (l m : List ℕ) (a b : ℕ) → place < floats → a * floats ≡ length l
      → column_of (values place (l ++ m) (a + b)) ≡ join_columns (column_of (values place l a)) (column_of (values place m b))
  column_joined l m a b h e = ap column_of (values_append l m a h e b) ∙ column_append (values place l a) (values place m b)
