-- The column of two lists one after the other is their two columns put together. Assumes nothing.
use Rattle.std.proofs.Common.{◌≡◌, ℕ, zero, suc, ◌+◌, ◌-◌, ◌*◌, ◌/◌, ◌%◌, ◌^◌, ◌<◌, ◌≤◌, Bool, true, false, cond, not, ◌&&◌, eqb, leb, List, [], ◌∷◌, ◌++◌, map, length, ℤ, pos, negsuc, ◌+ℤ◌, neg_ℤ, sym, refl, ap, ◌∙◌, subst, ap₂, append-nil, zero-le, add-zero, div-lt_iff_lt-mul, zero-add, arith, length-append, pow_pos, pow-add, leb-true}
use native.Mathlib.Nat.{div-le_of_le-mul}
use lib.Dec.{eqb-suc-zero}
use lib.Ieee.{Float}
use Rattle.exact.specs.Integers.{p, n, abs}
use Rattle.exact.proofs.Integers.{+_assoc, 0+}
use Rattle.exact.specs.Units.{mag}
use Rattle.exact.specs.Value.{val}
use Rattle.exact.proofs.Value.{abs_val}
use Rattle.numbers.specs.Floats.{finite}
use Rattle.numbers.proofs.Laws.{and_both}
use Rattle.report.specs.Whole.{down, whole_of, within, is_counted, is_outside, is_not_finite}
use Rattle.report.specs.Column.{those, word, below, above, first, first_from, first_of, sum_of, wholes, column_of}
use Rattle.report.specs.Joined.{word_below, word_above, of_both, join_columns}
use Rattle.report.specs.declared.column.Column.{Column}
use Rattle.report.proofs.Orders.{Order, first_append, first_keeps, below_order, above_order}
use Rattle.report.proofs.Words.{Small, word_sum, word_below_lem, word_above_lem}

-- ---- lists
pub those_append : (kind : Float → Bool) (xs ys : List Float) → those kind (xs ++ ys) ≡ those kind xs ++ those kind ys
unfolding those
those_append kind [] ys = refl
those_append kind (x ∷ xs) ys = go (kind x) (those kind (xs ++ ys)) (those kind xs) (those_append kind xs ys)
  where
    go : (t : Bool) (a b : List Float) → a ≡ b ++ those kind ys → cond t (x ∷ a) a ≡ cond t (x ∷ b) b ++ those kind ys
    go true a b e = ap (λ (l : List Float). x ∷ l) e
    go false a b e = e

map_append : (f : Float → ℤ) (xs ys : List Float) → map f (xs ++ ys) ≡ map f xs ++ map f ys
map_append f [] ys = refl
map_append f (x ∷ xs) ys = ap (λ (l : List ℤ). f x ∷ l) (map_append f xs ys)

pub wholes_append : (xs ys : List Float) → wholes (xs ++ ys) ≡ wholes xs ++ wholes ys
wholes_append xs ys = ap (map whole_of) (those_append is_counted xs ys) ∙ map_append whole_of (those is_counted xs) (those is_counted ys)

pub sum_append : (js ks : List ℤ) → sum_of (js ++ ks) ≡ sum_of js +ℤ sum_of ks
unfolding sum_of
sum_append [] ks = sym (0+ (sum_of ks))
sum_append (j ∷ js) ks = ap (λ (v : ℤ). j +ℤ v) (sum_append js ks) ∙ sym (+_assoc j (sum_of js) (sum_of ks))

-- ---- what is counted is small
abbrev pub Within : ℤ → Type 0
Within k = (p k ≤ 2 ^ 50) × (n k ≤ 2 ^ 50)

quotient_lt : (u : ℕ) → u < 2 ^ 50 * 2 ^ 1044 → u / 2 ^ 1044 < 2 ^ 50
quotient_lt u h = (div-lt_iff_lt-mul {k = 2 ^ 1044} {x = u} {y = 2 ^ 50} (pow_pos 1044)).1 h

quotient_le : (u : ℕ) → u ≤ 2 ^ 1044 * 2 ^ 50 → u / 2 ^ 1044 ≤ 2 ^ 50
quotient_le u h = div-le_of_le-mul (2 ^ 1044) h

down_within : (v : ℤ) → abs v ≤ 2 ^ 1094 → Within (down v)
unfolding abs
down_within (pos u) h =
    (quotient_le u (subst (λ (k : ℕ). u ≤ k) (pow-add 2 1044 50) (subst (λ (k : ℕ). k ≤ 2 ^ 1094) (add-zero u) h)), zero-le)
down_within (negsuc u) h = (zero-le, quotient_lt u (subst (λ (k : ℕ). suc u ≤ k) (pow-add 2 50 1044) (subst (λ (k : ℕ). k ≤ 2 ^ 1094) (zero-add (suc u)) h)))

pub counted_within : (x : Float) → is_counted x ≡ true → Within (whole_of x)
unfolding is_counted within whole_of
counted_within x h =
    down_within (val x)
    (subst (λ (k : ℕ). k ≤ 2 ^ 1094) (sym (abs_val x)) (leb-true (mag x) (2 ^ 1094) (and_both (finite x) (leb (mag x) (2 ^ 1094)) h).1))

pub counted_small : (x : Float) → is_counted x ≡ true → Small (whole_of x)
counted_small x h = let w = counted_within x h in (omega arith, omega arith)

abbrev pub AllSmall : List ℤ → Type 0
AllSmall [] = Unit {0}
AllSmall (k ∷ ks) = Small k × AllSmall ks

pub wholes_small : (xs : List Float) → AllSmall (wholes xs)
unfolding those
wholes_small [] = tt
wholes_small (x ∷ xs) = go (is_counted x) refl (wholes_small xs)
  where
    go : (t : Bool) → is_counted x ≡ t → AllSmall (wholes xs) → AllSmall (map whole_of (cond t (x ∷ those is_counted xs) (those is_counted xs)))
    go true e a = (counted_small x e, a)
    go false e a = a

pub first_small : (before : ℤ → ℤ → Bool) (k : ℤ) (ks : List ℤ) → Small k → AllSmall ks → Small (first_from before k ks)
unfolding first_from
first_small before k [] s a = s
first_small before k (j ∷ ks) s a = first_small before (first before k j) ks (first_keeps Small before k j s a.0) a.1

-- ---- the least, and the greatest
module _ (before : ℤ → ℤ → Bool) (o : Order before) (ordered : ℕ → ℕ → Bool) (agree : (j k : ℤ) → Small j → Small k → ordered (word j) (word k) ≡ before j k) where
  first_word : (j k : ℤ) → Small j → Small k → word (first before j k) ≡ first ordered (word j) (word k)
  first_word j k s t = go (before k j) ∙ ap (λ (v : Bool). cond v (word k) (word j)) (sym (agree k j t s))
    where
      go : (t : Bool) → word (cond t k j) ≡ cond t (word k) (word j)
      go true = refl
      go false = refl

  pub first_both : (js ks : List ℤ) → AllSmall js → AllSmall ks
      → word (first_of before (js ++ ks)) ≡ of_both ordered (length js) (length ks) (word (first_of before js)) (word (first_of before ks))
  unfolding word
  first_both [] [] a b = refl
  first_both [] (k ∷ ks) a b = rw (eqb-suc-zero (length ks)) refl
  first_both (j ∷ js) [] a b = rw (eqb-suc-zero (length js), append-nil js) refl
  first_both (j ∷ js) (k ∷ ks) a b =
      ap word (first_append before o j js k ks)
      ∙ first_word (first_of before (j ∷ js)) (first_of before (k ∷ ks)) (first_small before j js a.0 a.1) (first_small before k ks b.0 b.1)
      ∙ rw (eqb-suc-zero (length js), eqb-suc-zero (length ks)) refl

-- ---- the column
pub same_column : {c c' l l' g g' t t' o o' f f' : ℕ} → c ≡ c' → l ≡ l' → g ≡ g' → t ≡ t' → o ≡ o' → f ≡ f'
    → ◌≡◌ {A = Column} (record { count = c; least = l; greatest = g; total = t; outside = o; not_finite = f }) (record { count = c'; least = l'; greatest = g'; total = t'; outside = o'; not_finite = f' })
same_column e1 e2 e3 e4 e5 e6 = rw (e1, e2, e3, e4, e5, e6) refl

kind_length : (kind : Float → Bool) (xs ys : List Float) → length (those kind (xs ++ ys)) ≡ length (those kind xs) + length (those kind ys)
kind_length kind xs ys = ap length (those_append kind xs ys) ∙ length-append (those kind xs) (those kind ys)

-- once for all three columns: the values are any two lists
pub column_append : (xs ys : List Float) → column_of (xs ++ ys) ≡ join_columns (column_of xs) (column_of ys)
unfolding column_of join_columns
column_append xs ys =
    let e = wholes_append xs ys in
    let s = wholes_small xs in
    let t = wholes_small ys in
    same_column (ap length e ∙ length-append (wholes xs) (wholes ys))
    (ap (λ (l : List ℤ). word (first_of below l)) e ∙ first_both below below_order word_below word_below_lem (wholes xs) (wholes ys) s t)
    (ap (λ (l : List ℤ). word (first_of above l)) e ∙ first_both above above_order word_above word_above_lem (wholes xs) (wholes ys) s t)
    (ap (λ (l : List ℤ). word (sum_of l)) e ∙ ap word (sum_append (wholes xs) (wholes ys)) ∙ word_sum (sum_of (wholes xs)) (sum_of (wholes ys)))
    (kind_length is_outside xs ys)
    (kind_length is_not_finite xs ys)
