-- A column's numbers, of the values in it (RULES, section 7). Least, greatest and total are whole numbers of 2^-30, each held as a
-- u64 in two's complement.
use Rattle.std.specs.Prelude.{ℕ, ◌+◌, ◌-◌, ◌%◌, ◌^◌, Bool, true, false, cond, List, [], ◌∷◌, ◌++◌, map, length, ℤ, pos, negsuc, ◌+ℤ◌, nat_lt, Float}
use Rattle.exact.specs.Integers.{p, n}
use Rattle.report.specs.Whole.{whole_of, is_counted, is_outside, is_not_finite}
use Rattle.report.specs.declared.column.Column.{Column}

-- the values of a kind
unfoldable pub those : (Float → Bool) → List Float → List Float
those kind [] = []
those kind (x ∷ xs) = cond (kind x) (x ∷ those kind xs) (those kind xs)

-- a whole number modulo 2^64
unfoldable pub word : ℤ → ℕ
word (pos k) = k % 2 ^ 64
word (negsuc k) = 2 ^ 64 - 1 - k % 2 ^ 64

-- and the whole number that a word holds, read as an i64
abbrev pub whole_at : ℕ → ℤ
whole_at w = cond (nat_lt w (2 ^ 63)) (pos w) (negsuc (2 ^ 64 - 1 - w))

-- the order of whole numbers, by their two parts: a is p a - n a
abbrev pub below : ℤ → ℤ → Bool
below a b = nat_lt (p a + n b) (p b + n a)

abbrev pub above : ℤ → ℤ → Bool
above a b = below b a

-- of two the one that comes before the other
abbrev pub first : {A : Type 0} → (A → A → Bool) → A → A → A
first before a b = cond (before b a) b a

-- of a list the one that comes before all others, and 0 of none
unfoldable pub first_from : (ℤ → ℤ → Bool) → ℤ → List ℤ → ℤ
first_from before k [] = k
first_from before k (j ∷ ks) = first_from before (first before k j) ks

abbrev pub first_of : (ℤ → ℤ → Bool) → List ℤ → ℤ
first_of before [] = pos 0
first_of before (k ∷ ks) = first_from before k ks

unfoldable pub sum_of : List ℤ → ℤ
sum_of [] = pos 0
sum_of (k ∷ ks) = k +ℤ sum_of ks

-- the whole numbers of the values that are counted
abbrev pub wholes : List Float → List ℤ
wholes xs = map whole_of (those is_counted xs)

unfoldable pub column_of : List Float → Column
column_of xs =
    record {
      count = length (wholes xs);
      least = word (first_of below (wholes xs));
      greatest = word (first_of above (wholes xs));
      total = word (sum_of (wholes xs));
      outside = length (those is_outside xs);
      not_finite = length (those is_not_finite xs);
    }
