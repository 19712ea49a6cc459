-- Least, greatest and total of a column, read as an i64, are the whole numbers of the definition. Assumes nothing.
use Rattle.std.proofs.Common.{◌≡◌, ℕ, zero, suc, ◌+◌, ◌*◌, ◌^◌, ◌<◌, ◌≤◌, Bool, true, false, cond, List, [], ◌∷◌, map, length, ℤ, pos, negsuc, ◌+ℤ◌, sym, refl, ap, ◌∙◌, subst, zero-le, le_trans, mul-le-mul_right, arith}
use lib.Ieee.{Float}
use Rattle.exact.specs.Integers.{p, n}
use Rattle.exact.proofs.Integers.{+-parts}
use Rattle.report.specs.Whole.{whole_of, is_counted}
use Rattle.report.specs.Column.{those, whole_at, below, above, first_of, sum_of, wholes, column_of}
use Rattle.report.specs.Joined.{records_in, most}
use Rattle.report.proofs.Columns.{Within, counted_within, AllSmall, wholes_small, first_small}
use Rattle.report.proofs.Reports.{column_records}
use Rattle.report.proofs.Words.{Small, reads_back}

-- a sum's parts are at most the sums of the parts
plus_le : (a b : ℤ) → (p (a +ℤ b) ≤ p a + p b) × (n (a +ℤ b) ≤ n a + n b)
plus_le a b = go (a +ℤ b) (+-parts a b)
  where
    go : (c : ℤ) → p c + (n a + n b) ≡ n c + (p a + p b) → (p c ≤ p a + p b) × (n c ≤ n a + n b)
    go (pos k) e = (omega arith, zero-le)
    go (negsuc k) e = (zero-le, omega arith)

abbrev AllWithin : List ℤ → Type 0
AllWithin [] = Unit {0}
AllWithin (k ∷ ks) = Within k × AllWithin ks

wholes_within : (xs : List Float) → AllWithin (wholes xs)
unfolding those
wholes_within [] = tt
wholes_within (x ∷ xs) = go (is_counted x) refl (wholes_within xs)
  where
    go : (t : Bool) → is_counted x ≡ t → AllWithin (wholes xs) → AllWithin (map whole_of (cond t (x ∷ those is_counted xs) (those is_counted xs)))
    go true e a = (counted_within x e, a)
    go false e a = a

sum_within : (ks : List ℤ) → AllWithin ks → (p (sum_of ks) ≤ length ks * 2 ^ 50) × (n (sum_of ks) ≤ length ks * 2 ^ 50)
unfolding sum_of
sum_within [] a = (zero-le, zero-le)
sum_within (k ∷ ks) a =
    let h = sum_within ks a.1 in
    let w = a.0 in
    let s = plus_le k (sum_of ks) in
    (omega arith, omega arith)

first_of_small : (before : ℤ → ℤ → Bool) (ks : List ℤ) → AllSmall ks → Small (first_of before ks)
first_of_small before [] a = (omega arith, omega arith)
first_of_small before (k ∷ ks) a = first_small before k ks a.0 a.1

small_reads : (k : ℤ) → Small k → (p k < 2 ^ 63) × (n k < 2 ^ 63)
small_reads k s = (omega arith, omega arith)

-- how many are counted of at most 4,096
counted_le : (xs : List Float) → length xs ≤ most → length (wholes xs) ≤ most
unfolding column_of
counted_le xs h = let e = column_records xs in omega arith

total_reads : (m a b : ℕ) → m ≤ most → a ≤ m * 2 ^ 50 → b ≤ m * 2 ^ 50 → (a < 2 ^ 63) × (b < 2 ^ 63)
total_reads m a b h k l = let q = mul-le-mul_right (2 ^ 50) h in (omega arith, omega arith)

pub record Reads (xs : List Float) : Type 0 where
  pub least : whole_at (column_of xs).least ≡ first_of below (wholes xs)
  pub greatest : whole_at (column_of xs).greatest ≡ first_of above (wholes xs)
  pub total : whole_at (column_of xs).total ≡ sum_of (wholes xs)

pub reads_exactly : (xs : List Float) → length xs ≤ most → Reads xs
unfolding column_of
reads_exactly xs h =
    let ks = wholes xs in
    let l = small_reads (first_of below ks) (first_of_small below ks (wholes_small xs)) in
    let g = small_reads (first_of above ks) (first_of_small above ks (wholes_small xs)) in
    let s = sum_within ks (wholes_within xs) in
    let t = total_reads (length ks) (p (sum_of ks)) (n (sum_of ks)) (counted_le xs h) s.0 s.1 in
    record { least = reads_back (first_of below ks) l.0 l.1; greatest = reads_back (first_of above ks) g.0 g.1; total = reads_back (sum_of ks) t.0 t.1 }
