-- The order of two parts makes no difference: reports whose numbers are u64 words join to the same either way. Assumes nothing.
use Rattle.std.proofs.Common.{◌≡◌, ℕ, ◌+◌, ◌%◌, ◌^◌, ◌<◌, ◌≤◌, Bool, true, false, cond, ◌&&◌, eqb, ltb, leb, sym, refl, ap, ◌∙◌, ap₂, add_comm, arith, ltb-false, ltb-true}
use Rattle.report.specs.Column.{first}
use Rattle.report.specs.Joined.{lifted, word_below, word_above, of_both, join_columns, records_in, most, together, all_together, joined_of}
use Rattle.report.specs.declared.column.Column.{Column}
use Rattle.report.specs.declared.Report.{Report}
use Rattle.report.proofs.Columns.{same_column}

-- two words of which neither is below the other are one
same_word : (v w : ℕ) → v < 2 ^ 64 → w < 2 ^ 64 → lifted v ≤ lifted w → lifted w ≤ lifted v → v ≡ w
same_word v w h k l m = omega arith

lower_comm : (v w : ℕ) → v < 2 ^ 64 → w < 2 ^ 64 → first word_below v w ≡ first word_below w v
lower_comm v w h k = go (word_below w v) (word_below v w) refl refl
  where
    go : (s t : Bool) → word_below w v ≡ s → word_below v w ≡ t → cond s w v ≡ cond t v w
    go true true e f = let a = ltb-true (lifted w) (lifted v) e in let b = ltb-true (lifted v) (lifted w) f in absurd (omega arith)
    go true false e f = refl
    go false true e f = refl
    go false false e f = same_word v w h k (ltb-false (lifted w) (lifted v) e) (ltb-false (lifted v) (lifted w) f)

higher_comm : (v w : ℕ) → v < 2 ^ 64 → w < 2 ^ 64 → first word_above v w ≡ first word_above w v
higher_comm v w h k = go (word_below v w) (word_below w v) refl refl
  where
    go : (s t : Bool) → word_below v w ≡ s → word_below w v ≡ t → cond s w v ≡ cond t v w
    go true true e f = let a = ltb-true (lifted v) (lifted w) e in let b = ltb-true (lifted w) (lifted v) f in absurd (omega arith)
    go true false e f = refl
    go false true e f = refl
    go false false e f = same_word v w h k (ltb-false (lifted w) (lifted v) f) (ltb-false (lifted v) (lifted w) e)

both_comm : (before : ℕ → ℕ → Bool) (i j v w : ℕ) → first before v w ≡ first before w v → of_both before i j v w ≡ of_both before j i w v
both_comm before i j v w e = go (eqb i 0) (eqb j 0)
  where
    go : (s t : Bool) → cond s (cond t 0 w) (cond t v (first before v w)) ≡ cond t (cond s 0 v) (cond s w (first before w v))
    go true true = refl
    go true false = refl
    go false true = refl
    go false false = e

-- a column's numbers are words
abbrev pub Words : Column → Type 0
Words c = (c.least < 2 ^ 64) × (c.greatest < 2 ^ 64)

pub columns_comm : (a b : Column) → Words a → Words b → join_columns a b ≡ join_columns b a
unfolding join_columns
columns_comm a b u v =
    same_column (add_comm a.count b.count)
    (both_comm word_below a.count b.count a.least b.least (lower_comm a.least b.least u.0 v.0))
    (both_comm word_above a.count b.count a.greatest b.greatest (higher_comm a.greatest b.greatest u.1 v.1))
    (ap (λ k. k % 2 ^ 64) (add_comm a.total b.total))
    (add_comm a.outside b.outside)
    (add_comm a.not_finite b.not_finite)

together_comm : (a b : Column) → together a b ≡ together b a
unfolding together
together_comm a b = ap (λ k. leb k most) (add_comm (records_in a) (records_in b))

abbrev pub AllWords : Report → Type 0
AllWords r = Words r.plastic_hardening × Words r.elastic_hardening × Words r.plastic_determinant

pub joining_comm : (a b : Report) → AllWords a → AllWords b → joined_of a b ≡ joined_of b a
unfolding joined_of
joining_comm a b u v =
    rw (
      together_comm a.plastic_hardening b.plastic_hardening,
      together_comm a.elastic_hardening b.elastic_hardening,
      together_comm a.plastic_determinant b.plastic_determinant,
      columns_comm a.plastic_hardening b.plastic_hardening u.0 v.0,
      columns_comm a.elastic_hardening b.elastic_hardening u.1 v.1,
      columns_comm a.plastic_determinant b.plastic_determinant u.2 v.2,
    ) refl
