-- Whether two columns speak of at most 4,096 records together. Assumes nothing.
use Rattle.std.proofs.Common.{◌≡◌, ℕ, ◌+◌, ◌<◌, ◌≤◌, Bool, true, false, ◌&&◌, T, leb, sym, refl, ◌∙◌, subst, arith, le-leb, leb-false, leb-true}
use borrow.Author.Tests.{lt-leb}
use Rattle.numbers.proofs.Laws.{and_both}
use Rattle.report.specs.Joined.{most, records_in, together}
use Rattle.report.specs.declared.column.Column.{Column}

abbrev pub is_small : Column → Bool
is_small c = leb c.count most && (leb c.outside most && leb c.not_finite most)

pub under : (c : Column) → is_small c ≡ true → (c.count ≤ most) × (c.outside ≤ most) × (c.not_finite ≤ most)
under c h =
    let a = and_both (leb c.count most) (leb c.outside most && leb c.not_finite most) h in
    let b = and_both (leb c.outside most) (leb c.not_finite most) a.1 in
    (leb-true _ _ a.0, leb-true _ _ b.0, leb-true _ _ b.1)

-- a column with a number above 4,096 fits with none
small_of : (c : Column) → records_in c ≤ most → is_small c ≡ true
small_of c h = rw (le-leb c.count most (omega arith), le-leb c.outside most (omega arith), le-leb c.not_finite most (omega arith)) refl

true_false : true ≡ false → ⊥
true_false e = subst T e tt

both_true : (a b : Bool) → a ≡ true → b ≡ true → a && b ≡ false → ⊥
both_true true b e f g = true_false (sym f ∙ g)
both_true false b e f g = true_false (sym e)

pub not_together : (a b : Column) → is_small a && is_small b ≡ false → false ≡ together a b
unfolding together
not_together a b h = go (leb (records_in a + records_in b) most) (leb-true (records_in a + records_in b) most)
  where
    go : (t : Bool) → (t ≡ true → records_in a + records_in b ≤ most) → false ≡ t
    go false f = refl
    go true f = absurd (both_true (is_small a) (is_small b) (small_of a (omega (arith, f refl))) (small_of b (omega (arith, f refl))) h)

pub together_le : (a b : Column) → together a b ≡ true → records_in a + records_in b ≤ most
unfolding together
together_le a b h = leb-true (records_in a + records_in b) most h
