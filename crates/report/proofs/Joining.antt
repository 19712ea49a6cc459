-- The report over a joined list is the two reports put together, refusal too; joining is associative, and the empty report changes
-- nothing. Assumes nothing.
use Rattle.std.proofs.Common.{◌≡◌, ℕ, zero, suc, ◌+◌, ◌*◌, ◌/◌, ◌%◌, ◌^◌, ◌<◌, ◌≤◌, Bool, true, false, cond, not, ◌&&◌, eqb, leb, List, [], ◌∷◌, ◌++◌, length, ℤ, pos, sym, refl, ap, ◌∙◌, subst, ap₂, add-zero, add_assoc, zero-add, arith, length-append, eq-eqb, ne_eqb, eqb-true, le-leb, leb-false, leb-true}
use lib.Ieee.{Float}
use borrow.Author.Tests.{lt-leb, eqb-false}
use Rattle.answers.specs.Refusals.{too_long, wrong_length}
use Rattle.record.specs.Layout.{floats, place_plastic_determinant, place_plastic_hardening, place_elastic_hardening}
use Rattle.report.specs.Column.{those, word, below, above, first, first_of, sum_of, wholes, column_of}
use Rattle.report.specs.Joined.{word_below, word_above, of_both, join_columns, records_in, most, together, columns_joined, all_together, joined_of, join_answers}
use Rattle.report.specs.Reasons.{Whole}
use Rattle.report.specs.Report.{values, table_of, report_of, empty_report, night_of, whole_night}
use Rattle.report.specs.declared.column.Column.{Column}
use Rattle.report.specs.declared.Report.{Report}
use Rattle.report.specs.declared.Reported.{Reported}
use Rattle.report.specs.declared.Reported.TheVariants.{Table, Refused}
use Rattle.report.proofs.Columns.{same_column}
use Rattle.report.proofs.Orders.{Order, first_assoc, word_below_order, word_above_order}
use Rattle.report.proofs.Reports.{column_records, values_length, records_at, column_joined}
use Rattle.report.proofs.Words.{word_lt}

same_report : {a a' b b' c c' : Column} → a ≡ a' → b ≡ b' → c ≡ c'
    → ◌≡◌ {A = Report} (record { plastic_hardening = a; elastic_hardening = b; plastic_determinant = c }) (record { plastic_hardening = a'; elastic_hardening = b'; plastic_determinant = c' })
same_report e1 e2 e3 = rw (e1, e2, e3) refl

-- ---- joining is associative
zero_sum : (i j : ℕ) → eqb (i + j) 0 ≡ eqb i 0 && eqb j 0
zero_sum i j = go (eqb i 0) (eqb j 0) refl refl
  where
    go : (s t : Bool) → eqb i 0 ≡ s → eqb j 0 ≡ t → eqb (i + j) 0 ≡ s && t
    go true true e f = let g = eqb-true i 0 e in let h = eqb-true j 0 f in eq-eqb (i + j) 0 (omega arith)
    go true false e f = let h = eqb-false j 0 f in ne_eqb (i + j) 0 (λ z. h (omega arith))
    go false t e f = let h = eqb-false i 0 e in ne_eqb (i + j) 0 (λ z. h (omega arith))

module _ (before : ℕ → ℕ → Bool) (o : Order before) (u v w : ℕ) where
  by_zeros : (x y z : Bool)
      → cond (x && y) (cond z 0 w) (cond z (cond x (cond y 0 v) (cond y u (first before u v))) (first before (cond x (cond y 0 v) (cond y u (first before u v))) w))
      ≡ cond x (cond (y && z) 0 (cond y (cond z 0 w) (cond z v (first before v w)))) (cond (y && z) u (first before u (cond y (cond z 0 w) (cond z v (first before v w)))))
  by_zeros true true true = refl
  by_zeros true true false = refl
  by_zeros true false true = refl
  by_zeros true false false = refl
  by_zeros false true true = refl
  by_zeros false true false = refl
  by_zeros false false true = refl
  by_zeros false false false = first_assoc before o u v w

  both_assoc : (i j k : ℕ) → of_both before (i + j) k (of_both before i j u v) w ≡ of_both before i (j + k) u (of_both before j k v w)
  both_assoc i j k = rw (zero_sum i j, zero_sum j k) (by_zeros (eqb i 0) (eqb j 0) (eqb k 0))

total_assoc : (a b c : ℕ) → ((a + b) % 2 ^ 64 + c) % 2 ^ 64 ≡ (a + (b + c) % 2 ^ 64) % 2 ^ 64
total_assoc a b c = omega arith

pub columns_assoc : (a b c : Column) → join_columns (join_columns a b) c ≡ join_columns a (join_columns b c)
unfolding join_columns
columns_assoc a b c =
    same_column (add_assoc a.count b.count c.count)
    (both_assoc word_below word_below_order a.least b.least c.least a.count b.count c.count)
    (both_assoc word_above word_above_order a.greatest b.greatest c.greatest a.count b.count c.count)
    (total_assoc a.total b.total c.total)
    (add_assoc a.outside b.outside c.outside)
    (add_assoc a.not_finite b.not_finite c.not_finite)

pub records_joined : (a b : Column) → records_in (join_columns a b) ≡ records_in a + records_in b
unfolding join_columns
records_joined a b = omega arith

together_assoc : (a b c : Column) → together (join_columns a b) c ≡ together a (join_columns b c)
unfolding together
together_assoc a b c =
    ap (λ k. leb (k + records_in c) most) (records_joined a b) ∙ ap (λ k. leb k most) (add_assoc (records_in a) (records_in b) (records_in c))
    ∙ ap (λ k. leb (records_in a + k) most) (sym (records_joined b c))

-- what is too long by itself is so with more
longer : (a b c : Column) → together a b ≡ false → together (join_columns a b) c ≡ false
unfolding together
longer a b c h =
    ap (λ k. leb (k + records_in c) most) (records_joined a b)
    ∙ lt-leb (records_in a + records_in b + records_in c) most (let k = leb-false (records_in a + records_in b) most h in omega arith)

longer_left : (a b c : Column) → together b c ≡ false → together a (join_columns b c) ≡ false
unfolding together
longer_left a b c h =
    ap (λ k. leb (records_in a + k) most) (records_joined b c)
    ∙ lt-leb (records_in a + (records_in b + records_in c)) most (let k = leb-false (records_in b + records_in c) most h in omega arith)

-- of three tests one fails, and then one of three that follow it
one_fails : (x y z x' y' z' : Bool) → (x ≡ false → x' ≡ false) → (y ≡ false → y' ≡ false) → (z ≡ false → z' ≡ false) → x && (y && z) ≡ false → x' && (y' && z') ≡ false
one_fails false y z x' y' z' f g h e = ap (λ (t : Bool). t && (y' && z')) (f refl)
one_fails true false z x' y' z' f g h e = ap (λ (t : Bool). x' && (t && z')) (g refl) ∙ last x'
  where
    last : (t : Bool) → t && false ≡ false
    last true = refl
    last false = refl
one_fails true true z x' y' z' f g h e = ap (λ (t : Bool). x' && (y' && t)) (h e) ∙ ap (λ (t : Bool). x' && t) (last y') ∙ last x'
  where
    last : (t : Bool) → t && false ≡ false
    last true = refl
    last false = refl

left_first : (a b c : Report) → join_answers (joined_of a b) (Table c) ≡ joined_of (columns_joined a b) c
unfolding joined_of
left_first a b c = go (all_together a b) refl
  where
    go : (t : Bool) → all_together a b ≡ t → join_answers (cond t (Table (columns_joined a b)) (Refused too_long)) (Table c) ≡ joined_of (columns_joined a b) c
    go true e = refl
    go false e =
        ap (λ (t : Bool). cond t (Table (columns_joined (columns_joined a b) c)) (Refused too_long))
        (sym (one_fails _ _ _ _ _ _
        (longer a.plastic_hardening b.plastic_hardening c.plastic_hardening)
        (longer a.elastic_hardening b.elastic_hardening c.elastic_hardening)
        (longer a.plastic_determinant b.plastic_determinant c.plastic_determinant) e))

right_first : (a b c : Report) → join_answers (Table a) (joined_of b c) ≡ joined_of a (columns_joined b c)
unfolding joined_of
right_first a b c = go (all_together b c) refl
  where
    go : (t : Bool) → all_together b c ≡ t → join_answers (Table a) (cond t (Table (columns_joined b c)) (Refused too_long)) ≡ joined_of a (columns_joined b c)
    go true e = refl
    go false e =
        ap (λ (t : Bool). cond t (Table (columns_joined a (columns_joined b c))) (Refused too_long))
        (sym (one_fails _ _ _ _ _ _
        (longer_left a.plastic_hardening b.plastic_hardening c.plastic_hardening)
        (longer_left a.elastic_hardening b.elastic_hardening c.elastic_hardening)
        (longer_left a.plastic_determinant b.plastic_determinant c.plastic_determinant) e))

middle : (a b c : Report) → joined_of (columns_joined a b) c ≡ joined_of a (columns_joined b c)
unfolding joined_of
middle a b c =
    rw (
      together_assoc a.plastic_hardening b.plastic_hardening c.plastic_hardening,
      together_assoc a.elastic_hardening b.elastic_hardening c.elastic_hardening,
      together_assoc a.plastic_determinant b.plastic_determinant c.plastic_determinant,
      columns_assoc a.plastic_hardening b.plastic_hardening c.plastic_hardening,
      columns_assoc a.elastic_hardening b.elastic_hardening c.elastic_hardening,
      columns_assoc a.plastic_determinant b.plastic_determinant c.plastic_determinant,
    ) refl

-- for every three reports, also such as no list has
pub joining_assoc : (a b c : Report) → join_answers (joined_of a b) (Table c) ≡ join_answers (Table a) (joined_of b c)
joining_assoc a b c = left_first a b c ∙ middle a b c ∙ sym (right_first a b c)

-- ---- the empty report changes nothing
-- what a column in a report is: at most 4,096 records, a total of 64 digits, and nothing where nothing is counted
pub record Proper (c : Column) : Type 0 where
  pub few : records_in c ≤ most
  pub total_lt : c.total < 2 ^ 64
  pub none : c.count ≡ 0 → (c.least ≡ 0) × (c.greatest ≡ 0)

abbrev pub ProperReport : Report → Type 0
ProperReport r = Proper r.plastic_hardening × Proper r.elastic_hardening × Proper r.plastic_determinant

empty_first : (t : Bool) (m v : ℕ) → eqb m 0 ≡ t → (m ≡ 0 → v ≡ 0) → cond t 0 v ≡ v
empty_first true m v e h = sym (h (eqb-true m 0 e))
empty_first false m v e h = refl

pub empty_left : (c : Column) → Proper c → join_columns (column_of []) c ≡ c
unfolding column_of those word sum_of join_columns
empty_left c q =
    same_column (zero-add c.count) (empty_first (eqb c.count 0) c.count c.least refl (λ e. (q.none e).0))
    (empty_first (eqb c.count 0) c.count c.greatest refl (λ e. (q.none e).1))
    (let h = q.total_lt in omega arith) (zero-add c.outside) (zero-add c.not_finite)

pub empty_right : (c : Column) → Proper c → join_columns c (column_of []) ≡ c
unfolding column_of those word sum_of join_columns
empty_right c q =
    same_column (add-zero c.count) (empty_first (eqb c.count 0) c.count c.least refl (λ e. (q.none e).0))
    (empty_first (eqb c.count 0) c.count c.greatest refl (λ e. (q.none e).1))
    (let h = q.total_lt in omega arith) (add-zero c.outside) (add-zero c.not_finite)

no_records : records_in (column_of []) ≡ 0
unfolding column_of those
no_records = refl

fits_left : (c : Column) → Proper c → together (column_of []) c ≡ true
unfolding together
fits_left c q = let h = q.few in le-leb (records_in (column_of []) + records_in c) most (omega (arith, no_records))

fits_right : (c : Column) → Proper c → together c (column_of []) ≡ true
unfolding together
fits_right c q = let h = q.few in le-leb (records_in c + records_in (column_of [])) most (omega (arith, no_records))

pub joining_empty_left : (r : Report) → ProperReport r → joined_of empty_report r ≡ Table r
unfolding joined_of values
joining_empty_left r q =
    rw (fits_left r.plastic_hardening q.0, fits_left r.elastic_hardening q.1, fits_left r.plastic_determinant q.2)
    (ap Table (same_report (empty_left r.plastic_hardening q.0) (empty_left r.elastic_hardening q.1) (empty_left r.plastic_determinant q.2)))

pub joining_empty_right : (r : Report) → ProperReport r → joined_of r empty_report ≡ Table r
unfolding joined_of values
joining_empty_right r q =
    rw (fits_right r.plastic_hardening q.0, fits_right r.elastic_hardening q.1, fits_right r.plastic_determinant q.2)
    (ap Table (same_report (empty_right r.plastic_hardening q.0) (empty_right r.elastic_hardening q.1) (empty_right r.plastic_determinant q.2)))

-- ---- the columns of a report are so
zero_word : word (pos 0) ≡ 0
unfolding word
zero_word = refl

none_counted : (xs : List Float) → length (wholes xs) ≡ 0 → (word (first_of below (wholes xs)) ≡ 0) × (word (first_of above (wholes xs)) ≡ 0)
none_counted xs = go (wholes xs)
  where
    go : (ks : List ℤ) → length ks ≡ 0 → (word (first_of below ks) ≡ 0) × (word (first_of above ks) ≡ 0)
    go [] e = (zero_word, zero_word)
    go (k ∷ ks) e = absurd (omega arith)

pub column_proper : (xs : List Float) → length xs ≤ most → Proper (column_of xs)
unfolding column_of
column_proper xs h =
    record {
      few = subst (λ (k : ℕ). k ≤ most) (sym (column_records xs)) h;
      total_lt = word_lt (sum_of (wholes xs));
      none = none_counted xs;
    }

pub report_proper : (l : List ℕ) (i : ℕ) → i ≤ most → ProperReport (table_of l i)
report_proper l i h = (at place_plastic_hardening, at place_elastic_hardening, at place_plastic_determinant)
  where
    at : (place : ℕ) → Proper (column_of (values place l i))
    at place = column_proper (values place l i) (subst (λ (k : ℕ). k ≤ most) (sym (values_length place l i)) h)

-- ---- the report over a joined list
module _ (l : List ℕ) (h : Whole l) where
  pub report_is : length l / floats ≤ most → report_of l ≡ Table (table_of l (length l / floats))
  unfolding report_of
  report_is k = simp (eq-eqb _ _ h, le-leb _ _ k)

  pub report_long : most < length l / floats → report_of l ≡ Refused too_long
  unfolding report_of
  report_long k = simp (eq-eqb _ _ h, lt-leb _ _ k)

joined_length : (l m : List ℕ) → Whole l → Whole m → length (l ++ m) / floats ≡ length l / floats + length m / floats
joined_length l m h k = let e = length-append l m in omega arith

joined_whole : (l m : List ℕ) → Whole l → Whole m → Whole (l ++ m)
joined_whole l m h k = let e = length-append l m in let f = joined_length l m h k in omega arith

fit_all : (l m : List ℕ) (a b : ℕ) → all_together (table_of l a) (table_of m b) ≡ leb (a + b) most
unfolding together
fit_all l m a b =
    rw (
      records_at place_plastic_hardening l a,
      records_at place_plastic_hardening m b,
      records_at place_elastic_hardening l a,
      records_at place_elastic_hardening m b,
      records_at place_plastic_determinant l a,
      records_at place_plastic_determinant m b,
    )
    (thrice (leb (a + b) most))
  where
    thrice : (t : Bool) → t && (t && t) ≡ t
    thrice true = refl
    thrice false = refl

table_joined : (l m : List ℕ) (a b : ℕ) → a * floats ≡ length l → table_of (l ++ m) (a + b) ≡ columns_joined (table_of l a) (table_of m b)
table_joined l m a b e =
    same_report (column_joined place_plastic_hardening l m a b (omega arith) e) (column_joined place_elastic_hardening l m a b (omega arith) e)
    (column_joined place_plastic_determinant l m a b (omega arith) e)

-- the joined tables, or 16
module _ (l m : List ℕ) (h : Whole l) (k : Whole m) where
  abbrev a : ℕ
  a = length l / floats

  abbrev b : ℕ
  b = length m / floats

  long : most < a + b → report_of (l ++ m) ≡ Refused too_long
  long j = report_long (l ++ m) (joined_whole l m h k) (subst (λ (v : ℕ). most < v) (sym (joined_length l m h k)) j)

  short : a + b ≤ most → report_of (l ++ m) ≡ Table (columns_joined (table_of l a) (table_of m b))
  short j =
      report_is (l ++ m) (joined_whole l m h k) (subst (λ (v : ℕ). v ≤ most) (sym (joined_length l m h k)) j)
      ∙ ap (λ (v : ℕ). Table (table_of (l ++ m) v)) (joined_length l m h k) ∙ ap Table (table_joined l m a b h)

  by_sum : (t : Bool) → leb (a + b) most ≡ t → report_of (l ++ m) ≡ joined_of (table_of l a) (table_of m b)
  unfolding joined_of
  by_sum true e = short (leb-true (a + b) most e) ∙ rw (fit_all l m a b, e) refl
  by_sum false e = long (leb-false (a + b) most e) ∙ rw (fit_all l m a b, e) refl

  by_parts : (s t : Bool) → leb a most ≡ s → leb b most ≡ t → report_of (l ++ m) ≡ join_answers (report_of l) (report_of m)
  by_parts true true e f =
      by_sum (leb (a + b) most) refl
      ∙ sym (rw (report_is l h (leb-true a most e), report_is m k (leb-true b most f)) refl)
  by_parts true false e f =
      long (let i = leb-false b most f in omega arith) ∙ sym (rw (report_is l h (leb-true a most e), report_long m k (leb-false b most f)) refl)
  by_parts false t e f = long (let i = leb-false a most e in omega arith) ∙ sym (rw (report_long l h (leb-false a most e)) refl)

  -- refusal too: 16 where the records together pass 4,096
  pub report_append : report_of (l ++ m) ≡ join_answers (report_of l) (report_of m)
  report_append = by_parts (leb a most) (leb b most) refl refl

-- ---- a night in any number of parts
abbrev pub AllWhole : List (List ℕ) → Type 0
AllWhole [] = Unit {0}
AllWhole (l ∷ ls) = Whole l × AllWhole ls

night_whole : (ls : List (List ℕ)) → AllWhole ls → Whole (whole_night ls)
unfolding whole_night
night_whole [] h = refl
night_whole (l ∷ ls) h = joined_whole l (whole_night ls) h.0 (night_whole ls h.1)

pub night_in_parts : (ls : List (List ℕ)) → AllWhole ls → report_of (whole_night ls) ≡ night_of ls
unfolding whole_night night_of report_of
night_in_parts [] h = refl
night_in_parts (l ∷ ls) h = report_append l (whole_night ls) h.0 (night_whole ls h.1) ∙ ap (join_answers (report_of l)) (night_in_parts ls h.1)
