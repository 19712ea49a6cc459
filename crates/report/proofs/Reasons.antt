-- Each refusal comes exactly when its reason holds.
use Rattle.std.proofs.Common.{◌≡◌, ℕ, ◌+◌, ◌*◌, ◌/◌, ◌<◌, ◌≤◌, Bool, true, false, cond, ◌&&◌, T, eqb, leb, List, length, sym, refl, ap, ◌∙◌, subst, ne_eqb, eqb-true, leb-false, leb-true}
use borrow.Author.Tests.{lt-leb, eqb-false}
use Rattle.answers.specs.Refusals.{too_long, wrong_length}
use Rattle.record.specs.Layout.{floats}
use Rattle.report.specs.Joined.{records_in, most, together, columns_joined, all_together, joined_of}
use Rattle.report.specs.Reasons.{Whole, Reason, uneven, over, JoinReason, plastic_hardening_case, elastic_hardening_case, plastic_determinant_case}
use Rattle.report.specs.Report.{table_of, report_of}
use Rattle.report.specs.declared.column.Column.{Column}
use Rattle.report.specs.declared.Report.{Report}
use Rattle.report.specs.declared.Reported.{Reported}
use Rattle.report.specs.declared.Reported.TheVariants.{Table, Refused}
use Rattle.report.proofs.Joining.{report_is, report_long}

-- a table is no refusal, and a refusal has one number
is_table : Reported → Bool
is_table (Table r) = true
is_table (Refused n) = false

number_of : Reported → ℕ
number_of (Table r) = 0
number_of (Refused n) = n

no_refusal : (r : Report) (n : ℕ) → Table r ≡ Refused n → ⊥
unfolding is_table
no_refusal r n e = subst (λ (a : Reported). T (is_table a)) e tt

one_number : (m n : ℕ) → Refused m ≡ Refused n → m ≡ n
unfolding number_of
one_number m n e = ap number_of e

module _ (l : List ℕ) where
  -- the reason tells the number
  pub told : (n : ℕ) → Reason l n → report_of l ≡ Refused n
  unfolding report_of
  told _ (uneven h) = simp (ne_eqb _ _ h)
  told _ (over h k) = report_long l h k

  -- and the number the reason
  pub reason : (n : ℕ) → report_of l ≡ Refused n → Reason l n
  reason n e = go (eqb (i * floats) (length l)) (leb i most) refl refl
    where
      i : ℕ
      i = length l / floats

      by : (k : ℕ) → Reason l k → Reason l n
      by k r = subst (Reason l) (one_number k n (sym (told k r) ∙ e)) r

      go : (s t : Bool) → eqb (length l / floats * floats) (length l) ≡ s → leb (length l / floats) most ≡ t → Reason l n
      go true true f g = absurd (no_refusal _ n (sym (report_is l (eqb-true _ _ f) (leb-true _ _ g)) ∙ e))
      go true false f g = by 16 (over (eqb-true _ _ f) (leb-false _ _ g))
      go false t f g = by 8 (uneven (eqb-false _ _ f))

-- ---- two reports put together
apart : (a b : Column) → most < records_in a + records_in b → together a b ≡ false
unfolding together
apart a b h = lt-leb (records_in a + records_in b) most h

past : (a b : Column) → together a b ≡ false → most < records_in a + records_in b
unfolding together
past a b h = leb-false (records_in a + records_in b) most h

and_false : (t : Bool) → t && false ≡ false
and_false true = refl
and_false false = refl

module _ (a b : Report) where
  refuses : all_together a b ≡ false → joined_of a b ≡ Refused 16
  unfolding joined_of
  refuses e = ap (λ (t : Bool). cond t (Table (columns_joined a b)) (Refused too_long)) e

  joins : all_together a b ≡ true → joined_of a b ≡ Table (columns_joined a b)
  unfolding joined_of
  joins e = ap (λ (t : Bool). cond t (Table (columns_joined a b)) (Refused too_long)) e

  abbrev h : Bool
  h = together a.plastic_hardening b.plastic_hardening

  abbrev e : Bool
  e = together a.elastic_hardening b.elastic_hardening

  abbrev d : Bool
  d = together a.plastic_determinant b.plastic_determinant

  pub join_told : (n : ℕ) → JoinReason a b n → joined_of a b ≡ Refused n
  join_told _ (plastic_hardening_case k) = refuses (ap (λ (t : Bool). t && (e && d)) (apart a.plastic_hardening b.plastic_hardening k))
  join_told _ (elastic_hardening_case k) = refuses (ap (λ (t : Bool). h && (t && d)) (apart a.elastic_hardening b.elastic_hardening k) ∙ and_false h)
  join_told _ (plastic_determinant_case k) =
      refuses (ap (λ (t : Bool). h && (e && t)) (apart a.plastic_determinant b.plastic_determinant k) ∙ ap (λ (t : Bool). h && t) (and_false e) ∙ and_false h)

  pub join_reason : (n : ℕ) → joined_of a b ≡ Refused n → JoinReason a b n
  join_reason n f = go h e d refl refl refl
    where
      by : JoinReason a b 16 → JoinReason a b n
      by r = subst (JoinReason a b) (one_number 16 n (sym (join_told 16 r) ∙ f)) r

      all_true : (s t u : Bool) → h ≡ s → e ≡ t → d ≡ u → s && (t && u) ≡ true → all_together a b ≡ true
      all_true s t u i j k m = rw (i, j, k) m

      go : (s t u : Bool) → h ≡ s → e ≡ t → d ≡ u → JoinReason a b n
      go false t u i j k = by (plastic_hardening_case (past a.plastic_hardening b.plastic_hardening i))
      go true false u i j k = by (elastic_hardening_case (past a.elastic_hardening b.elastic_hardening j))
      go true true false i j k = by (plastic_determinant_case (past a.plastic_determinant b.plastic_determinant k))
      go true true true i j k = absurd (no_refusal _ n (sym (joins (all_true true true true i j k refl)) ∙ f))
