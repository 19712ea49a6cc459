-- Reports in a host's words: what is written is read again, so joining two written reports writes the report of the joined list.
-- Assumes nothing.
use mathlib.Core.Path.{◌≡◌, refl, ◌∙◌}
use mathlib.Core.Bool.{Bool, true, false, cond}
use mathlib.Core.List.{List, [], ◌∷◌, ◌++◌}
use Prim.Native.Nat.{ℕ, ◌*◌, ◌/◌}
use native.Mathlib.Omega.{arith}
use lib.Dec.{eqb, leb}
use lib.ListN.{length, get_or}
use borrow.Author.Tests.{eqb-true}
use Rattle.record.specs.Layout.{floats}
use Rattle.report.specs.declared.Report.{Report}
use Rattle.report.specs.declared.Reported.{Reported}
use Rattle.report.specs.declared.Reported.TheVariants.{Table, Refused}
use Rattle.report.specs.Joined.{most, joined_of}
use Rattle.report.specs.Report.{table_of, report_of}
use Rattle.report.specs.Reasons.{Whole}
use Rattle.report.proofs.Joining.{report_append}
use Rattle.host_lists.specs.Called.{Called, called, sized_call}
use Rattle.host_sheets.specs.Reports.{report_words, report_at, reported_in, report_by, join_by}

-- A REPORT THAT IS WRITTEN IS READ AGAIN
pub words_back : (r : Report) → report_at (report_words r) ≡ r
words_back r = refl

-- the list that a call leaves
abbrev pub room_of : Called → List ℕ
room_of c = get_or c.lists 0 []

-- one that was told no refusal is the table of a whole number of records, in 18 places
module _ (l room : List ℕ) where
  abbrev table : Reported
  table = Table (table_of l (length l / floats))

  abbrev answer : Bool → Bool → Reported
  answer p q = cond p (cond q table (Refused 16)) (Refused 8)

  tested : (f p q : Bool) → eqb (length room) 18 ≡ f → eqb (length l / floats * floats) (length l) ≡ p → (sized_call f (reported_in (answer p q) room) (room ∷ [])).code ≡ 0
      → (eqb (length room) 18 ≡ true) × Whole l × (answer p q ≡ table)
  tested true true true e w z = (e, eqb-true (length l / floats * floats) (length l) w, refl)
  tested true true false e w z = absurd (omega (arith, z))
  tested true false q e w z = absurd (omega (arith, z))
  tested false p q e w z = absurd (omega (arith, z))

  tabled : (report_by l room).code ≡ 0 → (eqb (length room) 18 ≡ true) × Whole l × (report_of l ≡ table)
  unfolding report_of report_by
  tabled z = tested (eqb (length room) 18) (eqb (length l / floats * floats) (length l)) (leb (length l / floats) most) refl refl z

-- JOINING TWO WRITTEN REPORTS WRITES THE REPORT OF THE JOINED LIST, or is refused as that is, in any room
pub reports_joined : (l m a b room : List ℕ) → (report_by l a).code ≡ 0 → (report_by m b).code ≡ 0
    → join_by (room_of (report_by l a)) (room_of (report_by m b)) room ≡ report_by (l ++ m) room
unfolding report_by join_by
reports_joined l m a b room ca cb =
    let p = tabled l a ca in
    let q = tabled m b cb in
    let j : report_of (l ++ m) ≡ joined_of (table_of l (length l / floats)) (table_of m (length m / floats)) = report_append l m p.1 q.1 ∙ rw (p.2, q.2) in
    rw (p.0, q.0, p.2, q.2, j)
