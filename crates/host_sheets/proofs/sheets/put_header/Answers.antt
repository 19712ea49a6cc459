-- `host_sheets::sheets::put_header` meets its contract.
use mathlib.Core.Path.{refl}
use borrow.Author.Tests.{eq-eqb, ne_eqb}
use Rattle.host_sheets.proofs.sheets.put_header.Goals as goal

pub returns-then-h-eq0 : goal.returns-then-h-eq0
returns-then-h-eq0 c =
    let e = eq-eqb _ _ c.if-h-eq0.true in
    record { value = refl; header_after = simp (c.copy.ensures, e) }

pub returns-else-h-eq0 : goal.returns-else-h-eq0
returns-else-h-eq0 c = record { value = refl; header_after = simp (ne_eqb _ _ c.if-h-eq0.false) }
