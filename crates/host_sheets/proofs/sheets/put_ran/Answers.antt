-- `host_sheets::sheets::put_ran` meets its contract.
use mathlib.Core.Path.{refl}
use borrow.Author.Tests.{eq-eqb, ne_eqb}
use Rattle.host_sheets.proofs.sheets.put_ran.Goals as goal

pub returns-then-ran-eq0 : goal.returns-then-ran-eq0
returns-then-ran-eq0 c =
    let e = eq-eqb _ _ c.if-ran-eq0.true in
    record { value = refl; counts_after = simp (c.copy.ensures, e) }

pub returns-else-ran-eq0 : goal.returns-else-ran-eq0
returns-else-ran-eq0 c = record { value = refl; counts_after = simp (ne_eqb _ _ c.if-ran-eq0.false) }
