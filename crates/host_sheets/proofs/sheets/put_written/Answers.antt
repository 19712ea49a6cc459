-- `host_sheets::sheets::put_written` meets its contract.
use Rattle.host_sheets.proofs.sheets.put_written.Goals as goal

pub returns-in-Length : goal.returns-in-Length
returns-in-Length c =
    let t = c.in-Length.is in
    record { value = simp t; written_after = simp (c.copy.ensures, t) }
