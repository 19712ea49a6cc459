-- `host_sheets::reports::column_at` meets its contract.
use Rattle.host_sheets.proofs.reports.column_at.Goals as goal

pub returns : goal.returns
returns c =
    simp (c.word-6.ensures, c.word-5.ensures, c.word-4.ensures, c.word-3.ensures, c.word-2.ensures, c.word.ensures)
