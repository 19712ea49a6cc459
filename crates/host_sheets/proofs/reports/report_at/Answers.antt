-- `host_sheets::reports::report_at` meets its contract.
use Rattle.host_sheets.proofs.reports.report_at.Goals as goal

pub returns : goal.returns
returns c = simp (c.column_at-3.ensures, c.column_at-2.ensures, c.column_at.ensures)
