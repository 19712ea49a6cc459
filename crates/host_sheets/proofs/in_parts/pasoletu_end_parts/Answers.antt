-- `host_sheets::in_parts::pasoletu_end_parts` meets its contract.
use Rattle.host_sheets.specs.Parts.{end_by}
use Rattle.host_sheets.proofs.in_parts.pasoletu_end_parts.Goals as goal

pub returns : goal.returns
unfolding end_by
returns c =
    let e = c.end.ensures in
    rw (e.value, e.state_after, e.progress_after)
