-- `host_sheets::in_parts::pasoletu_part` meets its contract.
use Rattle.host_sheets.specs.Parts.{part_by}
use Rattle.host_sheets.proofs.in_parts.pasoletu_part.Goals as goal

pub returns : goal.returns
unfolding part_by
returns c =
    let e = c.part.ensures in
    rw (e.value, e.state_after, e.records_after, e.answers_after, e.progress_after)
