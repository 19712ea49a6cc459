-- `host_sheets::in_parts::pasoletu_begin_parts` meets its contract.
use Rattle.host_sheets.specs.Parts.{begin_by}
use Rattle.host_sheets.proofs.in_parts.pasoletu_begin_parts.Goals as goal

pub returns : goal.returns
unfolding begin_by
returns c =
    let e = c.begin.ensures in
    rw (e.value, e.state_after)
