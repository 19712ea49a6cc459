-- `host_passes::zones::pasoletu_clear_tallies` meets its contract.
use Rattle.host_passes.specs.Zones.{clear_by}
use Rattle.host_passes.proofs.zones.pasoletu_clear_tallies.Goals as goal

pub returns : goal.returns
unfolding clear_by
returns c =
    let e = c.clear_words.ensures in
    rw (e.value, e.tallies_after)
