-- `host_passes::zones::pasoletu_move_particle` meets its contract.
use Rattle.host_passes.specs.Zones.{move_by}
use Rattle.host_passes.proofs.zones.pasoletu_move_particle.Goals as goal

pub returns : goal.returns
unfolding move_by
returns c =
    let e = c.move_particle_words.ensures in
    rw (e.value, e.zones_after, e.tallies_after)
