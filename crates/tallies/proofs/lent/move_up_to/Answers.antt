-- `tallies::lent::move_up_to` meets its contract: the tallies of the words are read, lent to the call, and written where it went.
use mathlib.Core.Path.{◌∙◌}
use Rattle.tallies.specs.Words.{tallies_in}
use Rattle.tallies.specs.Zones.{move_fits}
use Rattle.tallies.specs.Tallies.{move_tallies}
use Rattle.tallies.proofs.ByZone.{move_length}
use Rattle.tallies.proofs.WordLaws.{tallies_length}
use Rattle.tallies.proofs.LentLaws.{goes_or, put}
use Rattle.tallies.proofs.lent.move_up_to.Goals as goal

pub returns : goal.returns
returns c =
    let a = c.args in
    let ws = a.tallies.now in
    let zones = a.zones.now in
    let n = a.n in
    let p = c.put_done.ensures in
    let h = c.move_array-r in
    let r = c.read_tallies-ts in
    let m = a.particles in
    let i = a.p in
    let z = a.z in record { value = p.value ∙ h.ensures.0; zones_after = h.ensures.1; tallies_after = p.tallies_after ∙ put ws n r.result r.ensures h.result _ _ (move_tallies m i z zones n) h.ensures.0 (goes_or (move_fits m i z zones n)) h.ensures.2 (move_length m i z zones n (tallies_in ws n) ∙ tallies_length ws n) }
