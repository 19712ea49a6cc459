-- `tallies::lent::clear_up_to` meets its contract: the tallies of the words are read, lent to the call, and written where it went.
use mathlib.Core.Path.{◌∙◌}
use Rattle.tallies.specs.Words.{tallies_in}
use Rattle.tallies.specs.Zones.{zones_fit}
use Rattle.tallies.specs.Tallies.{clear_tallies}
use Rattle.tallies.proofs.ByZone.{clear_length}
use Rattle.tallies.proofs.WordLaws.{tallies_length}
use Rattle.tallies.proofs.LentLaws.{goes_or, put}
use Rattle.tallies.proofs.lent.clear_up_to.Goals as goal

pub returns : goal.returns
returns c =
    let a = c.args in
    let ws = a.tallies.now in
    let zones = a.zones.now in
    let n = a.n in
    let p = c.put_done.ensures in
    let h = c.clear_array-r in
    let r = c.read_tallies-ts in
    let m = a.particles in
    record { value = p.value ∙ h.ensures.0; tallies_after = p.tallies_after ∙ put ws n r.result r.ensures h.result _ _ (clear_tallies m zones n) h.ensures.0 (goes_or (zones_fit m zones n)) h.ensures.1 (clear_length m zones n (tallies_in ws n) ∙ tallies_length ws n) }
