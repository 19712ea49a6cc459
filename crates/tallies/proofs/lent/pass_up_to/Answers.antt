-- `tallies::lent::pass_up_to` meets its contract: the tallies of the words are read, lent to the call, and written where it went.
use mathlib.Core.Path.{ap, ◌∙◌}
use Rattle.particles.specs.Pass.{well_sized}
use Rattle.particles.specs.Step.{step_law}
use Rattle.tallies.specs.Words.{tallies_in}
use Rattle.tallies.specs.Tallies.{pass_zones_fit, pass_room, pass_refusal, records_after, answers_after, pass_tallies}
use Rattle.tallies.proofs.ByZone.{pass_length}
use Rattle.tallies.proofs.WordLaws.{tallies_length}
use Rattle.tallies.proofs.LentLaws.{goes_pass, front_of, put}
use Rattle.tallies.proofs.lent.pass_up_to.Goals as goal

pub returns : goal.returns
returns c =
    let a = c.args in
    let ws = a.tallies.now in
    let zones = a.zones.now in
    let n = a.n in
    let p = c.put_done.ensures in
    let h = c.pass_array-r in
    let r = c.read_tallies-ts in
    let xs = a.xs.now in
    let out = a.out.now in
    let law = step_law a.s in
    let ts = tallies_in ws n in
    let front = front_of ws n r.result r.ensures in
    let number = h.ensures.0 ∙ ap (pass_refusal xs out zones n) front in record { value = p.value ∙ number; xs_after = h.ensures.1 ∙ ap (records_after law xs out zones n) front; out_after = h.ensures.2 ∙ ap (answers_after law xs out zones n) front; tallies_after = p.tallies_after ∙ put ws n r.result r.ensures h.result _ _ (pass_tallies law xs out zones n) number (goes_pass (well_sized xs out) (pass_zones_fit xs zones n) (pass_room zones n ts)) h.ensures.3 (pass_length law xs out zones n ts ∙ tallies_length ws n) }
