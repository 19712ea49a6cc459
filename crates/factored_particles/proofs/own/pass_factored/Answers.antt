-- `factored_particles::own::pass_factored` meets its contract: its step, and three of its counts.
use mathlib.Core.Path.{ap, ◌∙◌}
use Prim.Native.Nat.{◌/◌}
use lib.ListN.{length}
use Rattle.record.specs.Layout.{floats}
use Rattle.model.specs.Model.{model_finite}
use Rattle.one_record.specs.RecordLaw.{record_law}
use Rattle.factored_particles.specs.Factored.{factored_law}
use Rattle.particles.specs.Pass.{counts, well_sized, without_verdicts}
use Rattle.particles.proofs.PassLaws.{three_passed}
use Rattle.factored_particles.proofs.own.pass_factored.Goals as goal

pub returns : goal.returns
returns c =
    let e = c.pass_by.ensures in
    let a = c.args in
    let xs = a.xs.now in
    let t = three_passed (well_sized xs a.out.now) (counts (factored_law (model_finite a.m) (record_law a.m)) xs (length xs / floats)) 8 in
    record { value = c.three.ensures ∙ ap without_verdicts e.value ∙ t; xs_after = simp e.xs_after; out_after = simp e.out_after }
