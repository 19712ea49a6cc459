-- `factored_particles::list::pass_all` meets its contract: what its calls ensure, on each path.
use native.Mathlib.Omega.{arith}
use mathlib.Core.Path.{refl, ap, ◌∙◌}
use mathlib.Core.List.{List}
use Prim.Native.Nat.{ℕ}
use Rattle.record.specs.Layout.{floats}
use Rattle.factored_particles.specs.Step.{own_taken_law}
use Rattle.particles.specs.Pass.{worked_over, answers_over, counts_over}
use Rattle.factored_particles.proofs.StepLaws.{own_keeps}
use Rattle.particles.proofs.PassLaws.{worked_step, answers_step, counts_step, counts_most, record_same}
use Rattle.factored_particles.proofs.list.pass_all.Goals as goal

pub loop-i-init : goal.loop-i-init
unfolding worked_over answers_over counts_over
loop-i-init c = (refl, refl, refl)

pub count_one-c-requires : goal.count_one-c-requires
count_one-c-requires c =
    let l = c.loop-i in
    let m = counts_most floats (own_taken_law c.args.t) c.args.xs.now l.i in
    rw l.invariant.0 (omega arith)

pub loop-i-preserved : goal.loop-i-preserved
loop-i-preserved c =
    let o = c.one_factored-d in
    let l = c.loop-i in
    let law = own_taken_law c.args.t in
    let keeps = own_keeps c.args.t in
    let xs = c.args.xs.now in
    let same = record_same floats law keeps xs l.i l.xs l.invariant.1 (omega arith) in
    let f = o.ensures.outcome ∙ ap (λ (r : List ℕ). (law r).outcome) same in
    let g = o.ensures.failed ∙ ap (λ (r : List ℕ). (law r).failed) same in (
      c.count_one-c.ensures ∙ counts_step floats law xs l.i l.c o.result.outcome o.result.failed l.invariant.0 f g,
      o.ensures.«record» ∙ worked_step floats law keeps xs l.i (omega arith) l.xs l.invariant.1,
      o.ensures.answer ∙ answers_step floats law xs l.i c.args.out.now (omega arith) l.out l.invariant.2 o.result.outcome f,
    )
