-- `factored_particles::factored::first` meets its contract: the inputs, the factors, then the law, and the verdict, on the record with them.
use mathlib.Core.Path.{sym, ap, ◌∙◌}
use mathlib.Core.Bool.{◌&&◌}
use mathlib.Core.List.{List}
use Prim.Native.Nat.{ℕ}
use Rattle.std.proofs.Common.{rules}
use Rattle.model.specs.Ready.{parameters_ready}
use Rattle.particles.specs.Pass.{Worked}
use Rattle.one_record.specs.Judged.{finite_by}
use Rattle.one_record.specs.ReadyRecord.{ready_law}
use Rattle.numbers.proofs.Laws.{and_both}
use Rattle.factored_particles.proofs.FactoredLaws.{inputs_refused, factors_refused, stepped, held_law}
use Rattle.factored_particles.proofs.StillFinite.{factored_finite, untested}
use Rattle.factored_particles.proofs.factored.first.Goals as goal

pub returns-then-not-parameters_ready-judge_finite : goal.returns-then-not-parameters_ready-judge_finite
returns-then-not-parameters_ready-judge_finite c =
    let a = c.args in
    let b = parameters_ready a.q && finite_by a.j in
    let i = (simp (c.judge_finite.ensures, c.parameters_ready.ensures) at c.if-not-parameters_ready-judge_finite.true) in
    let q = sym (inputs_refused a.r.now b (ready_law a.q a.j) i) in
    record { outcome = ap (λ (w : Worked). w.outcome) q; failed = ap (λ (w : Worked). w.failed) q; «record» = ap (λ (w : Worked). w.after) q }

pub returns-then-n-ne0 : goal.returns-then-n-ne0
returns-then-n-ne0 c =
    let a = c.args in
    let b = parameters_ready a.q && finite_by a.j in
    let f = c.factor-n.ensures in
    let i = (simp (c.judge_finite.ensures, c.parameters_ready.ensures) at c.if-not-parameters_ready-judge_finite.false) in
    let q = factors_refused a.r.now b (ready_law a.q a.j) i (f.0, f.1) c.if-n-ne0.true in
    let z = sym q.0 in
    record { outcome = ap (λ (w : Worked). w.outcome) z; failed = ap (λ (w : Worked). w.failed) z; «record» = q.1 ∙ ap (λ (w : Worked). w.after) z }

pub finite_step-d-requires : goal.finite_step-d-requires
finite_step-d-requires c =
    let f = c.factor-n.ensures in
    (search rules, factored_finite c.args.r.now _ (f.0, f.1) c.if-n-ne0.false, c.requires.1)

pub returns : goal.returns
returns c =
    let a = c.args in
    let b = parameters_ready a.q && finite_by a.j in
    let w = ready_law a.q a.j in
    let f = c.factor-n.ensures in
    let i = (simp (c.judge_finite.ensures, c.parameters_ready.ensures) at c.if-not-parameters_ready-judge_finite.false) in
    let q = stepped a.r.now b w i (f.0, f.1) c.if-n-ne0.false in
    let g = (and_both (parameters_ready a.q) (finite_by a.j) i).1 in
    let e = untested a.r.now _ (f.0, f.1) c.if-n-ne0.false a.q a.j g in
    let m = c.finite_step-d.ensures in
    let outcome = m.outcome ∙ ap (λ (x : Worked). x.outcome) e in
    let failed = m.failed ∙ ap (λ (x : Worked). x.failed) e in
    let after = m.«record» ∙ ap (λ (x : Worked). x.after) e in
    let z = sym q.0 in
    let h = held_law w a.r.now c.copy.ensures q.1 outcome after in record { outcome = outcome ∙ (ap (λ (x : List ℕ). (w x).outcome) q.1 ∙ ap (λ (x : Worked). x.outcome) z); failed = failed ∙ (ap (λ (x : List ℕ). (w x).failed) q.1 ∙ ap (λ (x : Worked). x.failed) z); «record» = c.hold.ensures ∙ (h ∙ ap (λ (x : Worked). x.after) z) }
