-- `solid::neo_hookean::pos_energy` meets its contract: the steps with the stored determinant, where nothing refuses before.
use mathlib.Core.Path.{sym, ap, ◌∙◌}
use Rattle.answers.specs.declared.Answer.TheVariants.{Refused}
use Rattle.solid.proofs.Passed.{passed, unasked}
use Rattle.solid.proofs.NeoHookeanStored.{pos_stored}
use Rattle.solid.proofs.neo_hookean.pos_energy.Goals as goal

pub read_state-s-requires : goal.read_state-s-requires
read_state-s-requires c =
    let e = simp c.law_finite.ensures at c.refusal-n.ensures in
    let k = passed _ c.args.r.now (sym e ∙ c.if-n-eq0.true) in
    (k.long, k.fine)

pub returns-then-n-eq0 : goal.returns-then-n-eq0
returns-then-n-eq0 c =
    let e = simp c.law_finite.ensures at c.refusal-n.ensures in
    simp (c.pos.ensures, c.of_rows-f.ensures, c.float-j.ensures, c.read_state-s.ensures, pos_stored c.args.law c.args.r.now (sym e ∙ c.if-n-eq0.true))

pub returns-else-n-eq0 : goal.returns-else-n-eq0
returns-else-n-eq0 c =
    let e = simp c.law_finite.ensures at c.refusal-n.ensures in
    ap Refused e ∙ sym (unasked _ c.args.r.now Refused _ (λ z. c.if-n-eq0.false (e ∙ z)))
