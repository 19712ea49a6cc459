-- `parts::close` meets its contract: each return is a case of `ended`.
use mathlib.Core.Path.{sym, ap, ◌∙◌}
use Rattle.parts.specs.Parts.{told}
use Rattle.parts.proofs.Cases.{end_again, end_short, end_good}
use Rattle.parts.proofs.close.Goals as goal

pub returns-then-a-ne0 : goal.returns-then-a-ne0
returns-then-a-ne0 c = c.tell.ensures ∙ end_again _ c.if-a-ne0.true

pub returns-then-lacks : goal.returns-then-lacks
returns-then-lacks c =
    c.tell-then-lacks.ensures ∙ ap (told 4) c.stop.ensures
    ∙ end_short _ c.if-a-ne0.false (sym c.lacks.ensures ∙ c.if-lacks.true)

pub returns : goal.returns
returns c =
    c.tell-2.ensures ∙ ap (told 0) c.stop-2.ensures
    ∙ end_good _ c.if-a-ne0.false (sym c.lacks.ensures ∙ c.if-lacks.false)
