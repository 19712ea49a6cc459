-- `parts_words::standing` meets its contract: the state's own number, then 0 where its header names a model, else 6.
use mathlib.Core.Path.{sym, ◌∙◌}
use borrow.Author.Tests.{eq-eqb, ne_eqb}
use Rattle.parts_words.proofs.standing.Goals as goal

pub returns-then-a-ne0 : goal.returns-then-a-ne0
returns-then-a-ne0 c = simp (ne_eqb _ 0 c.if-a-ne0.true)

pub returns-then-names_model : goal.returns-then-names_model
returns-then-names_model c = simp (eq-eqb _ 0 c.if-a-ne0.false, sym c.names_model.ensures ∙ c.if-names_model.true)

pub returns : goal.returns
returns c = simp (eq-eqb _ 0 c.if-a-ne0.false, sym c.names_model.ensures ∙ c.if-names_model.false)
