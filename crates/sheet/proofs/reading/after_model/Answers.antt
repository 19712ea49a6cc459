-- `sheet::reading::after_model` meets its contract: each return is a case of `after_parameters`.
use Rattle.model.specs.Kinds.{kinds_of}
use Rattle.sheet.specs.Sheet.{parameters_at}
use Rattle.sheet.proofs.Bounds.{stops, parameters_refused, parameters_read}
use mathlib.Core.Path.{◌∙◌}
use Rattle.sheet.proofs.reading.after_model.Goals as goal

pub returns-then-p-ne0 : goal.returns-then-p-ne0
returns-then-p-ne0 c =
    let a = c.args in
    c.refused.ensures ∙ parameters_refused a.s.now a.model (parameters_at (kinds_of a.model) a.s.now a.at) _ c.parameters-p.ensures c.if-p-ne0.true

pub returns : goal.returns
returns c =
    let a = c.args in
    c.after_parameters.ensures ∙ parameters_read a.s.now a.model (parameters_at (kinds_of a.model) a.s.now a.at) _ c.parameters-p.ensures c.if-p-ne0.false (stops (kinds_of a.model) a.s.now a.at)
