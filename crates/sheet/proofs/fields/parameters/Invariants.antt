-- `sheet::fields::parameters` meets its contract: the loop's invariant: the parameters before i, in front of what is read from next on, are those of the whole reading.
use Rattle.std.proofs.Common.{◌≡◌, take, drop}
use Rattle.model.specs.Kinds.{kinds_of}
use Rattle.sheet.specs.Sheet.{parameters_at}
use Rattle.sheet.proofs.Steps.{prefixed}
use Rattle.sheet.proofs.fields.parameters.Given as goal

abbrev pub invariant-loop-i : goal.invariant-loop-i
invariant-loop-i l = parameters_at (kinds_of l.model) l.s l.at ≡ prefixed (take l.i l.place-items) (parameters_at (drop l.i (kinds_of l.model)) l.s l.next)
