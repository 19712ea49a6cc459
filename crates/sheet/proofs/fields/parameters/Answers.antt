-- `sheet::fields::parameters` meets its contract: each return is a case of `as_parameters`.
use Rattle.std.proofs.Common.{◌≡◌, ℕ, arith, length, length-take}
use Rattle.model.specs.Kinds.{kinds_of}
use Rattle.model.proofs.KindLaws.{kinds_most}
use Rattle.sheet.proofs.Steps.{parameter_read, parameter_refused, all_read}
use Rattle.sheet.proofs.fields.parameters.Goals as goal

pub slice_bounds-place-items-end : goal.slice_bounds-place-items-end
slice_bounds-place-items-end c = omega (arith, length-take {A = ℕ}, kinds_most)

pub returns-in-Refused : goal.returns-in-Refused
returns-in-Refused c = parameter_refused _ _ _ _ (omega (arith, length-take {A = ℕ})) _ _ c.loop-i.invariant _ (rw c.is_flag_of.ensures at c.in-Refused.ensures)

pub loop-i-preserved : goal.loop-i-preserved
loop-i-preserved c = parameter_read _ _ _ _ (omega (arith, length-take {A = ℕ})) _ _ c.loop-i.invariant _ _ (omega arith) (rw c.is_flag_of.ensures at c.in-Read.ensures)

pub returns : goal.returns
returns c =
    let l : c.loop-i.i ≡ length (kinds_of c.args.model) = omega (arith, length-take {A = ℕ}, kinds_most) in
    all_read _ _ _ _ _ _ _ c.parameters_of-n.ensures l (omega arith) c.loop-i.invariant
