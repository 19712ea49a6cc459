-- No model has more parameters than a header has places.
use Rattle.std.proofs.Common.{arith}
use Rattle.std.proofs.lemmas.List.{length-take}
use Rattle.model.proofs.KindLaws.{kinds_most}
use Rattle.why_lines.proofs.print_lines.Goals as goal

pub slice_bounds-parameters-end : goal.slice_bounds-parameters-end
slice_bounds-parameters-end g c = omega (arith, c.parameters_of.ensures, kinds_most c.args.h.model)

pub slice_bounds-parameters-end-2 : goal.slice_bounds-parameters-end-2
slice_bounds-parameters-end-2 g c = simp length-take (omega (arith, c.parameters_of.ensures, kinds_most c.args.h.model))
