-- `decomposed::matrix::trace` answers `trace_of m`.
use Rattle.std.proofs.Common.{rules}
use mathlib.Core.List.{[]}
use Rattle.tensor.proofs.Axes.{of_one}
use Rattle.tensor.specs.Matrix.{sum_of}
use Rattle.decomposed.specs.Matrix.{trace_of}
use Rattle.decomposed.proofs.matrix.trace.Goals as goal

pub returns : goal.returns
unfolding trace_of sum_of
returns c = of_one trace_of [] c.args.m (search rules)
