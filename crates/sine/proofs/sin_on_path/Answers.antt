-- What lies in the range is a number; the rest is the function's answer, asked inside a law.
use mathlib.Core.Path.{sym}
use Rattle.answers.proofs.Values.{on_path_inside}
use Rattle.sine.specs.Sine.{low, high, sin_of}
use Rattle.sine.proofs.sin_on_path.Goals as goal

pub sin_value-requires : goal.sin_value-requires
sin_value-requires c = simp c.in_range.ensures at c.if-in_range.true

pub returns-then-in_range : goal.returns-then-in_range
returns-then-in_range c =
    let x = c.args.x in
    let t0 = simp c.in_range.ensures at c.if-in_range.true in
    simp c.sin_value.ensures (sym (on_path_inside low high x (sin_of x) t0))

pub returns-else-in_range : goal.returns-else-in_range
returns-else-in_range c =
    let t0 = simp c.in_range.ensures at c.if-in_range.false in
    simp (c.on_path.ensures, c.outside.ensures, t0)
