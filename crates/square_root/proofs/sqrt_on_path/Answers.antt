-- The answer is the function's, asked inside a law.
use Rattle.std.proofs.Common.{T, sym, subst}
use Rattle.answers.proofs.Values.{in_range_number}
use Rattle.square_root.specs.Sqrt.{least, largest}
use Rattle.square_root.proofs.InRange.{in_range_lem}
use Rattle.square_root.proofs.sqrt_on_path.Goals as goal

pub value-requires : goal.value-requires
value-requires c =
    in_range_lem c.args.x (subst T (sym c.well_formed.0.1) tt) (simp c.in_range.ensures at c.if-in_range.true)

pub returns-then-in_range : goal.returns-then-in_range
returns-then-in_range c =
    let t0 = simp c.in_range.ensures at c.if-in_range.true in
    simp (c.value.ensures, t0, in_range_number least largest c.args.x t0)

pub returns-else-in_range : goal.returns-else-in_range
returns-else-in_range c =
    let t0 = simp c.in_range.ensures at c.if-in_range.false in
    simp (c.on_path.ensures, c.outside.ensures, t0)
