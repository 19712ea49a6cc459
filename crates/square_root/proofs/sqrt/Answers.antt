-- The answer is the function's, called by itself; a value lies within the distance.
use Rattle.std.proofs.Common.{◌≡◌, T, sym, ◌∙◌, subst}
use lib.Ieee.{Float, binary64, fits}
use Rattle.answers.specs.Range.{bare}
use Rattle.answers.specs.declared.Answer.{Answer}
use Rattle.answers.specs.declared.Answer.TheVariants.{Value}
use Rattle.answers.proofs.Values.{bare_near}
use Rattle.exact.specs.RootOf.{Rooted, sqrt_of}
use Rattle.square_root.specs.Sqrt.{least, largest, sqrt_ranged}
use Rattle.square_root.proofs.InRange.{in_range_lem, in_range_finite, rooted}
use Rattle.square_root.proofs.sqrt.Goals as goal

-- with the answer goes the distance
near : (x : Float) (r : Answer) → T (fits binary64 x) → r ≡ bare x (sqrt_ranged x) → (r ≡ bare x (sqrt_ranged x)) × ((v : Float) → r ≡ Value v → Rooted x v)
near x r f e = (e, λ v h. bare_near least largest x v (sqrt_of x) (Rooted x) (rooted x f) (sym e ∙ h))

pub value-requires : goal.value-requires
value-requires c =
    in_range_lem c.args.x (subst T (sym c.well_formed.0.1) tt) (simp c.in_range.ensures at c.if-in_range.true)

pub returns-then-in_range : goal.returns-then-in_range
returns-then-in_range c =
    let t0 = simp c.in_range.ensures at c.if-in_range.true in
    near c.args.x _ (subst T (sym c.well_formed.0.1) tt) (simp (c.value.ensures, t0, in_range_finite c.args.x t0))

pub returns-else-in_range : goal.returns-else-in_range
returns-else-in_range c =
    let t0 = simp c.in_range.ensures at c.if-in_range.false in
    near c.args.x _ (subst T (sym c.well_formed.0.1) tt) (simp (c.bare.ensures, c.outside.ensures, t0))
