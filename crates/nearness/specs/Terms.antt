-- A product of three floats as a term.
use Rattle.std.specs.Prelude.{◌≡◌, ◌*◌, ◌^◌, ◌*ℤ◌, Float}
use Rattle.std.specs.Float.Ieee.{unlike}
use Rattle.exact.specs.Value.{val, signed}
use Rattle.nearness.specs.declared.Whole.{Whole}
use Rattle.nearness.specs.declared.Term.{Term}
use Rattle.nearness.specs.Cells.{SmallTerm, worth}

pub record TermOf (a b c : Whole) (r : Term) : Type 0 where
  pub small : SmallTerm r
  pub sign : r.negative ≡ unlike (unlike a.negative b.negative) c.negative
  pub value : worth r ≡ a.n * 2 ^ a.e * (b.n * 2 ^ b.e) * (c.n * 2 ^ c.e)

pub record TripleOf (a b c : Float) (t : Term) : Type 0 where
  pub small : SmallTerm t
  pub value : signed t.negative (worth t) ≡ val a *ℤ val b *ℤ val c
