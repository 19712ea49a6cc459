-- `sine::at_eighth` meets its contract. Assumes nothing.
use Rattle.sine.specs.Sine.{plus_of, minus_of}
use Rattle.sine.proofs.at_eighth.Goals as goal

pub returns : goal.returns
unfolding plus_of minus_of
returns c = simp (c.difference.ensures, c.mulhi-c.ensures, c.mulhi.ensures, c.minus.ensures, c.mulhi-a.ensures, c.plus.ensures, c.mulhi-z.ensures, c.mulhi-y.ensures)
