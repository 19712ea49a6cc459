-- `sine::minus` meets its contract. Assumes nothing.
use Rattle.sine.specs.Sine.{nested}
use Rattle.sine.proofs.minus.Goals as goal

pub returns : goal.returns
unfolding nested
returns c =
    simp (c.step.ensures.0, c.step-h1.ensures.0, c.step-h2.ensures.0, c.step-h3.ensures.0, c.step-h4.ensures.0, c.step-h5.ensures.0, c.step-h6.ensures.0, c.step-h7.ensures.0, c.step-h8.ensures.0, c.step-h9.ensures.0)
