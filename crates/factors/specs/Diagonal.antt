-- What may stand beside a diagonal: a zero of either sign.
use Rattle.std.specs.Prelude.{◌≡◌, true, Float}
use Rattle.std.specs.Float.Ieee as Ieee
use Rattle.tensor.specs.Matrix.{zero}

unfoldable pub Zero : Float → Type 0
Zero o = Ieee.eq o zero ≡ true
