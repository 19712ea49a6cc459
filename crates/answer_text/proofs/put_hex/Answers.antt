-- `answer_text::put_hex` meets its contract: sixteen digits.
use mathlib.Core.Path.{subst}
use mathlib.Core.List.{List}
use Prim.Native.Nat.{ℕ}
use Rattle.answer_text.specs.Text.{Puts}
use Rattle.answer_text.proofs.Digits.{hex_is}
use Rattle.answer_text.proofs.put_hex.Goals as goal

pub returns : goal.returns
returns c =
    let a = c.args in
    let d = c.hex-k in
    let p = c.put in
    subst (λ (words : List ℕ). Puts words a.text.now a.at p.result p.new.text)
    (hex_is a.number d.result c.ranges.number.fits d.new.out d.ensures.len d.ensures.digits) p.ensures
