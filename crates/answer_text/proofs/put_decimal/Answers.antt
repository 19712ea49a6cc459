-- `answer_text::put_decimal` meets its contract: the digits are as many as hold the number.
use mathlib.Core.Path.{subst}
use mathlib.Core.List.{List}
use Prim.Native.Nat.{ℕ}
use Rattle.answer_text.specs.Text.{Puts}
use Rattle.answer_text.proofs.Digits.{decimal_is}
use Rattle.answer_text.proofs.put_decimal.Goals as goal

pub returns : goal.returns
returns c =
    let a = c.args in
    let d = c.decimal-k in
    let p = c.put in
    subst (λ (words : List ℕ). Puts words a.text.now a.at p.result p.new.text)
    (decimal_is a.number d.result c.ranges.number.fits d.new.out d.ensures.len d.ensures.digits) p.ensures
