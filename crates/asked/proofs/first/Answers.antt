-- The eight bytes that were compared are the text.
use Rattle.std.proofs.Common.{◌≡◌, refl, arith}
use Rattle.std.proofs.lemmas.Slice.Eq.{text_from_reads}
use lib.Chars.{codes}
use Rattle.asked.proofs.first.Goals as goal

pub returns-in-45-3 : goal.returns-in-45-3
returns-in-45-3 c =
    let w = c.in-Ok.words.now in
    let e : w ≡ codes "--frames" =
    text_from_reads w _ (omega arith) (omega arith, (omega arith, (omega arith, (omega arith, (omega arith, (omega arith, (omega arith, (omega arith, tt)))))))) in
    rw (c.in-Ok.is, e) refl
