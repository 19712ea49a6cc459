-- `tallies::lent::clear_words` meets its contract: 8, then 12, then the call itself.
use mathlib.Core.Path.{sym, ◌∙◌}
use borrow.Author.Tests.{eqb-true, lt-leb}
use Rattle.tallies.proofs.lent.clear_words.Goals as goal

pub clear_up_to-requires : goal.clear_up_to-requires
clear_up_to-requires c = (c.if-n-le-ZONES.true, sym (eqb-true _ _ (sym c.whole_words.ensures ∙ c.if-whole_words.true)))

pub returns-then-n-le-ZONES : goal.returns-then-n-le-ZONES
returns-then-n-le-ZONES c =
    let w = sym c.whole_words.ensures ∙ c.if-whole_words.true in
    let e = c.clear_up_to.ensures in
    record { value = rw w e.value; tallies_after = rw w e.tallies_after }

pub returns-then-whole_words : goal.returns-then-whole_words
returns-then-whole_words c =
    let w = sym c.whole_words.ensures ∙ c.if-whole_words.true in
    let t = lt-leb _ _ c.if-n-le-ZONES.false in
    record { value = simp (w, t); tallies_after = simp (w, t) }

pub returns : goal.returns
returns c =
    let f = sym c.whole_words.ensures ∙ c.if-whole_words.false in
    record { value = simp f; tallies_after = simp f }
