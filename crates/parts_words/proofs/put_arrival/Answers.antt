-- `parts_words::put_arrival` meets its contract: three pieces, one after the other.
use mathlib.Core.Path.{◌≡◌, sym, ap, ◌∙◌}
use lib.ListN.{length}
use Rattle.record.specs.Layout.{floats}
use Rattle.sheet.proofs.Steps.{words_length}
use Rattle.parts_words.specs.Words.{state_words}
use Rattle.parts_words.proofs.Pieces.{front_length, middle_length, three}
use Rattle.std.proofs.Common.{rules}
use Rattle.parts_words.proofs.put_arrival.Goals as goal

pub put_numbers-requires : goal.put_numbers-requires
put_numbers-requires c = front_length c.args.words.now c.requires

pub copy-requires : goal.copy-requires
copy-requires c =
    let l : length c.args.a.header.parameters ≡ 8 = search rules in
    l ∙ sym (middle_length c.args.words.now c.put_numbers.new.room c.requires (ap length c.put_numbers.ensures))

pub returns : goal.returns
unfolding state_words
returns c =
    let a = c.args in
    let n = c.put_numbers.ensures in
    let p = c.copy.ensures in
    let h = c.put_held.ensures in
    let l : length a.a.header.parameters ≡ 8 = search rules in
    three a.words.now c.put_numbers.new.room c.copy.new.to c.put_held.new.words c.requires (ap length n) (ap length p ∙ l) (ap length h ∙ words_length floats a.a.held)
    ∙ rw (n, p, h)
