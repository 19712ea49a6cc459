-- `writer::bytes::write_words` meets its contract: the loop's invariant: the first i floats stand.
use Rattle.std.proofs.Common.{◌≡◌, take}
use Rattle.sheet.specs.Spelling.{spell_words}
use Rattle.writer.specs.Writer.{put}
use Rattle.writer.proofs.bytes.write_words.Given as goal

abbrev pub invariant-loop-i : goal.invariant-loop-i
invariant-loop-i l = l.room ≡ put l.initial.room l.at (spell_words (take l.i l.words))
