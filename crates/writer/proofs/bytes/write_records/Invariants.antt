-- `writer::bytes::write_records` meets its contract: the loop's invariant: the first i records stand as the sheet has them.
use Rattle.std.proofs.Common.{◌≡◌}
use Rattle.sheet.specs.Records.{sheet_words}
use Rattle.sheet.specs.Spelling.{spell_words}
use Rattle.writer.specs.Writer.{put}
use Rattle.writer.proofs.bytes.write_records.Given as goal

abbrev pub invariant-loop-i : goal.invariant-loop-i
invariant-loop-i l = l.room ≡ put l.initial.room l.at (spell_words (sheet_words l.model l.i l.records))
