-- `reader::header` meets its contract: a reader made stands at the sheet's start.
use Rattle.std.proofs.Common.{refl}
use Rattle.sheet.specs.Sheet.{header_of, preamble_of}
use Rattle.reader.proofs.header.Goals as goal

pub returns : goal.returns
unfolding header_of preamble_of
returns c = simp (c.read_header.ensures, c.new.ensures.0, c.new.ensures.1) refl
