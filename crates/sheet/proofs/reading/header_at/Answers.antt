-- `sheet::reading::header_at` meets its contract: what stands before the records, then the test of the length.
use mathlib.Core.Path.{◌∙◌}
use Rattle.sheet.proofs.Preambles.{preamble_refused, preamble_inside, preamble_read}
use Rattle.sheet.proofs.reading.header_at.Goals as goal

pub returns-then-h-ne0 : goal.returns-then-h-ne0
returns-then-h-ne0 c = preamble_refused _ _ _ c.preamble_at-h.ensures c.if-h-ne0.true

pub records_end-requires : goal.records_end-requires
records_end-requires c = preamble_inside _ _ _ c.preamble_at-h.ensures c.if-h-ne0.false

pub returns : goal.returns
returns c = c.records_end.ensures ∙ preamble_read _ _ _ c.preamble_at-h.ensures c.if-h-ne0.false
