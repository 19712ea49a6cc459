-- One more line stands behind those that do.
use native.Mathlib.Numerals.{add-one}
use Rattle.answer_text.specs.Text.{lines}
use Rattle.answer_text.proofs.Puts.{puts_more}
use Rattle.answer_text.proofs.put_lines.Goals as goal

pub loop-i-preserved : goal.loop-i-preserved
unfolding lines
loop-i-preserved c = rw (add-one c.loop-i.i) (puts_more c.well_formed.0.0 c.loop-i.invariant c.put_line-k.ensures)
