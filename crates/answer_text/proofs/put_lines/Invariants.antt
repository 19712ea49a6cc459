-- The lines of the first i particles stand.
use Rattle.answer_text.specs.Text.{Puts, lines}
use Rattle.answer_text.proofs.put_lines.Given as goal

abbrev pub invariant-loop-i : goal.invariant-loop-i
invariant-loop-i l = Puts (lines l.i l.answers) l.initial.text l.at l.k l.text
