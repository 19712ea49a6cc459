-- The words that are left, put into the text as it is, are all of them put into the first one.
use mathlib.Core.Path.{◌≡◌}
use lib.ListN.{drop}
use lib.Seq.{sets}
use Rattle.answer_text.specs.Text.{behind}
use Rattle.answer_text.proofs.put.Given as goal

abbrev pub invariant-loop-word : goal.invariant-loop-word
invariant-loop-word l =
    (behind l.initial.text l.k (drop l.word-index l.words) ≡ behind l.initial.text l.at l.words)
    × (sets l.text l.k (drop l.word-index l.words) ≡ sets l.initial.text l.at l.words)
