-- `parts::take` meets its contract: the loop's invariant: the bytes still to come lead where the whole part leads.
use Rattle.std.proofs.Common.{◌≡◌, drop}
use Rattle.parts.specs.Parts.{works, after}
use Rattle.parts.proofs.take.Given as goal

abbrev pub invariant-loop-b : goal.invariant-loop-b
invariant-loop-b l = after (works l.q l.records l.answers) (drop l.b-index l.bytes) ≡ after (works l.initial.q l.initial.records l.initial.answers) l.bytes
