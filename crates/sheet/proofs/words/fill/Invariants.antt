-- `sheet::words::fill` meets its contract: the loop's invariant: the places before i hold the words read.
use Rattle.std.proofs.Common.{◌≡◌, take, drop}
use Rattle.sheet.specs.Sheet.{words_of}
use Rattle.sheet.proofs.words.fill.Given as goal

abbrev pub invariant-loop-i : goal.invariant-loop-i
invariant-loop-i l = take l.i l.place-items ≡ words_of l.i (drop l.at l.s)
