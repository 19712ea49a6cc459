-- `reader::records` meets its contract: the loop's invariant: the first i records stand, behind them what the room held, and the next is read where they end.
use mathlib.Core.Path.{◌≡◌}
use mathlib.Core.List.{◌++◌}
use Prim.Native.Nat.{◌+◌, ◌*◌}
use lib.ListN.{drop}
use Rattle.record.specs.Layout.{floats}
use Rattle.sheet.specs.Records.{sheet_floats, list_words}
use Rattle.sheet.specs.Sheet.{words_of}
use Rattle.reader.proofs.records.Given as goal

abbrev pub invariant-loop-i : goal.invariant-loop-i
invariant-loop-i l =
    (l.next ≡ l.at + l.i * (sheet_floats l.model * 8)) × (l.room ≡ list_words l.model l.i (words_of (l.count * sheet_floats l.model) (drop l.at l.s)) ++ drop (l.i * floats) l.initial.room)
