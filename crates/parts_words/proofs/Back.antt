-- A state written into its words and read from them again is the state. Assumes nothing.
use mathlib.Core.Path.{◌≡◌, refl, sym, ap, ◌∙◌}
use mathlib.Core.List.{List, [], ◌∷◌, ◌++◌}
use Prim.Native.Nat.{ℕ, ◌+◌, ◌%◌, ◌<◌}
use native.Mathlib.Omega.{arith}
use lib.ListN.{length, take, drop, length-append}
use lib.Seq.{take_at, drop_at}
use Rattle.record.specs.Layout.{floats}
use Rattle.model.specs.Kinds.{places}
use Rattle.sheet.specs.Sheet.{words_of}
use Rattle.sheet.specs.Spelling.{spell_words}
use Rattle.sheet.proofs.Pieces.{words_spelled}
use Rattle.sheet.proofs.Steps.{words_length}
use Rattle.parts.specs.declared.Arrival.{Arrival}
use Rattle.parts_words.specs.Words.{state_length, numbers_of, state_words, arrival_at, Typed}

-- a byte's number is not cut
small : (n : ℕ) → n < 256 → n % 256 ≡ n
small n h = omega arith

module _ (a : Arrival) (t : Typed a) where
  abbrev ws : List ℕ
  ws = words_of floats a.held

  pub words_back : arrival_at (state_words a) ≡ a
  unfolding arrival_at state_words
  words_back =
      let p : take 8 (a.header.parameters ++ ws) ≡ a.header.parameters = take_at a.header.parameters ws 8 t.parameters in
      let q : drop 8 (a.header.parameters ++ ws) ≡ ws = drop_at a.header.parameters ws 8 t.parameters in
      let h : spell_words ws ≡ a.held = words_spelled floats a.held t.bytes t.held in
      rw (p, q, h, small a.refusal t.refusal, small a.header.refusal t.stopped)

  pub words_many : length (state_words a) ≡ state_length
  unfolding state_words
  words_many = let n = words_length floats a.held in let p = t.parameters in rw (length-append a.header.parameters ws, n, p)
