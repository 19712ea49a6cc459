-- `writer::bytes::write_number` meets its contract: one group below 128, else two.
use mathlib.Core.Path.{refl}
use Prim.Native.Nat.{◌+◌, ◌/◌, ◌%◌}
use native.Mathlib.Omega.{arith}
use lib.ListN.{length-set}
use borrow.Author.Tests.{lt-ltb, le-ltb}
use Rattle.sheet.specs.Spelling.{spell_number}
use Rattle.writer.proofs.Puts.{put_one, put_two}
use Rattle.writer.proofs.bytes.write_number.Goals as goal

pub bounds-room-at : goal.bounds-room-at
unfolding spell_number
bounds-room-at c = let q = rw (lt-ltb _ 128 c.if-n-lt128.true) at c.requires.0 in omega arith

pub returns-then-n-lt128 : goal.returns-then-n-lt128
unfolding spell_number
returns-then-n-lt128 c =
    let a = c.args in
    let q = rw (lt-ltb a.n 128 c.if-n-lt128.true) at c.requires.0 in
    rw (lt-ltb a.n 128 c.if-n-lt128.true) (refl, put_one a.room.now a.at a.n (omega arith))

pub bounds-room-at-2 : goal.bounds-room-at-2
unfolding spell_number
bounds-room-at-2 c = let q = rw (le-ltb _ 128 c.if-n-lt128.false) at c.requires.0 in omega arith

pub bounds-room-at-3 : goal.bounds-room-at-3
unfolding spell_number
bounds-room-at-3 c = let q = rw (le-ltb _ 128 c.if-n-lt128.false) at c.requires.0 in simp length-set (omega arith)

pub returns : goal.returns
unfolding spell_number
returns c =
    let a = c.args in
    let q = rw (le-ltb a.n 128 c.if-n-lt128.false) at c.requires.0 in
    rw (le-ltb a.n 128 c.if-n-lt128.false) (refl, put_two a.room.now a.at (a.n % 128 + 128) (a.n / 128) (omega arith))
