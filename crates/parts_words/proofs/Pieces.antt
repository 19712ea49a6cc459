-- The words of a state in their places, and the bytes held in theirs. Assumes nothing.
use mathlib.Core.Path.{◌≡◌, refl, sym, ap, ◌∙◌}
use mathlib.Core.List.{List, [], ◌++◌, append_assoc, append-nil}
use Prim.Native.Nat.{ℕ, ◌+◌, ◌-◌, ◌≤◌}
use native.Mathlib.Omega.{arith}
use lib.ListN.{length, take, drop, replicate, length-append, length-take, length-drop, length-replicate, drop_of_length-le}
use lib.Seq.{take_at, drop_at, take_all}
use Rattle.record.specs.Layout.{floats}
use Rattle.sheet.specs.Records.{sheet_floats, completed}
use Rattle.sheet.specs.Sheet.{words_of, record_at, room_at}
use Rattle.sheet.specs.Spelling.{spell_words}
use Rattle.sheet.proofs.Pieces.{spelled_length}
use Rattle.writer.specs.Writer.{put}
use Rattle.parts.specs.Parts.{room}
use Rattle.parts_words.specs.Words.{state_length}

-- ---- the bytes held: read as a record of the longest kind, and spelled
pub held_words : (held words : List ℕ) → length held ≡ room → length words ≡ floats → room_at 7 held 0 words ≡ words_of floats held
unfolding room_at record_at completed sheet_floats
held_words held words e f = rw (f, e)

pub spelled_held : (words : List ℕ) → length words ≡ state_length → put (replicate room 0) 0 (spell_words (take (length words - 15) (drop 15 words))) ≡ spell_words (drop 15 words)
spelled_held words e =
    let d : length (drop 15 words) ≡ 37 = length-drop 15 words ∙ omega (arith, e) in
    let t : take (length words - 15) (drop 15 words) ≡ drop 15 words = take_all (length words - 15) (drop 15 words) (omega arith) in
    let n = spelled_length (drop 15 words) in
    let r = length-replicate {A = ℕ} room 0 in
    let z : drop {A = ℕ} (0 + length (spell_words (drop 15 words))) (replicate {A = ℕ} room 0) ≡ [] = drop_of_length-le (replicate {A = ℕ} room 0) {i = 0 + length (spell_words (drop 15 words))} (omega arith) in
    rw (t, z) (append-nil (spell_words (drop 15 words)))

-- ---- the three pieces
pub front_length : (xs : List ℕ) → length xs ≡ state_length → length (take 7 xs) ≡ 7
front_length xs e = length-take 7 xs ∙ rw e

pub middle_length : (xs n : List ℕ) → length xs ≡ state_length → length n ≡ 7 → length (take 8 (drop 7 (n ++ drop 7 xs))) ≡ 8
middle_length xs n e f = rw (drop_at n (drop 7 xs) 7 f) (length-take 8 (drop 7 xs) ∙ rw (length-drop 7 xs, e))

pub three : (xs n p ws : List ℕ) → length xs ≡ state_length → length n ≡ 7 → length p ≡ 8 → length ws ≡ floats →
    let y = n ++ drop 7 xs in
    let z = take 7 y ++ (p ++ drop 8 (drop 7 y)) in
    take 15 z ++ (ws ++ drop (length z - 15) (drop 15 z)) ≡ n ++ (p ++ ws)
three xs n p ws e f g h =
    let r = drop 8 (drop 7 xs) in
    let z : take 7 (n ++ drop 7 xs) ++ (p ++ drop 8 (drop 7 (n ++ drop 7 xs))) ≡ (n ++ p) ++ r =
    rw (take_at n (drop 7 xs) 7 f, drop_at n (drop 7 xs) 7 f) (sym (append_assoc n p r)) in
    let m : length (n ++ p) ≡ 15 = length-append n p ∙ omega (arith, f, g) in
    let k : length r ≤ length ((n ++ p) ++ r) - 15 = omega (arith, length-append (n ++ p) r, m) in
    let o : drop (length ((n ++ p) ++ r) - 15) r ≡ [] = drop_of_length-le r {i = length ((n ++ p) ++ r) - 15} k in
    rw (z, take_at (n ++ p) r 15 m, drop_at (n ++ p) r 15 m, o, append-nil ws) (append_assoc n p ws)
