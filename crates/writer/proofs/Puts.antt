-- Bytes put one after the other, and what one more byte or float adds to a spelling.
use mathlib.Core.Path.{◌≡◌, refl, sym, ap, ◌∙◌}
use mathlib.Core.List.{List, [], ◌∷◌, ◌++◌, append_assoc, append-nil}
use Prim.Native.Nat.{ℕ, suc, ◌+◌, ◌*◌, ◌≤◌, ◌<◌}
use native.Mathlib.Omega.{arith}
use native.Mathlib.Numerals.{add-one}
use lib.ListN.{length, get_or, take, drop, set, length-append, length-drop, take-append-drop}
use lib.Seq.{length-take-le, take-suc, drop-cons, drop-drop, set_at, take_at, drop_at}
use borrow.Rule.Slice.PartMut.{put_mid}
use native.Mathlib.Nat.{div-div-eq-div-mul}
use Rattle.std.specs.Int.{w64, to_le_bytes}
use Rattle.sheet.proofs.Pieces.{bytes_length, spelled_length}
use Rattle.sheet.specs.Spelling.{spell_bytes, spell_words}
use Rattle.writer.specs.Writer.{put}

pub put_length : (room : List ℕ) (at : ℕ) (b : List ℕ) → at + length b ≤ length room → length (put room at b) ≡ length room
put_length room at b h = simp (length-append, length-take-le at room (omega arith), length-drop) (omega arith)

pub put_nothing : (room : List ℕ) (at : ℕ) → put room at [] ≡ room
put_nothing room at = let e : at + 0 ≡ at = omega arith in rw e (take-append-drop at room)

-- bytes after bytes
pub put_more : (room : List ℕ) (at : ℕ) (b c : List ℕ) → at + length b ≤ length room → put (put room at b) (at + length b) c ≡ put room at (b ++ c)
put_more room at b c h =
    let front : length (take at room ++ b) ≡ at + length b = simp (length-append, length-take-le at room (omega arith)) in
    let is : put room at b ≡ (take at room ++ b) ++ drop (at + length b) room = sym (append_assoc (take at room) b (drop (at + length b) room)) in
    let t : take (at + length b) (put room at b) ≡ take at room ++ b = ap (take (at + length b)) is ∙ take_at (take at room ++ b) _ (at + length b) front in
    let n : at + length b + length c ≡ at + length (b ++ c) = simp length-append (omega arith) in
    let d : drop (at + length b + length c) (put room at b) ≡ drop (at + length (b ++ c)) room =
    sym (drop-drop (length c) (at + length b) (put room at b)) ∙ ap (drop (length c)) (ap (drop (at + length b)) is ∙ drop_at (take at room ++ b) _ (at + length b) front)
    ∙ drop-drop (length c) (at + length b) room ∙ ap (λ (k : ℕ). drop k room) n in
    rw (t, d, append_assoc, append_assoc)

-- one byte after bytes
pub put_byte : (room : List ℕ) (at : ℕ) (b : List ℕ) (x : ℕ) → at + length b < length room → set (put room at b) (at + length b) x ≡ put room at (b ++ (x ∷ []))
put_byte room at b x h =
    let front : length (take at room ++ b) ≡ at + length b = simp (length-append, length-take-le at room (omega arith)) in
    let is : put room at b ≡ (take at room ++ b) ++ (get_or room (at + length b) 0 ∷ drop (suc (at + length b)) room) =
    sym (append_assoc (take at room) b (drop (at + length b) room)) ∙ ap (λ (l : List ℕ). (take at room ++ b) ++ l) (drop-cons room (at + length b) 0 h) in
    let n : at + length (b ++ (x ∷ [])) ≡ suc (at + length b) = simp length-append (omega arith) in
    ap (λ (l : List ℕ). set l (at + length b) x) is
    ∙ set_at (take at room ++ b) (get_or room (at + length b) 0) (drop (suc (at + length b)) room) x (at + length b) front
    ∙ rw (n, append_assoc, append_assoc)

-- ---- a float's bytes
-- the library's are these
eight_bytes : (w : ℕ) → to_le_bytes w64 w ≡ spell_bytes 8 w
unfolding spell_bytes
eight_bytes w = simp div-div-eq-div-mul

-- and stand where they are copied to
pub put_word : (room : List ℕ) (at k w : ℕ) (bytes : List ℕ) → k ≡ 8 → bytes ≡ to_le_bytes w64 w → put_mid at k room bytes ≡ put room at (spell_bytes 8 w)
put_word room at k w bytes n e = rw (n, e ∙ eight_bytes w, bytes_length 8 w, drop-drop 8 at room)

-- ---- a list's floats
pub words_append : (a b : List ℕ) → spell_words (a ++ b) ≡ spell_words a ++ spell_words b
unfolding spell_words
words_append [] b = refl
words_append (x ∷ a) b = ap (λ (l : List ℕ). spell_bytes 8 x ++ l) (words_append a b) ∙ sym (append_assoc (spell_bytes 8 x) (spell_words a) (spell_words b))

one_word : (w : ℕ) → spell_words (w ∷ []) ≡ spell_bytes 8 w
unfolding spell_words
one_word w = append-nil (spell_bytes 8 w)

pub words_next : (words : List ℕ) (i : ℕ) → i < length words → spell_words (take (suc i) words) ≡ spell_words (take i words) ++ spell_bytes 8 (get_or words i 0)
words_next words i h = ap spell_words (take-suc words i 0 h) ∙ words_append (take i words) (get_or words i 0 ∷ []) ∙ ap (λ (l : List ℕ). spell_words (take i words) ++ l) (one_word (get_or words i 0))

-- one float more
pub put_next : (room₀ : List ℕ) (at : ℕ) (words room : List ℕ) (i w : ℕ) → at + length words * 8 ≤ length room₀ → i < length words → w ≡ get_or words i 0
    → room ≡ put room₀ at (spell_words (take i words)) → put room (at + i * 8) (spell_bytes 8 w) ≡ put room₀ at (spell_words (take (i + 1) words))
put_next room₀ at words room i w h k f e =
    let n : length (spell_words (take i words)) ≡ i * 8 = spelled_length (take i words) ∙ ap (λ (n : ℕ). n * 8) (length-take-le i words (omega arith)) in
    rw (e, f, add-one i, words_next words i k, ← n) (put_more room₀ at (spell_words (take i words)) (spell_bytes 8 (get_or words i 0)) (rw n (omega arith)))

-- one byte at a place, and two
pub put_one : (room : List ℕ) (at x : ℕ) → at < length room → set room at x ≡ put room at (x ∷ [])
put_one room at x h =
    let z : at + 0 ≡ at = omega arith in
    ap (λ (l : List ℕ). set l at x) (sym (put_nothing room at)) ∙ ap (λ (k : ℕ). set (put room at []) k x) (sym z) ∙ put_byte room at [] x (omega arith)

pub put_two : (room : List ℕ) (at x y : ℕ) → at + 1 < length room → set (set room at x) (at + 1) y ≡ put room at (x ∷ y ∷ [])
put_two room at x y h = ap (λ (l : List ℕ). set l (at + 1) y) (put_one room at x (omega arith)) ∙ put_byte room at (x ∷ []) y (omega arith)
