-- Words put after words: two calls put what one would.
use mathlib.Core.Path.{◌≡◌, refl, sym, ap, ◌∙◌}
use mathlib.Core.Bool.{Bool, true, false, cond}
use mathlib.Core.List.{List, [], ◌∷◌, ◌++◌}
use Prim.Native.Nat.{ℕ, suc, ◌+◌, ◌^◌, ◌≤◌, ◌<◌}
use native.Mathlib.Omega.{arith}
use lib.Dec.{ltb}
use lib.ListN.{length, set, length-set, take, drop}
use lib.Seq.{sets, length-sets, sets-eq, set_out, drop-cons}
use borrow.Author.Tests.{lt-ltb, le-ltb, ltb-false}
use Rattle.answer_text.specs.Text.{full, behind, Puts}

-- Of a text only its length tells the place behind words.
pub behind_length : (s t : List ℕ) (at : ℕ) (words : List ℕ) → length s ≡ length t → behind s at words ≡ behind t at words
behind_length s t at [] e = refl
behind_length s t at (w ∷ words) e =
    ap (λ (n : ℕ). cond (ltb at n) (behind s (suc at) words) full) e ∙ ap (λ (k : ℕ). cond (ltb at (length t)) k full) (behind_length s t (suc at) words e)

-- Behind a text's end nothing is written.
pub sets_out : (text : List ℕ) (at : ℕ) (words : List ℕ) → length text ≤ at → sets text at words ≡ text
sets_out text at [] h = refl
sets_out text at (w ∷ words) h = ap (λ (l : List ℕ). sets l (suc at) words) (set_out text at w h) ∙ sets_out text (suc at) words (omega arith)

-- A word there has no place behind it but `full`.
pub no_room : (text : List ℕ) (at : ℕ) (words : List ℕ) (i : ℕ) → i < length words → length text ≤ at → behind text at (drop i words) ≡ full
no_room text at words i more out = rw (drop-cons words i 0 more, le-ltb at (length text) out) refl

module _ (text : List ℕ) (b : List ℕ) (short : length text ≤ full) where
  behind_full : (words : List ℕ) → behind text full words ≡ full
  behind_full [] = refl
  behind_full (w ∷ words) = rw (le-ltb full (length text) short) refl

  behind_append : (a : List ℕ) (at : ℕ) → behind text (behind text at a) b ≡ behind text at (a ++ b)
  behind_append [] at = refl
  behind_append (w ∷ a) at = go (ltb at (length text)) (behind_append a (suc at))
    where
      go : (c : Bool) → behind text (behind text (suc at) a) b ≡ behind text (suc at) (a ++ b)
          → behind text (cond c (behind text (suc at) a) full) b ≡ cond c (behind text (suc at) (a ++ b)) full
      go true more = more
      go false more = behind_full b

-- words that don't fit leave no room
behind_out : (text : List ℕ) (at : ℕ) (words : List ℕ) → length text ≤ full → length text ≤ at → length text ≤ behind text at words
behind_out text at [] short h = h
behind_out text at (w ∷ words) short h = rw (le-ltb at (length text) h) short

sets_append : (text : List ℕ) (at : ℕ) (a b : List ℕ) → length text ≤ full → sets (sets text at a) (behind text at a) b ≡ sets text at (a ++ b)
sets_append text at [] b short = refl
sets_append text at (w ∷ a) b short =
    go (set text at w) (length-set text at w) (ltb at (length text)) refl ∙ sets_append (set text at w) (suc at) a b (rw (length-set text at w) short)
  where
    go : (next : List ℕ) → length next ≡ length text → (c : Bool) → ltb at (length text) ≡ c
        → sets (sets next (suc at) a) (cond c (behind text (suc at) a) full) b ≡ sets (sets next (suc at) a) (behind next (suc at) a) b
    go next l true e = ap (λ (k : ℕ). sets (sets next (suc at) a) k b) (behind_length text next (suc at) a (sym l))
    go next l false e =
        let out = ltb-false at (length text) e in
        let n : length (sets next (suc at) a) ≡ length next = length-sets next (suc at) a in
        sets_out (sets next (suc at) a) full b (rw (n, l) short)
        ∙ sym (sets_out (sets next (suc at) a) (behind next (suc at) a) b (rw n (behind_out next (suc at) a (rw l short) (rw l (omega arith)))))

pub puts_length : {words text then : List ℕ} {at r : ℕ} → Puts words text at r then → length then ≡ length text
puts_length {words} {text} {then} {at} {r} p = ap length p.text_is ∙ length-sets text at words

-- words, and words behind them
pub puts_more : {a b text next then : List ℕ} {at k r : ℕ} → length text < 2 ^ 64 → Puts a text at k next → Puts b next k r then → Puts (a ++ b) text at r then
puts_more {a} {b} {text} {next} {then} {at} {k} {r} small p q =
    let short : length text ≤ full = omega arith in
    record {
      place_is = q.place_is ∙ behind_length next text k b (puts_length p) ∙ ap (λ (j : ℕ). behind text j b) p.place_is ∙ behind_append text b short a at;
      text_is =
          q.text_is ∙ ap (λ (j : ℕ). sets next j b) p.place_is ∙ ap (λ (t : List ℕ). sets t (behind text at a) b) p.text_is ∙ sets_append text at a b short;
    }

-- Where the text has room for them the words stand there, all else is as it was, and the place is behind them.
pub fits : (words text : List ℕ) (at : ℕ) → at + length words ≤ length text
    → (behind text at words ≡ at + length words) × (sets text at words ≡ take at text ++ words ++ drop (at + length words) text)
fits words text at h = (place words at h, sets-eq words text at h)
  where
    place : (words : List ℕ) (at : ℕ) → at + length words ≤ length text → behind text at words ≡ at + length words
    place [] at h = omega arith
    place (w ∷ words) at h = rw (lt-ltb at (length text) (omega arith), place words (suc at) (omega arith)) (omega arith)

-- A place within a text that ends before `full` is behind all the words.
behind_within : (text : List ℕ) (at : ℕ) (words : List ℕ) → length text < full → behind text at words ≤ length text → behind text at words ≡ at + length words
behind_within text at [] short h = omega arith
behind_within text at (w ∷ words) short h = go (ltb at (length text)) (behind_within text (suc at) words short) h
  where
    go : (c : Bool) → (behind text (suc at) words ≤ length text → behind text (suc at) words ≡ suc at + length words)
        → cond c (behind text (suc at) words) full ≤ length text → cond c (behind text (suc at) words) full ≡ at + length (w ∷ words)
    go true more h = omega (arith, more h)
    go false more h = absurd (omega arith)

-- so that a text holds all that was put at its start, where the place behind it is in the text
pub puts_whole : {words text then : List ℕ} {r : ℕ} → length then < full → Puts words text 0 r then → r ≤ length then → r ≡ length words
puts_whole {words} {text} {then} {r} short p h =
    let e : length then ≡ length text = puts_length p in
    omega (arith, p.place_is, behind_within text 0 words (rw e at short) (rw (p.place_is, e) at h))
