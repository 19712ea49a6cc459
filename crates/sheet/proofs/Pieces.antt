-- A number, a float and the parameters, read from the bytes that spell them and spelled by the bytes read.
use mathlib.Core.Path.{◌≡◌, refl, sym, ap, ◌∙◌}
use mathlib.Core.Bool.{Bool, true, false, cond}
use mathlib.Core.List.{List, [], ◌∷◌, ◌++◌, append_assoc}
use Prim.Native.Nat.{ℕ, zero, suc, ◌+◌, ◌*◌, ◌-◌, ◌/◌, ◌%◌, ◌^◌, ◌≤◌, ◌<◌}
use native.Mathlib.Omega.{arith}
use native.Mathlib.Nat.{pow-succ'}
use lib.ListN.{length, take, drop, length-append, length-take, length-drop}
use lib.Seq.{drop-drop, take_at, drop_at}
use lib.ListN.{take-append-drop}
use lib.Dec.{ltb, leb, eqb}
use borrow.Author.Tests.{ltb-true, ltb-false, eqb-false, lt-ltb, le-ltb, lt-leb, ne_eqb}
use Rattle.model.specs.Kinds.{allowed}
use Rattle.sheet.specs.Sheet.{number_at, first_group, second_group, word_of, word_at, words_of, checked, parameter_at, Fields, Got, Stopped, before, and_then, parameters_at}
use Rattle.sheet.specs.Spelling.{spell_number, spell_bytes, spell_words, Below, Fits}
use Rattle.sheet.proofs.ReadFrom.{either}
use Rattle.sheet.specs.declared.Number.TheVariants.{Read as Number_as_Read, Refused as Number_as_Refused}
use Rattle.sheet.specs.declared.Word.{Word}
use Rattle.sheet.specs.declared.Word.TheVariants.{Read as Word_as_Read, Refused as Word_as_Refused}

clash : {R : Type 0} (n v next : ℕ) → Number_as_Refused n ≡ Number_as_Read v next → R
clash n v next e = let z : ◌≡◌ {A = ℕ} 0 1 = cc in absurd (omega arith)

-- bounds of parts
pub below_drop : (b n : ℕ) (l : List ℕ) → Below b l → Below b (drop n l)
below_drop b zero l h = h
below_drop b (suc n) [] h = tt
below_drop b (suc n) (x ∷ l) h = below_drop b n l h.1

pub below_take : (b n : ℕ) (l : List ℕ) → Below b l → Below b (take n l)
below_take b zero l h = tt
below_take b (suc n) [] h = tt
below_take b (suc n) (x ∷ l) h = (h.0, below_take b n l h.1)

pub below_append : (b : ℕ) (p l : List ℕ) → Below b p → Below b l → Below b (p ++ l)
below_append b [] l h k = k
below_append b (x ∷ p) l h k = (h.0, below_append b p l h.1 k)

-- what follows a piece that stands at a place
pub after : (s : List ℕ) (at : ℕ) (p q : List ℕ) (k : ℕ) → drop at s ≡ p ++ q → length p ≡ k → drop (at + k) s ≡ q
after s at p q k e n = sym (drop-drop k at s) ∙ ap (drop k) e ∙ drop_at p q k n

-- NUMBERS
pub one_spelled : (n : ℕ) → n < 128 → n ∷ [] ≡ spell_number n
unfolding spell_number
one_spelled n h = rw (lt-ltb n 128 h)

pub two_spelled : (low high : ℕ) → 128 ≤ low → low < 256 → (high ≡ 0 → ⊥) → low ∷ high ∷ [] ≡ spell_number (low - 128 + high * 128)
unfolding spell_number
two_spelled low high l h z =
    let n = low - 128 + high * 128 in
    let p : 128 ≤ low - 128 + high * 128 = positive high z in
    let a : low ≡ (low - 128 + high * 128) % 128 + 128 = omega arith in
    let b : high ≡ (low - 128 + high * 128) / 128 = omega arith in
    rw (le-ltb (low - 128 + high * 128) 128 p) (ap (λ (x : ℕ). x ∷ high ∷ []) a ∙ ap (λ (y : ℕ). ((low - 128 + high * 128) % 128 + 128) ∷ y ∷ []) b)
  where
    positive : (k : ℕ) → (k ≡ 0 → ⊥) → 128 ≤ low - 128 + k * 128
    positive zero z = absurd (z refl)
    positive (suc k) z = omega arith

second_spelled : (s : List ℕ) (at low : ℕ) (l : List ℕ) (v next : ℕ) → drop at s ≡ low ∷ l → 128 ≤ low → low < 256 → second_group low l at ≡ Number_as_Read v next → drop at s ≡ spell_number v ++ drop next s
second_spelled s at low [] v next d k b e = clash 4 v next e
second_spelled s at low (high ∷ rest) v next d k b e =
    either (leb 128 high) _ _ _ e (λ t p. clash 5 v next p) (λ t p.
    either (eqb high 0) _ _ _ p (λ u q. clash 5 v next q) (λ u q.
    let v_is : low - 128 + high * 128 ≡ v = cc in
    let next_is : at + 2 ≡ next = cc in
    let r : drop (at + 2) s ≡ rest = after s at (low ∷ high ∷ []) rest 2 d refl in
    rw (← v_is, ← next_is, r, ← two_spelled low high k b (eqb-false high 0 u)) d))

first_spelled : (s : List ℕ) (at : ℕ) (l : List ℕ) (v next : ℕ) → drop at s ≡ l → Below 256 l → first_group l at ≡ Number_as_Read v next → drop at s ≡ spell_number v ++ drop next s
first_spelled s at [] v next d b e = clash 4 v next e
first_spelled s at (low ∷ rest) v next d b e =
    either (ltb low 128) _ _ _ e
    (λ t p.
    let v_is : low ≡ v = cc in
    let next_is : at + 1 ≡ next = cc in
    let r : drop (at + 1) s ≡ rest = after s at (low ∷ []) rest 1 d refl in
    rw (← v_is, ← next_is, r, ← one_spelled low (ltb-true low 128 t)) d)
    (λ t p. second_spelled s at low rest v next d (ltb-false low 128 t) b.0 p)

pub number_spelled : (s : List ℕ) (at v next : ℕ) → Below 256 s → number_at s at ≡ Number_as_Read v next → drop at s ≡ spell_number v ++ drop next s
unfolding number_at
number_spelled s at v next b e = first_spelled s at (drop at s) v next refl (below_drop 256 at s b) e

pub number_read : (s : List ℕ) (at n : ℕ) (rest : List ℕ) → n < 16384 → drop at s ≡ spell_number n ++ rest → number_at s at ≡ Number_as_Read n (at + length (spell_number n))
unfolding number_at spell_number
number_read s at n rest h d = rw d (by_size (ltb n 128) refl)
  where
    by_size : (b : Bool) → ltb n 128 ≡ b → first_group (cond b (n ∷ []) ((n % 128 + 128) ∷ n / 128 ∷ []) ++ rest) at ≡ Number_as_Read n (at + length (cond b (n ∷ []) ((n % 128 + 128) ∷ n / 128 ∷ [])))
    by_size true t = rw t
    by_size false t =
        let k = ltb-false n 128 t in
        let a : 128 ≤ n % 128 + 128 = omega arith in
        let c : n / 128 < 128 = omega arith in
        let z : n / 128 ≡ 0 → ⊥ = λ q. omega (arith, q) in
        let v : n % 128 + 128 - 128 + n / 128 * 128 ≡ n = omega arith in
        rw (le-ltb (n % 128 + 128) 128 a, lt-leb 128 (n / 128) c, ne_eqb (n / 128) 0 z, v)

-- FLOATS
pub bytes_length : (k w : ℕ) → length (spell_bytes k w) ≡ k
unfolding spell_bytes
bytes_length zero w = refl
bytes_length (suc k) w = ap suc (bytes_length k (w / 256))

-- the bytes of the number that bytes spell are these
bytes_of_word : (l : List ℕ) → Below 256 l → spell_bytes (length l) (word_of l) ≡ l
unfolding spell_bytes word_of
bytes_of_word [] b = refl
bytes_of_word (x ∷ l) b =
    let h = b.0 in
    let q : (x + 256 * word_of l) % 256 ≡ x = omega arith in
    let r : (x + 256 * word_of l) / 256 ≡ word_of l = omega arith in
    rw (q, r, bytes_of_word l b.1)

word_of_bytes : (k w : ℕ) → w < 256 ^ k → word_of (spell_bytes k w) ≡ w
unfolding spell_bytes word_of
word_of_bytes zero w h = omega arith
word_of_bytes (suc k) w h =
    let p = pow-succ' 256 k in
    let e = word_of_bytes k (w / 256) (omega arith) in
    omega (arith, e)

word_below_lem : (l : List ℕ) → Below 256 l → word_of l < 256 ^ length l
unfolding word_of
word_below_lem [] b = omega arith
word_below_lem (x ∷ l) b =
    let h = b.0 in
    let i = word_below_lem l b.1 in
    let p = pow-succ' 256 (length l) in
    omega arith

-- the bytes of a list that has a word in front
pub front_bytes : (l : List ℕ) → Below 256 l → 8 ≤ length l → l ≡ spell_bytes 8 (word_of (take 8 l)) ++ drop 8 l
front_bytes l b h =
    let n : length (take 8 l) ≡ 8 = simp length-take (omega arith) in
    let e : spell_bytes 8 (word_of (take 8 l)) ≡ take 8 l = ap (λ (k : ℕ). spell_bytes k (word_of (take 8 l))) (sym n) ∙ bytes_of_word (take 8 l) (below_take 256 8 l b) in
    rw e (sym (take-append-drop 8 l))

pub front_below : (l : List ℕ) → Below 256 l → 8 ≤ length l → word_of (take 8 l) < 2 ^ 64
front_below l b h =
    let n : length (take 8 l) ≡ 8 = simp length-take (omega arith) in
    rw n at (word_below_lem (take 8 l) (below_take 256 8 l b))

word_spelled : (s : List ℕ) (at w next : ℕ) → Below 256 s → word_at s at ≡ Word_as_Read w next → (drop at s ≡ spell_bytes 8 w ++ drop next s) × (w < 2 ^ 64)
unfolding word_at
word_spelled s at w next b e =
    either (ltb (length (drop at s)) 8) _ _ _ e
    (λ t p. let z : ◌≡◌ {A = ℕ} 0 1 = cc in absurd (omega arith))
    (λ t p.
    let h = ltb-false (length (drop at s)) 8 t in
    let w_is : word_of (take 8 (drop at s)) ≡ w = cc in
    let next_is : at + 8 ≡ next = cc in
    let d = below_drop 256 at s b in
    (rw (← w_is, ← next_is, ← drop-drop 8 at s) (front_bytes (drop at s) d h), rw (← w_is) (front_below (drop at s) d h)))

pub word_front : (w : ℕ) (rest : List ℕ) → w < 2 ^ 64 → word_of (take 8 (spell_bytes 8 w ++ rest)) ≡ w
word_front w rest h = rw (take_at (spell_bytes 8 w) rest 8 (bytes_length 8 w)) (word_of_bytes 8 w h)

pub word_read : (s : List ℕ) (at w : ℕ) (rest : List ℕ) → w < 2 ^ 64 → drop at s ≡ spell_bytes 8 w ++ rest → word_at s at ≡ Word_as_Read w (at + 8)
unfolding word_at
word_read s at w rest h d =
    let n : 8 ≤ length (spell_bytes 8 w ++ rest) = omega (arith, length-append (spell_bytes 8 w) rest, bytes_length 8 w) in
    rw (d, le-ltb (length (spell_bytes 8 w ++ rest)) 8 n, word_front w rest h)

-- PARAMETERS
pub record Stand (s : List ℕ) (at : ℕ) (flags : List Bool) (ws : List ℕ) (next : ℕ) : Type 0 where
  pub spelled : drop at s ≡ spell_words ws ++ drop next s
  pub fits : Fits flags ws

module _ (s : List ℕ) (b : Below 256 s) where
  parameter_spelled : (flag : Bool) (at w next : ℕ) (x : Word) → word_at s at ≡ x → checked flag x ≡ Word_as_Read w next → (drop at s ≡ spell_bytes 8 w ++ drop next s) × (w < 2 ^ 64) × (allowed flag w ≡ true)
  parameter_spelled flag at w next (Word_as_Refused n) e p = let z : ◌≡◌ {A = ℕ} 0 1 = cc in absurd (omega arith)
  parameter_spelled flag at w next (Word_as_Read v to) e p =
      either (allowed flag v) _ _ _ p
      (λ t q.
      let v_is : v ≡ w = cc in
      let k = word_spelled s at w next b (e ∙ q) in
      (k.0, k.1, rw v_is at t))
      (λ t q. let z : ◌≡◌ {A = ℕ} 0 1 = cc in absurd (omega arith))

  module _ (flag : Bool) (flags : List Bool) (ih : (at : ℕ) (ws : List ℕ) (next : ℕ) → parameters_at flags s at ≡ Got ws next → Stand s at flags ws next) (at : ℕ) where
    rest_spelled : (w to : ℕ) (ws : List ℕ) (next : ℕ) (f : Fields) → checked flag (word_at s at) ≡ Word_as_Read w to → parameters_at flags s to ≡ f → before w f ≡ Got ws next → Stand s at (flag ∷ flags) ws next
    unfolding spell_words
    rest_spelled w to ws next (Stopped n) e g p = let z : ◌≡◌ {A = ℕ} 0 1 = cc in absurd (omega arith)
    rest_spelled w to ws next (Got vs end) e g p =
        let ws_is : w ∷ vs ≡ ws = cc in
        let next_is : end ≡ next = cc in
        let k = parameter_spelled flag at w to (word_at s at) refl e in
        let r = ih to vs next (g ∙ ap (Got vs) next_is) in
        rw (← ws_is) (record {
          spelled = k.0 ∙ ap (λ (l : List ℕ). spell_bytes 8 w ++ l) r.spelled ∙ sym (append_assoc (spell_bytes 8 w) (spell_words vs) (drop next s));
          fits = (k.1, k.2, r.fits);
        })

    more_spelled : (ws : List ℕ) (next : ℕ) (x : Word) → checked flag (word_at s at) ≡ x → and_then x (λ to. parameters_at flags s to) ≡ Got ws next → Stand s at (flag ∷ flags) ws next
    more_spelled ws next (Word_as_Refused n) e p = let z : ◌≡◌ {A = ℕ} 0 1 = cc in absurd (omega arith)
    more_spelled ws next (Word_as_Read w to) e p = rest_spelled w to ws next (parameters_at flags s to) e refl p

  pub parameters_spelled : (flags : List Bool) (at : ℕ) (ws : List ℕ) (next : ℕ) → parameters_at flags s at ≡ Got ws next → Stand s at flags ws next
  unfolding parameters_at parameter_at spell_words
  parameters_spelled [] at ws next e =
      let ws_is : [] ≡ ws = cc in
      let next_is : at ≡ next = cc in
      rw (← ws_is, ← next_is) (record { spelled = refl; fits = tt })
  parameters_spelled (flag ∷ flags) at ws next e =
      more_spelled flag flags (parameters_spelled flags) at ws next (checked flag (word_at s at)) refl e

pub parameters_read : (s : List ℕ) (flags : List Bool) (at : ℕ) (ws rest : List ℕ) → Fits flags ws → drop at s ≡ spell_words ws ++ rest → parameters_at flags s at ≡ Got ws (at + length (spell_words ws))
unfolding parameters_at parameter_at spell_words
parameters_read s [] at [] rest h d = let e : at + 0 ≡ at = omega arith in rw e
parameters_read s [] at (w ∷ ws) rest h d = absurd h
parameters_read s (flag ∷ flags) at [] rest h d = absurd h
parameters_read s (flag ∷ flags) at (w ∷ ws) rest h d =
    let f = d ∙ append_assoc (spell_bytes 8 w) (spell_words ws) rest in
    let r = word_read s at w (spell_words ws ++ rest) h.0 f in
    let g = after s at (spell_bytes 8 w) (spell_words ws ++ rest) 8 f (bytes_length 8 w) in
    let i = parameters_read s flags (at + 8) ws rest h.2 g in
    let n : at + 8 + length (spell_words ws) ≡ at + length (spell_bytes 8 w ++ spell_words ws) = omega (arith, length-append (spell_bytes 8 w) (spell_words ws), bytes_length 8 w) in
    rw (r, h.1, i, n)

pub fits_length : (flags : List Bool) (ws : List ℕ) → Fits flags ws → length ws ≡ length flags
fits_length [] [] h = refl
fits_length [] (w ∷ ws) h = absurd h
fits_length (flag ∷ flags) [] h = absurd h
fits_length (flag ∷ flags) (w ∷ ws) h = ap suc (fits_length flags ws h.2)

-- RECORDS
pub spelled_length : (ws : List ℕ) → length (spell_words ws) ≡ length ws * 8
unfolding spell_words
spelled_length [] = refl
spelled_length (w ∷ ws) = omega (arith, length-append (spell_bytes 8 w) (spell_words ws), bytes_length 8 w, spelled_length ws)

pub words_spelled : (n : ℕ) (l : List ℕ) → Below 256 l → length l ≡ n * 8 → spell_words (words_of n l) ≡ l
unfolding spell_words words_of
words_spelled zero [] b h = refl
words_spelled zero (x ∷ l) b h = absurd (omega arith)
words_spelled (suc n) l b h =
    let i = words_spelled n (drop 8 l) (below_drop 256 8 l b) (omega (arith, length-drop 8 l)) in
    rw i (sym (front_bytes l b (omega arith)))

pub words_below : (n : ℕ) (l : List ℕ) → Below 256 l → length l ≡ n * 8 → Below (2 ^ 64) (words_of n l)
unfolding words_of
words_below zero l b h = tt
words_below (suc n) l b h =
    (front_below l b (omega arith), words_below n (drop 8 l) (below_drop 256 8 l b) (omega (arith, length-drop 8 l)))

pub words_read : (ws : List ℕ) → Below (2 ^ 64) ws → words_of (length ws) (spell_words ws) ≡ ws
unfolding spell_words words_of
words_read [] b = refl
words_read (w ∷ ws) b =
    rw (word_front w (spell_words ws) b.0, drop_at (spell_bytes 8 w) (spell_words ws) 8 (bytes_length 8 w), words_read ws b.1)
