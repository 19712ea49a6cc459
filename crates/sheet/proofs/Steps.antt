-- What one more float adds to the words read, and one more parameter to those read.
use mathlib.Core.Path.{◌≡◌, refl, sym, ap, ◌∙◌}
use mathlib.Core.Bool.{Bool, false}
use mathlib.Core.List.{List, [], ◌∷◌, ◌++◌, append_assoc, append-nil}
use Prim.Native.Nat.{ℕ, zero, suc, ◌+◌, ◌*◌, ◌<◌}
use native.Mathlib.Omega.{arith}
use native.Mathlib.Numerals.{add-one}
use lib.ListN.{length, get_or, take, drop, set, replicate}
use lib.Seq.{drop-cons, drop-drop, drop-length, take-length, take-suc-set}
use Rattle.std.proofs.lemmas.List.{drop-replicate}
use Rattle.sheet.specs.Sheet.{word_of, words_of, parameter_at, Fields, Got, Stopped, before, and_then, parameters_at, padded, as_parameters}
use Rattle.sheet.specs.declared.Word.{Word}
use Rattle.sheet.specs.declared.Word.TheVariants.{Read as Word_as_Read, Refused as Word_as_Refused}

pub words_length : (n : ℕ) (l : List ℕ) → length (words_of n l) ≡ n
unfolding words_of
words_length zero l = refl
words_length (suc n) l = ap suc (words_length n (drop 8 l))

pub words_suc : (n : ℕ) (l : List ℕ) → words_of (suc n) l ≡ words_of n l ++ (word_of (take 8 (drop (n * 8) l)) ∷ [])
unfolding words_of
words_suc zero l = refl
words_suc (suc n) l =
    let e : suc n * 8 ≡ 8 + n * 8 = omega arith in
    rw (e, ← drop-drop (n * 8) 8 l) (ap (λ (t : List ℕ). word_of (take 8 l) ∷ t) (words_suc n (drop 8 l)))

-- the next place of a list is written
pub words_more : (s : List ℕ) (at i w : ℕ) (xs : List ℕ) → i < length xs → take i xs ≡ words_of i (drop at s) → w ≡ word_of (take 8 (drop (at + i * 8) s))
    → take (i + 1) (set xs i w) ≡ words_of (i + 1) (drop at s)
words_more s at i w xs h e f = rw (add-one i, take-suc-set xs i w h, e, words_suc i (drop at s), drop-drop (i * 8) at s, ← f)

-- the parameters read before those of a reading
abbrev pub prefixed : List ℕ → Fields → Fields
prefixed l (Got ws at) = Got (l ++ ws) at
prefixed l (Stopped n) = Stopped n

pub prefixed_nil : (f : Fields) → f ≡ prefixed [] f
prefixed_nil (Got ws at) = refl
prefixed_nil (Stopped n) = refl

prefixed_more : (l : List ℕ) (w : ℕ) (f : Fields) → prefixed l (before w f) ≡ prefixed (l ++ (w ∷ [])) f
prefixed_more l w (Got ws at) = rw append_assoc
prefixed_more l w (Stopped n) = refl

module _ (K : List Bool) (s : List ℕ) (next i : ℕ) (h : i < length K) where
  one_more : parameters_at (drop i K) s next ≡ and_then (parameter_at (get_or K i false) s next) (λ to. parameters_at (drop (i + 1) K) s to)
  unfolding parameters_at
  one_more = rw (drop-cons K i false h, add-one i)

  module _ (at : ℕ) (bits : List ℕ) (e : parameters_at K s at ≡ prefixed (take i bits) (parameters_at (drop i K) s next)) where
    pub parameter_read : (w to : ℕ) → i < length bits → Word_as_Read w to ≡ parameter_at (get_or K i false) s next → parameters_at K s at ≡ prefixed (take (i + 1) (set bits i w)) (parameters_at (drop (i + 1) K) s to)
    parameter_read w to b r =
        e ∙ ap (prefixed (take i bits)) (one_more ∙ ap (λ (x : Word). and_then x (λ to. parameters_at (drop (i + 1) K) s to)) (sym r))
        ∙ prefixed_more (take i bits) w (parameters_at (drop (i + 1) K) s to)
        ∙ ap (λ (l : List ℕ). prefixed l (parameters_at (drop (i + 1) K) s to)) (sym (take-suc-set bits i w b) ∙ ap (λ (k : ℕ). take k (set bits i w)) (sym (add-one i)))

    pub parameter_refused : (n : ℕ) → Word_as_Refused n ≡ parameter_at (get_or K i false) s next → record { refusal = n; bits = padded []; at = 0 } ≡ as_parameters (parameters_at K s at)
    parameter_refused n r =
        sym (ap as_parameters (e ∙ ap (prefixed (take i bits)) (one_more ∙ ap (λ (x : Word). and_then x (λ to. parameters_at (drop (i + 1) K) s to)) (sym r))))

-- all are read, and the places past the last are still 0
pub all_read : (K : List Bool) (s : List ℕ) (at next i n : ℕ) (bits : List ℕ) → n ≡ length K → i ≡ length K → length bits ≡ length K
    → parameters_at K s at ≡ prefixed (take i bits) (parameters_at (drop i K) s next) → record { refusal = 0; bits = bits ++ drop n (replicate 8 0); at = next } ≡ as_parameters (parameters_at K s at)
unfolding parameters_at
all_read K s at next i n bits m k l e = rw (e, m, k, drop-length K, ← l, take-length bits, append-nil bits, drop-replicate {X = ℕ} (length bits) 8 0)
