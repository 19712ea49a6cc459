-- `number_at` and `word_at` case by case, each from the tests that lead to it.
use mathlib.Core.Path.{◌≡◌, refl}
use mathlib.Core.Bool.{cond}
use mathlib.Core.List.{List, [], ◌∷◌}
use Prim.Native.Nat.{ℕ, zero, suc, ◌+◌, ◌*◌, ◌-◌, ◌≤◌, ◌<◌}
use native.Mathlib.Omega.{arith}
use native.Mathlib.Numerals.{add-one}
use lib.ListN.{length, get_or, take, drop, length-drop, drop_of_length-le}
use lib.Seq.{drop-cons}
use lib.Dec.{eqb, ltb, leb}
use borrow.Author.Tests.{le-leb, lt-leb, lt-ltb, le-ltb, eq-eqb, ne_eqb}
use Rattle.std.specs.Int.{w64, from_le_bytes}
use Rattle.sheet.specs.Sheet.{number_at, second_group, word_of, word_at}
use Rattle.sheet.specs.declared.Number.TheVariants.{Read as Number_as_Read, Refused as Number_as_Refused}
use Rattle.sheet.specs.declared.Word.TheVariants.{Read as Word_as_Read, Refused as Word_as_Refused}

module _ (s : List ℕ) (at : ℕ) where
  pub ended : length s ≤ at → Number_as_Refused 4 ≡ number_at s at
  unfolding number_at
  ended h = rw (drop_of_length-le s h)

  module _ (low : ℕ) (h : at < length s) (e : low ≡ get_or s at 0) where
    first : number_at s at ≡ cond (ltb low 128) (Number_as_Read low (at + 1)) (second_group low (drop (at + 1) s) at)
    unfolding number_at
    first = rw (drop-cons s at 0 h, ← e, add-one at)

    pub one : low < 128 → Number_as_Read low (at + 1) ≡ number_at s at
    one l = rw (first, lt-ltb low 128 l)

    pub cut : 128 ≤ low → length s ≤ at + 1 → Number_as_Refused 4 ≡ number_at s at
    cut l k = rw (first, le-ltb low 128 l, drop_of_length-le s k)

    module _ (high : ℕ) (l : 128 ≤ low) (h₂ : at + 1 < length s) (e₂ : high ≡ get_or s (at + 1) 0) where
      second : number_at s at ≡ cond (leb 128 high) (Number_as_Refused 5) (cond (eqb high 0) (Number_as_Refused 5) (Number_as_Read (low - 128 + high * 128) (at + 2)))
      second = rw (first, le-ltb low 128 l, drop-cons s (at + 1) 0 h₂, ← e₂)

      pub long : 128 ≤ high → Number_as_Refused 5 ≡ number_at s at
      long t = rw (second, le-leb 128 high t)

      pub padding : high < 128 → high ≡ 0 → Number_as_Refused 5 ≡ number_at s at
      padding t z = rw (second, lt-leb 128 high t, eq-eqb high 0 z)

      pub two : high < 128 → (high ≡ 0 → ⊥) → Number_as_Read (low - 128 + high * 128) (at + 2) ≡ number_at s at
      two t z = rw (second, lt-leb 128 high t, ne_eqb high 0 z)

  pub late : length s < at → Word_as_Refused 4 ≡ word_at s at
  unfolding word_at
  late h = rw (length-drop, lt-ltb (length s - at) 8 (omega arith))

  pub short : length s - at < 8 → Word_as_Refused 4 ≡ word_at s at
  unfolding word_at
  short h = rw (length-drop, lt-ltb (length s - at) 8 h)

  pub whole : (w : ℕ) → 8 ≤ length s - at → w ≡ word_of (take 8 (drop at s)) → Word_as_Read w (at + 8) ≡ word_at s at
  unfolding word_at
  whole w h e = rw (length-drop, le-ltb (length s - at) 8 h, ← e)

-- byte i of a number, and those after it
byte : (l : List ℕ) (i : ℕ) → word_of (drop i l) ≡ get_or l i 0 + 256 * word_of (drop (suc i) l)
unfolding word_of
byte [] zero = refl
byte [] (suc i) = refl
byte (b ∷ l) zero = refl
byte (b ∷ l) (suc i) = byte l i

-- the library's number of eight bytes
pub eight_bytes : (l : List ℕ) (w : ℕ) → length l ≡ 8 → w ≡ from_le_bytes w64 l → w ≡ word_of l
unfolding word_of
eight_bytes l w n k =
    let m : length l ≤ 8 = omega arith in
    let e : word_of (drop 8 l) ≡ 0 = rw (drop_of_length-le l m) refl in
    omega (arith, byte l 0, byte l 1, byte l 2, byte l 3, byte l 4, byte l 5, byte l 6, byte l 7)

-- one place more of a sheet
more : (s : List ℕ) (at k n : ℕ) → at + k < length s → take (suc n) (drop (at + k) s) ≡ get_or s (at + k) 0 ∷ take n (drop (at + suc k) s)
more s at k n h =
    let e : at + suc k ≡ suc (at + k) = omega arith in
    rw (drop-cons s (at + k) 0 h, e) refl

-- and of eight places of a sheet, read one by one
pub eight_places : (s : List ℕ) (at w : ℕ) → at + 8 ≤ length s
    → w ≡ from_le_bytes w64 (get_or s at 0 ∷ get_or s (at + 1) 0 ∷ get_or s (at + 2) 0 ∷ get_or s (at + 3) 0 ∷ get_or s (at + 4) 0 ∷ get_or s (at + 5) 0 ∷ get_or s (at + 6) 0 ∷ get_or s (at + 7) 0 ∷ [])
    → w ≡ word_of (take 8 (drop at s))
eight_places s at w h q =
    let z : at + 0 ≡ at = omega arith in
    let e = rw z at (more s at 0 7 (omega arith)) in
    rw (e, more s at 1 6 (omega arith), more s at 2 5 (omega arith), more s at 3 4 (omega arith), more s at 4 3 (omega arith), more s at 5 2 (omega arith), more s at 6 1 (omega arith), more s at 7 0 (omega arith)) (eight_bytes _ w refl q)
