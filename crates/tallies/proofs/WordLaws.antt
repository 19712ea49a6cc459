-- Tallies as words, one more at a time. Assumes nothing.
use mathlib.Core.Path.{◌≡◌, refl, sym, ap, ◌∙◌}
use mathlib.Core.List.{List, [], ◌∷◌, ◌++◌, append_assoc}
use Prim.Native.Nat.{ℕ, zero, suc, ◌+◌, ◌*◌, ◌<◌}
use native.Mathlib.Omega.{arith}
use native.Mathlib.Numerals.{add-one}
use lib.ListN.{length, get_or, set, take, drop, length-append}
use lib.Seq.{take_at, drop_at, drop-drop, drop-cons, set_at}
use Rattle.tallies.specs.declared.tally.Tally.{Tally}
use Rattle.tallies.specs.Tallies.{none}
use Rattle.tallies.specs.Words.{fields, words_of, tally_at, tallies_in, words_in}

pub tallies_length : (ws : List ℕ) (n : ℕ) → length (tallies_in ws n) ≡ n
unfolding tallies_in
tallies_length ws zero = refl
tallies_length ws (suc n) = let ih = tallies_length ws n in simp length-append (omega arith)

-- one tally more is read into an array
pub tallies_step : (ws : List ℕ) (us rs : List Tally) (z : ℕ) (t : Tally) → z < length us → rs ≡ tallies_in ws z ++ drop z us → t ≡ tally_at ws z
    → set rs z t ≡ tallies_in ws (z + 1) ++ drop (z + 1) us
unfolding tallies_in
tallies_step ws us rs z t h e q =
    ap (λ (l : List Tally). set l z t) (e ∙ ap (λ (l : List Tally). tallies_in ws z ++ l) (drop-cons us z none h))
    ∙ set_at (tallies_in ws z) (get_or us z none) (drop (suc z) us) t z (tallies_length ws z)
    ∙ rw (add-one z, q) (sym (append_assoc (tallies_in ws z) (tally_at ws z ∷ []) (drop (suc z) us)))

pub words_length : (ts : List Tally) (n : ℕ) → length (words_in ts n) ≡ n * fields
unfolding words_in
words_length ts zero = refl
words_length ts (suc n) = let ih = words_length ts n in simp length-append (omega arith)

-- one tally's words more are written
pub words_step : (ts : List Tally) (l ws : List ℕ) (z : ℕ) → ws ≡ words_in ts z ++ drop (z * fields) l
    → take (z * fields) ws ++ (words_of (get_or ts z none) ++ drop fields (drop (z * fields) ws)) ≡ words_in ts (z + 1) ++ drop ((z + 1) * fields) l
unfolding words_in
words_step ts l ws z e =
    let n = words_length ts z in
    let a : take (z * fields) ws ≡ words_in ts z = ap (take (z * fields)) e ∙ take_at (words_in ts z) (drop (z * fields) l) (z * fields) n in
    let d : drop (z * fields) ws ≡ drop (z * fields) l = ap (drop (z * fields)) e ∙ drop_at (words_in ts z) (drop (z * fields) l) (z * fields) n in
    let j : suc z * fields ≡ z * fields + fields = omega arith in
    rw (a, d, drop-drop fields (z * fields) l, add-one z, j) (sym (append_assoc (words_in ts z) (words_of (get_or ts z none)) (drop (z * fields + fields) l)))

-- the words of n tallies are those of any list that begins with them
pub words_same : (us ts : List Tally) (n : ℕ) → ((z : ℕ) → z < n → get_or us z none ≡ get_or ts z none) → words_in us n ≡ words_in ts n
unfolding words_in
words_same us ts zero h = refl
words_same us ts (suc n) h = rw (words_same us ts n (λ z l. h z (omega arith)), h n (omega arith)) refl
