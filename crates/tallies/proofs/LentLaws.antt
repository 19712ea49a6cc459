-- What a call on slices made of the tallies that were read from words stands in the words again, or the words stay. Assumes nothing.
use mathlib.Core.Path.{◌≡◌, refl, ap, ◌∙◌}
use mathlib.Core.Bool.{Bool, true, false, cond, ◌&&◌}
use mathlib.Core.List.{List, ◌++◌}
use Prim.Native.Nat.{ℕ}
use native.Mathlib.Omega.{arith}
use lib.Dec.{eqb}
use lib.ListN.{length, take, drop, get_or-append}
use lib.Seq.{take_at}
use Rattle.answers.specs.Refusals.{wrong_length, bad_zone, tally_full}
use Rattle.tallies.specs.declared.tally.Tally.{Tally}
use Rattle.tallies.specs.declared.array.Held.{Held}
use Rattle.tallies.specs.Tallies.{none, spare}
use Rattle.tallies.specs.Words.{tallies_in, words_in}
use Rattle.tallies.proofs.WordLaws.{words_same, tallies_length}

-- 0 of a clear or a move, and of a pass
pub goes_or : (b : Bool) → eqb (cond b 0 bad_zone) 0 ≡ b
goes_or true = refl
goes_or false = refl

pub goes_pass : (a b c : Bool) → eqb (cond a (cond b (cond c 0 tally_full) bad_zone) wrong_length) 0 ≡ (a && (b && c))
goes_pass true true true = refl
goes_pass true true false = refl
goes_pass true false c = refl
goes_pass false b c = refl

module _ (ws : List ℕ) (n : ℕ) (l : List Tally) (e : l ≡ tallies_in ws n ++ drop n spare) where
  -- the array begins with the tallies of the words
  pub front_of : take n l ≡ tallies_in ws n
  front_of = ap (take n) e ∙ take_at (tallies_in ws n) (drop n spare) n (tallies_length ws n)

  front_words : (us rest : List Tally) → length us ≡ n → words_in (us ++ rest) n ≡ words_in us n
  front_words us rest k = words_same (us ++ rest) us n (λ z h. get_or-append us rest none z (omega (arith, h, k)))

  -- and f is what the call makes of those: 0 writes it
  pub put : (h : Held) (code : ℕ) (goes : Bool) (f : List Tally → List Tally) → h.refusal ≡ code → eqb code 0 ≡ goes → h.tallies ≡ f (take n l) ++ drop n l → length (f (tallies_in ws n)) ≡ n
      → cond (eqb h.refusal 0) (words_in h.tallies n) ws ≡ cond goes (words_in (f (tallies_in ws n)) n) ws
  put h code goes f c g q k =
      ap (λ (b : Bool). cond b (words_in h.tallies n) ws) (ap (λ (m : ℕ). eqb m 0) c ∙ g)
      ∙ ap (λ (us : List Tally). cond goes (words_in us n) ws) (q ∙ ap (λ (us : List Tally). f us ++ drop n l) front_of)
      ∙ ap (λ (v : List ℕ). cond goes v ws) (front_words (f (tallies_in ws n)) (drop n l) k)
