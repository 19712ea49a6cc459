-- Tallies written as words are read back as they were. Assumes nothing.
use mathlib.Core.Path.{◌≡◌, refl, sym, ap, ◌∙◌}
use mathlib.Core.Logic.{◌⊎◌, inl, inr}
use mathlib.Core.Bool.{Bool, true, false, cond}
use mathlib.Core.List.{List, [], ◌∷◌, ◌++◌}
use Prim.Native.Nat.{ℕ, zero, suc, ◌+◌, ◌*◌, ◌/◌, ◌<◌}
use native.Mathlib.Omega.{arith}
use lib.Dec.{eqb}
use lib.ListN.{length, get_or, get_or-append}
use lib.Seq.{ext_get_or, get_or-append-add}
use borrow.Author.Tests.{eqb-true}
use Rattle.tallies.specs.declared.tally.Tally.{Tally}
use Rattle.tallies.specs.Tallies.{none}
use Rattle.tallies.specs.Words.{fields, words_of, tally_at, tallies_in, words_in, zones_of, whole, all_tallies, written}
use Rattle.tallies.proofs.ZoneLaws.{last_or}
use Rattle.tallies.proofs.WordLaws.{tallies_length, words_length}

-- the last of a list, and one before it
at_last : (l : List Tally) (t : Tally) (z : ℕ) → z ≡ length l → get_or (l ++ (t ∷ [])) z none ≡ t
at_last l t z e = let q : z ≡ length l + 0 = omega (arith, e) in ap (λ (k : ℕ). get_or (l ++ (t ∷ [])) k none) q ∙ get_or-append-add l (t ∷ []) 0 none

-- zone z's tally, of those read
pub tally_read : (ws : List ℕ) (n z : ℕ) → z < n → get_or (tallies_in ws n) z none ≡ tally_at ws z
unfolding tallies_in
tally_read ws zero z h = absurd (omega (arith, h))
tally_read ws (suc n) z h = go (last_or z n h) (λ l. tally_read ws n z l)
  where
    go : (z < n) ⊎ (z ≡ n) → (z < n → get_or (tallies_in ws n) z none ≡ tally_at ws z) → get_or (tallies_in ws n ++ (tally_at ws n ∷ [])) z none ≡ tally_at ws z
    go (inl l) ih = get_or-append (tallies_in ws n) (tally_at ws n ∷ []) none z (omega (arith, l, tallies_length ws n)) ∙ ih l
    go (inr e) ih = at_last (tallies_in ws n) (tally_at ws n) z (e ∙ sym (tallies_length ws n)) ∙ ap (tally_at ws) (sym e)

-- word k of zone z, of those written
word_written : (ts : List Tally) (n z k j : ℕ) → z < n → k < fields → j ≡ z * fields + k → get_or (words_in ts n) j 0 ≡ get_or (words_of (get_or ts z none)) k 0
unfolding words_in
word_written ts zero z k j h b e = absurd (omega (arith, h))
word_written ts (suc n) z k j h b e = go (last_or z n h) (λ l. word_written ts n z k j l b e)
  where
    go : (z < n) ⊎ (z ≡ n) → (z < n → get_or (words_in ts n) j 0 ≡ get_or (words_of (get_or ts z none)) k 0) → get_or (words_in ts n ++ words_of (get_or ts n none)) j 0 ≡ get_or (words_of (get_or ts z none)) k 0
    go (inl l) ih = get_or-append (words_in ts n) (words_of (get_or ts n none)) 0 j (omega (arith, l, b, e, words_length ts n)) ∙ ih l
    go (inr q) ih =
        let p : j ≡ length (words_in ts n) + k = omega (arith, e, q, words_length ts n) in
        ap (λ (i : ℕ). get_or (words_in ts n ++ words_of (get_or ts n none)) i 0) p ∙ get_or-append-add (words_in ts n) (words_of (get_or ts n none)) k 0
        ∙ ap (λ (i : ℕ). get_or (words_of (get_or ts i none)) k 0) (sym q)

tally_of : (t : Tally) (a b c d e : ℕ) → a ≡ t.particles → b ≡ t.untouched → c ≡ t.stored → d ≡ t.refused → e ≡ t.failed → record { particles = a; untouched = b; stored = c; refused = d; failed = e } ≡ t
tally_of t a b c d e p q r s u = rw (p, q, r, s, u) refl

pub tally_written : (ts : List Tally) (n z : ℕ) → z < n → tally_at (words_in ts n) z ≡ get_or ts z none
tally_written ts n z h =
    tally_of (get_or ts z none) _ _ _ _ _
    (word_written ts n z 0 (z * fields) h (omega arith) (omega arith))
    (word_written ts n z 1 (z * fields + 1) h (omega arith) (omega arith))
    (word_written ts n z 2 (z * fields + 2) h (omega arith) (omega arith))
    (word_written ts n z 3 (z * fields + 3) h (omega arith) (omega arith))
    (word_written ts n z 4 (z * fields + 4) h (omega arith) (omega arith))

pub words_back : (ts : List Tally) (n : ℕ) → length ts ≡ n → tallies_in (words_in ts n) n ≡ ts
words_back ts n e =
    ext_get_or none (tallies_in (words_in ts n) n) ts (tallies_length (words_in ts n) n ∙ sym e)
    (λ z l. let h : z < n = omega (arith, l, tallies_length (words_in ts n) n) in tally_read (words_in ts n) n z h ∙ tally_written ts n z h)

-- RULES' order: particles now, untouched, stored, refused, failed
pub in_order : tally_at (1 ∷ 2 ∷ 3 ∷ 4 ∷ 5 ∷ []) 0 ≡ record { particles = 1; untouched = 2; stored = 3; refused = 4; failed = 5 }
in_order = refl

-- what a call wrote, or left
module _ (ws : List ℕ) (w : whole ws ≡ true) where
  pub written_length : (g : Bool) (ts : List Tally) → length (written g ts ws) ≡ length ws
  written_length true ts = words_length ts (zones_of ws) ∙ eqb-true _ _ w
  written_length false ts = refl

  pub written_whole : (g : Bool) (ts : List Tally) → whole (written g ts ws) ≡ true
  written_whole g ts = ap (λ (m : ℕ). eqb (m / fields * fields) m) (written_length g ts) ∙ w

  pub written_back : (g : Bool) (ts : List Tally) → length ts ≡ zones_of ws → all_tallies (written g ts ws) ≡ cond g ts (all_tallies ws)
  written_back true ts e = ap (λ (m : ℕ). tallies_in (words_in ts (zones_of ws)) (m / fields)) (written_length true ts) ∙ words_back ts (zones_of ws) e
  written_back false ts e = refl
