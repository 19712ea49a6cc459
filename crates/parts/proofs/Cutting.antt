-- A sheet may be cut anywhere: bytes one after the other give what the joined bytes give; and after a fault or the end nothing changes.
-- Assumes nothing.
use mathlib.Core.Path.{◌≡◌, refl, sym, ap, ◌∙◌}
use mathlib.Core.Bool.{true, false}
use mathlib.Core.List.{List, [], ◌∷◌, ◌++◌}
use Prim.Native.Nat.{ℕ}
use borrow.Author.Tests.{ne_eqb}
use Rattle.parts.specs.declared.Told.{Told}
use Rattle.parts.specs.declared.Arrival.{Arrival}
use Rattle.parts.specs.Parts.{Work, next, after, lent, parted, told, part_answer, ended, end_answer}

pub after_append : (w : Work) (a b : List ℕ) → after w (a ++ b) ≡ after (after w a) b
unfolding after
after_append w [] b = refl
after_append w (x ∷ a) b = after_append (next w x) a b

-- after a fault and after the end
module _ (w : Work) (n : w.arrival.refusal ≡ 0 → ⊥) where
  pub next_stays : (b : ℕ) → next w b ≡ w
  unfolding next
  next_stays b = rw (ne_eqb w.arrival.refusal 0 n)

  pub after_stays : (l : List ℕ) → after w l ≡ w
  unfolding after
  after_stays [] = refl
  after_stays (b ∷ l) = ap (λ (x : Work). after x l) (next_stays b) ∙ after_stays l

  -- a part, even of no bytes, tells the number again
  pub part_again : (l : List ℕ) → lent w.records w.answers ≡ true → part_answer w l ≡ told w.arrival.refusal w.arrival
  part_again l t = rw (t, after_stays l)

  pub part_stays : (l : List ℕ) → lent w.records w.answers ≡ true → parted w l ≡ w
  unfolding parted
  part_stays l t = rw (t, after_stays l)

  -- and so does an end
  pub end_again : lent w.records w.answers ≡ true → end_answer w.arrival w.records w.answers ≡ told w.arrival.refusal w.arrival
  end_again t = rw (t, ne_eqb w.arrival.refusal 0 n)

-- a call in lists that don't fit is refused by 8, which is no fault
module _ (w : Work) (f : lent w.records w.answers ≡ false) where
  pub part_amiss : (l : List ℕ) → (part_answer w l ≡ told 8 w.arrival) × (parted w l ≡ w)
  unfolding parted
  part_amiss l = (rw f, rw f)

  pub end_amiss : end_answer w.arrival w.records w.answers ≡ told 8 w.arrival
  end_amiss = rw f
