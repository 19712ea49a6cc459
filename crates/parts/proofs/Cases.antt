-- `Parts` case by case, each from the tests that lead to it. Assumes nothing.
use mathlib.Core.Path.{◌≡◌, refl, sym, ap, ◌∙◌}
use mathlib.Core.Bool.{Bool, true, false}
use mathlib.Core.List.{List, []}
use Prim.Native.Nat.{ℕ, suc, ◌+◌, ◌*◌, ◌≤◌, ◌<◌}
use native.Mathlib.Omega.{arith}
use native.Mathlib.Numerals.{add-one}
use lib.ListN.{length, get_or, take, drop, drop_of_length-le}
use lib.Seq.{drop-cons}
use lib.Dec.{ltb, eqb}
use borrow.Author.Tests.{ltb-true, lt-ltb, le-ltb, eq-eqb, ne_eqb, eqb-true}
use Rattle.numbers.proofs.Laws.{and_both}
use Rattle.record.specs.Layout.{floats}
use Rattle.sheet.specs.Records.{sheet_floats}
use Rattle.sheet.specs.Sheet.{most, preamble_of, as_header}
use Rattle.sheet.specs.declared.Header.{Header}
use Rattle.parts.specs.declared.Arrival.{Arrival}
use Rattle.parts.specs.declared.Told.{Told}
use Rattle.parts.specs.Parts.{Work, works, room, held_with, stopped, headed, wanted, named, records_with, answers_with, recorded, records_by, answers_by, next, after, lent, Lent, told, missing, ended}

module _ (a : Arrival) (b : ℕ) where
  pub few : wanted a ≡ true → a.complete < most
  few t = ltb-true a.complete most (and_both (ltb a.complete a.header.count) (ltb a.complete most) t).1

  -- before the records
  module _ (h : Header) (e : h ≡ as_header (preamble_of (take (a.kept + 1) (held_with a b)))) where
    pub waiting : h.refusal ≡ 4 → record { refusal = 0; header = h; complete = 0; kept = a.kept + 1; held = held_with a b } ≡ headed a b
    unfolding headed
    waiting z = rw (← e, eq-eqb h.refusal 4 z)

    pub headed_on : (h.refusal ≡ 4 → ⊥) → record { refusal = h.refusal; header = h; complete = 0; kept = 0; held = held_with a b } ≡ headed a b
    unfolding headed
    headed_on n = rw (← e, ne_eqb h.refusal 4 n)

  -- in the records
  module _ (xs out : List ℕ) where
    abbrev pub Records : Arrival → List ℕ → List ℕ → Type 0
    Records p ys us = (p ≡ recorded a b) × ((ys ≡ records_by a b xs) × (us ≡ answers_by a b xs out))

    module _ (t : wanted a ≡ true) where
      pub held_more : a.kept + 1 < sheet_floats a.header.model * 8
          → Records (record { refusal = 0; header = a.header; complete = a.complete; kept = a.kept + 1; held = held_with a b }) xs out
      unfolding recorded records_by answers_by
      held_more h = let s = lt-ltb (a.kept + 1) (sheet_floats a.header.model * 8) h in (rw (t, s), (rw (t, s), rw (t, s)))

      module _ (h : sheet_floats a.header.model * 8 ≤ a.kept + 1) where
        pub whole : named a.header ≡ true
            → Records (record { refusal = 0; header = a.header; complete = a.complete + 1; kept = 0; held = held_with a b })
            (records_with a.header a.complete (held_with a b) xs) (answers_with a.header a.complete (held_with a b) xs out)
        unfolding recorded records_by answers_by
        whole k = let s = le-ltb (a.kept + 1) (sheet_floats a.header.model * 8) h in (rw (t, s, k), (rw (t, s, k), rw (t, s, k)))

        pub nameless : named a.header ≡ false → Records (stopped a 6) xs out
        unfolding recorded records_by answers_by
        nameless k = let s = le-ltb (a.kept + 1) (sheet_floats a.header.model * 8) h in (rw (t, s, k), (rw (t, s, k), rw (t, s, k)))

    pub over : wanted a ≡ false → Records (stopped a 7) xs out
    unfolding recorded records_by answers_by
    over t = (rw t, (rw t, rw t))

    -- one byte more
    abbrev pub Next : Arrival → List ℕ → List ℕ → Type 0
    Next p ys us = let w = next (works a xs out) b in (p ≡ w.arrival) × ((ys ≡ w.records) × (us ≡ w.answers))

    by_next : (w : Work) → w ≡ next (works a xs out) b → Next w.arrival w.records w.answers
    by_next w e = (ap (λ (x : Work). x.arrival) e, (ap (λ (x : Work). x.records) e, ap (λ (x : Work). x.answers) e))

    pub next_none : (a.refusal ≡ 0 → ⊥) → Next a xs out
    unfolding next
    next_none n = by_next (works a xs out) (rw (ne_eqb a.refusal 0 n))

    module _ (z : a.refusal ≡ 0) where
      pub next_full : room ≤ a.kept → Next (stopped a 7) xs out
      unfolding next
      next_full h = by_next (works (stopped a 7) xs out) (rw (eq-eqb a.refusal 0 z, le-ltb a.kept room h))

      module _ (h : a.kept < room) where
        pub next_record : a.header.refusal ≡ 0 → Next (recorded a b) (records_by a b xs) (answers_by a b xs out)
        unfolding next
        next_record y =
            by_next (works (recorded a b) (records_by a b xs) (answers_by a b xs out)) (rw (eq-eqb a.refusal 0 z, lt-ltb a.kept room h, eq-eqb a.header.refusal 0 y))

        pub next_preamble : (a.header.refusal ≡ 0 → ⊥) → Next (headed a b) xs out
        unfolding next
        next_preamble y =
            by_next (works (headed a b) xs out) (rw (eq-eqb a.refusal 0 z, lt-ltb a.kept room h, ne_eqb a.header.refusal 0 y))

pub work_is : (w : Work) (p : Arrival) (ys us : List ℕ) → p ≡ w.arrival → ys ≡ w.records → us ≡ w.answers → works p ys us ≡ w
work_is w p ys us e f g = rw (e, f, g)

-- lists for 200 particles
pub lent_lists : (xs out : List ℕ) → lent xs out ≡ true → Lent xs out
lent_lists xs out t =
    let e = and_both (eqb (length xs) (most * floats)) (eqb (length out) (most * 2)) t in
    (eqb-true (length xs) (most * floats) e.0, eqb-true (length out) (most * 2) e.1)

pub lists_lent : (xs out : List ℕ) → Lent xs out → lent xs out ≡ true
lists_lent xs out h = rw (eq-eqb (length xs) (most * floats) h.0, eq-eqb (length out) (most * 2) h.1)

-- a part, from byte i on
module _ (w : Work) (l : List ℕ) (i : ℕ) where
  pub after_step : i < length l → after (next w (get_or l i 0)) (drop (i + 1) l) ≡ after w (drop i l)
  unfolding after
  after_step h = rw (drop-cons l i 0 h, add-one i)

  pub after_done : length l ≤ i → w ≡ after w (drop i l)
  unfolding after
  after_done h = rw (drop_of_length-le l h)

-- the end
module _ (a : Arrival) where
  pub end_again : (a.refusal ≡ 0 → ⊥) → told a.refusal a ≡ ended a
  end_again n = rw (ne_eqb a.refusal 0 n)

  module _ (z : a.refusal ≡ 0) where
    pub end_short : missing a ≡ true → told 4 (stopped a 4) ≡ ended a
    end_short t = rw (eq-eqb a.refusal 0 z, t)

    pub end_good : missing a ≡ false → told 0 (stopped a 15) ≡ ended a
    end_good t = rw (eq-eqb a.refusal 0 z, t)
