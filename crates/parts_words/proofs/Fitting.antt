-- Lists that fit, and those that don't. Assumes nothing.
use mathlib.Core.Path.{◌≡◌, sym, ◌∙◌}
use mathlib.Core.Bool.{true, false, ◌&&◌}
use mathlib.Core.List.{List}
use Prim.Native.Nat.{ℕ}
use native.Mathlib.Omega.{arith}
use lib.Dec.{eqb}
use lib.ListN.{length}
use borrow.Author.Tests.{eqb-true, eq-eqb, ne_eqb}
use Rattle.numbers.proofs.Laws.{and_both}
use Rattle.parts.specs.Parts.{lent, Lent, named}
use Rattle.parts.proofs.Cases.{lists_lent}
use Rattle.parts_words.specs.Words.{state_length, arrival_at}
use Rattle.parts_words.specs.Calls.{Lists, progress_length, fits, stands_at, goes, part_told, part_code, part_lists, end_told, end_code, end_lists}

six : ◌≡◌ {A = ℕ} 6 0 → ⊥
six e = omega arith

-- what a call's own lists have, where all fit
pub own : (c : Lists) → fits c ≡ true → (length c.state ≡ state_length) × (length c.progress ≡ progress_length)
own c t =
    let e = and_both (eqb (length c.state) state_length && eqb (length c.progress) progress_length) (lent c.records c.answers) t in
    let f = and_both (eqb (length c.state) state_length) (eqb (length c.progress) progress_length) e.0 in
    (eqb-true (length c.state) state_length f.0, eqb-true (length c.progress) progress_length f.1)

pub all_fit : (c : Lists) → length c.state ≡ state_length → length c.progress ≡ progress_length → Lent c.records c.answers → fits c ≡ true
all_fit c s p l =
    rw (eq-eqb (length c.state) state_length s, eq-eqb (length c.progress) progress_length p, lists_lent c.records c.answers l)

-- A CALL REFUSED BY 8 CHANGES NOTHING
module _ (c : Lists) (f : fits c ≡ false) where
  pub part_amiss : (l : List ℕ) → (part_code c l ≡ 8) × (part_lists c l ≡ c)
  part_amiss l = (rw f, rw f)

  pub end_amiss : (end_code c ≡ 8) × (end_lists c ≡ c)
  end_amiss = (rw f, rw f)

module _ (c : Lists) (t : fits c ≡ true) where
  pub on : stands_at c ≡ 0 → goes c ≡ true
  on z = rw (t, eq-eqb (stands_at c) 0 z)

  pub code_on : stands_at c ≡ 0 → (l : List ℕ) → (part_code c l ≡ (part_told c l).refusal) × (end_code c ≡ (end_told c).refusal)
  code_on z l = (rw (t, eq-eqb (stands_at c) 0 z), rw (t, eq-eqb (stands_at c) 0 z))

  -- A CALL AFTER THE END OR AFTER A FAULT CHANGES NOTHING, nor one with a state that names no model: all four lists keep their bits, and the
  -- number is told again
  module _ (n : stands_at c ≡ 0 → ⊥) where
    off : goes c ≡ false
    off = rw (t, ne_eqb (stands_at c) 0 n)

    pub host_stays : (l : List ℕ) → (part_lists c l ≡ c) × (end_lists c ≡ c)
    host_stays l = (rw off, rw off)

    pub told_again : (l : List ℕ) → (part_code c l ≡ stands_at c) × (end_code c ≡ stands_at c)
    told_again l = (rw (t, ne_eqb (stands_at c) 0 n), rw (t, ne_eqb (stands_at c) 0 n))

  -- A STATE THAT NAMES NO MODEL, before a fault or the end, is refused by 6, and nothing is worked or written
  pub nameless : (l : List ℕ) → (arrival_at c.state).refusal ≡ 0 → named (arrival_at c.state).header ≡ false
      → (part_code c l ≡ 6) × (end_code c ≡ 6) × (part_lists c l ≡ c) × (end_lists c ≡ c)
  nameless l z k =
      let s : stands_at c ≡ 6 = rw (eq-eqb (arrival_at c.state).refusal 0 z, k) in
      let n : stands_at c ≡ 0 → ⊥ = λ e. six (sym s ∙ e) in
      let g = told_again n l in
      let h = host_stays n l in
      (g.0 ∙ s, g.1 ∙ s, h.0, h.1)
