-- A sheet that is run without a refusal: what was read into the particles' parts of its rooms, and what is found there afterwards.
-- Assumes nothing.
use mathlib.Core.Path.{◌≡◌, refl, sym, ap, ◌∙◌, subst}
use mathlib.Core.Bool.{Bool, true, false, cond}
use mathlib.Core.List.{List, ◌++◌}
use Prim.Native.Nat.{ℕ, ◌+◌, ◌*◌, ◌/◌, ◌%◌, ◌≤◌, ◌<◌}
use native.Mathlib.Omega.{arith}
use borrow.Author.Tests.{eq-eqb, eqb-true}
use lib.Dec.{T, eqb, ltb}
use lib.ListN.{length, take, drop, get_or, length-take, length-drop, get_or-append}
use lib.Seq.{take_at, take-append-le, drop-append-le}
use Rattle.numbers.proofs.Laws.{and_both}
use Rattle.record.specs.Layout.{floats}
use Rattle.particles.specs.Pass.{record_over, record_at, worked, answers, well_sized, pass_records, pass_answers}
use Rattle.particles.proofs.PassLaws.{record_keeps, worked_length, answers_length}
use Rattle.sheet.specs.declared.Header.{Header}
use Rattle.sheet.specs.Sheet.{refused_by, header_of, read_of, room_of, records_of}
use Rattle.sheet_run.specs.declared.Ran.{Ran}
use Rattle.sheet_run.specs.Run.{law_of, records_in, answers_in, stopped, front_of, front_records, front_answers, ran_with, ran_of, ran_records, ran_answers}
use Rattle.sheet_run.proofs.Rooms.{read_fits, records_length, room_length}

pub taken : {P : Type 0} (b : Bool) (X Y : P) → b ≡ true → cond b X Y ≡ X
taken true X Y q = refl
taken false X Y q = absurd (subst T (sym q) tt)

-- ---- lists of k records and their answers
module _ (xs out : List ℕ) where
  pub sized : well_sized xs out ≡ true → (length xs ≡ length xs / floats * floats) × (length out ≡ length xs / floats * 2)
  sized q =
      let e = and_both (eqb (length xs / floats * floats) (length xs)) (eqb (length xs / floats * 2) (length out)) q in
      (sym (eqb-true (length xs / floats * floats) (length xs) e.0), sym (eqb-true (length xs / floats * 2) (length out) e.1))

  pub quotient : (k : ℕ) → length xs ≡ k * floats → length xs / floats ≡ k
  quotient k e = omega arith

  pub well : (k : ℕ) → (length xs ≡ k * floats) × (length out ≡ k * 2) → well_sized xs out ≡ true
  well k s =
      let q = quotient k s.0 in
      let a = eq-eqb (length xs / floats * floats) (length xs) (omega arith) in
      let b = eq-eqb (length xs / floats * 2) (length out) (omega arith) in
      rw (a, b)

-- a record of the front list, of w floats
pub record_front : (w : ℕ) (q s : List ℕ) (i : ℕ) → i * w + w ≤ length q → record_over w (q ++ s) i ≡ record_over w q i
record_front w q s i h = ap (take w) (drop-append-le (i * w) q s (omega arith)) ∙ take-append-le w (drop (i * w) q) s (simp length-drop (omega arith))

-- ---- a run that refuses nothing: neither the rooms nor the sheet
rooms_kept : (b : Bool) (x : Ran) → (cond b x (stopped 8)).refusal ≡ 0 → (b ≡ true) × (x.refusal ≡ 0)
rooms_kept true x e = (refl, e)
rooms_kept false x e = absurd (omega arith)

sheet_kept : (b : Bool) (n : ℕ) (x : Ran) → eqb n 0 ≡ b → (cond b x (stopped n)).refusal ≡ 0 → n ≡ 0
sheet_kept true n x t e = eqb-true n 0 t
sheet_kept false n x t e = e

pub not_refused : (s xs out : List ℕ) → (ran_of s xs out).refusal ≡ 0 → (well_sized xs out ≡ true) × ((read_of s (length xs)).refusal ≡ 0)
not_refused s xs out e =
    let h = read_of s (length xs) in
    let r = rooms_kept (well_sized xs out) (ran_with h (room_of s xs) out) e in
    (r.0, sheet_kept (eqb h.refusal 0) h.refusal (front_of h (room_of s xs) out) refl r.1)

-- ---- what was read
own : (a b c : Bool) (h : Header) → let r = cond a (cond b (cond c (refused_by 8) h) h) (refused_by 8) in r.refusal ≡ 0 → r ≡ h
own true true true h e = absurd (omega arith)
own true true false h e = refl
own true false c h e = refl
own false b c h e = absurd (omega arith)

-- a room changes nothing of a header that it does not refuse
pub header_own : (s : List ℕ) (room : ℕ) → (read_of s room).refusal ≡ 0 → read_of s room ≡ header_of s
unfolding read_of
header_own s room e =
    let h = header_of s in
    own (eqb (room % floats) 0) (eqb h.refusal 0) (ltb room (h.count * floats)) h e

module _ (s xs : List ℕ) (e : (read_of s (length xs)).refusal ≡ 0) where
  pub records_read : records_in (read_of s (length xs)) (room_of s xs) ≡ records_of s (header_of s)
  unfolding room_of
  records_read =
      let h = read_of s (length xs) in
      let n = h.count * floats in
      let w = records_of s h in
      ap (take n) (taken (eqb h.refusal 0) (w ++ drop n xs) xs (eq-eqb h.refusal 0 e))
      ∙ take_at w (drop n xs) n (records_length s h) ∙ ap (records_of s) (header_own s (length xs) e)

-- ---- what is found: the pass over the parts, in front of what else the rooms hold
module _ (s xs out : List ℕ) (w : well_sized xs out ≡ true) (e : (read_of s (length xs)).refusal ≡ 0) where
  abbrev h : Header
  h = read_of s (length xs)

  abbrev a : List ℕ
  a = records_in h (room_of s xs)

  abbrev b : List ℕ
  b = answers_in h out

  pub parts : (length a ≡ h.count * floats) × (length b ≡ h.count * 2)
  parts =
      let fits = read_fits s (length xs) e in
      let same = room_length s xs in
      let z = sized xs out w in
      (simp length-take (omega arith), simp length-take (omega arith))

  opened : {P : Type 0} (x y z : P) → cond (well_sized xs out) (cond (eqb h.refusal 0) x y) z ≡ x
  opened x y z = taken (well_sized xs out) (cond (eqb h.refusal 0) x y) z w ∙ taken (eqb h.refusal 0) x y (eq-eqb h.refusal 0 e)

  pub record_found : (i : ℕ) → i < h.count → record_at (ran_records s xs out) i ≡ record_at (pass_records (law_of h) a b) i
  unfolding front_records
  record_found i l =
      let p = pass_records (law_of h) a b in
      let k = length a / floats in
      let m : length p ≡ k * floats =
      ap length (taken (well_sized a b) (worked (law_of h) a k) a (well a b h.count parts))
      ∙ worked_length floats (law_of h) (record_keeps _) a k (omega arith) in
      let q = quotient a b h.count parts.0 in
      ap (λ (t : List ℕ). record_at t i) (opened (front_records h (room_of s xs) out) (room_of s xs) xs)
      ∙ record_front floats p (drop (h.count * floats) (room_of s xs)) i (omega arith)

  pub answer_found : (j : ℕ) → j < h.count * 2 → get_or (ran_answers s xs out) j 0 ≡ get_or (pass_answers (law_of h) a b) j 0
  unfolding front_answers
  answer_found j l =
      let p = pass_answers (law_of h) a b in
      let k = length a / floats in
      let m : length p ≡ k * 2 =
      ap length (taken (well_sized a b) (answers (law_of h) a k) b (well a b h.count parts)) ∙ answers_length floats (law_of h) a k in
      let q = quotient a b h.count parts.0 in
      ap (λ (t : List ℕ). get_or t j 0) (opened (front_answers h (room_of s xs) out) out out)
      ∙ get_or-append p (drop (h.count * 2) out) 0 j (omega arith)
