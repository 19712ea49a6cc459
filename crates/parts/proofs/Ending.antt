-- A sheet that came in parts, cut anywhere, and was ended, against the run of the whole sheet. Assumes nothing.
use mathlib.Core.Path.{◌≡◌, refl, sym, ap, ◌∙◌, subst}
use mathlib.Core.Logic.{◌⊎◌, inl, inr}
use mathlib.Core.Bool.{Bool, true, false}
use mathlib.Core.List.{List, [], ◌∷◌, ◌++◌, append_assoc, append-nil}
use Prim.Native.Nat.{ℕ, suc, ◌+◌, ◌*◌, ◌-◌, ◌≤◌, ◌<◌}
use native.Mathlib.Omega.{arith}
use native.Mathlib.Nat.{mul-le-mul_right}
use lib.ListN.{length, drop, length-drop}
use lib.Dec.{ltb, eqb}
use borrow.Author.Tests.{ltb-true, ltb-false, lt-ltb, le-ltb, eqb-true, eqb-false, ne_eqb}
use Rattle.record.specs.Layout.{floats}
use Rattle.particles.specs.Pass.{worked, answers}
use Rattle.sheet.specs.Records.{sheet_floats}
use Rattle.sheet.specs.Sheet.{Open, Shut, preamble_of, as_header, records_end, header_of, records_of}
use Rattle.sheet.specs.Spelling.{Below}
use Rattle.sheet.specs.declared.Header.{Header}
use Rattle.sheet.proofs.Bounds.{Refusal, not_0}
use Rattle.sheet.proofs.Preambles.{Closes, closes}
use Rattle.sheet_run.specs.Run.{law_of, ran_of}
use Rattle.parts.specs.declared.Arrival.{Arrival}
use Rattle.parts.specs.declared.Told.{Told}
use Rattle.parts.specs.Parts.{Work, works, after, begun, stopped, lent, Lent, parted, told, part_answer, missing, ended, end_answer, parted_all, joined}
use Rattle.parts.specs.Whole.{Stand, none, some, first_records, EndsAs, so_far, afterwards}
use Rattle.parts.proofs.Cases.{lists_lent, end_again, end_short, end_good}
use Rattle.parts.proofs.Cutting.{after_append}
use Rattle.parts.proofs.Held.{shut_refusal}
use Rattle.parts.proofs.Standing.{InPreamble, InRecords, BadPreamble, BytesAfter, Stands, in_preamble, in_records, bad_preamble, bytes_after, at_start, below_front, after_stands, stands_lent}
use Rattle.parts.proofs.Ran.{ran_refused, ran_good, ran_particles, records_are, answers_are}

-- ---- the header of the whole, from what stands before the records and the bytes after it
module _ (s : List ℕ) (model : ℕ) (bits : List ℕ) (count at : ℕ) (e : preamble_of s ≡ Open model bits count at) where
  header_is : header_of s ≡ records_end s model bits count at
  unfolding header_of
  header_is = rw e

  left : length s - at ≡ length (drop at s)
  left = sym (length-drop at s)

  short : length (drop at s) < count * sheet_floats model * 8 → 4 ≡ (header_of s).refusal
  unfolding records_end
  short h = rw (header_is, left, lt-ltb (length (drop at s)) (count * sheet_floats model * 8) h)

  long : count * sheet_floats model * 8 < length (drop at s) → 7 ≡ (header_of s).refusal
  unfolding records_end
  long h =
      let k : count * sheet_floats model * 8 ≤ length (drop at s) = omega arith in
      rw (header_is, left, le-ltb (length (drop at s)) (count * sheet_floats model * 8) k, lt-ltb (count * sheet_floats model * 8) (length (drop at s)) h)

  whole : length (drop at s) ≡ count * sheet_floats model * 8 → as_header (Open model bits count at) ≡ header_of s
  unfolding records_end
  whole h = rw (header_is, left, h, le-ltb (count * sheet_floats model * 8) (count * sheet_floats model * 8) (omega arith))

-- ---- the end
module _ (xs₀ out₀ : List ℕ) (lists : Lent xs₀ out₀) (s : List ℕ) (w : Work) where
  abbrev Ends : Told → Type 0
  Ends t = EndsAs s xs₀ out₀ t w.records w.answers

  -- at any time the complete records stand, worked
  pub complete_stand : Stands xs₀ out₀ s w → Stand s xs₀ out₀ w.arrival.complete w.records w.answers
  complete_stand (in_preamble p) = none 4 p.shut p.none p.records p.answers
  complete_stand (in_records p) =
      let b = p.bytes in
      let u = p.short in
      some p.model p.bits p.count p.at p.opens p.within (omega arith) (inr (omega arith)) p.listed.0 p.listed.1
  complete_stand (bad_preamble p) = none p.number p.shut p.none p.records p.answers
  complete_stand (bytes_after p) =
      let m = p.more in
      some p.model p.bits p.count p.at p.opens (omega (arith, p.all)) (omega arith) (inl p.all) p.listed.0 p.listed.1

  -- a fault
  faulty : (n : ℕ) (a : Arrival) → n ≡ (header_of s).refusal → (n ≡ 0 → ⊥) → Stand s xs₀ out₀ a.complete w.records w.answers → Ends (told n a)
  faulty n a e z h =
      let r : (ran_of s xs₀ out₀).refusal ≡ (header_of s).refusal = ran_refused s xs₀ out₀ lists (λ q. z (e ∙ q)) in
      record { refusal = e ∙ sym r; good = λ q. absurd (z (e ∙ sym r ∙ q)); bad = λ q. h }

  from_preamble : InPreamble xs₀ out₀ s w → Ends (ended w.arrival)
  from_preamble p =
      subst Ends (end_short w.arrival p.going (rw p.wants))
      (faulty 4 (stopped w.arrival 4) (shut_refusal s 4 p.shut) (λ q. omega arith) (complete_stand (in_preamble p)))

  from_bad : BadPreamble xs₀ out₀ s w → Ends (ended w.arrival)
  from_bad p =
      let z = not_0 p.number (subst (Closes (length s)) p.shut (closes s)) in
      subst Ends (end_again w.arrival (λ q. z (sym p.told ∙ q)))
      (faulty w.arrival.refusal w.arrival (p.told ∙ shut_refusal s p.number p.shut) (λ q. z (sym p.told ∙ q)) (complete_stand (bad_preamble p)))

  from_after : BytesAfter xs₀ out₀ s w → Ends (ended w.arrival)
  from_after p =
      let t = p.told in
      let m = p.more in
      let c : w.arrival.complete * sheet_floats p.model * 8 ≡ p.count * sheet_floats p.model * 8 = ap (λ (k : ℕ). k * sheet_floats p.model * 8) p.all in
      let e : 7 ≡ (header_of s).refusal = long s p.model p.bits p.count p.at p.opens (omega arith) in
      subst Ends (end_again w.arrival (λ q. omega arith))
      (faulty w.arrival.refusal w.arrival (t ∙ e) (λ q. omega arith) (complete_stand (bytes_after p)))

  module _ (p : InRecords xs₀ out₀ s w) where
    abbrev k : ℕ
    k = w.arrival.complete

    abbrev F : ℕ
    F = sheet_floats p.model

    named_refusal : w.arrival.header.refusal ≡ 0
    named_refusal = ap (λ (h : Header). h.refusal) p.header

    named_count : w.arrival.header.count ≡ p.count
    named_count = ap (λ (h : Header). h.count) p.header

    -- records are missing
    from_short : k < p.count → Ends (ended w.arrival)
    from_short h =
        let b = p.bytes in
        let u = p.short in
        let m = mul-le-mul_right (F * 8) h in
        subst Ends (end_short w.arrival p.going (rw (named_refusal, named_count, lt-ltb k p.count h)))
        (faulty 4 (stopped w.arrival 4) (short s p.model p.bits p.count p.at p.opens (omega arith)) (λ q. omega arith) (complete_stand (in_records p)))

    -- all are there
    module _ (h : p.count ≤ k) where
      all : k ≡ p.count
      all = let i = p.within in omega arith

      header_whole : as_header (Open p.model p.bits p.count p.at) ≡ header_of s
      header_whole =
          let b = p.bytes in
          let z = p.last_whole all in
          let c : k * F * 8 ≡ p.count * F * 8 = ap (λ (n : ℕ). n * F * 8) all in
          whole s p.model p.bits p.count p.at p.opens (omega arith)

      good : (header_of s).refusal ≡ 0
      good = ap (λ (x : Header). x.refusal) (sym header_whole)

      records_run : worked (law_of (as_header (Open p.model p.bits p.count p.at))) (first_records p.model k (drop p.at s)) k ++ drop (k * floats) xs₀
          ≡ worked (law_of (header_of s)) (records_of s (header_of s)) (header_of s).count ++ drop ((header_of s).count * floats) xs₀
      records_run =
          ap (λ (n : ℕ). worked (law_of (as_header (Open p.model p.bits p.count p.at))) (first_records p.model n (drop p.at s)) n ++ drop (n * floats) xs₀) all
          ∙ ap (λ (x : Header). worked (law_of x) (records_of s x) x.count ++ drop (x.count * floats) xs₀) header_whole

      answers_run : answers (law_of (as_header (Open p.model p.bits p.count p.at))) (first_records p.model k (drop p.at s)) k ++ drop (k * 2) out₀
          ≡ answers (law_of (header_of s)) (records_of s (header_of s)) (header_of s).count ++ drop ((header_of s).count * 2) out₀
      answers_run =
          ap (λ (n : ℕ). answers (law_of (as_header (Open p.model p.bits p.count p.at))) (first_records p.model n (drop p.at s)) n ++ drop (n * 2) out₀) all
          ∙ ap (λ (x : Header). answers (law_of x) (records_of s x) x.count ++ drop (x.count * 2) out₀) header_whole

      from_whole : Ends (ended w.arrival)
      from_whole =
          subst Ends (end_good w.arrival p.going (rw (named_refusal, named_count, le-ltb k p.count h)))
          (record {
            refusal = sym (ran_good s xs₀ out₀ lists good);
            good = λ q. (
              all ∙ ap (λ (x : Header). x.count) header_whole ∙ sym (ran_particles s xs₀ out₀ lists good),
              p.listed.0 ∙ records_run ∙ sym (records_are s xs₀ out₀ lists good),
              p.listed.1 ∙ answers_run ∙ sym (answers_are s xs₀ out₀ lists good),
            );
            bad = λ q. absurd (q (ran_good s xs₀ out₀ lists good));
          })

    from_records : Ends (ended w.arrival)
    from_records = tested (ltb k p.count) refl
      where
        tested : (c : Bool) → ltb k p.count ≡ c → Ends (ended w.arrival)
        tested true t = from_short (ltb-true k p.count t)
        tested false t = from_whole (ltb-false k p.count t)

  pub ends : Stands xs₀ out₀ s w → Ends (ended w.arrival)
  ends (in_preamble p) = from_preamble p
  ends (in_records p) = from_records p
  ends (bad_preamble p) = from_bad p
  ends (bytes_after p) = from_after p

  -- before the end no part is answered by 15
  pub not_ended : Stands xs₀ out₀ s w → w.arrival.refusal ≡ 15 → ⊥
  not_ended (in_preamble p) q = let e = p.going in omega arith
  not_ended (in_records p) q = let e = p.going in omega arith
  not_ended (bad_preamble p) q =
      let c : Refusal p.number = subst (Closes (length s)) p.shut (closes s) in
      let e = p.told in
      omega arith
  not_ended (bytes_after p) q = let e = p.told in omega arith

  -- and none by 4
  not_short : Stands xs₀ out₀ s w → w.arrival.refusal ≡ 4 → ⊥
  not_short (in_preamble p) q = let e = p.going in omega arith
  not_short (in_records p) q = let e = p.going in omega arith
  not_short (bad_preamble p) q = p.other (sym p.told ∙ q)
  not_short (bytes_after p) q = let e = p.told in omega arith

-- an end, whatever it tells
ended_cases : (P : ℕ → Told → Type 0) (a : Arrival) → P 0 (told 4 (stopped a 4)) → P 0 (told 0 (stopped a 15))
    → ((a.refusal ≡ 0 → ⊥) → P a.refusal (told a.refusal a)) → P a.refusal (ended a)
ended_cases P a short good again = tested (eqb a.refusal 0) refl
  where
    lacking : a.refusal ≡ 0 → (m : Bool) → missing a ≡ m → P a.refusal (ended a)
    lacking z true m = subst (λ (n : ℕ). P n (ended a)) (sym z) (subst (P 0) (end_short a z m) short)
    lacking z false m = subst (λ (n : ℕ). P n (ended a)) (sym z) (subst (P 0) (end_good a z m) good)

    tested : (c : Bool) → eqb a.refusal 0 ≡ c → P a.refusal (ended a)
    tested true t = lacking (eqb-true a.refusal 0 t) (missing a) refl
    tested false t = let n = eqb-false a.refusal 0 t in subst (P a.refusal) (end_again a n) (again n)

-- a state's own number is that of its end, but for a shortage
before_end : (a : Arrival) → (a.refusal ≡ 4 → ⊥) → a.refusal ≡ so_far (ended a).refusal
before_end a n = ended_cases (λ (k : ℕ) (t : Told). k ≡ so_far t.refusal) a refl refl (λ z. rw (ne_eqb a.refusal 4 n))

-- and the number after it is what it told, or 15
pub after_end : (a : Arrival) → ((ended a).arrival.refusal ≡ afterwards (ended a).refusal) × ((ended a).arrival.refusal ≡ 0 → ⊥)
after_end a =
    ended_cases (λ (k : ℕ) (t : Told). (t.arrival.refusal ≡ afterwards t.refusal) × (t.arrival.refusal ≡ 0 → ⊥)) a
    (refl, λ z. omega (arith, z)) (refl, λ z. omega (arith, z)) (λ n. (rw (ne_eqb a.refusal 0 n), n))

-- ---- the parts, one call after the other
module _ (xs₀ out₀ : List ℕ) (lists : Lent xs₀ out₀) where
  parts_join : (s : List ℕ) (ps : List (List ℕ)) → Below 256 (s ++ joined ps) → (w : Work) → Stands xs₀ out₀ s w → parted_all w ps ≡ after w (joined ps)
  unfolding parted_all joined parted after
  parts_join s [] b w h = refl
  parts_join s (l ∷ ps) b w h =
      let a : (s ++ l) ++ joined ps ≡ s ++ (l ++ joined ps) = append_assoc s l (joined ps) in
      let c : Below 256 ((s ++ l) ++ joined ps) = rw a b in
      let d = below_front 256 (s ++ l) (joined ps) c in
      let t = lists_lent w.records w.answers (stands_lent xs₀ out₀ lists s w h) in
      rw t (parts_join (s ++ l) ps c (after w l) (after_stands xs₀ out₀ lists s l d w h) ∙ sym (after_append w l (joined ps)))

  abbrev start : Work
  start = works begun xs₀ out₀

  -- THE PARTS ARE THEIR BYTES: where they were cut does not show
  pub cut_anywhere : (ps : List (List ℕ)) → Below 256 (joined ps) → parted_all start ps ≡ after start (joined ps)
  cut_anywhere ps b = parts_join [] ps b start (at_start xs₀ out₀)

  pub cut_alike : (ps qs : List (List ℕ)) → Below 256 (joined ps) → joined ps ≡ joined qs → parted_all start ps ≡ parted_all start qs
  cut_alike ps qs b e = cut_anywhere ps b ∙ ap (after start) e ∙ sym (cut_anywhere qs (rw (← e) b))

  pub parts_stand : (ps : List (List ℕ)) → Below 256 (joined ps) → Stands xs₀ out₀ (joined ps) (parted_all start ps)
  parts_stand ps b = rw (cut_anywhere ps b) (after_stands xs₀ out₀ lists [] (joined ps) b start (at_start xs₀ out₀))

  -- A SHORTAGE IS TOLD ONLY AT THE END: a part is answered by what the run of the bytes so far tells, and by 0 where that is 4
  pub part_told : (ps : List (List ℕ)) (l : List ℕ) → Below 256 (joined ps ++ l) → (part_answer (parted_all start ps) l).refusal ≡ so_far (ran_of (joined ps ++ l) xs₀ out₀).refusal
  part_told ps l b =
      let w = parted_all start ps in
      let c = below_front 256 (joined ps) l b in
      let h = parts_stand ps c in
      let k = after_stands xs₀ out₀ lists (joined ps) l b w h in
      let t = lists_lent w.records w.answers (stands_lent xs₀ out₀ lists (joined ps) w h) in
      let e = before_end (after w l).arrival (not_short xs₀ out₀ lists (joined ps ++ l) (after w l) k) in
      rw t (e ∙ ap so_far (ends xs₀ out₀ lists (joined ps ++ l) (after w l) k).refusal)

  -- AND GIVE WHAT THE WHOLE GIVES: parts, then the end, against the run of the joined bytes
  pub ends_as_run : (ps : List (List ℕ)) → Below 256 (joined ps) → let w = parted_all start ps in EndsAs (joined ps) xs₀ out₀ (end_answer w.arrival w.records w.answers) w.records w.answers
  ends_as_run ps b =
      let w = parted_all start ps in
      let h = parts_stand ps b in
      let t = lists_lent w.records w.answers (stands_lent xs₀ out₀ lists (joined ps) w h) in
      rw t (ends xs₀ out₀ lists (joined ps) w h)
