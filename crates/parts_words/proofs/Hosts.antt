-- A host's calls, one after the other, are the parts' own: so where they were cut does not show, and they give what the whole gives.
-- Assumes nothing.
use mathlib.Core.Path.{◌≡◌, refl, sym, ap, ◌∙◌, subst}
use mathlib.Core.Bool.{Bool, true, false, cond}
use mathlib.Core.List.{List, [], ◌∷◌, ◌++◌, append_assoc}
use Prim.Native.Nat.{ℕ}
use lib.ListN.{length}
use lib.Dec.{eqb}
use borrow.Author.Tests.{eq-eqb, ne_eqb, eqb-true, eqb-false}
use Rattle.sheet.specs.Spelling.{Below}
use Rattle.parts.specs.declared.Arrival.{Arrival}
use Rattle.parts.specs.declared.Told.{Told}
use Rattle.parts.specs.Parts.{Work, works, named, after, begun, Lent, parted, part_answer, ended, end_answer, parted_all, joined}
use Rattle.parts.specs.Whole.{EndsAs, so_far, afterwards}
use Rattle.parts.proofs.Cases.{lists_lent}
use Rattle.parts.proofs.Cutting.{part_again, part_stays, end_again}
use Rattle.parts.proofs.Standing.{Stands, at_start, below_front, after_stands, stands_lent}
use Rattle.parts.proofs.Ending.{after_end, ends, cut_alike, parts_stand, part_told, ends_as_run}
use Rattle.sheet_run.specs.Run.{ran_of}
use Rattle.parts_words.specs.Words.{state_length, state_words, arrival_at, Typed}
use Rattle.parts_words.specs.Calls.{Lists, progress_length, progress_of, lists, standing_of, stands_at, work_at, begin_state, fits, goes, part_code, part_lists, end_told, end_code, end_lists, Call, Part, Amiss, AmissEnd, handed, parts_in, carried, progress_by, progress_after}
use Rattle.parts_words.proofs.Back.{words_back, words_many}
use Rattle.parts_words.proofs.Kept.{typed_begun, typed_parted, typed_ended}
use Rattle.parts_words.proofs.Fitting.{all_fit, on, host_stays, told_again}

-- the bytes of a later part
below_back : (b : ℕ) (p l : List ℕ) → Below b (p ++ l) → Below b l
below_back b [] l h = h
below_back b (x ∷ p) l h = below_back b p l h.1

-- what a state that names a model answers is its own number
stands_so : (a : Arrival) → named a.header ≡ true → standing_of a ≡ a.refusal
stands_so a k = by_number (eqb a.refusal 0) refl
  where
    by_number : (b : Bool) → eqb a.refusal 0 ≡ b → cond b (cond (named a.header) 0 6) a.refusal ≡ a.refusal
    by_number true z = rw k (sym (eqb-true a.refusal 0 z))
    by_number false z = refl

-- a number that is told again where it is not 0
either : (n r : ℕ) → ((n ≡ 0 → ⊥) → r ≡ n) → cond (eqb n 0) r n ≡ r
either n r again = by_number (eqb n 0) refl
  where
    by_number : (b : Bool) → eqb n 0 ≡ b → cond b r n ≡ r
    by_number true z = refl
    by_number false z = sym (again (eqb-false n 0 z))

-- ---- one call, on words that carry a state
module _ (w : Work) (p : List ℕ) (t : Typed w.arrival) (lent : Lent w.records w.answers) (e : length p ≡ progress_length) where
  fit : fits (carried w p) ≡ true
  fit = all_fit (carried w p) (words_many w.arrival t) e lent

  back : arrival_at (state_words w.arrival) ≡ w.arrival
  back = words_back w.arrival t

  number : standing_of (arrival_at (state_words w.arrival)) ≡ w.arrival.refusal
  number = ap standing_of back ∙ stands_so w.arrival t.known

  same : work_at (carried w p) ≡ w
  same = rw back

  pub part_code_lem : (l : List ℕ) → part_code (carried w p) l ≡ (part_answer w l).refusal
  part_code_lem l = rw (fit, number, back) (either w.arrival.refusal (part_answer w l).refusal (λ n. ap (λ (x : Told). x.refusal) (part_again w n l (lists_lent w.records w.answers lent))))

  pub end_told_lem : end_told (carried w p) ≡ end_answer w.arrival w.records w.answers
  end_told_lem = ap (λ (a : Arrival). end_answer a w.records w.answers) back

  pub end_code_lem : end_code (carried w p) ≡ (end_answer w.arrival w.records w.answers).refusal
  end_code_lem =
      rw (fit, number, back) (either w.arrival.refusal (end_answer w.arrival w.records w.answers).refusal (λ n. ap (λ (x : Told). x.refusal) (end_again w n (lists_lent w.records w.answers lent))))

  abbrev Carried : Lists → Work → List ℕ → Type 0
  Carried c v q = c ≡ carried v (cond (eqb w.arrival.refusal 0) q p)

  -- more may come
  module _ (z : w.arrival.refusal ≡ 0) where
    goes_on : goes (carried w p) ≡ true
    goes_on = on (carried w p) fit (number ∙ z)

    part_goes : (l : List ℕ) → Carried (part_lists (carried w p) l) (parted w l) (progress_of (part_answer w l))
    unfolding parted
    part_goes l =
        rw (goes_on, eq-eqb w.arrival.refusal 0 z) (ap (λ (x : Work). lists (state_words (part_answer x l).arrival) (parted x l).records (parted x l).answers (progress_of (part_answer x l))) same
        ∙ rw (lists_lent w.records w.answers lent))

    end_goes : Carried (end_lists (carried w p)) (works (ended w.arrival).arrival w.records w.answers) (progress_of (ended w.arrival))
    end_goes =
        rw (goes_on, eq-eqb w.arrival.refusal 0 z) (ap (λ (a : Arrival). let r = end_answer a w.records w.answers in carried (works r.arrival w.records w.answers) (progress_of r)) back
        ∙ rw (lists_lent w.records w.answers lent, eq-eqb w.arrival.refusal 0 z))

  -- after a fault or the end
  module _ (n : w.arrival.refusal ≡ 0 → ⊥) where
    stay : (l : List ℕ) → (part_lists (carried w p) l ≡ carried w p) × (end_lists (carried w p) ≡ carried w p)
    stay l = host_stays (carried w p) fit (λ z. n (sym number ∙ z)) l

    part_stops : (l : List ℕ) → Carried (part_lists (carried w p) l) (parted w l) (progress_of (part_answer w l))
    part_stops l = (stay l).0 ∙ rw (ne_eqb w.arrival.refusal 0 n, part_stays w n l (lists_lent w.records w.answers lent))

    end_stops : Carried (end_lists (carried w p)) (works (ended w.arrival).arrival w.records w.answers) (progress_of (ended w.arrival))
    end_stops = (stay []).1 ∙ rw (ne_eqb w.arrival.refusal 0 n)

  pub part_carries : (l : List ℕ) → Carried (part_lists (carried w p) l) (parted w l) (progress_of (part_answer w l))
  part_carries l = tested (eqb w.arrival.refusal 0) refl
    where
      tested : (b : Bool) → eqb w.arrival.refusal 0 ≡ b → Carried (part_lists (carried w p) l) (parted w l) (progress_of (part_answer w l))
      tested true z = part_goes (eqb-true w.arrival.refusal 0 z) l
      tested false z = part_stops (eqb-false w.arrival.refusal 0 z) l

  pub end_carries : Carried (end_lists (carried w p)) (works (ended w.arrival).arrival w.records w.answers) (progress_of (ended w.arrival))
  end_carries = tested (eqb w.arrival.refusal 0) refl
    where
      tested : (b : Bool) → eqb w.arrival.refusal 0 ≡ b → Carried (end_lists (carried w p)) (works (ended w.arrival).arrival w.records w.answers) (progress_of (ended w.arrival))
      tested true z = end_goes (eqb-true w.arrival.refusal 0 z)
      tested false z = end_stops (eqb-false w.arrival.refusal 0 z)

-- a list of progress stays one
two : (b : Bool) (r : Told) (p : List ℕ) → length p ≡ progress_length → length (cond b (progress_of r) p) ≡ progress_length
two true r p e = refl
two false r p e = e

typed_all : (w : Work) → Typed w.arrival → (ps : List (List ℕ)) → Below 256 (joined ps) → Typed (parted_all w ps).arrival
unfolding parted_all joined
typed_all w t [] b = t
typed_all w t (l ∷ ps) b = typed_all (parted w l) (typed_parted w t l (below_front 256 l (joined ps) b)) ps (below_back 256 l (joined ps) b)

progress_length_lem : (w : Work) (ps : List (List ℕ)) (p : List ℕ) → length p ≡ progress_length → length (progress_after w ps p) ≡ progress_length
unfolding progress_after
progress_length_lem w [] p e = e
progress_length_lem w (l ∷ ps) p e = progress_length_lem (parted w l) ps (progress_by w l p) (two (eqb w.arrival.refusal 0) (part_answer w l) p e)

-- ---- one call after the other
module _ (xs₀ out₀ : List ℕ) (lent : Lent xs₀ out₀) where
  calls_carry : (s : List ℕ) (ks : List Call) → Below 256 (s ++ joined (parts_in ks)) → (w : Work) → Stands xs₀ out₀ s w → Typed w.arrival → (p : List ℕ) → length p ≡ progress_length
      → handed (carried w p) ks ≡ carried (parted_all w (parts_in ks)) (progress_after w (parts_in ks) p)
  unfolding handed parts_in parted_all progress_after joined parted
  calls_carry s [] b w h t p e = refl
  calls_carry s (Amiss l d ∷ ks) b w h t p e = calls_carry s ks b w h t p e
  calls_carry s (AmissEnd d ∷ ks) b w h t p e = calls_carry s ks b w h t p e
  calls_carry s (Part l ∷ ks) b w h t p e =
      let ps = parts_in ks in
      let a : (s ++ l) ++ joined ps ≡ s ++ (l ++ joined ps) = append_assoc s l (joined ps) in
      let c : Below 256 ((s ++ l) ++ joined ps) = rw a b in
      let d = below_front 256 (s ++ l) (joined ps) c in
      let k = stands_lent xs₀ out₀ lent s w h in
      let g : parted w l ≡ after w l = rw (lists_lent w.records w.answers k) in
      let n : Stands xs₀ out₀ (s ++ l) (parted w l) = rw g (after_stands xs₀ out₀ lent s l d w h) in
      ap (λ (x : Lists). handed x ks) (part_carries w p t k e l)
      ∙ calls_carry (s ++ l) ks c (parted w l) n (typed_parted w t l (below_back 256 s l d)) (progress_by w l p) (two (eqb w.arrival.refusal 0) (part_answer w l) p e)

  abbrev start : Work
  start = works begun xs₀ out₀

  module _ (state p : List ℕ) (f : length state ≡ state_length) (e : length p ≡ progress_length) where
    -- begun in any words of the length, and handed so many parts; calls refused by 8 may stand between them
    abbrev pub came : List Call → Lists
    came ks = handed (lists (begin_state state) xs₀ out₀ p) ks

    abbrev worked : List Call → Work
    worked ks = parted_all start (parts_in ks)

    abbrev told : List Call → List ℕ
    told ks = progress_after start (parts_in ks) p

    -- A HOST'S CALLS ARE THE PARTS' OWN
    pub as_parts : (ks : List Call) → Below 256 (joined (parts_in ks)) → came ks ≡ carried (worked ks) (told ks)
    as_parts ks b = rw (eq-eqb (length state) state_length f) (calls_carry [] ks b start (at_start xs₀ out₀) typed_begun p e)

    -- CUT ANYWHERE: state, records and answers
    pub host_cut_alike : (ks ms : List Call) → Below 256 (joined (parts_in ks)) → joined (parts_in ks) ≡ joined (parts_in ms)
        → ((came ks).state ≡ (came ms).state) × ((came ks).records ≡ (came ms).records) × ((came ks).answers ≡ (came ms).answers)
    host_cut_alike ks ms b g =
        let c = cut_alike xs₀ out₀ lent (parts_in ks) (parts_in ms) b g in
        let u = as_parts ks b in
        let v = as_parts ms (rw (← g) b) in (
          ap (λ (x : Lists). x.state) u ∙ ap (λ (x : Work). state_words x.arrival) c ∙ sym (ap (λ (x : Lists). x.state) v),
          ap (λ (x : Lists). x.records) u ∙ ap (λ (x : Work). x.records) c ∙ sym (ap (λ (x : Lists). x.records) v),
          ap (λ (x : Lists). x.answers) u ∙ ap (λ (x : Work). x.answers) c ∙ sym (ap (λ (x : Lists). x.answers) v),
        )

    module _ (ks : List Call) (b : Below 256 (joined (parts_in ks))) where
      abbrev s : List ℕ
      s = joined (parts_in ks)

      lists_there : Lent (worked ks).records (worked ks).answers
      lists_there = stands_lent xs₀ out₀ lent s (worked ks) (parts_stand xs₀ out₀ lent (parts_in ks) b)

      state_typed : Typed (worked ks).arrival
      state_typed = typed_all start typed_begun (parts_in ks) b

      told_two : length (told ks) ≡ progress_length
      told_two = progress_length_lem start (parts_in ks) p e

      -- A SHORTAGE IS TOLD ONLY AT THE END: a part is answered by what the run of the bytes so far tells, and by 0 where that is 4
      pub host_part_told : (l : List ℕ) → Below 256 (s ++ l) → part_code (came ks) l ≡ so_far (ran_of (s ++ l) xs₀ out₀).refusal
      host_part_told l d =
          ap (λ (c : Lists). part_code c l) (as_parts ks b) ∙ part_code_lem (worked ks) (told ks) state_typed lists_there told_two l ∙ part_told xs₀ out₀ lent (parts_in ks) l d

      -- AND GIVE WHAT THE WHOLE GIVES: parts, then the end, against the run of the joined bytes
      abbrev Ended : Lists → Type 0
      Ended c = (end_code c ≡ (end_told c).refusal) × EndsAs s xs₀ out₀ (end_told c) c.records c.answers

      pub host_ends_as_run : Ended (came ks)
      host_ends_as_run =
          let w = worked ks in
          let q = told ks in
          let r = end_told_lem w q state_typed lists_there told_two in
          subst Ended (sym (as_parts ks b))
          (end_code_lem w q state_typed lists_there told_two ∙ sym (ap (λ (x : Told). x.refusal) r), subst (λ (x : Told). EndsAs s xs₀ out₀ x w.records w.answers) (sym r) (ends_as_run xs₀ out₀ lent (parts_in ks) b))

      -- AFTER THE END every call is told what the end told, or 15, and all four lists keep their bits
      abbrev later : ℕ
      later = afterwards (ran_of s xs₀ out₀).refusal

      abbrev Stays : List ℕ → Lists → Type 0
      Stays l c = (part_lists c l ≡ c) × (end_lists c ≡ c) × (part_code c l ≡ later) × (end_code c ≡ later)

      pub host_after_end : (l : List ℕ) → Stays l (end_lists (came ks))
      host_after_end l =
          let w = worked ks in
          let a = w.arrival in
          let q = cond (eqb a.refusal 0) (progress_of (ended a)) (told ks) in
          let v = works (ended a).arrival w.records w.answers in
          let y = rw (lists_lent w.records w.answers lists_there) at (typed_ended a state_typed w.records w.answers) in
          let m = two (eqb a.refusal 0) (ended a) (told ks) told_two in
          let u = number v q y lists_there m in
          let k = fit v q y lists_there m in
          let z : stands_at (carried v q) ≡ 0 → ⊥ = λ x. (after_end a).1 (sym u ∙ x) in
          let r = (ends xs₀ out₀ lent s w (parts_stand xs₀ out₀ lent (parts_in ks) b)).refusal in
          let n = u ∙ (after_end a).0 ∙ ap afterwards r in
          let h = host_stays (carried v q) k z l in
          let g = told_again (carried v q) k z l in
          subst (Stays l) (sym (ap end_lists (as_parts ks b) ∙ end_carries w (told ks) state_typed lists_there told_two))
          (h.0, h.1, g.0 ∙ n, g.1 ∙ n)
