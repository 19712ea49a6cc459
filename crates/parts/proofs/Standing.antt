-- How state and lists stand after some bytes of a sheet, kept by every byte more. Assumes nothing.
use mathlib.Core.Path.{◌≡◌, refl, sym, ap, ◌∙◌, subst}
use mathlib.Core.Logic.{◌⊎◌, inl, inr}
use mathlib.Core.Bool.{Bool, true, false}
use mathlib.Core.List.{List, [], ◌∷◌, ◌++◌, append_assoc, append-nil}
use Prim.Native.Nat.{ℕ, suc, ◌+◌, ◌*◌, ◌-◌, ◌≤◌, ◌<◌}
use native.Mathlib.Omega.{arith}
use native.Mathlib.Numerals.{add-one}
use lib.ListN.{length, take, drop, set, length-append, length-set, length-take, length-drop, drop_of_length-le, take-append-drop, length-replicate}
use lib.Seq.{drop-append-le, drop-nil, take-suc-set, length-take-le}
use lib.Dec.{ltb, eqb}
use borrow.Author.Tests.{ltb-true, ltb-false, lt-ltb, le-ltb, eqb-true, eqb-false}
use Rattle.record.specs.Layout.{floats}
use Rattle.model.specs.Kinds.{last}
use Rattle.particles.specs.Pass.{Worked, record_at, worked, answers, worked_over, answers_over}
use Rattle.model.specs.Fields.{model_of}
use Rattle.particles.proofs.PassLaws.{record_keeps, worked_length, answers_length}
use Rattle.sheet.specs.Records.{sheet_floats, completed}
use Rattle.sheet.specs.Sheet.{most, number_at, words_of, Preamble, Open, Shut, preamble_of, as_header, refused_by, room_at}
use Rattle.sheet.specs.Spelling.{Below}
use Rattle.sheet.specs.declared.Header.{Header}
use Rattle.sheet.proofs.Bounds.{not_0}
use Rattle.sheet.proofs.Known.{Known, preamble_known}
use Rattle.sheet.proofs.Preambles.{Closes, closes}
use Rattle.sheet.proofs.RecordLaws.{floats_least, floats_most}
use Rattle.sheet.proofs.Rooms.{record_read}
use Rattle.sheet_run.specs.Run.{law_of}
use Rattle.parts.specs.declared.Arrival.{Arrival}
use Rattle.parts.specs.Parts.{Work, works, room, held_with, stopped, headed, wanted, worked_by, records_with, answers_with, recorded, records_by, answers_by, next, after, Lent, begun}
use Rattle.parts.specs.Whole.{first_records}
use Rattle.parts.proofs.Cases.{Next, work_is, waiting, headed_on, held_more, whole, over, next_record, next_preamble}
use Rattle.parts.proofs.Cutting.{next_stays}
use Rattle.parts.proofs.MoreBytes.{preamble_stable, ends_late, spelled_out}
use Rattle.parts.proofs.Held.{header_short}
use Rattle.parts.proofs.Growing.{words_front, first_length, first_stay, next_one, next_length, first_more, records_grow, answers_grow}

-- the law that a sheet names before its records
abbrev pub law_by : ℕ → List ℕ → ℕ → ℕ → List ℕ → Worked
law_by model bits count at = law_of (as_header (Open model bits count at))

-- so many records of the bytes from a place on stand worked in front of what the lists held
abbrev pub Listed : List ℕ → List ℕ → (List ℕ → Worked) → ℕ → ℕ → List ℕ → List ℕ → List ℕ → Type 0
Listed xs₀ out₀ law model k bytes xs out =
    (xs ≡ worked law (first_records model k bytes) k ++ drop (k * floats) xs₀)
    × (out ≡ answers law (first_records model k bytes) k ++ drop (k * 2) out₀)

-- the lists keep their lengths
pub listed_lent : (xs₀ out₀ : List ℕ) → Lent xs₀ out₀ → (h : Header) (model k : ℕ) (bytes xs out : List ℕ) → k ≤ most → Listed xs₀ out₀ (law_of h) model k bytes xs out → Lent xs out
listed_lent xs₀ out₀ lent h model k bytes xs out u l =
    let a = worked_length floats (law_of h) (record_keeps (model_of h.model h.parameters)) (first_records model k bytes) k (omega (arith, first_length model k bytes)) in
    let b = answers_length floats (law_of h) (first_records model k bytes) k in
    let c = lent.0 in
    let d = lent.1 in
    (ap length l.0 ∙ simp (length-append, length-drop) (omega arith), ap length l.1 ∙ simp (length-append, length-drop) (omega arith))

-- the bytes s do not make up what stands before the records yet
pub record InPreamble (xs₀ out₀ s : List ℕ) (w : Work) : Type 0 where
  pub shut : preamble_of s ≡ Shut 4
  pub going : w.arrival.refusal ≡ 0
  pub wants : w.arrival.header.refusal ≡ 4
  pub none : w.arrival.complete ≡ 0
  pub kept : w.arrival.kept ≡ length s
  pub held : take w.arrival.kept w.arrival.held ≡ s
  pub places : length w.arrival.held ≡ room
  pub records : w.records ≡ xs₀
  pub answers : w.answers ≡ out₀

pub record InRecords (xs₀ out₀ s : List ℕ) (w : Work) : Type 0 where
  pub model : ℕ
  pub bits : List ℕ
  pub count : ℕ
  pub at : ℕ
  pub opens : preamble_of s ≡ Open model bits count at
  pub going : w.arrival.refusal ≡ 0
  pub header : w.arrival.header ≡ as_header (Open model bits count at)
  pub within : w.arrival.complete ≤ count
  pub bytes : length (drop at s) ≡ w.arrival.complete * sheet_floats model * 8 + w.arrival.kept
  pub short : w.arrival.kept < sheet_floats model * 8
  pub last_whole : w.arrival.complete ≡ count → w.arrival.kept ≡ 0
  pub held : take w.arrival.kept w.arrival.held ≡ drop (w.arrival.complete * sheet_floats model * 8) (drop at s)
  pub places : length w.arrival.held ≡ room
  pub listed : Listed xs₀ out₀ (law_by model bits count at) model w.arrival.complete (drop at s) w.records w.answers

-- a fault before the records
pub record BadPreamble (xs₀ out₀ s : List ℕ) (w : Work) : Type 0 where
  pub number : ℕ
  pub other : number ≡ 4 → ⊥
  pub shut : preamble_of s ≡ Shut number
  pub told : w.arrival.refusal ≡ number
  pub none : w.arrival.complete ≡ 0
  pub records : w.records ≡ xs₀
  pub answers : w.answers ≡ out₀

pub record BytesAfter (xs₀ out₀ s : List ℕ) (w : Work) : Type 0 where
  pub model : ℕ
  pub bits : List ℕ
  pub count : ℕ
  pub at : ℕ
  pub opens : preamble_of s ≡ Open model bits count at
  pub told : w.arrival.refusal ≡ 7
  pub all : w.arrival.complete ≡ count
  pub more : w.arrival.complete * sheet_floats model * 8 < length (drop at s)
  pub listed : Listed xs₀ out₀ (law_by model bits count at) model w.arrival.complete (drop at s) w.records w.answers

pub data Stands (xs₀ out₀ s : List ℕ) (w : Work) : Type 0 where
  in_preamble : InPreamble xs₀ out₀ s w → Stands xs₀ out₀ s w
  in_records : InRecords xs₀ out₀ s w → Stands xs₀ out₀ s w
  bad_preamble : BadPreamble xs₀ out₀ s w → Stands xs₀ out₀ s w
  bytes_after : BytesAfter xs₀ out₀ s w → Stands xs₀ out₀ s w

-- the bytes held with one more
held_next : (a : Arrival) (x : ℕ) (l : List ℕ) → take a.kept a.held ≡ l → length a.held ≡ room → a.kept < room → take (a.kept + 1) (held_with a x) ≡ l ++ (x ∷ [])
held_next a x l t m h = rw (add-one a.kept) (take-suc-set a.held a.kept x (omega arith) ∙ ap (λ (y : List ℕ). y ++ (x ∷ [])) t)

places_stay : (a : Arrival) (x : ℕ) → length a.held ≡ room → length (held_with a x) ≡ room
places_stay a x m = length-set a.held a.kept x ∙ m

-- ---- one byte more
module _ (xs₀ out₀ : List ℕ) (lent : Lent xs₀ out₀) (s : List ℕ) (x : ℕ) (b : Below 256 (s ++ (x ∷ []))) (front : Below 256 s) where
  abbrev longer : List ℕ
  longer = s ++ (x ∷ [])

  to_next : (w : Work) (q : Arrival) (ys us : List ℕ) → Next w.arrival x w.records w.answers q ys us → Stands xs₀ out₀ longer (works q ys us) → Stands xs₀ out₀ longer (next w x)
  to_next w q ys us n h = subst (Stands xs₀ out₀ longer) (work_is (next w x) q ys us n.0 n.1.0 n.1.1) h

  -- before the records
  module _ (w : Work) (p : InPreamble xs₀ out₀ s w) where
    few : w.arrival.kept < room
    few = let h = header_short s p.shut front in let k = p.kept in omega arith

    held_is : take (w.arrival.kept + 1) (held_with w.arrival x) ≡ longer
    held_is = held_next w.arrival x s p.held p.places few

    headed_next : Next w.arrival x w.records w.answers (headed w.arrival x) w.records w.answers
    headed_next = next_preamble w.arrival x w.records w.answers p.going few (λ z. let y = p.wants in omega arith)

    from_preamble : (f : Preamble) → preamble_of longer ≡ f → Stands xs₀ out₀ longer (next w x)
    unfolding worked_over answers_over
    from_preamble (Open model bits count at) e =
        let i = ends_late s (x ∷ []) b model bits count at e p.shut in
        let n = length-append s (x ∷ []) in
        let d : drop at longer ≡ [] = drop_of_length-le longer {i = at} (omega arith) in
        let m : length (drop at longer) ≡ 0 = ap length d in
        let l = floats_least model in
        let g = ap as_header (sym (ap preamble_of held_is ∙ e)) in
        let q = headed_on w.arrival x (as_header (Open model bits count at)) g (λ z. omega arith) in
        to_next w _ w.records w.answers (q ∙ headed_next.0, headed_next.1)
        (in_records (record {
          model = model;
          bits = bits;
          count = count;
          at = at;
          opens = e;
          going = refl;
          header = refl;
          within = omega arith;
          bytes = omega arith;
          short = omega arith;
          last_whole = λ z. refl;
          held = sym (ap (drop (0 * sheet_floats model * 8)) d ∙ drop-nil (0 * sheet_floats model * 8));
          places = places_stay w.arrival x p.places;
          listed = (p.records, p.answers);
        }))
    from_preamble (Shut n) e = tested (eqb n 4) refl
      where
        is : refused_by n ≡ as_header (preamble_of (take (w.arrival.kept + 1) (held_with w.arrival x)))
        is = ap as_header (sym (ap preamble_of held_is ∙ e))

        tested : (c : Bool) → eqb n 4 ≡ c → Stands xs₀ out₀ longer (next w x)
        tested true t =
            let q = waiting w.arrival x (refused_by n) is (eqb-true n 4 t) in
            to_next w _ w.records w.answers (q ∙ headed_next.0, headed_next.1)
            (in_preamble (record {
              shut = e ∙ ap Shut (eqb-true n 4 t);
              going = refl;
              wants = eqb-true n 4 t;
              none = refl;
              kept = omega (arith, p.kept, length-append s (x ∷ []));
              held = held_is;
              places = places_stay w.arrival x p.places;
              records = p.records;
              answers = p.answers;
            }))
        tested false t =
            let q = headed_on w.arrival x (refused_by n) is (eqb-false n 4 t) in
            to_next w _ w.records w.answers (q ∙ headed_next.0, headed_next.1)
            (bad_preamble (record {
              number = n;
              other = eqb-false n 4 t;
              shut = e;
              told = refl;
              none = refl;
              records = p.records;
              answers = p.answers;
            }))

  -- behind them what stood before stays
  stays : (f : Preamble) → preamble_of s ≡ f → (f ≡ Shut 4 → ⊥) → preamble_of longer ≡ f
  stays f e n = by_case (preamble_stable s (x ∷ []))
    where
      by_case : (preamble_of s ≡ Shut 4) ⊎ (preamble_of longer ≡ preamble_of s) → preamble_of longer ≡ f
      by_case (inl z) = absurd (n (sym e ∙ z))
      by_case (inr q) = q ∙ e

  module _ (model : ℕ) (bits : List ℕ) (count at : ℕ) (e : preamble_of s ≡ Open model bits count at) where
    open_stays : preamble_of longer ≡ Open model bits count at
    open_stays = stays (Open model bits count at) e (λ q. let z : ◌≡◌ {A = ℕ} 0 1 = cc in omega arith)

    inside : (at ≤ length s) × (count ≤ most)
    inside = subst (Closes (length s)) e (closes s)

    rest_more : drop at longer ≡ drop at s ++ (x ∷ [])
    rest_more = drop-append-le at s (x ∷ []) inside.0

    rest_length : length (drop at longer) ≡ suc (length (drop at s))
    rest_length = ap length rest_more ∙ omega (arith, length-append (drop at s) (x ∷ []))

    -- the records complete so far
    module _ (k : ℕ) (h : k * sheet_floats model * 8 ≤ length (drop at s)) where
      first_same : first_records model k (drop at longer) ≡ first_records model k (drop at s)
      first_same = ap (first_records model k) rest_more ∙ first_stay model k (drop at s) (x ∷ []) h

      listed_same : (xs out : List ℕ) → Listed xs₀ out₀ (law_by model bits count at) model k (drop at s) xs out → Listed xs₀ out₀ (law_by model bits count at) model k (drop at longer) xs out
      listed_same xs out l = (rw first_same l.0, rw first_same l.1)

  -- in the records
  module _ (w : Work) (p : InRecords xs₀ out₀ s w) where
    abbrev a : Arrival
    a = w.arrival

    abbrev k : ℕ
    k = w.arrival.complete

    abbrev F : ℕ
    F = sheet_floats p.model

    complete_there : k * F * 8 ≤ length (drop p.at s)
    complete_there = let e = p.bytes in omega arith

    few_kept : a.kept < room
    few_kept = let h = p.short in let m = floats_most p.model in omega arith

    longer_open : preamble_of longer ≡ Open p.model p.bits p.count p.at
    longer_open = open_stays p.model p.bits p.count p.at p.opens

    longer_bytes : length (drop p.at longer) ≡ k * F * 8 + (a.kept + 1)
    longer_bytes = let e = p.bytes in omega (arith, rest_length p.model p.bits p.count p.at p.opens)

    held_longer : take (a.kept + 1) (held_with a x) ≡ drop (k * F * 8) (drop p.at longer)
    held_longer =
        held_next a x (drop (k * F * 8) (drop p.at s)) p.held p.places few_kept
        ∙ sym (ap (drop (k * F * 8)) (rest_more p.model p.bits p.count p.at p.opens) ∙ drop-append-le (k * F * 8) (drop p.at s) (x ∷ []) complete_there)

    listed_longer : Listed xs₀ out₀ (law_by p.model p.bits p.count p.at) p.model k (drop p.at longer) w.records w.answers
    listed_longer = listed_same p.model p.bits p.count p.at p.opens k complete_there w.records w.answers p.listed

    named_model : a.header.model ≡ p.model
    named_model = ap (λ (h : Header). h.model) p.header

    named_count : a.header.count ≡ p.count
    named_count = ap (λ (h : Header). h.count) p.header

    named_there : Known a.header
    named_there = subst Known (ap as_header p.opens ∙ sym p.header) (preamble_known s)

    recorded_next : Next a x w.records w.answers (recorded a x) (records_by a x w.records) (answers_by a x w.records w.answers)
    recorded_next = next_record a x w.records w.answers p.going few_kept (ap (λ (h : Header). h.refusal) p.header)

    -- a record is wanted
    module _ (want : k < p.count) where
      under : k < most
      under = let i = inside p.model p.bits p.count p.at p.opens in omega arith

      wants : wanted a ≡ true
      wants = rw (named_count, lt-ltb k p.count want, lt-ltb k most under)

      more_held : a.kept + 1 < F * 8 → Stands xs₀ out₀ longer (next w x)
      more_held h =
          let m = held_more a x w.records w.answers wants (rw named_model h) in
          let n = recorded_next in
          to_next w _ w.records w.answers (m.0 ∙ n.0, (m.1.0 ∙ n.1.0, m.1.1 ∙ n.1.1))
          (in_records (record {
            model = p.model;
            bits = p.bits;
            count = p.count;
            at = p.at;
            opens = longer_open;
            going = refl;
            header = p.header;
            within = p.within;
            bytes = longer_bytes;
            short = h;
            last_whole = λ z. absurd (omega arith);
            held = held_longer;
            places = places_stay a x p.places;
            listed = listed_longer;
          }))

      -- its last byte came
      module _ (h : F * 8 ≤ a.kept + 1) where
        full : a.kept + 1 ≡ F * 8
        full = let i = p.short in omega arith

        abbrev law : List ℕ → Worked
        law = law_by p.model p.bits p.count p.at

        abbrev new : List ℕ
        new = next_one p.model k (drop p.at longer)

        record_long : length (record_at w.records k) ≡ floats
        record_long =
            let n = (listed_lent xs₀ out₀ lent (as_header (Open p.model p.bits p.count p.at)) p.model k (drop p.at s) w.records w.answers (omega (arith, under)) p.listed).0 in
            let u = under in
            simp (length-take, length-drop) (omega arith)

        held_words : words_of F (held_with a x) ≡ words_of F (drop (k * F * 8) (drop p.at longer))
        held_words =
            let n : length (take (a.kept + 1) (held_with a x)) ≡ a.kept + 1 = length-take-le (a.kept + 1) (held_with a x) (let q = places_stay a x p.places in let f = few_kept in omega arith) in
            ap (words_of F) (sym (take-append-drop (a.kept + 1) (held_with a x)))
            ∙ words_front F (take (a.kept + 1) (held_with a x)) (drop (a.kept + 1) (held_with a x)) (omega arith)
            ∙ ap (words_of F) held_longer

        read_is : room_at p.model (held_with a x) 0 (record_at w.records k) ≡ new
        unfolding next_one
        read_is =
            let q = places_stay a x p.places in
            let m = floats_most p.model in
            let known = (spelled_out s front p.model p.bits p.count p.at p.opens).known in
            sym (record_read p.model (held_with a x) 0 (record_at w.records k) record_long known new (omega arith) (ap (completed p.model) (sym held_words))).1

        worked_is : worked_by a.header (held_with a x) (record_at w.records k) ≡ law new
        unfolding worked_by
        worked_is =
            ap (λ (t : Header). law_of t (room_at t.model (held_with a x) 0 (record_at w.records k))) p.header ∙ ap law read_is

        grown : Listed xs₀ out₀ law p.model (suc k) (drop p.at longer) (records_with a.header k (held_with a x) w.records) (answers_with a.header k (held_with a x) w.records w.answers)
        grown =
            let f = first_more p.model k (drop p.at longer) in
            let l = listed_longer in
            let i = first_length p.model k (drop p.at longer) in
            let j = next_length p.model k (drop p.at longer) in
            let o = under in
            let u = lent.1 in (
              rw (worked_is, f) (records_grow law (first_records p.model k (drop p.at longer)) new k i j (record_keeps (model_of p.model p.bits)) xs₀ w.records l.0),
              rw (worked_is, f) (answers_grow law (first_records p.model k (drop p.at longer)) new k i j out₀ w.answers (omega arith) l.1),
            )

        record_done : Stands xs₀ out₀ longer (next w x)
        record_done =
            let m = whole a x w.records w.answers wants (rw named_model h) named_there in
            let n = recorded_next in
            let q = full in
            let j = add-one k in
            let d : drop ((k + 1) * F * 8) (drop p.at longer) ≡ [] = drop_of_length-le (drop p.at longer) {i = (k + 1) * F * 8} (omega (arith, longer_bytes)) in
            to_next w _ _ _ (m.0 ∙ n.0, (m.1.0 ∙ n.1.0, m.1.1 ∙ n.1.1))
            (in_records (record {
              model = p.model;
              bits = p.bits;
              count = p.count;
              at = p.at;
              opens = longer_open;
              going = refl;
              header = p.header;
              within = omega arith;
              bytes = omega (arith, longer_bytes);
              short = let l = floats_least p.model in omega arith;
              last_whole = λ z. refl;
              held = sym d;
              places = places_stay a x p.places;
              listed = rw j grown;
            }))

      wanted_next : Stands xs₀ out₀ longer (next w x)
      wanted_next = tested (ltb (a.kept + 1) (F * 8)) refl
        where
          tested : (c : Bool) → ltb (a.kept + 1) (F * 8) ≡ c → Stands xs₀ out₀ longer (next w x)
          tested true t = more_held (ltb-true (a.kept + 1) (F * 8) t)
          tested false t = record_done (ltb-false (a.kept + 1) (F * 8) t)

    -- none is wanted: the byte follows the last
    over_next : p.count ≤ k → Stands xs₀ out₀ longer (next w x)
    over_next h =
        let c = le-ltb k p.count h in
        let i = p.within in
        let o = over a x w.records w.answers (rw (named_count, c)) in
        let n = recorded_next in
        to_next w _ w.records w.answers (o.0 ∙ n.0, (o.1.0 ∙ n.1.0, o.1.1 ∙ n.1.1))
        (bytes_after (record {
          model = p.model;
          bits = p.bits;
          count = p.count;
          at = p.at;
          opens = longer_open;
          told = refl;
          all = omega arith;
          more = omega (arith, longer_bytes);
          listed = listed_longer;
        }))

    from_records : Stands xs₀ out₀ longer (next w x)
    from_records = tested (ltb k p.count) refl
      where
        tested : (c : Bool) → ltb k p.count ≡ c → Stands xs₀ out₀ longer (next w x)
        tested true t = wanted_next (ltb-true k p.count t)
        tested false t = over_next (ltb-false k p.count t)

  -- after a fault
  from_bad : (w : Work) → BadPreamble xs₀ out₀ s w → Stands xs₀ out₀ longer w
  from_bad w p =
      bad_preamble (record {
        number = p.number;
        other = p.other;
        shut = stays (Shut p.number) p.shut (λ q. p.other cc);
        told = p.told;
        none = p.none;
        records = p.records;
        answers = p.answers;
      })

  from_after : (w : Work) → BytesAfter xs₀ out₀ s w → Stands xs₀ out₀ longer w
  from_after w p =
      let m = p.more in
      bytes_after (record {
        model = p.model;
        bits = p.bits;
        count = p.count;
        at = p.at;
        opens = open_stays p.model p.bits p.count p.at p.opens;
        told = p.told;
        all = p.all;
        more = omega (arith, rest_length p.model p.bits p.count p.at p.opens);
        listed = listed_same p.model p.bits p.count p.at p.opens w.arrival.complete (omega arith) w.records w.answers p.listed;
      })

  pub next_stands : (w : Work) → Stands xs₀ out₀ s w → Stands xs₀ out₀ longer (next w x)
  next_stands w (in_preamble p) = from_preamble w p (preamble_of longer) refl
  next_stands w (in_records p) = from_records w p
  next_stands w (bad_preamble p) =
      let n = not_0 p.number (subst (Closes (length s)) p.shut (closes s)) in
      subst (Stands xs₀ out₀ longer) (sym (next_stays w (λ z. n (sym p.told ∙ z)) x)) (from_bad w p)
  next_stands w (bytes_after p) =
      subst (Stands xs₀ out₀ longer) (sym (next_stays w (λ z. let t = p.told in omega arith) x)) (from_after w p)

-- ---- before the first byte, and any bytes more
pub at_start : (xs₀ out₀ : List ℕ) → Stands xs₀ out₀ [] (works begun xs₀ out₀)
unfolding preamble_of number_at
at_start xs₀ out₀ =
    in_preamble (record {
      shut = refl;
      going = refl;
      wants = refl;
      none = refl;
      kept = refl;
      held = refl;
      places = length-replicate {A = ℕ} room 0;
      records = refl;
      answers = refl;
    })

pub below_front : (n : ℕ) (p l : List ℕ) → Below n (p ++ l) → Below n p
below_front n [] l h = tt
below_front n (x ∷ p) l h = (h.0, below_front n p l h.1)

module _ (xs₀ out₀ : List ℕ) (lent : Lent xs₀ out₀) where
  pub after_stands : (s l : List ℕ) → Below 256 (s ++ l) → (w : Work) → Stands xs₀ out₀ s w → Stands xs₀ out₀ (s ++ l) (after w l)
  unfolding after
  after_stands s [] b w h = rw append-nil h
  after_stands s (x ∷ l) b w h =
      let a : (s ++ (x ∷ [])) ++ l ≡ s ++ (x ∷ l) = append_assoc s (x ∷ []) l in
      let c : Below 256 ((s ++ (x ∷ [])) ++ l) = rw a b in
      let d = below_front 256 (s ++ (x ∷ [])) l c in
      rw a at (after_stands (s ++ (x ∷ [])) l c (next w x) (next_stands xs₀ out₀ lent s x d (below_front 256 s (x ∷ []) d) w h))

  -- a state that stands is answered, and its lists are lent
  pub stands_lent : (s : List ℕ) (w : Work) → Stands xs₀ out₀ s w → Lent w.records w.answers
  stands_lent s w (in_preamble p) = rw (p.records, p.answers) lent
  stands_lent s w (in_records p) =
      let i = subst (Closes (length s)) p.opens (closes s) in
      let u = p.within in
      listed_lent xs₀ out₀ lent (as_header (Open p.model p.bits p.count p.at)) p.model w.arrival.complete (drop p.at s) w.records w.answers (omega (arith, i.1)) p.listed
  stands_lent s w (bad_preamble p) = rw (p.records, p.answers) lent
  stands_lent s w (bytes_after p) =
      let i = subst (Closes (length s)) p.opens (closes s) in
      let u = p.all in
      listed_lent xs₀ out₀ lent (as_header (Open p.model p.bits p.count p.at)) p.model w.arrival.complete (drop p.at s) w.records w.answers (omega (arith, i.1)) p.listed
