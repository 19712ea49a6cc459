-- Reading what was written, and writing what was read. The floats are bits: each is below 2^64, each byte below 256.
use mathlib.Core.Path.{◌≡◌, refl, sym, ap, ◌∙◌, subst}
use mathlib.Core.Bool.{Bool, true, false, ◌&&◌}
use mathlib.Core.List.{List, [], ◌∷◌, ◌++◌}
use Prim.Native.Nat.{ℕ, zero, suc, ◌+◌, ◌*◌, ◌/◌, ◌%◌, ◌^◌, ◌≤◌, ◌<◌}
use native.Mathlib.Omega.{arith}
use native.Mathlib.Nat.{mul-le-mul}
use native.Mathlib.Numerals.{add-one}
use lib.ListN.{length, get_or, take, drop, length-drop}
use lib.Seq.{drop-cons, take_at, drop_at}
use borrow.Author.Tests.{lt-ltb, ne_eqb}
use Rattle.numbers.proofs.Laws.{and_both}
use Rattle.model.specs.Kinds.{kinds_of, allowed, flags_allowed}
use Rattle.model.proofs.KindLaws.{kinds_most}
use Rattle.record.specs.Layout.{floats}
use Rattle.sheet.specs.Records.{sheet_floats, dropped, each, list_words, sheet_words, AllRight}
use Rattle.sheet.specs.Sheet as sheet
use Rattle.sheet.specs.Sheet.{most, words_in, records_of, header_of, read_of}
use Rattle.sheet.specs.Spelling.{spell_number, spell, Below, Fits, Writable, parameters_of}
use Rattle.sheet.proofs.Pieces.{below_take, below_drop, below_append, fits_length}
use Rattle.sheet.proofs.RecordLaws.{floats_most, list_length, sheet_list, list_sheet}
use Rattle.sheet.proofs.RecordLaws as records
use Rattle.sheet.proofs.Rooms.{good}
use Rattle.sheet.proofs.Format.{Accepted, accepted, ReadBack, read_back}
use Rattle.sheet.specs.declared.Header.{Header}
use Rattle.writer.specs.declared.Written.TheVariants.{Length, Refused}
use Rattle.writer.specs.Writer.{count_of, sheet_of, refusal_of, written_of, room_of}
use Rattle.writer.specs.Reasons.{Listed, Named, Reason, short_room, Fine}
use Rattle.writer.proofs.Cases.{number_most}
use Rattle.writer.proofs.Stages.{sheet_length}
use Rattle.writer.proofs.Reasons.{told, written, fine}

-- ---- flags by place, and one by one
-- the places from i on
abbrev From : List Bool → ℕ → List ℕ → Type 0
From flags i p = length p ≡ i + length flags

fitting : (flags : List Bool) (i : ℕ) (p : List ℕ) → From flags i p → Below (2 ^ 64) (drop i p) → flags_allowed i flags p ≡ true → Fits flags (drop i p)
fitting [] i p n b f = subst (Fits []) (sym (nothing (drop i p) (length-drop i p ∙ omega (arith, n)))) tt
  where
    nothing : (l : List ℕ) → length l ≡ 0 → l ≡ []
    nothing [] e = refl
    nothing (x ∷ l) e = absurd (omega (arith, e))
fitting (flag ∷ flags) i p n b f =
    let c = drop-cons p i 0 (omega (arith, n)) in
    let a = and_both (allowed flag (get_or p i 0)) (flags_allowed (i + 1) flags p) f in
    let d = subst (Below (2 ^ 64)) c b in
    let r = fitting flags (i + 1) p (n ∙ omega arith) (subst (λ (k : ℕ). Below (2 ^ 64) (drop k p)) (sym (add-one i)) d.1) a.1 in
    subst (Fits (flag ∷ flags)) (sym c) (d.0, a.0, subst (λ (k : ℕ). Fits flags (drop k p)) (add-one i) r)

allowing : (flags : List Bool) (i : ℕ) (p : List ℕ) → From flags i p → Fits flags (drop i p) → flags_allowed i flags p ≡ true
allowing [] i p n f = refl
allowing (flag ∷ flags) i p n f =
    let g = subst (Fits (flag ∷ flags)) (drop-cons p i 0 (omega (arith, n))) f in
    rw g.1 (allowing flags (i + 1) p (n ∙ omega arith) (subst (λ (k : ℕ). Fits flags (drop k p)) (sym (add-one i)) g.2))

one_group : (n : ℕ) → n < 128 → length (spell_number n) ≤ 1
unfolding spell_number
one_group n h = rw (lt-ltb n 128 h) (omega arith)

-- the floats of a sheet are floats of the list
dropped_below : (b model n : ℕ) (words : List ℕ) → Below b words → Below b (sheet_words model n words)
unfolding each dropped
dropped_below b model zero words h = tt
dropped_below b model (suc n) words h =
    let r = drop (n * floats) words in
    below_append b (sheet_words model n words) (take (sheet_floats model) (take floats r)) (dropped_below b model n words h)
    (below_take b (sheet_floats model) (take floats r) (below_take b floats r (below_drop b (n * floats) words h)))

module _ (model : ℕ) (p words : List ℕ) where
  -- the records as the sheet has them
  abbrev in_sheet : List ℕ
  in_sheet = sheet_words model (count_of words) words

  even_length : length words % floats ≡ 0 → length words ≡ count_of words * floats
  even_length e = omega arith

  -- ---- what is written can be read
  module _ (room : ℕ) (bp : Below (2 ^ 64) p) (bw : Below (2 ^ 64) words) where
    writable : Fine model p words room → Writable model p (count_of words) in_sheet
    writable f =
        let l = f.named.listed in
        record {
          known = l.known;
          fits = fitting (kinds_of model) 0 p (l.many ∙ omega arith) bp f.named.flags;
          few = f.few;
          whole = records.sheet_length model (count_of words) words (even_length l.even);
          bits = dropped_below (2 ^ 64) model (count_of words) words bw;
        }

    module _ (e : refusal_of model p words room ≡ 0) where
      -- model, parameters, count, and of every record each bit that is in the sheet
      pub reads_back : ReadBack model p (count_of words) in_sheet (sheet_of model p words) (header_of (sheet_of model p words))
      unfolding sheet_of
      reads_back = read_back model p (count_of words) in_sheet (writable (fine model p words room e))

      -- what `read` then delivers: where the sheet has no determinant, it is filled in
      pub delivered : records_of (sheet_of model p words) (header_of (sheet_of model p words)) ≡ list_words model (count_of words) in_sheet
      delivered = let r = reads_back in rw (r.words_are, r.model_is, r.count_is)

      -- and where each determinant was right, or is in the sheet, every bit of every record
      pub same_records : AllRight model (count_of words) words → records_of (sheet_of model p words) (header_of (sheet_of model p words)) ≡ words
      same_records r =
          delivered ∙ list_sheet model (count_of words) words (even_length (fine model p words room e).named.listed.even) r

  -- ---- the room: the sheet, then its own bytes
  pub record Room (room after : List ℕ) : Type 0 where
    pub sheet : take (length (sheet_of model p words)) after ≡ sheet_of model p words
    pub rest : drop (length (sheet_of model p words)) after ≡ drop (length (sheet_of model p words)) room

  pub in_room : (room : List ℕ) → refusal_of model p words (length room) ≡ 0
      → (written_of model p words (length room) ≡ Length (length (sheet_of model p words))) × Room room (room_of model p words room)
  unfolding written_of room_of
  in_room room e =
      let s = sheet_of model p words in
      let n : 0 + length s ≡ length s = omega arith in
      rw e (refl, record { sheet = take_at s _ (length s) refl; rest = drop_at s _ (length s) refl ∙ ap (λ (k : ℕ). drop k room) n })

  -- WHAT `write` LEAVES IN A ROOM, `read` READS BACK, into any room of whole records with place for them
  module _ (room ys : List ℕ) (bp : Below (2 ^ 64) p) (bw : Below (2 ^ 64) words) (e : refusal_of model p words (length room) ≡ 0) (even : length ys % floats ≡ 0) (place : count_of words * floats ≤ length ys) where
    -- the bytes that it tells of
    abbrev bytes : List ℕ
    bytes = take (length (sheet_of model p words)) (room_of model p words room)

    back : ReadBack model p (count_of words) in_sheet (sheet_of model p words) (header_of (sheet_of model p words))
    back = reads_back (length room) bp bw e

    read_in : let s = sheet_of model p words in (header_of s ≡ read_of s (length ys)) × (records_of s (header_of s) ++ drop ((header_of s).count * floats) ys ≡ sheet.room_of s ys)
    read_in = good (sheet_of model p words) ys (header_of (sheet_of model p words)) refl even back.read _ (rw back.count_is place) refl

    pub room_reads_back : ReadBack model p (count_of words) in_sheet bytes (read_of bytes (length ys))
    room_reads_back =
        subst (λ (s : List ℕ). ReadBack model p (count_of words) in_sheet s (read_of s (length ys))) (sym (in_room room e).1.sheet)
        (subst (ReadBack model p (count_of words) in_sheet (sheet_of model p words)) read_in.0 back)

    -- every bit of every record, where each determinant was right or is in the sheet
    pub room_same_records : AllRight model (count_of words) words → sheet.room_of bytes ys ≡ words ++ drop (length words) ys
    room_same_records r =
        let n = even_length (fine model p words (length room) e).named.listed.even in
        subst (λ (s : List ℕ). sheet.room_of s ys ≡ words ++ drop (length words) ys) (sym (in_room room e).1.sheet)
        (sym read_in.1 ∙ ap (λ (k : ℕ). records_of (sheet_of model p words) (header_of (sheet_of model p words)) ++ drop k ys) (ap (λ (k : ℕ). k * floats) back.count_is ∙ sym n)
        ∙ ap (λ (l : List ℕ). l ++ drop (length words) ys) (same_records (length room) bp bw e r))

  -- a refusal keeps the room
  pub kept : (room : List ℕ) (n : ℕ) → (n ≡ 0 → ⊥) → refusal_of model p words (length room) ≡ n
      → (written_of model p words (length room) ≡ Refused n) × (room_of model p words room ≡ room)
  unfolding written_of room_of
  kept room n h e = rw (e, ne_eqb n 0 h) (refl, refl)

  -- a room one byte short
  pub one_short : (room : List ℕ) → suc (length room) ≡ length (sheet_of model p words) → refusal_of model p words (suc (length room)) ≡ 0
      → (written_of model p words (length room) ≡ Refused 9) × (room_of model p words room ≡ room)
  one_short room n e =
      let f = fine model p words (suc (length room)) e in
      kept room 9 (λ z. omega (arith, z)) (told model p words (length room) 9 (short_room f.named f.few (omega (arith, n))))

  -- the longest sheet
  pub longest : (room : ℕ) → refusal_of model p words room ≡ 0 → length (sheet_of model p words) ≤ 1 + 8 * 8 + 2 + most * floats * 8
  longest room e =
      let f = fine model p words room e in
      let l = f.named.listed in
      let v = l.even in
      let w = f.few in
      let k = kinds_most model in
      let m = mul-le-mul w (floats_most model) in
      rw (sheet_length model p words, l.many) (omega (arith, v, w, k, m, number_most (count_of words), one_group model (let q = l.known in omega (arith, q))))

-- ---- what is read can be written, to the same bytes
module _ (s : List ℕ) (b : Below 256 s) (e : (header_of s).refusal ≡ 0) where
  abbrev h : Header
  h = header_of s

  counted : count_of (records_of s h) ≡ h.count
  counted = let w = list_length h.model h.count (words_in s h) (accepted s b e).writable.whole in omega (arith, w)

  pub same_bytes : sheet_of h.model (parameters_of h) (records_of s h) ≡ s
  unfolding sheet_of
  same_bytes =
      ap (λ (n : ℕ). spell h.model (parameters_of h) n (sheet_words h.model n (records_of s h))) counted
      ∙ ap (spell h.model (parameters_of h) h.count) (sheet_list h.model h.count (words_in s h) (accepted s b e).writable.whole)
      ∙ sym (accepted s b e).spelled

  pub rewritten : (room : ℕ) → length s ≤ room → refusal_of h.model (parameters_of h) (records_of s h) room ≡ 0
  rewritten room r =
      let w = (accepted s b e).writable in
      let n = fits_length (kinds_of h.model) (parameters_of h) w.fits in
      written h.model (parameters_of h) (records_of s h) room
      (record {
        named = record {
          listed = record { even = let v = list_length h.model h.count (words_in s h) w.whole in omega (arith, v); known = w.known; many = n };
          flags = allowing (kinds_of h.model) 0 (parameters_of h) (n ∙ omega arith) w.fits;
        };
        few = let v = counted in let f = w.few in omega (arith, v, f);
        place = rw same_bytes r;
      })
