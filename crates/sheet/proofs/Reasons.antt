-- Each refusal of a sheet comes exactly where RULES, section 6, says: `header_of` and `read_of` against specs/Refused.
use mathlib.Core.Path.{◌≡◌, refl, sym, ap, ◌∙◌, subst}
use mathlib.Core.Logic.{◌↔◌, ◌⊎◌, inl, inr}
use mathlib.Core.Bool.{Bool, true, false, cond}
use mathlib.Core.List.{List, [], ◌∷◌, ◌++◌, append_assoc}
use Prim.Native.Nat.{ℕ, ◌+◌, ◌*◌, ◌-◌, ◌%◌, ◌^◌, ◌≤◌, ◌<◌}
use native.Mathlib.Omega.{arith}
use lib.ListN.{length, drop, length-drop}
use lib.Dec.{ltb, eqb}
use borrow.Author.Tests.{ltb-true, eqb-true, eqb-false, lt-ltb, le-ltb, le-leb, eq-eqb, ne_eqb}
use Rattle.record.specs.Layout.{floats}
use Rattle.model.specs.Kinds.{last, one, kinds_of}
use Rattle.sheet.specs.Records.{sheet_floats}
use Rattle.sheet.specs.Sheet.{most, number_at, first_group, word_at, parameter_at, Stopped, parameters_at, padded, refused_by, Open, Shut, after_count, after_parameters, preamble_of, records_end, closed, header_of, read_of}
use Rattle.sheet.specs.Spelling.{spell_number, spell_bytes, spell_words, Below, Fits}
use Rattle.sheet.specs.Refused.{Good, AtCount, AtParameter, AtNumber, at_model, at_count, Reason, no_number, half_number, short_parameter, short_records, not_shortest, third_group, unknown_model, other_flag, count_over, bytes_after, ReasonWithRoom, uneven_room, by_sheet, short_room}
use Rattle.sheet.specs.declared.Number.TheVariants.{Refused as Number_as_Refused}
use Rattle.sheet.specs.declared.Word.TheVariants.{Refused as Word_as_Refused}
use Rattle.sheet.proofs.Bounds.{Refusal}
use Rattle.sheet.proofs.Pieces.{after, bytes_length, number_read, word_read, parameters_read}
use Rattle.sheet.proofs.Format.{accepted, ReadBack, read_back}
use Rattle.sheet.proofs.Refusals as Refusals
use Rattle.sheet.proofs.AllSheets.{Told, good, bad, told, by_test}

-- what a good sheet gives
good_back : (s : List ℕ) (g : Good s) → ReadBack g.model g.parameters g.count g.words s (header_of s)
good_back s g = rw g.spelled (read_back g.model g.parameters g.count g.words g.writable)

-- REFUSED FOR EACH REASON
module _ (s : List ℕ) where
  -- the header at the place of a reason
  module _ (model : ℕ) (l : List ℕ) (h : model < 2 ^ 14) (e : s ≡ spell_number model ++ l) where
    after_number : ℕ
    after_number = 0 + length (spell_number model)

    header_known : model ≤ last → header_of s ≡ closed s (after_parameters s model (parameters_at (kinds_of model) s after_number))
    unfolding header_of preamble_of after_number
    header_known k = rw (number_read s 0 model l h e, le-ltb last model k)

    header_unknown : last < model → header_of s ≡ refused_by 6
    unfolding header_of preamble_of
    header_unknown k = rw (number_read s 0 model l h e, lt-ltb last model k)

    rest_stands : drop after_number s ≡ l
    unfolding after_number
    rest_stands = after s 0 (spell_number model) l (length (spell_number model)) e refl

  module _ (l : List ℕ) (p : AtCount s l) where
    small : p.model < 2 ^ 14
    small = let k = p.known in omega arith

    at_words : ℕ
    at_words = after_number p.model (spell_words p.parameters ++ l) small p.spelled

    place : ℕ
    place = at_words + length (spell_words p.parameters)

    words_stand : drop at_words s ≡ spell_words p.parameters ++ l
    unfolding at_words
    words_stand = rest_stands p.model (spell_words p.parameters ++ l) small p.spelled

    count_stands : drop place s ≡ l
    unfolding place
    count_stands = after s at_words (spell_words p.parameters) l (length (spell_words p.parameters)) words_stand refl

    header_count : header_of s ≡ closed s (after_count p.model (padded p.parameters) (number_at s place))
    unfolding place at_words
    header_count =
        header_known p.model (spell_words p.parameters ++ l) small p.spelled p.known
        ∙ rw (parameters_read s (kinds_of p.model) at_words p.parameters l p.fits words_stand)

  -- a number
  number_refused : (n : ℕ) (l : List ℕ) → ((at : ℕ) → first_group l at ≡ Number_as_Refused n) → AtNumber s l → (header_of s).refusal ≡ n
  unfolding header_of preamble_of number_at
  number_refused n l h (at_model e) = rw (e, h 0)
  number_refused n l h (at_count p) = rw (header_count l p, count_stands l p, h (place l p))

  -- a parameter
  parameters_stop : (n : ℕ) (flag : Bool) (others : List Bool) (l : List ℕ) → ((at : ℕ) → drop at s ≡ l → parameter_at flag s at ≡ Word_as_Refused n)
      → (earlier : List Bool) (ws : List ℕ) (at : ℕ) → Fits earlier ws → drop at s ≡ spell_words ws ++ l → parameters_at (earlier ++ (flag ∷ others)) s at ≡ Stopped n
  unfolding parameters_at parameter_at spell_words
  parameters_stop n flag others l stop [] [] at h d = rw (stop at d)
  parameters_stop n flag others l stop [] (w ∷ ws) at h d = absurd h
  parameters_stop n flag others l stop (kind ∷ earlier) [] at h d = absurd h
  parameters_stop n flag others l stop (kind ∷ earlier) (w ∷ ws) at h d =
      let f = d ∙ append_assoc (spell_bytes 8 w) (spell_words ws) l in
      let g = after s at (spell_bytes 8 w) (spell_words ws ++ l) 8 f (bytes_length 8 w) in
      rw (word_read s at w (spell_words ws ++ l) h.0 f, h.1, parameters_stop n flag others l stop earlier ws (at + 8) h.2 g)

  parameter_refused : (n : ℕ) (flag : Bool) (l : List ℕ) → ((at : ℕ) → drop at s ≡ l → parameter_at flag s at ≡ Word_as_Refused n) → AtParameter s flag l → (header_of s).refusal ≡ n
  parameter_refused n flag l stop p =
      let k = p.known in
      let h : p.model < 2 ^ 14 = omega arith in
      let d = rest_stands p.model (spell_words p.parameters ++ l) h p.spelled in
      rw (header_known p.model (spell_words p.parameters ++ l) h p.spelled k, p.kinds, parameters_stop n flag p.others l stop p.earlier p.parameters _ p.fits d)

  parameter_short : (flag : Bool) (l : List ℕ) → length l < 8 → (at : ℕ) → drop at s ≡ l → parameter_at flag s at ≡ Word_as_Refused 4
  unfolding parameter_at word_at
  parameter_short flag l h at d = rw (d, lt-ltb (length l) 8 h)

  flag_other : (w : ℕ) (l : List ℕ) → w < 2 ^ 64 → (w ≡ 0 → ⊥) → (w ≡ one → ⊥) → (at : ℕ) → drop at s ≡ spell_bytes 8 w ++ l → parameter_at true s at ≡ Word_as_Refused 6
  unfolding parameter_at
  flag_other w l h z o at d = rw (word_read s at w l h d, ne_eqb w 0 z, ne_eqb w one o)

  -- the count and the records
  module _ (count : ℕ) (l : List ℕ) (h : count < 2 ^ 14) (p : AtCount s (spell_number count ++ l)) where
    first : ℕ
    first = place (spell_number count ++ l) p + length (spell_number count)

    header_records : header_of s ≡ closed s (cond (ltb most count) (Shut 7) (Open p.model (padded p.parameters) count first))
    unfolding first
    header_records =
        header_count (spell_number count ++ l) p ∙ rw (number_read s (place (spell_number count ++ l) p) count l h (count_stands (spell_number count ++ l) p))

    records_left : length s - first ≡ length l
    unfolding first
    records_left =
        sym (length-drop first s)
        ∙ ap length (after s (place (spell_number count ++ l) p) (spell_number count) l (length (spell_number count)) (count_stands (spell_number count ++ l) p) refl)

    over : most < count → (header_of s).refusal ≡ 7
    over k = rw (header_records, lt-ltb most count k)

    short : count ≤ most → length l < count * sheet_floats p.model * 8 → (header_of s).refusal ≡ 4
    unfolding records_end
    short k m = rw (header_records, le-ltb most count k, records_left, lt-ltb (length l) (count * sheet_floats p.model * 8) m)

  refused : (n : ℕ) → Reason s n → (header_of s).refusal ≡ n
  refused n (no_number p) = number_refused 4 [] (λ at. refl) p
  refused n (half_number low h p) = number_refused 4 (low ∷ []) (λ at. rw (le-ltb low 128 h)) p
  refused n (short_parameter flag l h p) = parameter_refused 4 flag l (parameter_short flag l h) p
  refused n (short_records count l k p m) = short count l (omega arith) p k m
  refused n (not_shortest low l h p) = number_refused 5 (low ∷ 0 ∷ l) (λ at. rw (le-ltb low 128 h)) p
  refused n (third_group low high l h k p) = number_refused 5 (low ∷ high ∷ l) (λ at. rw (le-ltb low 128 h, le-leb 128 high k)) p
  refused n (unknown_model model l k h e) = rw (header_unknown model l h e k)
  refused n (other_flag w l h z o p) = parameter_refused 6 true (spell_bytes 8 w ++ l) (flag_other w l h z o) p
  refused n (count_over count l k h p) = over count l h p k
  refused n (bytes_after t l g h e) = rw e (Refusals.bytes_after t l h (good_back t g).read)

  -- AND FOR NOTHING ELSE
  module _ (b : Below 256 s) where
    pub good_exactly : ((header_of s).refusal ≡ 0) ↔ Good s
    good_exactly = (of_header, λ g. (good_back s g).read)
      where
        of_header : (header_of s).refusal ≡ 0 → Good s
        of_header z =
            let a = accepted s b z in
            record { model = _; parameters = _; count = _; words = _; writable = a.writable; spelled = a.spelled }

    pub refused_exactly : (n : ℕ) → (n ≡ 0 → ⊥) → ((header_of s).refusal ≡ n) ↔ Reason s n
    refused_exactly n h = (λ e. because e (told s b), refused n)
      where
        because : (header_of s).refusal ≡ n → Told s → Reason s n
        because e (good g) = absurd (h (sym e ∙ (good_back s g).read))
        because e (bad {n = m} r) = subst (Reason s) (sym (refused m r) ∙ e) r

    -- a reading into a room
    module _ (room : ℕ) where
      room_refused : (n : ℕ) → (n ≡ 0 → ⊥) → ReasonWithRoom s room n → (read_of s room).refusal ≡ n
      unfolding read_of
      room_refused n h (uneven_room z) = rw (ne_eqb (room % floats) 0 z)
      room_refused n h (by_sheet z r) =
          let e = refused n r in
          let i : eqb (header_of s).refusal 0 ≡ false = ne_eqb (header_of s).refusal 0 (λ q. h (sym e ∙ q)) in
          rw (eq-eqb (room % floats) 0 z, i) e
      room_refused n h (short_room z g k) =
          let r = good_back s g in
          rw (eq-eqb (room % floats) 0 z, r.read, r.count_is, lt-ltb room (g.count * floats) k)

      room_because : (n : ℕ) → (n ≡ 0 → ⊥) → (read_of s room).refusal ≡ n → ReasonWithRoom s room n
      unfolding read_of
      room_because n h e =
          by_test (eqb (room % floats) 0)
          (λ t. let z = eqb-true (room % floats) 0 t in
          by_test (eqb (header_of s).refusal 0)
          (λ u. let y = eqb-true (header_of s).refusal 0 u in
          let g = good_exactly.0 y in
          let c = (good_back s g).count_is in
          by_test (ltb room ((header_of s).count * floats))
          (λ v. subst (ReasonWithRoom s room) (rw (t, u, v) at e) (short_room z g (rw c at (ltb-true room ((header_of s).count * floats) v))))
          (λ v. absurd (h (sym (rw (t, u, v) at e) ∙ y))))
          (λ u. by_sheet z ((refused_exactly n h).0 (rw (t, u) at e))))
          (λ t. subst (ReasonWithRoom s room) (rw t at e) (uneven_room (eqb-false (room % floats) 0 t)))

      pub read_refused_exactly : (n : ℕ) → (n ≡ 0 → ⊥) → ((read_of s room).refusal ≡ n) ↔ ReasonWithRoom s room n
      read_refused_exactly n h = (room_because n h, room_refused n h)

      -- 8 by itself: no reason of the sheet has that number
      of_8 : (n : ℕ) → n ≡ 8 → ReasonWithRoom s room n → (room % floats ≡ 0 → ⊥) ⊎ ((g : Good s) × (room < g.count * floats))
      of_8 n e (uneven_room z) = inl z
      of_8 n e (by_sheet z r) = absurd (by_case (Refusals.refusal_known s))
        where
          by_case : ((header_of s).refusal ≡ 0) ⊎ Refusal (header_of s).refusal → ⊥
          by_case (inl q) = let f = refused n r in omega arith
          by_case (inr q) = let f = refused n r in omega arith
      of_8 n e (short_room z g k) = inr (g, k)

      to_8 : (room % floats ≡ 0 → ⊥) ⊎ ((g : Good s) × (room < g.count * floats)) → ReasonWithRoom s room 8
      to_8 (inl z) = uneven_room z
      to_8 (inr k) =
          by_test (eqb (room % floats) 0) (λ t. short_room (eqb-true (room % floats) 0 t) k.0 k.1) (λ t. uneven_room (eqb-false (room % floats) 0 t))

      pub room_exactly : ((read_of s room).refusal ≡ 8) ↔ ((room % floats ≡ 0 → ⊥) ⊎ ((g : Good s) × (room < g.count * floats)))
      room_exactly = (λ e. of_8 8 refl (room_because 8 (λ z. omega arith) e), λ c. room_refused 8 (λ z. omega arith) (to_8 c))
