-- `read_of` and `room_of` case by case, each from the tests that lead to it.
use mathlib.Core.Path.{◌≡◌, refl, ◌∙◌}
use mathlib.Core.List.{List, ◌++◌}
use Prim.Native.Nat.{ℕ, ◌+◌, ◌*◌, ◌-◌, ◌%◌, ◌≤◌, ◌<◌}
use native.Mathlib.Omega.{arith}
use lib.ListN.{length, drop}
use borrow.Author.Tests.{lt-ltb, le-ltb, eq-eqb, ne_eqb}
use Rattle.record.specs.Layout.{floats}
use Rattle.model.specs.Kinds.{last}
use Rattle.sheet.specs.Records.{sheet_floats, completed}
use Rattle.sheet.specs.Sheet.{refused_by, header_of, words_of, records_of, fitted, read_of, room_of, record_at, placed, room_at}
use Rattle.sheet.specs.declared.Place.{Place}
use Rattle.sheet.specs.declared.Place.TheVariants.{Next as Place_as_Next, Refused as Place_as_Refused}
use Rattle.sheet.specs.declared.Header.{Header}
use Rattle.sheet.proofs.RecordLaws.{floats_least}

module _ (s room : List ℕ) where
  -- the header returned settles the room
  kept : (h : Header) → h ≡ read_of s (length room) → (h.refusal ≡ 0 → ⊥) → room ≡ room_of s room
  unfolding room_of
  kept h e n = rw (← e, ne_eqb h.refusal 0 n)

  refused_8 : (r : Header) → r ≡ refused_by 8 → refused_by 8 ≡ read_of s (length room) → (r ≡ read_of s (length room)) × (room ≡ room_of s room)
  refused_8 r e f = (e ∙ f, kept (refused_by 8) f (λ z. omega (arith, z)))

  pub odd : (r : Header) → r ≡ refused_by 8 → (length room % floats ≡ 0 → ⊥) → (r ≡ read_of s (length room)) × (room ≡ room_of s room)
  unfolding read_of
  odd r e n = refused_8 r e (rw (ne_eqb (length room % floats) 0 n))

  module _ (h : Header) (e : h ≡ header_of s) (m : length room % floats ≡ 0) where
    even : read_of s (length room) ≡ fitted h (length room)
    unfolding read_of
    even = rw (eq-eqb (length room % floats) 0 m, ← e)

    pub bad : (h.refusal ≡ 0 → ⊥) → (h ≡ read_of s (length room)) × (room ≡ room_of s room)
    bad n =
        let f : h ≡ read_of s (length room) = rw (even, ne_eqb h.refusal 0 n) in
        (f, kept h f n)

    module _ (z : h.refusal ≡ 0) where
      pub narrow : (r : Header) → r ≡ refused_by 8 → length room < h.count * floats → (r ≡ read_of s (length room)) × (room ≡ room_of s room)
      narrow r q l = refused_8 r q (rw (even, eq-eqb h.refusal 0 z, lt-ltb (length room) (h.count * floats) l))

      pub good : (out : List ℕ) → h.count * floats ≤ length room → out ≡ records_of s h ++ drop (h.count * floats) room
          → (h ≡ read_of s (length room)) × (out ≡ room_of s room)
      unfolding room_of
      good out l q =
          let f : h ≡ read_of s (length room) = rw (even, eq-eqb h.refusal 0 z, le-ltb (length room) (h.count * floats) l) in
          (f, rw (← f, eq-eqb h.refusal 0 z) q)

-- one record
module _ (model : ℕ) (s : List ℕ) (at : ℕ) (room : List ℕ) where
  abbrev Settles : Place → List ℕ → Type 0
  Settles p out = (p ≡ record_at model s at (length room)) × (out ≡ room_at model s at room)

  settled : (p : Place) (out : List ℕ) → p ≡ record_at model s at (length room) → out ≡ placed p (completed model (words_of (sheet_floats model) (drop at s))) room → Settles p out
  unfolding room_at
  settled p out e f = (e, rw (← e) f)

  pub other_size : (length room ≡ floats → ⊥) → Settles (Place_as_Refused 8) room
  unfolding record_at
  other_size n = settled (Place_as_Refused 8) room (rw (ne_eqb (length room) floats n)) refl

  module _ (m : length room ≡ floats) where
    pub other_model : last < model → Settles (Place_as_Refused 6) room
    unfolding record_at
    other_model k = settled (Place_as_Refused 6) room (rw (eq-eqb (length room) floats m, lt-ltb last model k)) refl

    module _ (k : model ≤ last) where
      pub record_short : length s - at < sheet_floats model * 8 → Settles (Place_as_Refused 4) room
      unfolding record_at
      record_short l =
          settled (Place_as_Refused 4) room (rw (eq-eqb (length room) floats m, le-ltb last model k, lt-ltb (length s - at) (sheet_floats model * 8) l)) refl

      pub record_late : length s < at → Settles (Place_as_Refused 4) room
      record_late l = record_short (let z = floats_least model in omega arith)

      pub record_read : (out : List ℕ) → sheet_floats model * 8 ≤ length s - at → out ≡ completed model (words_of (sheet_floats model) (drop at s))
          → Settles (Place_as_Next (at + sheet_floats model * 8)) out
      unfolding record_at
      record_read out l e =
          settled (Place_as_Next (at + sheet_floats model * 8)) out (rw (eq-eqb (length room) floats m, le-ltb last model k, le-ltb (length s - at) (sheet_floats model * 8) l)) e
