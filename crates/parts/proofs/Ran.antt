-- The run of a whole sheet with lists for 200 particles: its refusal, and of a good sheet its records, answers and counts. Assumes nothing.
use mathlib.Core.Path.{◌≡◌, refl, sym, ap, ◌∙◌}
use mathlib.Core.Bool.{Bool, true, false, cond}
use mathlib.Core.List.{List, ◌++◌}
use Prim.Native.Nat.{ℕ, ◌*◌, ◌/◌, ◌≤◌}
use native.Mathlib.Omega.{arith}
use lib.ListN.{length, take, drop, length-take}
use lib.Seq.{take_at, drop_at}
use lib.Dec.{ltb, eqb}
use borrow.Author.Tests.{le-ltb, eqb-true, eq-eqb, ne_eqb}
use Rattle.record.specs.Layout.{floats}
use Rattle.particles.specs.Pass.{well_sized, worked, answers, counts, three_of}
use Rattle.sheet.specs.Sheet.{most, refused_by, header_of, read_of, records_of, room_of}
use Rattle.sheet.specs.declared.Header.{Header}
use Rattle.sheet.proofs.ReadFrom.{few}
use Rattle.sheet_run.specs.Run.{law_of, front_of, front_records, front_answers, ran_of, ran_records, ran_answers}
use Rattle.sheet_run.proofs.Rooms.{records_length}
use Rattle.sheet_run.proofs.Parts.{well}
use Rattle.parts.specs.Parts.{Lent}

module _ (s xs out : List ℕ) (lent : Lent xs out) where
  sized : well_sized xs out ≡ true
  sized = well xs out most lent

  -- there is room for every sheet
  fits : (h : Header) → h ≡ header_of s → (z : Bool) → eqb h.refusal 0 ≡ z → cond z (cond (ltb (most * floats) (h.count * floats)) (refused_by 8) h) h ≡ h
  fits h e true t =
      let c = few s h e (eqb-true h.refusal 0 t) in
      let l : h.count * floats ≤ most * floats = omega arith in
      rw (le-ltb (most * floats) (h.count * floats) l)
  fits h e false t = refl

  read_is : read_of s (length xs) ≡ header_of s
  unfolding read_of
  read_is = rw lent.0 (fits (header_of s) refl (eqb (header_of s).refusal 0) refl)

  pub ran_refused : ((header_of s).refusal ≡ 0 → ⊥) → (ran_of s xs out).refusal ≡ (header_of s).refusal
  ran_refused n = rw (sized, read_is, ne_eqb (header_of s).refusal 0 n)

  module _ (z : (header_of s).refusal ≡ 0) where
    abbrev h : Header
    h = header_of s

    room_is : room_of s xs ≡ records_of s h ++ drop (h.count * floats) xs
    unfolding room_of
    room_is = rw (read_is, z)

    part_is : take (h.count * floats) (room_of s xs) ≡ records_of s h
    part_is = ap (take (h.count * floats)) room_is ∙ take_at (records_of s h) _ (h.count * floats) (records_length s h)

    rest_is : drop (h.count * floats) (room_of s xs) ≡ drop (h.count * floats) xs
    rest_is = ap (drop (h.count * floats)) room_is ∙ drop_at (records_of s h) _ (h.count * floats) (records_length s h)

    parts_sized : well_sized (records_of s h) (take (h.count * 2) out) ≡ true
    parts_sized =
        let c = few s h refl z in
        let l = lent.1 in
        well (records_of s h) (take (h.count * 2) out) h.count (records_length s h, simp length-take (omega arith))

    count_is : length (records_of s h) / floats ≡ h.count
    count_is = omega (arith, records_length s h)

    pub ran_good : (ran_of s xs out).refusal ≡ 0
    unfolding front_of
    ran_good = rw (sized, read_is, z, part_is, parts_sized)

    pub ran_particles : (ran_of s xs out).particles ≡ h.count
    unfolding front_of
    ran_particles = rw (sized, read_is, z, part_is, parts_sized)

    pub records_are : ran_records s xs out ≡ worked (law_of h) (records_of s h) h.count ++ drop (h.count * floats) xs
    unfolding front_records
    records_are = rw (sized, read_is, z, part_is, rest_is, parts_sized, count_is)

    pub answers_are : ran_answers s xs out ≡ answers (law_of h) (records_of s h) h.count ++ drop (h.count * 2) out
    unfolding front_answers
    answers_are = rw (sized, read_is, z, part_is, parts_sized, count_is)

    pub counts_are : (ran_of s xs out).counts ≡ three_of (counts (law_of h) (records_of s h) h.count)
    unfolding front_of
    counts_are = rw (sized, read_is, z, part_is, parts_sized, count_is)
