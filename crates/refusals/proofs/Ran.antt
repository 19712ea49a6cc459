-- Section 6 of a sheet that is run. Assumes nothing.
use mathlib.Core.Path.{◌≡◌, sym, ap, ◌∙◌}
use mathlib.Core.Logic.{⊎_elim, ◌↔◌}
use mathlib.Core.List.{List}
use Prim.Native.Nat.{ℕ, ◌+◌, ◌*◌, ◌/◌, ◌<◌}
use native.Mathlib.Omega.{arith}
use borrow.Author.Tests.{eqb-true}
use lib.Dec.{eqb}
use lib.ListN.{length}
use Rattle.record.specs.Layout.{floats}
use Rattle.particles.specs.declared.step.Step.TheVariants.{Plain}
use Rattle.particles.specs.declared.list.Passed.{Passed}
use Rattle.particles.specs.declared.list.Passed.TheVariants as pass
use Rattle.particles.specs.Pass.{counts, three_of, well_sized, passed}
use Rattle.sheet.specs.Sheet.{read_of, room_of}
use Rattle.sheet.proofs.Reasons.{read_refused_exactly}
use Rattle.sheet_run.specs.Run.{law_of, records_in, answers_in, front_of, finished, stopped, ran_with, ran_of, ran_answers}
use Rattle.sheet_run.proofs.Parts.{taken, sized, well, parts, answer_found}
use Rattle.refusals.specs.Refusals.{without, Answers, Sized}
use Rattle.refusals.specs.Ran.{header, model, record_of, Ran}
use Rattle.refusals.proofs.Inputs.{decide}
use Rattle.refusals.proofs.Numbers.{record_transfer}
use Rattle.refusals.proofs.Passes.{left_out}
use Rattle.refusals.proofs.Table.{section_6}

module _ (s xs out : List ℕ) where
  ran_rooms : ((k : ℕ) → Sized xs out k → ⊥) → (ran_of s xs out).refusal ≡ 8
  ran_rooms f =
      let w = well_sized xs out in
      let off = ⊎_elim (λ t. absurd (f (length xs / floats) (sized xs out t))) (λ q. q) (decide w) in
      ap (λ r. r.refusal) (left_out w (ran_with (read_of s (length xs)) (room_of s xs) out) (stopped 8) off)

  module _ (k : ℕ) (z : Sized xs out k) where
    opened : ran_of s xs out ≡ ran_with (header s xs out) (room_of s xs) out
    opened = taken (well_sized xs out) (ran_with (read_of s (length xs)) (room_of s xs) out) (stopped 8) (well xs out k z)

    done : (p : Passed) (n : ℕ) → p ≡ pass.Done (three_of (counts (law_of (header s xs out)) (records_in (header s xs out) (room_of s xs)) n)) → (finished (header s xs out).count p).refusal ≡ 0
    done p n e = ap (λ (q : Passed). (finished (header s xs out).count q).refusal) e

    front : (header s xs out).refusal ≡ 0 → (front_of (header s xs out) (room_of s xs) out).refusal ≡ 0
    unfolding front_of
    front e =
        let h = header s xs out in
        let a = records_in h (room_of s xs) in
        let b = answers_in h out in
        let c = length a / floats in
        done (passed (law_of h) a b) c (taken (well_sized a b) (pass.Done (three_of (counts (law_of h) a c))) (pass.Refused 8) (well a b h.count (parts s xs out (well xs out k z) e)))

    ran_sheet : (ran_of s xs out).refusal ≡ (header s xs out).refusal
    ran_sheet =
        let h = header s xs out in
        let x = front_of h (room_of s xs) out in
        let t = eqb h.refusal 0 in
        ap (λ r. r.refusal) opened
        ∙ ⊎_elim (λ q. let e = eqb-true h.refusal 0 q in ap (λ r. r.refusal) (taken t x (stopped h.refusal) q) ∙ front e ∙ sym e)
        (λ q. ap (λ r. r.refusal) (left_out t x (stopped h.refusal) q)) (decide t)

    ran_records : (header s xs out).refusal ≡ 0 → (i : ℕ) → i < (header s xs out).count
        → Answers (ran_answers s xs out) i (without (Plain (model s xs out))) (record_of s xs out i)
    ran_records e i l =
        let h = header s xs out in
        let w = well xs out k z in
        let c = answer_found s xs out w e (i * 2) (omega arith) in
        let v = answer_found s xs out w e (i * 2 + 1) (omega arith) in
        let q = (section_6.the_pass (model s xs out) (records_in h (room_of s xs)) (answers_in h out)).records h.count (parts s xs out w e) i l in
        record_transfer (λ n. (λ p. (sym c ∙ p.0, sym v ∙ p.1), λ p. (c ∙ p.0, v ∙ p.1))) q

numbered : {A : ℕ → Type 0} (x y : ℕ) → x ≡ y → ((n : ℕ) → (n ≡ 0 → ⊥) → (y ≡ n) ↔ A n) → (n : ℕ) → (n ≡ 0 → ⊥) → (x ≡ n) ↔ A n
numbered x y e f n h = (λ q. (f n h).0 (sym e ∙ q), λ a. e ∙ (f n h).1 a)

pub ran : (s xs out : List ℕ) → Ran s xs out
ran s xs out =
    record {
      rooms = ran_rooms s xs out;
      sheet = ran_sheet s xs out;
      numbers = λ b k z. numbered (ran_of s xs out).refusal (header s xs out).refusal (ran_sheet s xs out k z) (read_refused_exactly s b (length xs));
      records = ran_records s xs out;
    }
