-- The pass over one record, and where the record and its answers stand in the lists. Assumes nothing.
use mathlib.Core.Path.{◌≡◌, refl, sym, ap, ◌∙◌}
use mathlib.Core.List.{List, [], ◌∷◌, ◌++◌, append_assoc}
use Prim.Native.Nat.{ℕ, ◌+◌, ◌*◌, ◌≤◌}
use native.Mathlib.Omega.{arith}
use lib.ListN.{length, take, drop, take-append-drop}
use lib.Seq.{length-take-le, take_all, drop-drop}
use Rattle.plasticity.specs.declared.Outcome.{Outcome}
use Rattle.record.specs.Layout.{floats}
use Rattle.particles.specs.Pass.{Worked, code_of, value_of, answered, answers, pass_records, pass_answers, worked_over, answers_over}
use Rattle.particles.proofs.PassLaws.{two_set}
use Rattle.sheet.specs.Records.{sheet_floats, completed}
use Rattle.sheet.specs.Sheet.{words_of, record_at, placed, room_at}
use Rattle.sheet.specs.declared.Place.{Place}
use Rattle.sheet.specs.declared.Place.TheVariants.{Next as Place_as_Next, Refused as Place_as_Refused}
use Rattle.sheet.specs.declared.Header.{Header}
use Rattle.sheet.proofs.RecordLaws.{completed_length}
use Rattle.sheet.proofs.Steps.{words_length}
use Rattle.sheet_run.specs.Run.{law_of}
use Rattle.parts.specs.Parts.{worked_by, answer_of}

-- a record that was read, or not, keeps its length
placed_length : (p : Place) (new old : List ℕ) → length new ≡ floats → length old ≡ floats → length (placed p new old) ≡ floats
placed_length (Place_as_Next n) new old e f = e
placed_length (Place_as_Refused n) new old e f = f

pub room_length : (model : ℕ) (bytes r : List ℕ) → length r ≡ floats → length (room_at model bytes 0 r) ≡ floats
unfolding room_at
room_length model bytes r e =
    placed_length (record_at model bytes 0 (length r)) _ r (completed_length model (words_of (sheet_floats model) bytes) (words_length (sheet_floats model) bytes)) e

module _ (law : List ℕ → Worked) (r out : List ℕ) (e : length r ≡ floats) (f : length out ≡ 2) where
  one_record_lem : pass_records law r out ≡ (law r).after
  unfolding worked_over
  one_record_lem = rw (e, f, take_all floats r (omega arith))

  one_answer : pass_answers law r out ≡ answer_of (law r).outcome
  unfolding answers_over
  one_answer = rw (e, f, take_all floats r (omega arith))

module _ (h : Header) (bytes r out : List ℕ) (e : length r ≡ floats) (f : length out ≡ 2) where
  pub one_worked : (pass_records (law_of h) (room_at h.model bytes 0 r) out ≡ (worked_by h bytes r).after) × (pass_answers (law_of h) (room_at h.model bytes 0 r) out ≡ answer_of (worked_by h bytes r).outcome)
  unfolding worked_by
  one_worked =
      let n = room_length h.model bytes r e in
      (one_record_lem (law_of h) (room_at h.model bytes 0 r) out n f, one_answer (law_of h) (room_at h.model bytes 0 r) out n f)

-- two answers in their places
pub answer_placed : (out : List ℕ) (k : ℕ) (o : Outcome) → k * 2 + 2 ≤ length out → take (k * 2) out ++ (answer_of o ++ drop 2 (drop (k * 2) out)) ≡ answered out k o
answer_placed out k o h =
    sym (ap (λ (l : List ℕ). answered l k o) (sym (take-append-drop (k * 2) out))
    ∙ two_set (take (k * 2) out) out (k * 2) (code_of o) (value_of o) (length-take-le (k * 2) out (omega arith)) h
    ∙ append_assoc (take (k * 2) out) (answer_of o) (drop (k * 2 + 2) out)
    ∙ ap (λ (l : List ℕ). take (k * 2) out ++ (answer_of o ++ l)) (sym (drop-drop 2 (k * 2) out)))
