-- A sheet that was run has its records in the list and its parameters in the header. Assumes nothing.
use mathlib.Core.Path.{◌≡◌, sym, ap, ◌∙◌, subst}
use mathlib.Core.List.{List}
use Prim.Native.Nat.{ℕ, ◌*◌, ◌-◌, ◌/◌, ◌≤◌}
use native.Mathlib.Omega.{arith}
use lib.ListN.{length, drop, length-append, length-drop, length-replicate}
use borrow.Author.Tests.{eq-eqb}
use Rattle.record.specs.Layout.{floats}
use Rattle.model.specs.Kinds.{kinds_of}
use Rattle.model.proofs.KindLaws.{kinds_most}
use Rattle.particles.specs.Pass.{worked, well_sized, pass_records}
use Rattle.particles.proofs.PassLaws.{record_keeps, worked_length}
use Rattle.sheet.specs.declared.Header.{Header}
use Rattle.sheet.specs.Sheet.{header_of, read_of, room_of}
use Rattle.sheet.proofs.ReadFrom.{read_from}
use Rattle.sheet_run.specs.Run.{law_of, records_in, answers_in, front_records, ran_of, ran_records}
use Rattle.sheet_run.proofs.Rooms.{read_fits, room_length}
use Rattle.sheet_run.proofs.Parts.{not_refused, header_own, parts, well, quotient}
use Rattle.sheet_run.proofs.Parts as ran

pub records_fit : (s xs out : List ℕ) → (ran_of s xs out).refusal ≡ 0 → (header_of s).count * floats ≤ length xs
records_fit s xs out e =
    let n = (not_refused s xs out e).1 in
    rw (← header_own s (length xs) n) (read_fits s (length xs) n)

pub header_read : (s xs out : List ℕ) → (ran_of s xs out).refusal ≡ 0 → (header_of s).refusal ≡ 0
header_read s xs out e =
    let n = (not_refused s xs out e).1 in
    sym (ap (λ (g : Header). g.refusal) (header_own s (length xs) n)) ∙ n

pub parameters_fit : (s : List ℕ) → (header_of s).refusal ≡ 0 → length (kinds_of (header_of s).model) ≤ length (header_of s).parameters
parameters_fit s z =
    let t = read_from s z in
    let k = kinds_most t.model in
    subst (λ (g : Header). length (kinds_of g.model) ≤ length g.parameters) t.is (simp (length-append, length-replicate) (omega (arith, k)))

-- the run leaves the list's length
pub ran_length : (s xs out : List ℕ) → (ran_of s xs out).refusal ≡ 0 → length (ran_records s xs out) ≡ length xs
unfolding front_records
ran_length s xs out e =
    let n = not_refused s xs out e in
    let h = read_of s (length xs) in
    let a = records_in h (room_of s xs) in
    let b = answers_in h out in
    let q = parts s xs out n.0 n.1 in
    let k = length a / floats in
    let p = pass_records (law_of h) a b in
    let m : length p ≡ k * floats =
    ap length (ran.taken (well_sized a b) (worked (law_of h) a k) a (well a b h.count q))
    ∙ worked_length floats (law_of h) (record_keeps _) a k (omega arith) in
    let d = quotient a b h.count q.0 in
    let f = read_fits s (length xs) n.1 in
    let r = room_length s xs in
    rw (n.0, eq-eqb h.refusal 0 n.1) (length-append p (drop (h.count * floats) (room_of s xs)) ∙ simp length-drop (omega (arith, m, d, f, r)))
