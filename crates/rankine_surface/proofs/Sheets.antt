-- Demand 3 of record i of a sheet that is run
use mathlib.Core.Path.{◌≡◌, sym, ap, ◌∙◌, subst}
use mathlib.Core.List.{List}
use Prim.Native.Nat.{ℕ, ◌+◌, ◌*◌}
use native.Mathlib.Omega.{arith}
use lib.Dec.{T}
use lib.ListN.{length}
use lib.Ieee.{binary64}
use lib.Ieee.Bits.{of_bits-fits}
use Rattle.plasticity_rankine.specs.declared.RankineArguments.{RankineArguments}
use Rattle.model.specs.declared.Model.TheVariants.{Rankine}
use Rattle.model.specs.Kinds.{law_of}
use Rattle.model.specs.declared.Law.{Law}
use Rattle.model.specs.declared.Law.TheVariants as law
use Rattle.model.specs.Fields.{rankine_of, by_law, model_of}
use Rattle.one_record.specs.RecordLaw.{record_law}
use Rattle.particles.specs.Pass.{Worked, record_at}
use Rattle.sheet.specs.declared.Header.{Header}
use Rattle.sheet.specs.Sheet.{header_of, read_of, room_of}
use Rattle.sheet_run.specs.Run.{records_in, answers_in}
use Rattle.sheet_run.specs.Run as run
use Rattle.sheet_run.proofs.Parts.{well, not_refused, header_own, records_read, parts, record_found, answer_found}
use Rattle.rankine_surface.specs.Record.{Premises, Demand3At, InPass, pass_found}
use Rattle.rankine_surface.specs.Sheet.{arguments_in, record_in, InSheet, SheetPremises, sheet_found}
use Rattle.rankine_surface.proofs.Passes.{same}
use Rattle.rankine_surface.proofs.Records.{pass_3}

-- a tensile strength read from bits is an f64
premises : {s : List ℕ} {i : ℕ} → SheetPremises s i → Premises (arguments_in s) (record_in s i) (record_law (Rankine (arguments_in s)) (record_in s i)).outcome
premises g =
    record { accepted = g.accepted; ranges = g.ranges; s_finite = g.s_finite; strains = g.strains; strength = of_bits-fits binary64 _ }

law_named : (h : Header) → law_of h.model ≡ law.Rankine → run.law_of h ≡ record_law (Rankine (rankine_of h.parameters))
unfolding model_of
law_named h e = ap (λ (k : Law). record_law (by_law k h.parameters)) e

-- the pass over the records that were read
read_3 : {a : RankineArguments} {law : List ℕ → Worked} {xs rs out : List ℕ} {i : ℕ} → law ≡ record_law (Rankine a) → xs ≡ rs → InPass xs out i
    → Premises a (record_at rs i) (record_law (Rankine a) (record_at rs i)).outcome → Demand3At a (record_at rs i) (pass_found law xs out i)
read_3 {a} {law} {xs} {rs} {out} {i} p q w g = rw (p, q) (pass_3 (subst (λ (l : List ℕ). InPass l out i) q w) g)

pub sheet_3 : {s xs out : List ℕ} {i : ℕ} → InSheet s xs out i → SheetPremises s i → Demand3At (arguments_in s) (record_in s i) (sheet_found s xs out i)
sheet_3 {s} {xs} {out} {i} w g =
    let h = read_of s (length xs) in
    let ok = not_refused s xs out w.run in
    let own : h ≡ header_of s = header_own s (length xs) ok.1 in
    let n : h.count ≡ (header_of s).count = ap (λ k. k.count) own in
    let a = records_in h (room_of s xs) in
    let b = answers_in h out in
    let z = parts s xs out ok.0 ok.1 in
    let l = w.index in
    let inside : InPass a b i = record { sized = subst T (sym (well a b h.count z)) tt; index = omega arith } in
    let found : sheet_found s xs out i ≡ pass_found (run.law_of h) a b i =
    same (answer_found s xs out ok.0 ok.1 (i * 2) (omega arith)) (answer_found s xs out ok.0 ok.1 (i * 2 + 1) (omega arith))
    (record_found s xs out ok.0 ok.1 i (omega arith)) in
    subst (Demand3At (arguments_in s) (record_in s i)) (sym found)
    (read_3 (ap run.law_of own ∙ law_named (header_of s) w.rankine) (records_read s xs ok.1) inside (premises g))
