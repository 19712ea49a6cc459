-- Where the update stores, the archive is on the surface: of an update, a record, a pass, a pass with failure and a sheet that is run
use mathlib.Core.Path.{◌≡◌, sym, subst}
use mathlib.Core.Bool.{Bool, true, false}
use mathlib.Core.List.{List}
use Prim.Native.Nat.{ℕ}
use lib.ListN.{length}
use lib.Ieee.{Float}
use Rattle.plasticity.specs.declared.State.{State}
use Rattle.tensor.specs.Matrix.{zero}
use Rattle.record.specs.Layout.{floats}
use Rattle.failure_maximum_stress.specs.declared.MaximumStressFailure.{MaximumStressFailure}
use Rattle.elasticity_corotated_linear.specs.declared.CorotatedLinearElasticity.{CorotatedLinearElasticity}
use Rattle.plasticity_rankine.specs.declared.RankineArguments.{RankineArguments}
use Rattle.plasticity_rankine.specs.Law.{law_of}
use Rattle.model.specs.declared.Model.TheVariants.{Rankine}
use Rattle.one_record.specs.RecordLaw.{record_law}
use Rattle.particles.specs.Pass.{record_at}
use Rattle.one_record.specs.Judged.{failure_law}
use Rattle.rankine_surface.specs.Surface.{three_axes, AssumedBy, Archived, Archives}
use Rattle.rankine_surface.specs.Record.{three_records, Premises, Found, found_of, Demand3At, ArchivesAt, softened_at, InPass, pass_found, marked_by}
use Rattle.rankine_surface.specs.Sheet.{arguments_in, record_in, InSheet, SheetPremises, sheet_found}
use Rattle.rankine_surface.proofs.Update.{arguments_3}
use Rattle.rankine_surface.proofs.Left.{archives, archives_at}
use Rattle.rankine_surface.proofs.Places.{phase_sigma}
use Rattle.rankine_surface.proofs.Records.{record_3, pass_3, pass_with_failure_3}
use Rattle.rankine_surface.proofs.Sheets.{sheet_3}

pub update_archived : {a : RankineArguments} (u vt : List (List Float)) {st : State} → AssumedBy a u vt st → Archives a u vt st
update_archived u vt g = archives three_axes (arguments_3 u vt g)

pub found_archived : {a : RankineArguments} {r : List ℕ} {f : Found} → Demand3At a r f → ArchivesAt a r f
found_archived d = archives_at three_records d

pub record_archived : {a : RankineArguments} {r : List ℕ} → length r ≡ floats → Premises a r (record_law (Rankine a) r).outcome
    → ArchivesAt a r (found_of (record_law (Rankine a) r))
record_archived k g = found_archived (record_3 k g)

pub pass_archived : {a : RankineArguments} {xs out : List ℕ} {i : ℕ} → InPass xs out i
    → Premises a (record_at xs i) (record_law (Rankine a) (record_at xs i)).outcome
    → ArchivesAt a (record_at xs i) (pass_found (record_law (Rankine a)) xs out i)
pass_archived w g = found_archived (pass_3 w g)

-- phase changes no sigma
pub marked_archived : (a : RankineArguments) (r : List ℕ) (b : Bool) (f : Found) → ArchivesAt a r f → ArchivesAt a r (marked_by b f)
marked_archived a r false f d = d
marked_archived a r true f d = λ q. subst (Archived (law_of a) (softened_at a r)) (sym (phase_sigma f.after zero)) (d q)

pub pass_with_failure_archived : (l : MaximumStressFailure) (e : CorotatedLinearElasticity) {a : RankineArguments} {xs out : List ℕ} {i : ℕ} → InPass xs out i
    → Premises a (record_at xs i) (failure_law (Rankine a) l e (record_at xs i)).outcome
    → ArchivesAt a (record_at xs i) (pass_found (failure_law (Rankine a) l e) xs out i)
pass_with_failure_archived l e {a} {xs} {out} {i} w g =
    let d = pass_with_failure_3 l e w g in
    subst (ArchivesAt a (record_at xs i)) (sym d.found) (marked_archived a (record_at xs i) (failure_law (Rankine a) l e (record_at xs i)).failed _ (found_archived d.law))

pub sheet_archived : {s xs out : List ℕ} {i : ℕ} → InSheet s xs out i → SheetPremises s i → ArchivesAt (arguments_in s) (record_in s i) (sheet_found s xs out i)
sheet_archived w g = found_archived (sheet_3 w g)
