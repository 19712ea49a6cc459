-- Demand 3, and the archive, of a flat record that Rankine's law works, and of a record in a flat pass
use mathlib.Core.Path.{◌≡◌, refl, sym, ◌∙◌, subst}
use mathlib.Core.List.{List, [], ◌∷◌}
use Prim.Native.Nat.{ℕ}
use native.Mathlib.Omega.{arith}
use lib.ListN.{length, get_or, set, length-set}
use lib.Ieee.{Float, nan}
use Rattle.record.specs.Layout.{bits, put_mat_over}
use Rattle.record.proofs.Places.{same, other}
use Rattle.plasticity_rankine.specs.declared.RankineArguments.{RankineArguments}
use Rattle.model.specs.declared.Model.TheVariants.{Rankine}
use Rattle.rankine_surface.specs.Axes.{Each}
use Rattle.rankine_surface.specs.Surface.{F64}
use Rattle.rankine_surface.specs.Record.{found_of, InPassOver, pass_found_over}
use Rattle.rankine_surface.proofs.Left.{Puts, read_f64, left_3, archives_at}
use Rattle.rankine_surface.proofs.Passes.{in_pass_over, found_over}
use Rattle.particles.specs.Pass.{record_over}
use Rattle.flat.specs.declared.State.{State}
use Rattle.flat.specs.State.{of_rows}
use Rattle.flat_rankine.specs.Rankine.{arguments_update}
use Rattle.flat_particles.specs.Layout.{floats, u_at, vt_at, state_at, put_shape}
use Rattle.flat_particles.specs.Law.{walk_of, put_state, updated_at, flat_law}
use Rattle.flat_particles.proofs.PassLaws.{flat_keeps}
use Rattle.flat_surface.specs.Record.{flat, Premises, Demand3At, ArchivesAt}
use Rattle.flat_surface.proofs.Update.{demand_3}

-- ---- F, sigma and the plastic hardening are read back
-- two floats at 8 and 9, and another at 16
two_back : (r : List ℕ) (x y : Float) (v : ℕ) → length r ≡ floats → F64 x → F64 y
    → (state_at (set (set (set r 8 (bits x)) 9 (bits y)) 16 v)).sigma ≡ x ∷ y ∷ []
two_back r x y v h f g =
    let p = set r 8 (bits x) in
    let q = set p 9 (bits y) in
    rw (
      other q 16 8 v (λ e. omega arith) ∙ other p 9 8 (bits y) (λ e. omega arith) ∙ same r 8 x (omega arith) f,
      other q 16 9 v (λ e. omega arith) ∙ same p 9 y (simp length-set (omega arith)) g,
    )

sigma_back : (r : List ℕ) (sigma : List Float) (v : ℕ) → length r ≡ floats → length sigma ≡ 2 → Each F64 sigma
    → (state_at (set (set (set r 8 (bits (get_or sigma 0 nan))) 9 (bits (get_or sigma 1 nan))) 16 v)).sigma ≡ sigma
sigma_back r [] v h k f = absurd (omega arith)
sigma_back r (x ∷ []) v h k f = absurd (omega arith)
sigma_back r (x ∷ y ∷ []) v h k f = two_back r x y v h f.0 f.1.0
sigma_back r (x ∷ y ∷ z ∷ l) v h k f = absurd (omega arith)

puts : (a : RankineArguments) → Puts flat (put_state (Rankine a))
puts a =
    record {
      sigma = λ r s h k f. sigma_back (put_mat_over 2 r 0 (of_rows s.f)) s.sigma (bits s.scalars.plastic_hardening) (simp length-set h) k f;
      hardening = λ r s h f. same (put_shape r s) 16 s.scalars.plastic_hardening (simp length-set (omega arith)) f;
    }

-- ---- the theorems
pub flat_record_3 : {a : RankineArguments} {r : List ℕ} → length r ≡ floats → Premises a r (flat_law (Rankine a) r).outcome
    → Demand3At a r (found_of (flat_law (Rankine a) r))
unfolding flat_law updated_at walk_of
flat_record_3 {a} {r} k g =
    left_3 flat (puts a) a r (arguments_update a (u_at r) (vt_at r) (state_at r)) k g.strength
    (demand_3 (u_at r) (vt_at r) (record { accepted = g.accepted; s_finite = g.s_finite; ranges = g.ranges; axes = refl; sigma = read_f64 r (8 ∷ 9 ∷ []); strains = g.strains }))

pub flat_pass_3 : {a : RankineArguments} {xs out : List ℕ} {i : ℕ} → InPassOver floats xs out i
    → Premises a (record_over floats xs i) (flat_law (Rankine a) (record_over floats xs i)).outcome
    → Demand3At a (record_over floats xs i) (pass_found_over floats (flat_law (Rankine a)) xs out i)
flat_pass_3 {a} {xs} {out} {i} w g =
    let law = flat_law (Rankine a) in
    let k = flat_keeps (Rankine a) in
    subst (Demand3At a (record_over floats xs i)) (sym (found_over floats law k xs out i w)) (flat_record_3 (in_pass_over floats law k xs out i w) g)

pub flat_record_archived : {a : RankineArguments} {r : List ℕ} → length r ≡ floats → Premises a r (flat_law (Rankine a) r).outcome
    → ArchivesAt a r (found_of (flat_law (Rankine a) r))
flat_record_archived k g = archives_at flat (flat_record_3 k g)

pub flat_pass_archived : {a : RankineArguments} {xs out : List ℕ} {i : ℕ} → InPassOver floats xs out i
    → Premises a (record_over floats xs i) (flat_law (Rankine a) (record_over floats xs i)).outcome
    → ArchivesAt a (record_over floats xs i) (pass_found_over floats (flat_law (Rankine a)) xs out i)
flat_pass_archived w g = archives_at flat (flat_pass_3 w g)
