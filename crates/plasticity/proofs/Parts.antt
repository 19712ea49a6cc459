-- What is finite of a finite state. Assumes nothing.
use mathlib.Core.Path.{◌≡◌}
use mathlib.Core.Bool.{true, ◌&&◌}
use Rattle.numbers.specs.Floats.{finite}
use Rattle.numbers.proofs.Laws.{and_both}
use Rattle.tensor.specs.Finite.{row_finite, rows_finite}
use Rattle.plasticity.specs.State.{scalars_finite, state_finite}
use Rattle.plasticity.specs.declared.Scalars.{Scalars}
use Rattle.plasticity.specs.declared.State.{State}

pub state_parts : (s : State) → state_finite s ≡ true → (rows_finite s.f ≡ true) × (row_finite s.sigma ≡ true) × (scalars_finite s.scalars ≡ true)
state_parts s q =
    let t = and_both (rows_finite s.f && row_finite s.sigma) (scalars_finite s.scalars) q in
    let u = and_both (rows_finite s.f) (row_finite s.sigma) t.0 in
    (u.0, u.1, t.1)

pub record Scalars_finite (x : Scalars) : Type 0 where
  pub phase : finite x.phase ≡ true
  pub determinant : finite x.plastic_determinant ≡ true
  pub hardening : finite x.plastic_hardening ≡ true
  pub elastic : finite x.elastic_hardening ≡ true
  pub gain : finite x.log_gain ≡ true
  pub alpha : finite x.alpha ≡ true

pub scalars_parts : (x : Scalars) → scalars_finite x ≡ true → Scalars_finite x
scalars_parts x q =
    let p = finite x.phase in
    let d = finite x.plastic_determinant in
    let h = finite x.plastic_hardening in
    let e = finite x.elastic_hardening in
    let g = finite x.log_gain in
    let to_gain = and_both (p && d && h && e && g) (finite x.alpha) q in
    let to_elastic = and_both (p && d && h && e) g to_gain.0 in
    let to_hardening = and_both (p && d && h) e to_elastic.0 in
    let to_determinant = and_both (p && d) h to_hardening.0 in
    let two = and_both p d to_determinant.0 in
    record { phase = two.0; determinant = two.1; hardening = to_determinant.1; elastic = to_hardening.1; gain = to_elastic.1; alpha = to_gain.1 }
