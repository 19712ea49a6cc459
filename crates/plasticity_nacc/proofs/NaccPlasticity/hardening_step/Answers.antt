-- `plasticity_nacc::NaccPlasticity::hardening_step` answers `number_as (traced (harden_walk (num d) self t alpha))`: both roots come with it.
use mathlib.Core.Path.{sym}
use Rattle.plasticity_nacc.specs.Projection.{harden_walk}
use Rattle.plasticity_nacc.proofs.NaccPlasticity.hardening_step.Goals as goal

pub returns-then-is_number-2 : goal.returns-then-is_number-2
unfolding harden_walk
returns-then-is_number-2 c =
    let pre = c.requires in
    let t0 = simp c.is_number.ensures at c.if-is_number.true in
    let t1 = sym pre.1 in
    let t2 = simp pre.0 at c.in-Value.is in
    let t3 = simp c.sqrt_on_path.ensures at c.in-Value-sqrt_on_path.is in
    let t4 = simp (c.is_number-in-Value-sqrt_on_path-2.ensures, c.is_number-in-Value-sqrt_on_path.ensures) at c.if-is_number-2.true in
    simp (c.crossed.ensures, t0, t1, t2, t3, t4)

pub returns-else-is_number-2 : goal.returns-else-is_number-2
unfolding harden_walk
returns-else-is_number-2 c =
    let pre = c.requires in
    let t0 = simp c.is_number.ensures at c.if-is_number.true in
    let t1 = sym pre.1 in
    let t2 = simp pre.0 at c.in-Value.is in
    let t3 = simp c.sqrt_on_path.ensures at c.in-Value-sqrt_on_path.is in
    let t4 = simp (c.is_number-in-Value-sqrt_on_path-2.ensures, c.is_number-in-Value-sqrt_on_path.ensures) at c.if-is_number-2.false in
    simp (t0, t1, t2, t3, t4)

pub returns-in-Refused-sqrt_on_path : goal.returns-in-Refused-sqrt_on_path
unfolding harden_walk
returns-in-Refused-sqrt_on_path c =
    let pre = c.requires in
    let t0 = simp c.is_number.ensures at c.if-is_number.true in
    let t1 = sym pre.1 in
    let t2 = simp pre.0 at c.in-Value.is in
    let t3 = simp c.sqrt_on_path.ensures at c.in-Refused-sqrt_on_path.is in
    simp (t0, t1, t2, t3)

pub returns-in-Refused : goal.returns-in-Refused
unfolding harden_walk
returns-in-Refused c =
    let pre = c.requires in
    let t0 = simp c.is_number.ensures at c.if-is_number.true in
    let t1 = sym pre.1 in
    let t2 = simp pre.0 at c.in-Refused.is in
    simp (t0, t1, t2)

pub returns-else-is_number : goal.returns-else-is_number
unfolding harden_walk
returns-else-is_number c =
    let t0 = simp c.is_number.ensures at c.if-is_number.false in
    simp (t0)
