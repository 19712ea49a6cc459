-- The two branches on sorted strains: how near the yield surface each comes
use mathlib.Core.Path.{◌≡◌, refl}
use Prim.Native.Nat.{ℕ, ◌+◌, ◌*◌, ◌<◌}
use native.Mathlib.Omega.{arith}
use lib.Dec.{T}
use lib.IntN.{ℤ, pos, ◌+ℤ◌, ◌*ℤ◌, ◌-ℤ◌}
use lib.Ieee.{Float, le}
use Rattle.exact.specs.Units.{L, mag}
use Rattle.exact.proofs.Units.{L_pos}
use Rattle.exact.specs.Integers.{◌≤ᶻ◌, abs}
use Rattle.exact.proofs.Ring.{ring, var, con, ◌:+◌, ◌:-◌, ◌:*◌}
use Rattle.exact.specs.Value.{val}
use Rattle.exact.proofs.Value.{abs_val}
use Rattle.walk.specs.Expr.{num, value}
use Rattle.plasticity_rankine.specs.declared.RankinePlasticity.{RankinePlasticity}
use Rattle.plasticity_rankine.specs.Projection.{two, first_side, second_side, back_one}
use Rattle.rankine_surface.specs.Surface.{modulus_in, demanded, Under, FairIn, Strain}
use Rattle.rankine_surface.proofs.Scale.{On, also, loose, sub_on, mul_on, div_on}
use Rattle.rankine_surface.proofs.Bounds.{under_down}
use Rattle.rankine_surface.proofs.Branches.{◌⊕◌, ◌⊖◌, ◌⊗◌, ◌⊘◌, Bounded, stress_at, stress_mono, highest, unmoved, levelled, add_up, sub_up, strains, strain_on, mu_least, den1, den2, M_room, stress, products, s_on, mu2_on, la_M, den1_M, tested, worked, came}
use Rattle.flat_rankine.specs.Projection.{back_both}

-- low ≤ high are e0 and e1 in some order
pub record Upwards (e0 e1 low high : Float) : Type 0 where
  pub first : Strain e0
  pub second : Strain e1
  pub smaller : Strain low
  pub larger : Strain high
  pub low_high : val low ≤ᶻ val high
  pub sum : val e0 +ℤ val e1 ≡ val low +ℤ val high

-- no stress is above
pub record Held (law : RankinePlasticity) (s low high : Float) : Type 0 where
  pub smaller : Under demanded (stress_at (mag law.mu) (mag law.lambda) (val low +ℤ val high) (val low)) (val s *ℤ pos L) (modulus_in 2 law * L)
  pub larger : Under demanded (stress_at (mag law.mu) (mag law.lambda) (val low +ℤ val high) (val high)) (val s *ℤ pos L) (modulus_in 2 law * L)

pub record OnYield (law : RankinePlasticity) (s low high : Float) : Type 0 where
  pub smaller : Bounded low
  pub larger : Bounded high
  pub held : Held law s low high
  pub reaches : Under demanded (val s *ℤ pos L) (stress_at (mag law.mu) (mag law.lambda) (val low +ℤ val high) (val high)) (modulus_in 2 law * L)

module _ {law : RankinePlasticity} {s : Float} (g : FairIn 2 law s) {e0 e1 low high : Float} (d : Upwards e0 e1 low high) where
  abbrev m : ℕ
  m = mag law.mu

  abbrev l : ℕ
  l = mag law.lambda

  abbrev K : ℕ
  K = modulus_in 2 law * L

  abbrev σ : ℤ
  σ = val s *ℤ pos L

  S_on : On L 1 (e0 ⊕ e1) (val low +ℤ val high) 8 9
  S_on = also d.sum (add_up strains (strain_on d.first) (strain_on d.second) tt)

  Sa_on : On L 1 (e0 ⊕ e1 ⊖ high) (val low) 4 14
  Sa_on =
      let q = ring 2 (val low, (val high, tt)) (var 0 :+ var 1 :- var 1) (var 0) tt in
      also q (sub_on strains 4 S_on (strain_on d.larger) (rw q (omega (arith, abs_val low, d.smaller.size))) tt)

  -- the tests, and the quotients
  t1_on : On K L (law.lambda ⊗ (e0 ⊕ e1) ⊕ two ⊗ law.mu ⊗ high) (pos l *ℤ (val low +ℤ val high) +ℤ pos (2 * m) *ℤ val high) 12 60
  t1_on = add_up (stress tt tt g) (mul_on (products tt tt g) (la_M tt tt g) S_on tt) (mul_on (products tt tt g) (mu2_on tt tt g) (strain_on d.larger) tt) tt

  t2_on : On K L ((two ⊗ law.mu ⊕ law.lambda) ⊗ low ⊕ law.lambda ⊗ (e0 ⊕ e1 ⊖ high)) (pos (2 * m + l) *ℤ val low +ℤ pos l *ℤ val low) 8 65
  t2_on = add_up (stress tt tt g) (mul_on (products tt tt g) (den1_M tt tt g) (strain_on d.smaller) tt) (mul_on (products tt tt g) (la_M tt tt g) Sa_on tt) tt

  q1 : On K (2 * m + l) ((s ⊖ law.lambda ⊗ (e0 ⊕ e1 ⊖ high)) ⊘ (two ⊗ law.mu ⊕ law.lambda)) (σ -ℤ pos l *ℤ val low) 8 216
  q1 =
      div_on (M_room tt tt g) (omega (arith, mu_least g)) (omega arith) (sub_up (stress tt tt g) (s_on tt tt g) (mul_on (products tt tt g) (la_M tt tt g) Sa_on tt) tt)
      (loose 16 tt (den1 g)) tt

  q2 : On K (modulus_in 2 law) (s ⊘ (two ⊗ law.mu ⊕ two ⊗ law.lambda)) σ 4 118
  q2 = div_on (M_room tt tt g) (omega (arith, mu_least g)) (omega arith) (s_on tt tt g) (loose 16 tt (den2 g)) tt

  some : 0 < m
  some = omega (arith, mu_least g, L_pos)

  pub untouched : T (le (value (first_side law (num (e0 ⊕ e1)) (num high))) s) → Held law s low high
  untouched h =
      let S = val low +ℤ val high in
      let u : Under demanded (stress_at m l S (val high)) σ K = tested tt tt g t1_on tt h in
      record { smaller = under_down (stress_at m l S (val low)) (stress_at m l S (val high)) σ K (stress_mono m l S (val low) (val high) d.low_high) u; larger = u }

  pub one_back : T (le (value (second_side law (num (e0 ⊕ e1)) (num high) (num low))) s) → OnYield law s low (value (back_one law (num s) (num (e0 ⊕ e1)) (num high)))
  one_back h =
      let z = val ((s ⊖ law.lambda ⊗ (e0 ⊕ e1 ⊖ high)) ⊘ (two ⊗ law.mu ⊕ law.lambda)) in
      let S = val low +ℤ z in
      let c : 2 * m + l ≡ 2 * m + 1 * l = omega arith in
      let q : S ≡ val low +ℤ pos 1 *ℤ z = ring 2 (val low, (z, tt)) (var 0 :+ var 1) (var 0 :+ con (pos 1) :* var 1) tt in
      let n = highest 1 m l (2 * m + l) (val low) S z σ c q K 216 q1.near tt in
      record {
        smaller = came d.smaller;
        larger = worked tt tt g (2 * m + l) (omega arith) (omega (arith, some)) q1 tt tt;
        held = record { smaller = unmoved 1 m l (2 * m + l) (val low) S z σ c q K (val low) some n.0 (tested tt tt g t2_on tt h); larger = n.0 };
        reaches = n.1;
      }

  pub both_back : let x = value (back_both law (num s)) in OnYield law s x x
  both_back =
      let z = val (s ⊘ (two ⊗ law.mu ⊕ two ⊗ law.lambda)) in
      let q : z +ℤ z ≡ pos 2 *ℤ z = ring 1 (z, tt) (var 0 :+ var 0) (con (pos 2) :* var 0) tt in
      let n = levelled 2 m l (modulus_in 2 law) K 118 (z +ℤ z) z σ refl q q2.near tt in
      let b = worked tt tt g (modulus_in 2 law) (omega arith) (omega (arith, some)) q2 tt tt in
      record { smaller = b; larger = b; held = record { smaller = n.0; larger = n.0 }; reaches = n.1 }
