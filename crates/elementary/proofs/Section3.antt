-- Section 3 holds: each row from the function's own distance.
use mathlib.Core.Path.{◌≡◌, refl, sym, ap, ◌∙◌}
use mathlib.Core.Bool.{Bool, true, false, cond, true≢false, false≢true}
use mathlib.Core.Logic.{◌⊎◌, inl, inr, ⊎_elim, ◌↔◌}
use Prim.Native.Nat.{ℕ}
use native.Mathlib.Omega.{arith}
use lib.Dec.{T}
use lib.IntN.{ℤ}
use lib.Ieee as Ieee
use lib.Ieee.{Float, binary64, of_bits, fits}
use lib.Ieee.Bits.{is_true}
use lib.Ieee.Scale as Scale
use Rattle.exact.specs.Units.{mag, L}
use Rattle.exact.specs.Value.{val}
use Rattle.exact.proofs.OrderLe.{between_finite}
use Rattle.exact.specs.RootOf.{Rooted, sqrt_of}
use Rattle.series.specs.ExpNear.{ExpNear}
use Rattle.series.specs.SinhNear.{SinhNear}
use Rattle.series.specs.LogNear.{LogNear}
use Rattle.series.specs.SinNear.{SinNear}
use Rattle.series.specs.ThirdsNear.{CbrtNear, CbrtSquaredNear, InvCbrtNear, InvCbrtSquaredNear}
use Rattle.numbers.specs.Floats.{finite, is_number}
use Rattle.numbers.proofs.Laws.{finite_is, finite_number}
use Rattle.answers.specs.Refusals.{below_range, above_range}
use Rattle.answers.specs.Range.{in_range, side_of, ranged, bare}
use Rattle.answers.specs.declared.Answer.TheVariants.{Value, Refused}
use Rattle.answers.proofs.Values.{bare_inside, between}
use Rattle.answers.proofs.Sides.{Ends, sides}
use Rattle.exponential.specs.Sinh.{sinh_of}
use Rattle.exponential.specs.Worked as exponential
use Rattle.exponential.proofs.Near.{exp_near, exp_zero}
use Rattle.exponential.proofs.SinhClose.{sinh_near, sinh_zero}
use Rattle.logarithm.specs.Worked as logarithm
use Rattle.logarithm.proofs.Laws.{ln_near, ln_one}
use Rattle.sine.specs.Sine as sine
use Rattle.sine.proofs.Near.{sin_near}
use Rattle.square_root.specs.Sqrt as square_root_lem
use Rattle.square_root.proofs.InRange.{rooted}
use Rattle.thirds.specs.Thirds as thirds
use Rattle.thirds.proofs.Near.{cbrt_near, cbrt_squared_near, inv_cbrt_near, inv_cbrt_squared_near, cbrt_one, cbrt_squared_one, inv_cbrt_one, inv_cbrt_squared_one}
use Rattle.elementary.specs.Section3.{Promised, Section3}

-- ---- the side
refused_by : {m n : ℕ} → Refused m ≡ Refused n → m ≡ n
refused_by e = cc

no_value : (v : Float) (n : ℕ) → Value v ≡ Refused n → ⊥
no_value v n e = let z : ◌≡◌ {A = ℕ} 0 1 = cc in omega arith

-- a call by itself, refused by n, which isn't 1
out : (a b : Bool) (v : Float) (m n : ℕ) → (n ≡ 1 → ⊥) → (cond a (cond b (Value v) (Refused m)) (Refused 1) ≡ Refused n) ↔ ((a ≡ true) × (b ≡ false) × (m ≡ n))
out true true v m n f = (λ e. absurd (no_value v n e), λ q. absurd (true≢false q.1))
out true false v m n f = (λ e. (refl, refl, refused_by e), λ q. ap Refused q.2)
out false b v m n f = (λ e. absurd (f (sym (refused_by e))), λ q. absurd (false≢true q.0))

module _ (low high x v : Float) (e : Ends low high) where
  called : (n : ℕ) → (n ≡ 1 → ⊥) → (bare x (ranged low high x v) ≡ Refused n) ↔ ((finite x ≡ true) × (((Ieee.lt x low ≡ true) × (below_range ≡ n)) ⊎ ((Ieee.lt high x ≡ true) × (above_range ≡ n))))
  called n f =
      let w = out (finite x) (in_range low high x) v (side_of low high x) n f in (
        λ q. let r = w.0 q in (r.0, (sides low high x e (finite_number x r.0) n).0 (r.1, r.2)),
        λ q. let r = (sides low high x e (finite_number x q.0) n).1 q.1 in w.1 (q.0, r.0, r.1),
      )

  called_below : (bare x (ranged low high x v) ≡ Refused below_range) ↔ ((finite x ≡ true) × (Ieee.lt x low ≡ true))
  called_below =
      let w = called below_range (λ q. omega arith) in (
        λ q. let r = w.0 q in (r.0, ⊎_elim (λ p. p.0) (λ p. let z = p.1 in absurd (omega arith)) r.1),
        λ q. w.1 (q.0, inl (q.1, refl)),
      )

  called_above : (bare x (ranged low high x v) ≡ Refused above_range) ↔ ((finite x ≡ true) × (Ieee.lt high x ≡ true))
  called_above =
      let w = called above_range (λ q. omega arith) in (
        λ q. let r = w.0 q in (r.0, ⊎_elim (λ p. let z = p.1 in absurd (omega arith)) (λ p. p.0) r.1),
        λ q. w.1 (q.0, inr (q.1, refl)),
      )

module _ (value : Float → Float) (low high : Float) (least greatest : ℤ) (Near : Float → Float → Type 0)
    (a : T (Scale.finite low)) (b : T (Scale.finite high)) (near : (x : Float) → T (fits binary64 x) → in_range low high x ≡ true → Near x (value x)) where
  finite_inside : (x : Float) → in_range low high x ≡ true → finite x ≡ true
  finite_inside x r = let e = between low high x r in finite_is x ∙ is_true (Scale.finite x) (between_finite low x high a b e.0 e.1)

  promised : val low ≡ least → val high ≡ greatest → Ends low high → Promised (λ x. bare x (ranged low high x (value x))) value low high least greatest Near
  promised l g e =
      record {
        from = l;
        to = g;
        inside = λ x f r. (rw (finite_inside x r, r) refl, near x f r);
        only = λ x v q. bare_inside low high x v (value x) q;
        below = λ x. called_below low high x (value x) e;
        above = λ x. called_above low high x (value x) e;
      }

pub section_3 : Section3
unfolding of_bits val mag L Ieee.neg Ieee.le Ieee.lt Ieee.eq is_number
section_3 =
    record {
      root = promised sqrt_of square_root_lem.least square_root_lem.largest _ _ Rooted tt tt rooted refl refl (record { low_number = refl; high_number = refl; in_order = refl });
      ln = promised logarithm.ln_of logarithm.low logarithm.high _ _ LogNear tt tt ln_near refl refl (record { low_number = refl; high_number = refl; in_order = refl });
      ln_one = ln_one;
      exp = promised exponential.exp_of exponential.low exponential.high _ _ ExpNear tt tt exp_near refl refl (record { low_number = refl; high_number = refl; in_order = refl });
      exp_zero = exp_zero.0;
      exp_minus_zero = exp_zero.1;
      sinh = promised sinh_of exponential.low exponential.high _ _ SinhNear tt tt sinh_near refl refl (record { low_number = refl; high_number = refl; in_order = refl });
      sinh_zero = sinh_zero.0;
      sinh_minus_zero = sinh_zero.1;
      sin = promised sine.sin_of sine.low sine.high _ _ SinNear tt tt sin_near refl refl (record { low_number = refl; high_number = refl; in_order = refl });
      third = promised thirds.cbrt_of thirds.low thirds.high _ _ CbrtNear tt tt cbrt_near refl refl (record { low_number = refl; high_number = refl; in_order = refl });
      two_thirds = promised thirds.cbrt_squared_of thirds.low thirds.high _ _ CbrtSquaredNear tt tt cbrt_squared_near refl refl (record { low_number = refl; high_number = refl; in_order = refl });
      minus_third = promised thirds.inv_cbrt_of thirds.low thirds.high _ _ InvCbrtNear tt tt inv_cbrt_near refl refl (record { low_number = refl; high_number = refl; in_order = refl });
      minus_two_thirds = promised thirds.inv_cbrt_squared_of thirds.low thirds.high _ _ InvCbrtSquaredNear tt tt inv_cbrt_squared_near refl refl (record { low_number = refl; high_number = refl; in_order = refl });
      third_one = cbrt_one;
      two_thirds_one = cbrt_squared_one;
      minus_third_one = inv_cbrt_one;
      minus_two_thirds_one = inv_cbrt_squared_one;
    }
