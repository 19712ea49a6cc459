-- What the test in floats passes, the check passes too. Assumes nothing.
use mathlib.Core.Path.{◌≡◌, refl, sym, ap, ◌∙◌, subst}
use mathlib.Core.Bool.{Bool, true, false, ◌&&◌}
use mathlib.Core.List.{List}
use Prim.Native.Nat.{ℕ}
use lib.ListN.{length, get_or}
use lib.Ieee.{Float, nan}
use Rattle.exact.specs.Units.{mag}
use Rattle.numbers.specs.Floats.{finite}
use Rattle.tensor.proofs.Axes.{of_one}
use Rattle.tensor.specs.Matrix.{transpose_of, of_rows}
use Rattle.tensor.specs.Finite.{row_finite, mat_finite, rows_finite}
use Rattle.tensor.specs.declared.Rows.{Rows}
use Rattle.nearness.specs.Quick.{Bounded, RowsBounded, SurelyNear, SurelyOrthogonal, two}
use Rattle.nearness.proofs.Rounded.{bounded_finite}
use Rattle.factors.specs.declared.Factors.{Factors}
use Rattle.factors.specs.declared.Principal.{Principal}
use Rattle.factors.specs.Check.{near_all, orthogonal_of, largest_in, not_below, accepted_of}
use Rattle.factors.specs.PrincipalValues.{mirrored_accepted}

pub record Threes (q : Rows) : Type 0 where
  pub at0 : length q.r0 ≡ 3
  pub at1 : length q.r1 ≡ 3
  pub at2 : length q.r2 ≡ 3

-- a matrix is finite where its columns are bounded
row_finite_lem : (a : List Float) → length a ≡ 3 → Bounded (get_or a 0 nan) two → Bounded (get_or a 1 nan) two → Bounded (get_or a 2 nan) two → row_finite a ≡ true
row_finite_lem a l x y z = sym (of_one row_finite nan a l) ∙ (λ i. bounded_finite (get_or a 0 nan) two x i && bounded_finite (get_or a 1 nan) two y i && bounded_finite (get_or a 2 nan) two z i)

turned_finite : (q : Rows) → Threes q → RowsBounded (transpose_of (of_rows q)) two → rows_finite q ≡ true
turned_finite q l h = λ i.
    row_finite_lem q.r0 l.at0 h.row0.at0 h.row1.at0 h.row2.at0 i
    && row_finite_lem q.r1 l.at1 h.row0.at1 h.row1.at1 h.row2.at1 i
    && row_finite_lem q.r2 l.at2 h.row0.at2 h.row1.at2 h.row2.at2 i

-- m matters where f is finite only
guarded : (b : Bool) (k l : ℕ) (g : Bool → ℕ → Bool) → ((n : ℕ) → g false n ≡ false) → (b ≡ true → k ≡ l) → g b k ≡ g b l
guarded true k l g z e = ap (g true) (e refl)
guarded false k l g z e = z k ∙ sym (z l)

module _ (f : List (List Float)) (m : Float) (e : mat_finite f ≡ true → mag m ≡ largest_in f) where
  pub factors_pass : (x : Factors) (u v : List (List Float)) → u ≡ of_rows x.u → v ≡ transpose_of (of_rows x.vt) → Threes x.vt
      → not_below x.sigma ≡ true → SurelyOrthogonal u → SurelyOrthogonal v → SurelyNear u x.sigma v f m → accepted_of f x ≡ true
  unfolding accepted_of
  factors_pass x u v tu tv l b ou ov n = λ i.
      n.whole.fine i
      && (sym (ap mat_finite tu) ∙ ou.small.fine) i
      && n.sigma.fine i
      && turned_finite x.vt l (subst (λ (w : List (List Float)). RowsBounded w two) tv ov.small) i
      && b i
      && (sym (λ j. near_all (tu j) x.sigma (tv j) f (e n.whole.fine j)) ∙ n.near) i
      && (sym (ap orthogonal_of tu) ∙ ou.near) i
      && (sym (ap orthogonal_of tv) ∙ ov.near) i

  pub principal_pass : (x : Principal) (q : List (List Float)) → q ≡ transpose_of (of_rows x.axes) → Threes x.axes
      → SurelyOrthogonal q → SurelyNear q x.values q f m → mirrored_accepted f x ≡ true
  principal_pass x q t l o n = λ i.
      n.whole.fine i
      && turned_finite x.axes l (subst (λ (w : List (List Float)). RowsBounded w two) t o.small) i
      && n.sigma.fine i
      && (sym (λ j. near_all (t j) x.values (t j) f (e n.whole.fine j)) ∙ n.near) i
      && (sym (ap orthogonal_of t) ∙ o.near) i

  pub factors_scaled : (x : Factors)
      → mat_finite f && rows_finite x.u && row_finite x.sigma && rows_finite x.vt && not_below x.sigma
      && near_all (of_rows x.u) x.sigma (transpose_of (of_rows x.vt)) f (mag m) && orthogonal_of (of_rows x.u) && orthogonal_of (transpose_of (of_rows x.vt)) ≡ accepted_of f x
  unfolding accepted_of
  factors_scaled x =
      guarded (mat_finite f) (mag m) (largest_in f) (λ b n. b && rows_finite x.u && row_finite x.sigma && rows_finite x.vt && not_below x.sigma
      && near_all (of_rows x.u) x.sigma (transpose_of (of_rows x.vt)) f n && orthogonal_of (of_rows x.u) && orthogonal_of (transpose_of (of_rows x.vt))) (λ n. refl) e

  pub principal_scaled : (x : Principal)
      → mat_finite f && rows_finite x.axes && row_finite x.values
      && near_all (transpose_of (of_rows x.axes)) x.values (transpose_of (of_rows x.axes)) f (mag m) && orthogonal_of (transpose_of (of_rows x.axes)) ≡ mirrored_accepted f x
  principal_scaled x =
      guarded (mat_finite f) (mag m) (largest_in f) (λ b n. b && rows_finite x.axes && row_finite x.values
      && near_all (transpose_of (of_rows x.axes)) x.values (transpose_of (of_rows x.axes)) f n && orthogonal_of (transpose_of (of_rows x.axes))) (λ n. refl) e
