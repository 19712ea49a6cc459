-- A diagonal F with finite entries of at least 0 is accepted with these entries as sigma (ticket 6), and a diagonal stress with its entries
-- as the principal values (ticket 9). Zeros of either sign may stand beside the diagonal. Assumes nothing.
use mathlib.Core.Path.{◌≡◌, refl, sym, ap, ◌∙◌, subst}
use mathlib.Core.Bool.{Bool, true, false, not, cond, ◌||◌, beq}
use mathlib.Core.List.{List}
use Prim.Native.Nat.{ℕ, ◌*◌, ◌/◌, ◌^◌, zero-le}
use native.Mathlib.Nat.{zero-mul, zero-div}
use native.Mathlib.Omega.{arith}
use lib.Dec.{T, leb, le→leb, eqb, eqb→eq}
use lib.Ieee.Fits.{and_l}
use lib.Ieee.Bits.{is_true}
use lib.IntN.{ℤ, pos, neg_ℤ, ◌-ℤ◌, ◌*ℤ◌}
use lib.Ieee as Ieee
use lib.Ieee.{Float, nan, inf, fin, up, down, of_bits}
use Rattle.exact.specs.Units.{L, mag}
use Rattle.exact.specs.Integers.{abs}
use Rattle.exact.proofs.Integers.{abs_pos, ext, +-parts, neg_parts, *-comm, *-assoc, 0*, *0, 0+, +0}
use Rattle.exact.specs.Value.{val, signed}
use Rattle.numbers.specs.Floats.{finite, is_number}
use Rattle.numbers.proofs.Laws.{finite_number}
use Rattle.numbers.proofs.Order.{le_not_lt}
use Rattle.nearness.specs.Near.{exact_sum, near, near_row, near_all, identity_of, orthogonal_of}
use Rattle.nearness.proofs.Judged.{one_val}
use Rattle.tensor.specs.Matrix.{zero, one, three, rows_of}
use Rattle.factors.specs.declared.Work.{Work}
use Rattle.factors.specs.declared.Factors.{Factors}
use Rattle.factors.specs.declared.Principal.{Principal}
use Rattle.factors.specs.Turns.{size_of, tiny_of}
use Rattle.factors.specs.Sweeps.{sweeps, entry, pair_of, next_of, sweep_by, settled_of, step_by, step_of, start_of, worked_of, signed_row_of, factors_of, identity_rows, factors_in}
use Rattle.factors.proofs.Times.{stays}
use Rattle.factors.specs.PrincipalValues.{mirrored_of, level_pair_of, level_step_of, levelled_of, principal_of, principal_accepted, read_of}
use Rattle.factors.specs.Answers.{factored_of, principals_of}
use Rattle.factors.specs.Check.{not_below, accepted_of, largest_in}
use Rattle.factors.specs.Diagonal.{Zero}

-- ---- what is 0 is not turned
zero_tiny : (o e : Float) → Zero o → tiny_of o e ≡ true
unfolding Zero tiny_of
zero_tiny o e z = simp z

-- g leaves two axes alone between which nothing but 0 stands, and goes on to the next
abbrev Skips : (Work → Work) → Type 0
Skips g = (w : Work) → Zero (entry w 0 1) → Zero (entry w 1 0) → g w ≡ next_of w

pair_skips : Skips pair_of
unfolding pair_of
pair_skips w g h = simp (zero_tiny (entry w 0 1) w.least g, zero_tiny (entry w 1 0) w.least h)

level_skips : Skips level_pair_of
unfolding level_pair_of
level_skips w g h = simp (zero_tiny (entry w 0 1) w.least g, zero_tiny (entry w 1 0) w.least h)

either : (b : Bool) (w x : Work) → x ≡ w → cond b w x ≡ w
either true w x e = refl
either false w x e = e

-- what is at least 0 keeps its sign
zero_number : is_number zero ≡ true
unfolding is_number of_bits
zero_number = refl

keeps_sign : (x : Float) → finite x ≡ true → Ieee.le zero x ≡ true → Ieee.lt x zero ≡ false
keeps_sign x f h = go (Ieee.lt x zero) (sym (le_not_lt zero x zero_number (finite_number x f)) ∙ h)
  where
    go : (b : Bool) → not b ≡ true → b ≡ false
    go true e = sym e
    go false e = refl

-- ---- zeros
zero_units : (x : ℕ) (e : ℤ) → x ≡ 0 → x * L / down e ≡ 0
zero_units x e z = ap (λ (y : ℕ). y * L / down e) z ∙ ap (λ (y : ℕ). y / down e) (zero-mul L) ∙ zero-div (down e)

zero_val : (o : Float) → Zero o → val o ≡ pos 0
unfolding Zero Ieee.eq of_bits val mag
zero_val nan h = absurd (subst T (sym h) tt)
zero_val (inf s) h = absurd (subst T (sym h) tt)
zero_val (fin s m e) h = ap (signed s) (zero_units (m * up e) e (none (m * up e) (down e) (eqb→eq (m * up e * 1) (0 * 1 * down e) (and_l (eqb (m * up e * 1) (0 * 1 * down e)) (beq s false || eqb (m * up e * 1) 0) (subst T (sym h) tt))))) ∙ plain s
  where
    none : (x d : ℕ) → x * 1 ≡ 0 * 1 * d → x ≡ 0
    none x d e = omega arith

    plain : (s : Bool) → signed s 0 ≡ pos 0
    plain true = refl
    plain false = refl

zero_finite : (o : Float) → Zero o → finite o ≡ true
unfolding Zero Ieee.eq of_bits finite
zero_finite nan h = h
zero_finite (inf s) h = h
zero_finite (fin s m e) h = refl

zero_zero : Zero zero
unfolding Zero Ieee.eq of_bits
zero_zero = refl

-- ---- what is exact is near
nothing : (x : ℤ) → x -ℤ x ≡ pos 0
nothing x = ext _ _ (omega (arith, +-parts x (neg_ℤ x), neg_parts x))

exact_near : (u s v : List Float) (f : Float) (m : ℕ) → exact_sum u s v ≡ val f *ℤ pos (L * L) → near u s v f m ≡ true
unfolding near
exact_near u s v f m e =
    ap (λ (z : ℤ). leb (abs (z -ℤ val f *ℤ pos (L * L)) * 2 ^ 40) (m * (L * L))) e
    ∙ ap (λ (z : ℤ). leb (abs z * 2 ^ 40) (m * (L * L))) (nothing (val f *ℤ pos (L * L)))
    ∙ ap (λ (k : ℕ). leb (k * 2 ^ 40) (m * (L * L))) (abs_pos 0)
    ∙ is_true (leb (0 * 2 ^ 40) (m * (L * L))) (le→leb (0 * 2 ^ 40) (m * (L * L)) zero-le)

between : (x : ℤ) → pos L *ℤ x *ℤ pos L ≡ x *ℤ pos (L * L)
between x = ap (λ (y : ℤ). y *ℤ pos L) (*-comm (pos L) x) ∙ *-assoc x (pos L) (pos L)

-- the identity on both sides
module _ (a b c : Float) (m : ℕ) where
  abbrev s : List Float
  s = three a b c

  abbrev e₀ : List Float
  e₀ = three one zero zero

  abbrev e₁ : List Float
  e₁ = three zero one zero

  abbrev e₂ : List Float
  e₂ = three zero zero one

  on₀ : near e₀ s e₀ a m ≡ true
  on₀ = exact_near e₀ s e₀ a m (simp (one_val, zero_val zero zero_zero, 0*, *0, 0+, +0) (between (val a)))

  on₁ : near e₁ s e₁ b m ≡ true
  on₁ = exact_near e₁ s e₁ b m (simp (one_val, zero_val zero zero_zero, 0*, *0, 0+, +0) (between (val b)))

  on₂ : near e₂ s e₂ c m ≡ true
  on₂ = exact_near e₂ s e₂ c m (simp (one_val, zero_val zero zero_zero, 0*, *0, 0+, +0) (between (val c)))

  module _ (o : Float) (z : Zero o) where
    off₀₁ : near e₀ s e₁ o m ≡ true
    off₀₁ = exact_near e₀ s e₁ o m (simp (one_val, zero_val zero zero_zero, zero_val o z, 0*, *0, 0+, +0))

    off₀₂ : near e₀ s e₂ o m ≡ true
    off₀₂ = exact_near e₀ s e₂ o m (simp (one_val, zero_val zero zero_zero, zero_val o z, 0*, *0, 0+, +0))

    off₁₀ : near e₁ s e₀ o m ≡ true
    off₁₀ = exact_near e₁ s e₀ o m (simp (one_val, zero_val zero zero_zero, zero_val o z, 0*, *0, 0+, +0))

    off₁₂ : near e₁ s e₂ o m ≡ true
    off₁₂ = exact_near e₁ s e₂ o m (simp (one_val, zero_val zero zero_zero, zero_val o z, 0*, *0, 0+, +0))

    off₂₀ : near e₂ s e₀ o m ≡ true
    off₂₀ = exact_near e₂ s e₀ o m (simp (one_val, zero_val zero zero_zero, zero_val o z, 0*, *0, 0+, +0))

    off₂₁ : near e₂ s e₁ o m ≡ true
    off₂₁ = exact_near e₂ s e₁ o m (simp (one_val, zero_val zero zero_zero, zero_val o z, 0*, *0, 0+, +0))

  identity_near : (o₁ o₂ o₃ o₄ o₅ o₆ : Float) → Zero o₁ → Zero o₂ → Zero o₃ → Zero o₄ → Zero o₅ → Zero o₆
      → near_all identity_of (three a b c) identity_of (three (three a o₁ o₂) (three o₃ b o₄) (three o₅ o₆ c)) m ≡ true
  unfolding near_all near_row
  identity_near o₁ o₂ o₃ o₄ o₅ o₆ z₁ z₂ z₃ z₄ z₅ z₆ = simp (on₀, on₁, on₂, off₀₁ o₁ z₁, off₀₂ o₂ z₂, off₁₀ o₃ z₃, off₁₂ o₄ z₄, off₂₀ o₅ z₅, off₂₁ o₆ z₆)

identity_orthogonal : orthogonal_of identity_of ≡ true
unfolding orthogonal_of
identity_orthogonal = identity_near one one one L zero zero zero zero zero zero zero_zero zero_zero zero_zero zero_zero zero_zero zero_zero

identity_finite : (finite one ≡ true) × (finite zero ≡ true)
unfolding finite of_bits
identity_finite = (refl, refl)

-- F with its diagonal a, b, c, and what stands beside it
module _ (a b c o₁ o₂ o₃ o₄ o₅ o₆ : Float) (z₁ : Zero o₁) (z₂ : Zero o₂) (z₃ : Zero o₃) (z₄ : Zero o₄) (z₅ : Zero o₅) (z₆ : Zero o₆) where
  abbrev f : List (List Float)
  f = three (three a o₁ o₂) (three o₃ b o₄) (three o₅ o₆ c)

  -- the work at its start and with the axes counted from the second and from the third
  abbrev begin : Float → Work
  begin l = record { m = rows_of f; u = identity_rows; v = identity_rows; least = l }

  abbrev second : Float → Work
  second l = record {
    m = record { r0 = three b o₄ o₃; r1 = three o₆ c o₅; r2 = three o₁ o₂ a };
    u = record { r0 = identity_rows.r1; r1 = identity_rows.r2; r2 = identity_rows.r0 };
    v = record { r0 = identity_rows.r1; r1 = identity_rows.r2; r2 = identity_rows.r0 };
    least = l;
  }

  abbrev third : Float → Work
  third l = record {
    m = record { r0 = three c o₅ o₆; r1 = three o₂ a o₁; r2 = three o₄ o₃ b };
    u = record { r0 = identity_rows.r2; r1 = identity_rows.r0; r2 = identity_rows.r1 };
    v = record { r0 = identity_rows.r2; r1 = identity_rows.r0; r2 = identity_rows.r1 };
    least = l;
  }

  swept : (g : Work → Work) (l : Float) → Skips g → step_by g (begin l) ≡ begin l
  unfolding next_of
  swept g l k =
      either (settled_of (begin l)) (begin l) (sweep_by g (begin l))
      (ap (λ (w : Work). g (g w)) (k (begin l) z₁ z₃) ∙ ap g (k (second l) z₄ z₆) ∙ k (third l) z₅ z₂)

  works : worked_of f ≡ begin (start_of f).least
  unfolding worked_of start_of step_of
  works = stays sweeps step_of (begin (start_of f).least) (swept pair_of (start_of f).least pair_skips)

  levels : levelled_of f ≡ begin (start_of f).least
  unfolding levelled_of start_of level_step_of
  levels = stays sweeps level_step_of (begin (start_of f).least) (swept level_pair_of (start_of f).least level_skips)

  module _ (fa : finite a ≡ true) (fb : finite b ≡ true) (fc : finite c ≡ true) (pa : Ieee.le zero a ≡ true) (pb : Ieee.le zero b ≡ true) (pc : Ieee.le zero c ≡ true) where
    abbrev own : Factors
    own = record { u = identity_rows; sigma = three a b c; vt = identity_rows }

    factors_are : factors_of f ≡ own
    unfolding factors_of size_of signed_row_of
    factors_are = ap factors_in works ∙ simp (keeps_sign a fa pa, keeps_sign b fb pb, keeps_sign c fc pc)

    own_accepted : accepted_of f own ≡ true
    unfolding accepted_of not_below
    own_accepted =
        simp (
          fa,
          fb,
          fc,
          pa,
          pb,
          pc,
          zero_finite o₁ z₁,
          zero_finite o₂ z₂,
          zero_finite o₃ z₃,
          zero_finite o₄ z₄,
          zero_finite o₅ z₅,
          zero_finite o₆ z₆,
          identity_finite.0,
          identity_finite.1,
          identity_near a b c (largest_in f) o₁ o₂ o₃ o₄ o₅ o₆ z₁ z₂ z₃ z₄ z₅ z₆,
          identity_orthogonal,
        )

    pub diagonal_factored : factored_of f ≡ record { refusal = 0; factors = own }
    unfolding factored_of
    diagonal_factored = simp (factors_are, own_accepted)

-- a diagonal stress: what stands above the diagonal is not read
module _ (a b c o₁ o₂ o₃ x₁ x₂ x₃ : Float) (z₁ : Zero o₁) (z₂ : Zero o₂) (z₃ : Zero o₃) (fa : finite a ≡ true) (fb : finite b ≡ true) (fc : finite c ≡ true) where
  abbrev t : List (List Float)
  t = three (three a x₁ x₂) (three o₁ b x₃) (three o₂ o₃ c)

  abbrev held : Principal
  held = record { values = three a b c; axes = identity_rows }

  principal_are : principal_of t ≡ held
  unfolding principal_of
  principal_are = ap read_of (levels a b c o₁ o₂ o₁ o₃ o₂ o₃ z₁ z₂ z₁ z₃ z₂ z₃)

  held_accepted : principal_accepted t held ≡ true
  unfolding principal_accepted
  held_accepted =
      simp (
        fa,
        fb,
        fc,
        zero_finite o₁ z₁,
        zero_finite o₂ z₂,
        zero_finite o₃ z₃,
        identity_finite.0,
        identity_finite.1,
        identity_near a b c (largest_in (mirrored_of t)) o₁ o₂ o₁ o₃ o₂ o₃ z₁ z₂ z₁ z₃ z₂ z₃,
        identity_orthogonal,
      )

  pub diagonal_principals : principals_of t ≡ record { refusal = 0; vector = three a b c }
  unfolding principals_of
  diagonal_principals = simp (principal_are, held_accepted)
