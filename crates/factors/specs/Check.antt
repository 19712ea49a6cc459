-- The check of factors (RULES, section 7; ticket 6), exact over whole numbers, for any number of axes. With m the largest size of an entry of F: "each entry of
-- U sigma V^T is within m/2^40 of F; U and V times their transposes are within 2^-40 of the identity; no sigma is negative"; "a factor that isn't finite misses it".
use Rattle.std.specs.Prelude.{◌≡◌, Bool, cond, ◌&&◌, List, map, ℕ, ltb, pos, Float}
use Rattle.std.specs.Float.Ieee as Ieee
use Rattle.exact.specs.Units.{mag, Fin64}
use Rattle.exact.specs.Value.{val}
pub use Rattle.nearness.specs.Near.{near_all, orthogonal_of}
use Rattle.tensor.specs.Axes.{from_left, all_of}
use Rattle.tensor.specs.Matrix.{zero, transpose_of, of_rows}
use Rattle.tensor.specs.Finite.{row_finite, mat_finite, rows_finite}
use Rattle.factors.specs.declared.Factors.{Factors}

abbrev pub larger : ℕ → ℕ → ℕ
larger a b = cond (ltb a b) b a

-- the largest size of an entry, in units of 2 ^ -1074
unfoldable pub largest_of : List Float → ℕ
largest_of a = from_left larger 0 (map mag a)

unfoldable pub largest_in : List (List Float) → ℕ
largest_in m = from_left larger 0 (map largest_of m)

unfoldable pub not_below : List Float → Bool
not_below s = all_of (λ x. Ieee.le zero x) s

unfoldable pub accepted_of : List (List Float) → Factors → Bool
accepted_of f x =
    mat_finite f && rows_finite x.u && row_finite x.sigma && rows_finite x.vt
    && not_below x.sigma
    && near_all (of_rows x.u) x.sigma (transpose_of (of_rows x.vt)) f (largest_in f)
    && orthogonal_of (of_rows x.u)
    && orthogonal_of (transpose_of (of_rows x.vt))

-- ---- r is k units, and not below 0
pub record Size (k : ℕ) (r : Float) : Type 0 where
  pub fine : Fin64 r
  pub units : mag r ≡ k
  pub plus : val r ≡ pos k
