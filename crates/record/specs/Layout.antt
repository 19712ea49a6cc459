-- The record (RULES, section 7): F, U, sigma, V^T by rows, then phase, plastic determinant, plastic hardening,
-- elastic hardening, log gain and alpha, and last F's determinant, each float as its bits. All offsets stand here.
use Rattle.std.specs.Prelude.{Bool, ◌&&◌, ℕ, zero, suc, ◌+◌, ◌*◌, ◌^◌, eqb, ltb, get_or, set, Float}
use mathlib.Core.List.{List, [], ◌∷◌, ◌++◌, foldl, map}
use Rattle.std.specs.Float.Ieee as Ieee
use Rattle.std.specs.Float.{nan, binary64}
use Rattle.numbers.specs.Floats.{finite}
use Rattle.tensor.specs.Axes.{axes_from}
use Rattle.tensor.specs.Matrix.{det_of, rows_of, of_rows}
use Rattle.tensor.specs.declared.Rows.{Rows}
use Rattle.plasticity.specs.State.{inputs_finite}
use Rattle.plasticity.specs.declared.Scalars.{Scalars}
use Rattle.plasticity.specs.declared.State.{State}

-- how many floats each part has over d axes, in the record's order, up to the six scalars
abbrev pub widths : ℕ → List ℕ
widths d = d * d ∷ d * d ∷ d ∷ d * d ∷ 1 ∷ 1 ∷ 1 ∷ 1 ∷ 1 ∷ 1 ∷ []

-- where part k of a layout begins, after those before it
abbrev pub place : List ℕ → ℕ → ℕ
place [] k = 0
place (w ∷ ws) zero = 0
place (w ∷ ws) (suc k) = w + place ws k

-- and how many floats the parts have together
abbrev pub whole : List ℕ → ℕ
whole [] = 0
whole (w ∷ ws) = w + whole ws

-- in three axes the determinant follows
abbrev pub layout : List ℕ
layout = widths 3 ++ (1 ∷ [])

abbrev pub floats : ℕ
floats = whole layout

-- the floats before the determinant
abbrev pub bare : ℕ
bare = whole (widths 3)

abbrev pub place_f : ℕ
place_f = place layout 0

abbrev pub place_u : ℕ
place_u = place layout 1

abbrev pub place_sigma : ℕ
place_sigma = place layout 2

abbrev pub place_vt : ℕ
place_vt = place layout 3

abbrev pub place_phase : ℕ
place_phase = place layout 4

abbrev pub place_plastic_determinant : ℕ
place_plastic_determinant = place layout 5

abbrev pub place_plastic_hardening : ℕ
place_plastic_hardening = place layout 6

abbrev pub place_elastic_hardening : ℕ
place_elastic_hardening = place layout 7

abbrev pub place_log_gain : ℕ
place_log_gain = place layout 8

abbrev pub place_alpha : ℕ
place_alpha = place layout 9

abbrev pub place_determinant : ℕ
place_determinant = place layout 10

-- the number at a place of a record
abbrev pub float_at : List ℕ → ℕ → Float
float_at r i = Ieee.of_bits binary64 (get_or r i 0)

-- k places on
abbrev pub further : ℕ → ℕ → ℕ
further at zero = at
further at (suc k) = at + suc k

-- a NaN's bits are 7ff8000000000000
abbrev pub bits : Float → ℕ
bits x = Ieee.to_bits binary64 x

-- ---- reading and writing over n axes: a row, a matrix by its rows
abbrev pub row_over : ℕ → List ℕ → ℕ → List Float
row_over n r at = map (λ j. float_at r (further at j)) (axes_from 0 n)

abbrev pub mat_over : ℕ → List ℕ → ℕ → List (List Float)
mat_over n r at = map (λ i. row_over n r (further at (i * n))) (axes_from 0 n)

abbrev pub put_row_over : ℕ → List ℕ → ℕ → List Float → List ℕ
put_row_over n r at v = foldl (λ q j. set q (further at j) (bits (get_or v j nan))) r (axes_from 0 n)

abbrev pub put_mat_over : ℕ → List ℕ → ℕ → List (List Float) → List ℕ
put_mat_over n r at m = foldl (λ q i. put_row_over n q (further at (i * n)) (get_or m i [])) r (axes_from 0 n)

-- U and V^T; F and sigma written
abbrev pub u_over : ℕ → List ℕ → List (List Float)
u_over n r = mat_over n r (place (widths n) 1)

abbrev pub vt_over : ℕ → List ℕ → List (List Float)
vt_over n r = mat_over n r (place (widths n) 3)

abbrev pub put_over : ℕ → List ℕ → List (List Float) → List Float → List ℕ
put_over n r f sigma = put_row_over n (put_mat_over n r (place (widths n) 0) f) (place (widths n) 2) sigma

-- the six scalars of a layout
abbrev pub scalars_over : List ℕ → List ℕ → Scalars
scalars_over ws r =
    record {
      phase = float_at r (place ws 4);
      plastic_determinant = float_at r (place ws 5);
      plastic_hardening = float_at r (place ws 6);
      elastic_hardening = float_at r (place ws 7);
      log_gain = float_at r (place ws 8);
      alpha = float_at r (place ws 9);
    }

-- ---- three axes
abbrev pub row_at : List ℕ → ℕ → List Float
row_at r at = row_over 3 r at

abbrev pub mat_at : List ℕ → ℕ → List (List Float)
mat_at r at = mat_over 3 r at

abbrev pub rows_at : List ℕ → ℕ → Rows
rows_at r at = rows_of (mat_at r at)

abbrev pub u_at : List ℕ → List (List Float)
u_at r = u_over 3 r

abbrev pub vt_at : List ℕ → List (List Float)
vt_at r = vt_over 3 r

abbrev pub state_at : List ℕ → State
state_at r = record { f = rows_at r place_f; sigma = row_at r place_sigma; scalars = scalars_over layout r }

-- no float of the record is a NaN or an infinity
abbrev pub record_finite : List ℕ → Bool
record_finite r = inputs_finite (u_at r) (vt_at r) (state_at r) && finite (float_at r place_determinant)

-- below a sign's bit in an upper half, 2^31
abbrev pub low : ℕ → Bool
low n = ltb n (2 ^ 31)

-- the section 4 determinant of the F that stands in a record, as bits
unfoldable pub determinant_at : List ℕ → ℕ
determinant_at r = bits (det_of (mat_at r place_f))

-- else 11: the stored determinant is that one in every bit
unfoldable pub determinant_right : List ℕ → Bool
determinant_right r = eqb (get_or r place_determinant 0) (determinant_at r)

abbrev pub put_row : List ℕ → ℕ → List Float → List ℕ
put_row r at v = put_row_over 3 r at v

abbrev pub put_rows : List ℕ → ℕ → Rows → List ℕ
put_rows r at m = put_mat_over 3 r at (of_rows m)

-- the record with the determinant of the F that stands there
abbrev pub filled : List ℕ → List ℕ
filled r = set r place_determinant (determinant_at r)

-- an update that stores writes F and sigma, and the determinant of that F
abbrev pub put_bare : List ℕ → State → List ℕ
put_bare r s = put_over 3 r (of_rows s.f) s.sigma

abbrev pub put_shape : List ℕ → State → List ℕ
put_shape r s = filled (put_bare r s)

-- and of the six scalars those that its law names; phase is a verdict's
abbrev pub put_phase : List ℕ → Float → List ℕ
put_phase r x = set r place_phase (bits x)
