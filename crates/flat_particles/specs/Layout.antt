-- A flat record (ticket 13): F, U, sigma and V^T by rows, then the six scalars, each float as its bits, and no determinant. Layout, reading and writing
-- are `record`'s over any number of axes, with 2.
use Rattle.std.specs.Prelude.{List, ℕ, Float}
use Rattle.record.specs.Layout.{widths, place, whole, row_over, mat_over, u_over, vt_over, scalars_over, put_over}
use Rattle.flat.specs.State.{of_rows, rows_of}
use Rattle.flat.specs.declared.State.{State}

abbrev pub floats : ℕ
floats = whole (widths 2)

abbrev pub u_at : List ℕ → List (List Float)
u_at r = u_over 2 r

abbrev pub vt_at : List ℕ → List (List Float)
vt_at r = vt_over 2 r

abbrev pub state_at : List ℕ → State
state_at r = record { f = rows_of (mat_over 2 r (place (widths 2) 0)); sigma = row_over 2 r (place (widths 2) 2); scalars = scalars_over (widths 2) r }

-- an update that stores writes F and sigma
abbrev pub put_shape : List ℕ → State → List ℕ
put_shape r s = put_over 2 r (of_rows s.f) s.sigma
