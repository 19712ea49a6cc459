-- Principal values (RULES, section 5; ticket 9: "the symmetric form of ticket 6's work on the stress's lower triangle with its diagonal"): the sweeps with
-- both sides turned alike, and the same kind of check, signs free.
use Rattle.std.specs.Prelude.{Bool, cond, ◌&&◌, List, Float}
use Rattle.tensor.specs.Matrix.{three, at, transpose_of, of_rows}
use Rattle.tensor.specs.Finite.{row_finite, mat_finite, rows_finite}
use Rattle.factors.specs.declared.Work.{Work}
use Rattle.factors.specs.declared.Principal.{Principal}
use Rattle.factors.specs.Sweeps.{sweeps, entry, both_of, alike_of, resting_of, next_of, step_by, times, start_of}
use Rattle.factors.specs.Check.{near_all, orthogonal_of, largest_in}

abbrev pub mirrored_of : List (List Float) → List (List Float)
mirrored_of f =
    three (three (at f 0 0) (at f 1 0) (at f 2 0))
    (three (at f 1 0) (at f 1 1) (at f 2 1))
    (three (at f 2 0) (at f 2 1) (at f 2 2))

unfoldable pub level_pair_of : Work → Work
level_pair_of w = cond (resting_of w) (next_of w) (next_of (both_of w (alike_of w) (alike_of w)))

unfoldable pub level_step_of : Work → Work
level_step_of w = step_by level_pair_of w

unfoldable pub levelled_of : List (List Float) → Work
levelled_of f = times sweeps level_step_of (start_of f)

abbrev pub read_of : Work → Principal
read_of w = record { values = three (entry w 0 0) (entry w 1 1) (entry w 2 2); axes = w.v }

unfoldable pub principal_of : List (List Float) → Principal
principal_of f = read_of (levelled_of (mirrored_of f))

-- the rows of the axes, taken as columns, are U and V
abbrev pub mirrored_accepted : List (List Float) → Principal → Bool
mirrored_accepted g x =
    mat_finite g && rows_finite x.axes && row_finite x.values
    && near_all (transpose_of (of_rows x.axes)) x.values (transpose_of (of_rows x.axes)) g (largest_in g)
    && orthogonal_of (transpose_of (of_rows x.axes))

unfoldable pub principal_accepted : List (List Float) → Principal → Bool
principal_accepted f x = mirrored_accepted (mirrored_of f) x
