-- The sweeps (RULES, section 7; ticket 6: "by a number of sweeps fixed in docs"), as they are worked: each works the first two axes three times over,
-- counting the axes from the next one after each time. docs/FACTORS.md has them in words.
use Rattle.std.specs.Prelude.{Bool, cond, ◌&&◌, List, ℕ, zero, suc, get_or, Float}
use Rattle.std.specs.Float.Ieee as Ieee
use Rattle.std.specs.Float.{nan, binary64}
use Rattle.std.specs.Float.Ieee.{of_bits}
use Rattle.tensor.specs.Matrix as Matrix
use Rattle.tensor.specs.Matrix.{add, sub, mul, one, three, transpose_of, rows_of}
use Rattle.tensor.specs.declared.Rows.{Rows}
use Rattle.factors.specs.declared.Turn.{Turn}
use Rattle.factors.specs.declared.Work.{Work}
use Rattle.factors.specs.declared.Factors.{Factors}
use Rattle.factors.specs.Turns.{half, size_of, tiny_of, half_turn_of, after_of, back_of}

-- the number of sweeps
abbrev pub sweeps : ℕ
sweeps = 8

-- ---- two axes turned
unfoldable pub up_of : List Float → List Float → Turn → List Float
up_of a d r =
    three (sub (mul r.c (get_or a 0 nan)) (mul r.s (get_or d 0 nan)))
    (sub (mul r.c (get_or a 1 nan)) (mul r.s (get_or d 1 nan)))
    (sub (mul r.c (get_or a 2 nan)) (mul r.s (get_or d 2 nan)))

unfoldable pub down_of : List Float → List Float → Turn → List Float
down_of a d r =
    three (add (mul r.s (get_or a 0 nan)) (mul r.c (get_or d 0 nan)))
    (add (mul r.s (get_or a 1 nan)) (mul r.c (get_or d 1 nan)))
    (add (mul r.s (get_or a 2 nan)) (mul r.c (get_or d 2 nan)))

unfoldable pub turned_of : Rows → Turn → Rows
turned_of t r = record { r0 = up_of t.r0 t.r1 r; r1 = down_of t.r0 t.r1 r; r2 = t.r2 }

unfoldable pub mixed_of : List Float → Turn → List Float
mixed_of a r =
    three (sub (mul r.c (get_or a 0 nan)) (mul r.s (get_or a 1 nan)))
    (add (mul r.s (get_or a 0 nan)) (mul r.c (get_or a 1 nan)))
    (get_or a 2 nan)

unfoldable pub columns_of : Rows → Turn → Rows
columns_of m r = record { r0 = mixed_of m.r0 r; r1 = mixed_of m.r1 r; r2 = mixed_of m.r2 r }

unfoldable pub both_of : Work → Turn → Turn → Work
both_of w left right = record { m = columns_of (turned_of w.m left) right; u = turned_of w.u left; v = turned_of w.v right; least = w.least }

-- ---- the half turns that clear the two entries between the first two axes
abbrev pub entry : Work → ℕ → ℕ → Float
entry w zero j = get_or w.m.r0 j nan
entry w (suc zero) j = get_or w.m.r1 j nan
entry w (suc (suc i)) j = get_or w.m.r2 j nan

-- the part of the four entries that differs on the two sides, and the part that is alike
unfoldable pub unlike_of : Work → Turn
unlike_of w = half_turn_of (add (mul half (entry w 0 0)) (mul half (entry w 1 1))) (sub (mul half (entry w 1 0)) (mul half (entry w 0 1))) (mul half w.least)

unfoldable pub alike_of : Work → Turn
alike_of w = half_turn_of (sub (mul half (entry w 0 0)) (mul half (entry w 1 1))) (add (mul half (entry w 0 1)) (mul half (entry w 1 0))) (mul half w.least)

abbrev pub resting_of : Work → Bool
resting_of w = tiny_of (entry w 0 1) w.least && tiny_of (entry w 1 0) w.least

-- ---- the axes counted from the next one
abbrev pub cycle_row_of : List Float → List Float
cycle_row_of a = three (get_or a 1 nan) (get_or a 2 nan) (get_or a 0 nan)

abbrev pub cycle_of : Rows → Rows
cycle_of t = record { r0 = t.r1; r1 = t.r2; r2 = t.r0 }

unfoldable pub next_of : Work → Work
next_of w = record {
  m = record { r0 = cycle_row_of w.m.r1; r1 = cycle_row_of w.m.r2; r2 = cycle_row_of w.m.r0 };
  u = cycle_of w.u;
  v = cycle_of w.v;
  least = w.least;
}

-- ---- a sweep: each pair of axes once
unfoldable pub pair_of : Work → Work
pair_of w = cond (resting_of w) (next_of w) (next_of (both_of w (after_of (alike_of w) (unlike_of w)) (after_of (alike_of w) (back_of (unlike_of w)))))

abbrev pub sweep_by : (Work → Work) → Work → Work
sweep_by g w = g (g (g w))

-- nothing is left to turn
unfoldable pub settled_of : Work → Bool
settled_of w =
    tiny_of (entry w 0 1) w.least && tiny_of (entry w 0 2) w.least
    && tiny_of (entry w 1 0) w.least && tiny_of (entry w 1 2) w.least
    && tiny_of (entry w 2 0) w.least && tiny_of (entry w 2 1) w.least

-- a sweep that finds nothing to turn ends the work
abbrev pub step_by : (Work → Work) → Work → Work
step_by g w = cond (settled_of w) w (sweep_by g w)

unfoldable pub step_of : Work → Work
step_of w = step_by pair_of w

abbrev pub times : ℕ → (Work → Work) → Work → Work
times zero g w = w
times (suc n) g w = times n g (g w)

-- ---- from F to its factors
abbrev pub identity_rows : Rows
identity_rows = record { r0 = three one Matrix.zero Matrix.zero; r1 = three Matrix.zero one Matrix.zero; r2 = three Matrix.zero Matrix.zero one }

-- 2 ^ -51 of the sizes in a row
unfoldable pub least_of : List Float → Float
least_of a =
    add (add (mul (of_bits binary64 0x3cc0_0000_0000_0000) (size_of (get_or a 0 nan))) (mul (of_bits binary64 0x3cc0_0000_0000_0000) (size_of (get_or a 1 nan))))
    (mul (of_bits binary64 0x3cc0_0000_0000_0000) (size_of (get_or a 2 nan)))

unfoldable pub start_of : List (List Float) → Work
start_of f = record { m = rows_of f; u = identity_rows; v = identity_rows; least = add (add (least_of (rows_of f).r0) (least_of (rows_of f).r1)) (least_of (rows_of f).r2) }

unfoldable pub worked_of : List (List Float) → Work
worked_of f = times sweeps step_of (start_of f)

-- sigma are the sizes on the diagonal; a row of U ^ T takes the sign
unfoldable pub signed_row_of : Float → List Float → List Float
signed_row_of x a = cond (Ieee.lt x Matrix.zero) (three (Ieee.neg (get_or a 0 nan)) (Ieee.neg (get_or a 1 nan)) (Ieee.neg (get_or a 2 nan))) a

abbrev pub factors_in : Work → Factors
factors_in w = record {
  u = rows_of (transpose_of (three (signed_row_of (entry w 0 0) w.u.r0) (signed_row_of (entry w 1 1) w.u.r1) (signed_row_of (entry w 2 2) w.u.r2)));
  sigma = three (size_of (entry w 0 0)) (size_of (entry w 1 1)) (size_of (entry w 2 2));
  vt = w.v;
}

unfoldable pub factors_of : List (List Float) → Factors
factors_of f = factors_in (worked_of f)
