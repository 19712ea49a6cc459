-- Each row of the factors has three entries, and each of these is an f64: what is put into a record is read back from it. Assumes nothing.
use mathlib.Core.Path.{◌≡◌, refl}
use mathlib.Core.Bool.{Bool, true, false, cond}
use mathlib.Core.List.{List}
use Prim.Native.Nat as Nat
use Prim.Native.Nat.{ℕ, suc}
use lib.Dec.{T}
use lib.ListN.{length, get_or}
use lib.Ieee as Ieee
use lib.Ieee.{Float, nan, binary64, fits}
use lib.Ieee.Bits.{of_bits-fits}
use lib.Ieee.Fits.{add-fits, sub-fits, neg-fits, nan-fits, cond-fits}
use Rattle.tensor.specs.Matrix.{mul, zero, one, three, rows_of}
use Rattle.tensor.specs.declared.Rows.{Rows}
use Rattle.factors.specs.declared.Turn.{Turn}
use Rattle.factors.specs.declared.Work.{Work}
use Rattle.factors.specs.declared.Factors.{Factors}
use Rattle.factors.specs.Turns.{size_of, after_of, back_of}
use Rattle.factors.specs.Sweeps.{sweeps, up_of, down_of, turned_of, mixed_of, columns_of, both_of, entry, unlike_of, alike_of, resting_of, next_of, pair_of, sweep_by, settled_of, step_of, times, start_of, worked_of, signed_row_of, factors_in, factors_of, identity_rows}

abbrev F64 : Float → Type 0
F64 x = T (fits binary64 x)

pub record Row (v : List Float) : Type 0 where
  pub long : length v ≡ 3
  pub f64 : (i : ℕ) → F64 (get_or v i nan)

pub record AllRows (q : Rows) : Type 0 where
  pub row0 : Row q.r0
  pub row1 : Row q.r1
  pub row2 : Row q.r2

pub of_three : (x y z : Float) → F64 x → F64 y → F64 z → Row (three x y z)
of_three x y z a b c = record { long = refl; f64 = go }
  where
    go : (i : ℕ) → F64 (get_or (three x y z) i nan)
    go Nat.zero = a
    go (suc Nat.zero) = b
    go (suc (suc Nat.zero)) = c
    go (suc (suc (suc i))) = nan-fits binary64

-- ---- two axes turned
up_row : (a d : List Float) (r : Turn) → Row (up_of a d r)
unfolding up_of
up_row a d r = of_three _ _ _ (sub-fits binary64 _ _) (sub-fits binary64 _ _) (sub-fits binary64 _ _)

down_row : (a d : List Float) (r : Turn) → Row (down_of a d r)
unfolding down_of
down_row a d r = of_three _ _ _ (add-fits binary64 _ _) (add-fits binary64 _ _) (add-fits binary64 _ _)

mixed_row : (a : List Float) (r : Turn) → Row a → Row (mixed_of a r)
unfolding mixed_of
mixed_row a r h = of_three _ _ (get_or a 2 nan) (sub-fits binary64 _ _) (add-fits binary64 _ _) (h.f64 2)

turned_rows : (t : Rows) (r : Turn) → AllRows t → AllRows (turned_of t r)
unfolding turned_of
turned_rows t r h = record { row0 = up_row t.r0 t.r1 r; row1 = down_row t.r0 t.r1 r; row2 = h.row2 }

columns_rows : (t : Rows) (r : Turn) → AllRows t → AllRows (columns_of t r)
unfolding columns_of
columns_rows t r h = record { row0 = mixed_row t.r0 r h.row0; row1 = mixed_row t.r1 r h.row1; row2 = mixed_row t.r2 r h.row2 }

-- ---- the work
record Works (w : Work) : Type 0 where
  m : AllRows w.m
  u : AllRows w.u
  v : AllRows w.v

both_works : (w : Work) (left right : Turn) → Works w → Works (both_of w left right)
unfolding both_of
both_works w left right h =
    record {
      m = columns_rows (turned_of w.m left) right (turned_rows w.m left h.m);
      u = turned_rows w.u left h.u;
      v = turned_rows w.v right h.v;
    }

cycled : (a : List Float) → Row a → Row (three (get_or a 1 nan) (get_or a 2 nan) (get_or a 0 nan))
cycled a h = of_three _ _ _ (h.f64 1) (h.f64 2) (h.f64 0)

next_works : (w : Work) → Works w → Works (next_of w)
unfolding next_of
next_works w h =
    record {
      m = record { row0 = cycled w.m.r1 h.m.row1; row1 = cycled w.m.r2 h.m.row2; row2 = cycled w.m.r0 h.m.row0 };
      u = record { row0 = h.u.row1; row1 = h.u.row2; row2 = h.u.row0 };
      v = record { row0 = h.v.row1; row1 = h.v.row2; row2 = h.v.row0 };
    }

either_works : (b : Bool) (w x : Work) → Works w → Works x → Works (cond b w x)
either_works true w x g h = g
either_works false w x g h = h

pair_works : (w : Work) → Works w → Works (pair_of w)
unfolding pair_of
pair_works w h =
    let left = after_of (alike_of w) (unlike_of w) in
    let right = after_of (alike_of w) (back_of (unlike_of w)) in
    either_works (resting_of w) (next_of w) (next_of (both_of w left right)) (next_works w h) (next_works (both_of w left right) (both_works w left right h))

step_works : (w : Work) → Works w → Works (step_of w)
unfolding step_of
step_works w h =
    either_works (settled_of w) w (sweep_by pair_of w) h (pair_works (pair_of (pair_of w)) (pair_works (pair_of w) (pair_works w h)))

times_works : (n : ℕ) (w : Work) → Works w → Works (times n step_of w)
times_works Nat.zero w h = h
times_works (suc n) w h = times_works n (step_of w) (step_works w h)

identity : AllRows identity_rows
identity =
    let i : F64 one = of_bits-fits binary64 _ in
    let o : F64 zero = of_bits-fits binary64 _ in
    record { row0 = of_three one zero zero i o o; row1 = of_three zero one zero o i o; row2 = of_three zero zero one o o i }

worked_works : (f : List (List Float)) → AllRows (rows_of f) → Works (worked_of f)
unfolding worked_of start_of
worked_works f h = times_works sweeps (start_of f) (record { m = h; u = identity; v = identity })

-- ---- what is taken of it
size_f64 : (x : Float) → F64 x → F64 (size_of x)
unfolding size_of
size_f64 x h = cond-fits binary64 (Ieee.lt x zero) (Ieee.neg x) x (neg-fits binary64 x h) h

signed_row : (x : Float) (a : List Float) → Row a → Row (signed_row_of x a)
unfolding signed_row_of
signed_row x a h = go (Ieee.lt x zero)
  where
    go : (b : Bool) → Row (cond b (three (Ieee.neg (get_or a 0 nan)) (Ieee.neg (get_or a 1 nan)) (Ieee.neg (get_or a 2 nan))) a)
    go true = of_three _ _ _ (neg-fits binary64 _ (h.f64 0)) (neg-fits binary64 _ (h.f64 1)) (neg-fits binary64 _ (h.f64 2))
    go false = h

pub record FactorRows (x : Factors) : Type 0 where
  pub u : AllRows x.u
  pub sigma : Row x.sigma
  pub vt : AllRows x.vt

taken : (w : Work) → Works w → FactorRows (factors_in w)
taken w h =
    let a = signed_row (entry w 0 0) w.u.r0 h.u.row0 in
    let b = signed_row (entry w 1 1) w.u.r1 h.u.row1 in
    let c = signed_row (entry w 2 2) w.u.r2 h.u.row2 in
    record {
      u = record { row0 = of_three _ _ _ (a.f64 0) (b.f64 0) (c.f64 0); row1 = of_three _ _ _ (a.f64 1) (b.f64 1) (c.f64 1); row2 = of_three _ _ _ (a.f64 2) (b.f64 2) (c.f64 2) };
      sigma = of_three _ _ _ (size_f64 (entry w 0 0) (h.m.row0.f64 0)) (size_f64 (entry w 1 1) (h.m.row1.f64 1)) (size_f64 (entry w 2 2) (h.m.row2.f64 2));
      vt = h.v;
    }

pub factor_rows : (f : List (List Float)) → AllRows (rows_of f) → FactorRows (factors_of f)
unfolding factors_of
factor_rows f h = taken (worked_of f) (worked_works f h)
