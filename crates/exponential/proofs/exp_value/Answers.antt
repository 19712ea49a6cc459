-- `exponential::exp_value` meets its contract. Assumes nothing.
use mathlib.Core.Path.{◌≡◌, sym, subst}
use mathlib.Core.Bool.{not}
use Prim.Native.Nat.{ℕ, ◌+◌, ◌*◌, ◌/◌, ◌%◌, ◌^◌, ◌<◌}
use lib.Dec.{T}
use lib.Ieee as Ieee
use lib.Ieee.{Float, binary64, of_bits, to_bits, is_nan, nan_bits}
use Rattle.exponential.specs.Entries.{power_of}
use Rattle.exponential.specs.Worked.{shift, nearest_of, rest_of, series_of, scale_bits, times_of, exp_of}
use Rattle.exponential.proofs.Unpacking.{nearest_no_nan, scale_no_nan, bits_fit}
use Rattle.exponential.proofs.exp_value.Goals as goal

-- the bits, and what they are put together for
bits : (x t : Float) (v : ℕ) → t ≡ nearest_of x → v ≡ power_of (to_bits binary64 t % 128) → to_bits binary64 t / 128 * 2 ^ 52 % 2 ^ 64 + v ≡ scale_bits (to_bits binary64 (nearest_of x))
unfolding scale_bits
bits x t v e f = rw (f, e)

value : (x t r p y : Float) (b : ℕ) → t ≡ nearest_of x → b ≡ scale_bits (to_bits binary64 (nearest_of x)) → r ≡ rest_of x (Ieee.sub binary64 t shift) → p ≡ series_of r → y ≡ times_of (of_bits binary64 b) p → y ≡ exp_of x
unfolding exp_of
value x t r p y b e f g h k = rw (k, f, h, g, e)

pub float_to_bits-n : goal.float_to_bits-n
float_to_bits-n c = subst (λ (t : Float). T (not (is_nan t))) (sym c.nearest-t.ensures) (nearest_no_nan c.args.x (subst T (sym c.well_formed.0.1) tt) c.requires)

pub overflow_add-s : goal.overflow_add-s
overflow_add-s c = let b = to_bits binary64 c.nearest-t.result in record { fits = subst (λ (v : ℕ). b / 128 * 2 ^ 52 % 2 ^ 64 + v < 2 ^ 64) (sym c.power.ensures) (bits_fit b) }

pub float_from_bits-s : goal.float_from_bits-s
float_from_bits-s c =
    subst (λ (n : ℕ). T (not (nan_bits binary64 n))) (sym (bits c.args.x c.nearest-t.result c.power.result c.nearest-t.ensures c.power.ensures))
    (scale_no_nan c.args.x (subst T (sym c.well_formed.0.1) tt) c.requires)

pub returns : goal.returns
returns c =
    let t = c.nearest-t in
    let x = c.args.x in
    value x t.result c.rest.result c.series.result c.times.result _ t.ensures (bits x t.result c.power.result t.ensures c.power.ensures) c.rest.ensures c.series.ensures c.times.ensures
