-- The definition `to_float_of` itself is what `FloatOf` says. Assumes nothing.
use mathlib.Core.Path.{refl}
use mathlib.Core.Bool.{Bool, true, false}
use Prim.Native.Nat.{ℕ, zero, suc, ◌≤◌, ◌<◌, ◌^◌}
use native.Mathlib.Nat.{zero-lt-suc}
use Rattle.fixed_point.specs.ToFloat.{to_float_of, FloatOf}
use Rattle.fixed_point.proofs.ToFloat.{packs, from_pattern, at_zero}

pub float_of : (l u : ℕ) (s : Bool) → l < 2 ^ 64 → u ≤ 1000 → FloatOf l u s (to_float_of l u s)
unfolding to_float_of
float_of zero u s h k = at_zero u s
float_of (suc l) u true h k = from_pattern (suc l) u (zero-lt-suc l) h k true (to_float_of (suc l) u true) refl (packs (suc l) u (zero-lt-suc l) h k).minus
float_of (suc l) u false h k = from_pattern (suc l) u (zero-lt-suc l) h k false (to_float_of (suc l) u false) refl (packs (suc l) u (zero-lt-suc l) h k).plus
