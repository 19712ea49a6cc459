-- A stored determinant that is right in every bit is the determinant of its F as a number too: what an addition gives comes back from its bits. Assumes nothing.
use mathlib.Core.Path.{◌≡◌, ap, sym, subst, ◌∙◌}
use mathlib.Core.Bool.{true}
use mathlib.Core.List.{List}
use Prim.Native.Nat.{ℕ}
use lib.Dec.{T, eqb, eqb→eq}
use lib.ListN.{get_or}
use lib.Ieee.{binary64, of_bits}
use lib.Ieee.Bits.{of_bits-to_bits}
use lib.Ieee.Fits.{add-fits}
use Rattle.tensor.specs.Matrix.{det_of}
use Rattle.record.specs.Layout.{place_f, place_determinant, float_at, mat_at, determinant_at, determinant_right}

pub stored : (r : List ℕ) → determinant_right r ≡ true → float_at r place_determinant ≡ det_of (mat_at r place_f)
unfolding determinant_right determinant_at
stored r h =
    ap (of_bits binary64) (eqb→eq (get_or r place_determinant 0) (determinant_at r) (subst T (sym h) tt))
    ∙ of_bits-to_bits binary64 (det_of (mat_at r place_f)) (add-fits binary64 _ _)
