-- What the quick test in floats rests on (RULES, section 7): entries of U and V up to 2, sigma up to 4 m, m far from both ends of the floats.
use Rattle.std.specs.Prelude.{◌≡◌, true, List, [], ℕ, ◌*◌, ◌^◌, ◌≤◌, get_or, Float}
use Rattle.std.specs.Float.{nan}
use Rattle.exact.specs.Units.{L, mag, Fin64}
pub use Rattle.numbers.specs.Constants.{two}
use Rattle.tensor.specs.Matrix.{add}
use Rattle.tensor.specs.Finite.{row_finite, mat_finite}
use Rattle.nearness.specs.Near.{near_all, orthogonal_of}

pub record Tame (M : ℕ) : Type 0 where
  pub some : 2 ^ 60 ≤ M
  pub room : M ≤ 2 ^ 60 * L

abbrev pub Bounded : Float → Float → Type 0
Bounded x t = Fin64 x × (mag x ≤ mag t)

pub record RowBounded (a : List Float) (t : Float) : Type 0 where
  pub at0 : Bounded (get_or a 0 nan) t
  pub at1 : Bounded (get_or a 1 nan) t
  pub at2 : Bounded (get_or a 2 nan) t
  pub fine : row_finite a ≡ true

pub record RowsBounded (m : List (List Float)) (t : Float) : Type 0 where
  pub row0 : RowBounded (get_or m 0 []) t
  pub row1 : RowBounded (get_or m 1 []) t
  pub row2 : RowBounded (get_or m 2 []) t
  pub fine : mat_finite m ≡ true

abbrev pub fourfold : Float → Float
fourfold m = add (add m m) (add m m)

-- of one entry, of a row of them
pub record Sound (u s v : List Float) (m : Float) : Type 0 where
  pub scale : Fin64 m × Tame (mag m)
  pub sigma : RowBounded s (fourfold m)
  pub left : RowBounded u two
  pub right : RowBounded v two

pub record SoundRow (u s : List Float) (v : List (List Float)) (m : Float) : Type 0 where
  pub scale : Fin64 m × Tame (mag m)
  pub sigma : RowBounded s (fourfold m)
  pub left : RowBounded u two
  pub right : RowsBounded v two

-- what the tests show
pub record SurelyNear (u : List (List Float)) (s : List Float) (v f : List (List Float)) (m : Float) : Type 0 where
  pub near : near_all u s v f (mag m) ≡ true
  pub sigma : RowBounded s (fourfold m)
  pub whole : RowsBounded f m

pub record SurelyOrthogonal (u : List (List Float)) : Type 0 where
  pub near : orthogonal_of u ≡ true
  pub small : RowsBounded u two
