-- A size m with the sign s as pl s m - mi s m.
use Rattle.std.specs.Prelude.{ℕ, Bool, cond}

abbrev pub pl : Bool → ℕ → ℕ
pl s m = cond s 0 m

abbrev pub mi : Bool → ℕ → ℕ
mi s m = cond s m 0
