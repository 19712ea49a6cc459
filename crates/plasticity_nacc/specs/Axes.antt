-- How many axes there are, and the powers of plasticity_nacc.rs in their number d (RULES, section 3; document 02, ticket 13).
use Rattle.std.specs.Prelude.{List, [], ◌∷◌, ℕ, Float}
use Rattle.tensor.specs.Matrix.{three}
use Rattle.walk.specs.Expr.{Expr, num, ◌/ᵉ◌, value}
use Rattle.walk.specs.Constants.{one, two}
use Rattle.walk.specs.Walk.{Walk, root, third, two_thirds, minus_two_thirds, itself, ask}
use Rattle.plasticity_nacc.specs.Law as law

pub data Axes : Type 0 where
  two_axes : Axes
  three_axes : Axes

-- d
abbrev pub dim_of : Axes → Expr
dim_of two_axes = two
dim_of three_axes = num law.dim

-- a singular value for each axis, all alike
abbrev pub alike : Axes → Float → List Float
alike two_axes e = e ∷ e ∷ []
alike three_axes e = three e e e

-- ---- the powers of x, at step n. "Powers -1, 1/2 and 1 where it has -2/d, 1/d and 2/d, worked as 1/x, the root and x, within section 3's
-- range for powers": on two axes that range is asked of x itself
-- -2/d
abbrev pub inverse : {A : Type 0} → Axes → ℕ → Expr → (Expr → Walk A) → Walk A
inverse two_axes n x k = ask n itself x (λ w. k (num (value (one /ᵉ w))))
inverse three_axes n x k = ask n minus_two_thirds x k

-- 1/d
abbrev pub rooted : {A : Type 0} → Axes → ℕ → Expr → (Expr → Walk A) → Walk A
rooted two_axes n x k = ask n itself x (λ w. ask n root w k)
rooted three_axes n x k = ask n third x k

-- 2/d
abbrev pub squared : {A : Type 0} → Axes → ℕ → Expr → (Expr → Walk A) → Walk A
squared two_axes n x k = ask n itself x k
squared three_axes n x k = ask n two_thirds x k
