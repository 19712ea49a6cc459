-- `nearness::multiply::cells` meets its contract. Assumes nothing.
use Prim.Native.Nat.{ℕ, ◌+◌, ◌/◌, ◌^◌, ◌<◌}
use native.Mathlib.Omega.{arith}
use Rattle.nearness.proofs.Products.{six_cells}
use Rattle.nearness.proofs.multiply.cells.Goals as goal

pub overflow_add-result-2 : goal.overflow_add-result-2
overflow_add-result-2 c = record { fits = go _ _ c.both_halves-a.ensures.high_fits c.both_halves-b.ensures.low_fits }
  where
    go : (x y : ℕ) → x < 2 ^ 64 → y < 2 ^ 64 → x / 2 ^ 32 + y / 2 ^ 32 < 2 ^ 64
    go x y h k = omega arith

pub returns : goal.returns
returns c =
    let p = c.both_halves-p.ensures in
    let a = c.both_halves-a.ensures in
    let b = c.both_halves-b.ensures in
    six_cells _ _ _ _ _ _ _ _ p.value a.value b.value a.low_fits a.high_fits b.low_fits b.high_fits
