-- `square_root::digits::of_digits` meets its contract. Assumes nothing.
use Rattle.std.proofs.Common.{◌≡◌, ℕ, ◌+◌, ◌-◌, ◌*◌, ◌/◌, ◌%◌, ◌^◌, ◌<◌, ap, mod-lt, mod-eq_of_lt, arith, lit<}
use lib.Ieee.{binary64, of_bits}
use Rattle.exact.proofs.RootDigits.{doubled}
use Rattle.numbers.proofs.Laws.{not_above_inf}
use Rattle.square_root.proofs.Packed.{shifted, root_at, root_fits}
use Rattle.square_root.proofs.digits.of_digits.Goals as goal

-- the exponent's field loses nothing
field : (k : ℕ) → k < 4000 → (k / 2 - 26) * 2 ^ 52 % 2 ^ 64 ≡ (k / 2 - 26) * 2 ^ 52
field k h = mod-eq_of_lt (omega arith)

pub root-r-requires : goal.root-r-requires
root-r-requires c =
    let p = c.requires in
    let d = doubled c.args.q (c.args.k % 2) p.0 p.1 (mod-lt c.args.k (lit< tt)) in
    rw (shifted c.args.q c.args.k p.0 p.1) (d.0, omega arith)

pub overflow_add-result : goal.overflow_add-result
overflow_add-result c =
    let p = c.requires in
    let n = rw (shifted c.args.q c.args.k p.0 p.1) at c.root-r.ensures in
    rw (field c.args.k p.3) (omega (arith, root_fits c.args.q c.args.k c.root-r.result p.0 p.1 n))

pub float_from_bits-result : goal.float_from_bits-result
float_from_bits-result c =
    let p = c.requires in
    let n = rw (shifted c.args.q c.args.k p.0 p.1) at c.root-r.ensures in
    rw (field c.args.k p.3) (not_above_inf _ (omega (arith, root_fits c.args.q c.args.k c.root-r.result p.0 p.1 n)))

pub returns : goal.returns
returns c =
    let p = c.requires in
    let n = rw (shifted c.args.q c.args.k p.0 p.1) at c.root-r.ensures in
    root_at c.args.q c.args.k c.root-r.result p.0 p.1 n _ p.2 p.3 (ap (λ m. of_bits binary64 (m + c.root-r.result)) (field c.args.k p.3))
