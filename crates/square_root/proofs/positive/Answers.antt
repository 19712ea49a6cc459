-- `square_root::positive` meets its contract. Assumes nothing.
use Rattle.std.proofs.Common.{◌≡◌, ℕ, ◌+◌, ◌-◌, ◌*◌, ◌/◌, ◌%◌, ◌^◌, ◌<◌, false, refl, arith}
use lib.Count.{count_leading_zeros}
use lib.Ieee.{Float, binary64, to_bits}
use lib.Ieee.Bits.{to_bits-lt}
use Rattle.exact.specs.Units.{mag, sgn, Fin64}
use Rattle.exact.proofs.Patterns.{finite_not_nan}
use Rattle.square_root.proofs.Unpacked.{Lead, lead, Parts, small_mag, small_parts, normal_parts}
use Rattle.square_root.proofs.positive.Goals as goal
use Rattle.square_root.proofs.positive.Goals.{then-e-eq0, else-e-eq0}

-- x is finite and above 0
module _ (x : Float) (p : Fin64 x × (sgn x ≡ false) × (0 < mag x)) where
  abbrev n : ℕ
  n = to_bits binary64 x

  abbrev z : ℕ
  z = count_leading_zeros 64 (n % 2 ^ 52) - 11

  -- the digits of a value with an exponent's field of 0
  known : n / 2 ^ 52 ≡ 0 → Lead (n % 2 ^ 52)
  known e =
      let m = small_mag x n p.0 refl e in
      lead (n % 2 ^ 52) (omega arith) (omega arith)

  small : n / 2 ^ 52 ≡ 0 → Parts x (n % 2 ^ 52 * 2 ^ z % 2 ^ 64) (1074 - z)
  small e = small_parts x n p.0 refl e (known e)

  normal : (n / 2 ^ 52 ≡ 0 → ⊥) → Parts x (2 ^ 52 + n % 2 ^ 52) (n / 2 ^ 52 + 1073)
  normal e = normal_parts x n p.0 refl p.1 (to_bits-lt binary64 x p.0.1) e

pub float_to_bits-n : goal.float_to_bits-n
float_to_bits-n c = finite_not_nan c.args.x c.requires.0.0

pub overflow_add-k : goal.overflow_add-k
overflow_add-k c = omega (arith, to_bits-lt binary64 c.args.x c.requires.0.1)

pub overflow_cast-z : goal.overflow_cast-z
overflow_cast-z c =
    let d = known c.args.x c.requires c.if-e-eq0.true in
    omega arith

pub overflow_sub-z : goal.overflow_sub-z
overflow_sub-z c = (known c.args.x c.requires c.if-e-eq0.true).enough

pub overflow_shl-q : goal.overflow_shl-q
overflow_shl-q c =
    let d = known c.args.x c.requires c.if-e-eq0.true in
    omega arith

pub overflow_sub-k : goal.overflow_sub-k
overflow_sub-k c =
    let d = known c.args.x c.requires c.if-e-eq0.true in
    omega arith

pub of_digits-requires : goal.of_digits-requires
of_digits-requires c =
    let d : Parts c.args.x c.if-e-eq0.q c.if-e-eq0.k = elim c.if-e-eq0.branch [
      | then-e-eq0 w ↦ rw (w.q-is, w.k-is) (small c.args.x c.requires w.if-e-eq0.true)
      | else-e-eq0 w ↦ rw (w.q-is, w.k-is) (normal c.args.x c.requires w.if-e-eq0.false)
    ] in
    (d.low, d.high, d.least, d.most)

pub returns : goal.returns
returns c =
    let d : Parts c.args.x c.if-e-eq0.q c.if-e-eq0.k = elim c.if-e-eq0.branch [
      | then-e-eq0 w ↦ rw (w.q-is, w.k-is) (small c.args.x c.requires w.if-e-eq0.true)
      | else-e-eq0 w ↦ rw (w.q-is, w.k-is) (normal c.args.x c.requires w.if-e-eq0.false)
    ] in
    c.of_digits.ensures c.args.x c.requires.1 d.is
