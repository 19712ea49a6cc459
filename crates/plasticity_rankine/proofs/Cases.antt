-- One closed case a branch of the projection, and equal strains in index order: by computation.
use mathlib.Core.Path.{◌≡◌, refl}
use mathlib.Core.List.{List, [], ◌∷◌}
use lib.Ieee.{Float, binary64, of_bits, add, sub, mul, div, neg, le, eq}
use Rattle.numbers.specs.Floats.{finite, is_number}
use Rattle.tensor.specs.Matrix.{zero, one, three, sum_of}
use Rattle.walk.specs.Matrix.{total, sum}
use Rattle.plasticity_rankine.specs.declared.RankinePlasticity.{RankinePlasticity}
use Rattle.plasticity_rankine.specs.Sorting.{order_of}
use Rattle.plasticity_rankine.specs.Projection.{third_walk, second_walk, first_walk, call_over, call_floats, project_of}
use Rattle.plasticity_rankine.specs.Inner.{projected_of}

-- the law of two moduli; strength and rate play no part here
abbrev of : Float → Float → RankinePlasticity
of mu lambda = record { mu = mu; lambda = lambda; tensile_strength = zero; softening_rate = zero }

untouched : (projected_of (of (of_bits binary64 0x401279e4af768525) (of_bits binary64 0x401426dcc05b1b2e)) (three (of_bits binary64 0xbfd8a96f1f7f8760) (of_bits binary64 0x4006b91154b2f6d0) (of_bits binary64 0xc003d8a52685d0ce)) (of_bits binary64 0x404d9a2bf58ae987)).strains
    ≡ three (of_bits binary64 0xbfd8a96f1f7f8760) (of_bits binary64 0x4006b91154b2f6d0) (of_bits binary64 0xc003d8a52685d0ce)
unfolding first_walk second_walk third_walk sum total order_of is_number add sub mul div le of_bits
untouched = refl

one_moves : (projected_of (of (of_bits binary64 0x401fa19171ffec83) (of_bits binary64 0x40149efe7090bdd1)) (three (of_bits binary64 0xbfeeee4b4d5ab1d0) (of_bits binary64 0xc00f3410c3210a64) (of_bits binary64 0xc00b6045575bbf0a)) (of_bits binary64 0xc0599c32e8825d9f)).strains
    ≡ three (of_bits binary64 0xc008adbd42402d3c) (of_bits binary64 0xc00f3410c3210a64) (of_bits binary64 0xc00b6045575bbf0a)
unfolding first_walk second_walk third_walk sum total order_of is_number add sub mul div le of_bits
one_moves = refl

two_move : (projected_of (of (of_bits binary64 0x4012a272469e8452) zero) (three (of_bits binary64 0x3ffa998174105cc8) (of_bits binary64 0xbff7a4ff03df45d4) (of_bits binary64 0xc0014d2763e59cbe)) (of_bits binary64 0xc02f72fd2d6aca41)).strains
    ≡ three (of_bits binary64 0xbffb00bd2f8622dc) (of_bits binary64 0xbffb00bd2f8622dc) (of_bits binary64 0xc0014d2763e59cbe)
unfolding first_walk second_walk third_walk sum total order_of is_number add sub mul div le of_bits
two_move = refl

all_move : (projected_of (of (of_bits binary64 0x401a30a5e689adfd) (of_bits binary64 0x3fd81f81c2df15e6)) (three (of_bits binary64 0x400dbe976b9fbbc4) (of_bits binary64 0x3ff3b3bbcbd29974) (of_bits binary64 0x3fed958474cd61a0)) (of_bits binary64 0xc0437d5a6f7658bd)).strains
    ≡ three (of_bits binary64 0xc005eb9de303d53c) (of_bits binary64 0xc005eb9de303d53c) (of_bits binary64 0xc005eb9de303d53c)
unfolding first_walk second_walk third_walk sum total order_of is_number add sub mul div le of_bits
all_move = refl

-- the first side is minus infinity here, and is handed to nobody: only what is returned has to be finite
infinite_side : let e = three (of_bits binary64 0xc000_0000_0000_0000) (of_bits binary64 0xc000_0000_0000_0000) (of_bits binary64 0xc000_0000_0000_0000) in
    project_of (of (of_bits binary64 0x7fde_42d1_3077_3b76) zero) e zero ≡ record { refusal = 0; vector = e }
unfolding call_over call_floats first_walk second_walk third_walk sum total order_of finite is_number add sub mul div le of_bits
infinite_side = refl

equal_strains : order_of (three one one one) ≡ 0 ∷ 1 ∷ 2 ∷ []
unfolding order_of le of_bits
equal_strains = refl

-- two axes take the same order and sum; no 0.0 stands before the first strain of a sum
two_strains : order_of (one ∷ zero ∷ []) ≡ 1 ∷ 0 ∷ []
unfolding order_of le of_bits
two_strains = refl

two_equal : order_of (zero ∷ zero ∷ []) ≡ 0 ∷ 1 ∷ []
unfolding order_of le of_bits
two_equal = refl

two_zeros : sum_of (neg zero ∷ neg zero ∷ []) ≡ neg zero
unfolding sum_of add neg of_bits
two_zeros = refl
