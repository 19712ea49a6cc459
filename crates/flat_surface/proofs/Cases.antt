-- The two branches by computation, on inputs where the Rust in two axes answers otherwise.
use mathlib.Core.Path.{◌≡◌, refl}
use mathlib.Core.List.{List}
use lib.Ieee.{Float, binary64, of_bits, add, sub, mul, div, le}
use Rattle.numbers.specs.Floats.{is_number}
use Rattle.tensor.specs.Matrix.{zero, one}
use Rattle.walk.specs.Matrix.{sum, total}
use Rattle.plasticity_rankine.specs.Sorting.{order_of}
use Rattle.rankine_surface.proofs.Cases.{of}
use Rattle.flat_rankine.specs.Projection.{pair, first_walk, second_walk, projected_of}

abbrev half : Float
half = of_bits binary64 0x3fe0000000000000

abbrev quarter : Float
quarter = of_bits binary64 0x3fd0000000000000

-- the larger strain stands last: the Rust tests it twice, and moves both
one_moves : (projected_of (of one zero) (pair zero one) half).strains ≡ pair zero quarter
unfolding first_walk second_walk sum total order_of is_number add sub mul div le of_bits
one_moves = refl

-- the Rust divides by 2mu + 3lambda
both_move : (projected_of (of one one) (pair one one) one).strains ≡ pair quarter quarter
unfolding first_walk second_walk sum total order_of is_number add sub mul div le of_bits
both_move = refl
