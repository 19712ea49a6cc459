-- The table's rules, by one test that antt computes. Assumes nothing.
use mathlib.Core.Path.{◌≡◌, refl}
use mathlib.Core.Bool.{Bool, true, false, not}
use mathlib.Core.List.{List, [], ◌∷◌}
use Prim.Native.Nat.{ℕ, ◌+◌, ◌-◌, ◌*◌, ◌/◌, ◌^◌, ◌≤◌, ◌<◌}
use lib.Dec.{T, leb, leb→le, eqb, eqb→eq}
use lib.Pow.{pow_pos}
use lib.Ieee.{Float, binary64, of_bits, fits}
use lib.Ieee.Scale.{finite}
use Rattle.exact.proofs.Both.{both, both_left, both_right}
use Rattle.exact.proofs.Match.{at_or_last}
use Rattle.exact.specs.Units.{L, mag, sgn}
use Rattle.exact.proofs.Fields.{Has}
use Rattle.series.proofs.Logs.{Between, between_test, between}
use Rattle.logarithm.specs.Entries.{scales, last_scale, scale_of, log_of, c_of}
use Rattle.logarithm.proofs.Floats.{K, D}

-- every test of a list passes
abbrev every : List Bool → Bool
every [] = true
every (b ∷ bs) = both b (every bs)

abbrev Each : List Bool → Type 0
Each [] = Unit {0}
Each (b ∷ bs) = T b × Each bs

each : (bs : List Bool) → T (every bs) → Each bs
each [] t = tt
each (b ∷ bs) t = (both_left b (every bs) t, each bs (both_right b (every bs) t))

-- x is a units, with the sign +
has_tests : ℕ → Float → List Bool
unfolding mag
has_tests a x = finite x ∷ fits binary64 x ∷ not (sgn x) ∷ eqb (mag x) a ∷ []

plain : (b : Bool) → T (not b) → b ≡ false
plain false t = refl
plain true t = absurd t

has : (a : ℕ) (x : Float) → T (every (has_tests a x)) → Has false a x
unfolding has_tests
has a x t =
    let e = each (finite x ∷ fits binary64 x ∷ not (sgn x) ∷ eqb (mag x) a ∷ []) t in
    record { fine = (e.0, e.1.0); sign = plain (sgn x) e.1.1.0; units = eqb→eq (mag x) a e.1.1.1.0 }

-- an entry: a factor of u / 4096, which brings the numbers from 1 + j / 256 to 1 + (j + 1) / 256 to 1 or up to 1 / 242 above it, and the
-- logarithm g of its reciprocal, which b and 17 units of 2^-57 more enclose
pub record Facts (j u : ℕ) (g : Float) (b : ℕ) : Type 0 where
  pub low : 2 ^ 20 ≤ u * (256 + j)
  pub high : 242 * (u * (257 + j)) ≤ 243 * 2 ^ 20
  pub some : 1 ≤ u
  pub factor : Has false (u * D) (c_of u)
  pub log : Has false (mag g) g
  pub small : mag g ≤ 2880 * D
  pub least : b * K ≤ mag g
  pub most : mag g ≤ (b + 9) * K
  pub between : Between (2 ^ 57) 17 b 4096 u

-- eight units of 2^-57 below g
abbrev pub base_of : Float → ℕ
base_of g = mag g / K - 8

tests : (j u : ℕ) (g : Float) (b : ℕ) → List Bool
unfolding has_tests between_test mag K D
tests j u g b =
    leb (2 ^ 20) (u * (256 + j))
    ∷ leb (242 * (u * (257 + j))) (243 * 2 ^ 20)
    ∷ leb 1 u
    ∷ every (has_tests (u * D) (c_of u))
    ∷ every (has_tests (mag g) g)
    ∷ leb (mag g) (2880 * D)
    ∷ leb (b * K) (mag g)
    ∷ leb (mag g) ((b + 9) * K)
    ∷ between_test (2 ^ 57) 17 20 4096 u b
    ∷ []

entry : (j u : ℕ) (g : Float) (b : ℕ) → T (every (tests j u g b)) → Facts j u g b
unfolding tests
entry j u g b t =
    let e = each (tests j u g b) t in
    record {
      low = leb→le (2 ^ 20) (u * (256 + j)) e.0;
      high = leb→le (242 * (u * (257 + j))) (243 * 2 ^ 20) e.1.0;
      some = leb→le 1 u e.1.1.0;
      factor = has (u * D) (c_of u) e.1.1.1.0;
      log = has (mag g) g e.1.1.1.1.0;
      small = leb→le (mag g) (2880 * D) e.1.1.1.1.1.0;
      least = leb→le (b * K) (mag g) e.1.1.1.1.1.1.0;
      most = leb→le (mag g) ((b + 9) * K) e.1.1.1.1.1.1.1.0;
      between = between (2 ^ 57) 17 20 4096 u b (pow_pos 57) e.1.1.1.1.1.1.1.1.0;
    }

test : ℕ → ℕ → Bool
unfolding tests mag K
test j u = every (tests j u (log_of j) (base_of (log_of j)))

pub entry_at : (j : ℕ) → j < 256 → Facts j (scale_of j) (log_of j) (base_of (log_of j))
unfolding test tests has_tests between_test mag K D L fits of_bits
entry_at j h = entry j (scale_of j) (log_of j) (base_of (log_of j)) (at_or_last test scales last_scale tt j h)
