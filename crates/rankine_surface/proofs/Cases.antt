-- What demand 3 takes can be met, and what it promises tells a wrong projection from the right one: by computation.
use mathlib.Core.Logic.{inl, inr}
use mathlib.Core.List.{List}
use Prim.Native.Nat.{ℕ, ◌+◌, ◌^◌, ◌≤◌}
use native.Mathlib.Omega.{arith}
use lib.Dec.{T, ltb, ltb→lt, lit≤}
use lib.IntN.{ℤ, pos, ◌+ℤ◌, ◌*ℤ◌}
use lib.Ieee.{Float, binary64, of_bits, fits}
use Rattle.exact.specs.Units.{L, mag}
use Rattle.exact.specs.Integers.{p, n}
use Rattle.exact.specs.Value.{val}
use Rattle.tensor.specs.Matrix.{zero, three}
use Rattle.plasticity_rankine.specs.declared.RankinePlasticity.{RankinePlasticity}
use Rattle.rankine_surface.specs.Axes.{Each, Some}
use Rattle.rankine_surface.specs.Surface.{demanded, archived, Under, Below, Reaches, Fair, Strain}

-- the law of two moduli
abbrev pub of : Float → Float → RankinePlasticity
of mu lambda = record { mu = mu; lambda = lambda; tensile_strength = zero; softening_rate = zero }

abbrev law : RankinePlasticity
law = of (of_bits binary64 0x401fa19171ffec83) (of_bits binary64 0x40149efe7090bdd1)

abbrev strength : Float
strength = of_bits binary64 0xc0599c32e8825d9f

fair : Fair law strength
unfolding of_bits fits val mag L
fair =
    record {
      mu_fine = (tt, tt);
      la_fine = (tt, tt);
      s_fine = (tt, tt);
      ranges = record { mu_low = lit≤ tt; mu_high = lit≤ tt; la_low = lit≤ tt; la_high = lit≤ tt; s_size = lit≤ tt };
    }

abbrev given : List Float
given = three (of_bits binary64 0xbfeeee4b4d5ab1d0) (of_bits binary64 0xc00f3410c3210a64) (of_bits binary64 0xc00b6045575bbf0a)

strains : Each Strain given
unfolding of_bits fits mag L
strains = (record { fine = (tt, tt); size = lit≤ tt }, (record { fine = (tt, tt); size = lit≤ tt }, (record { fine = (tt, tt); size = lit≤ tt }, tt)))

-- u is above v + K / 2 ^ k
off : {k : ℕ} {u v : ℤ} {K : ℕ} → T (ltb (p (v *ℤ pos (2 ^ k) +ℤ pos K) + n (u *ℤ pos (2 ^ k))) (p (u *ℤ pos (2 ^ k)) + n (v *ℤ pos (2 ^ k) +ℤ pos K)))
    → Under k u v K → ⊥
off {k} {u} {v} {K} t h =
    go (p (u *ℤ pos (2 ^ k)) + n (v *ℤ pos (2 ^ k) +ℤ pos K)) (p (v *ℤ pos (2 ^ k) +ℤ pos K) + n (u *ℤ pos (2 ^ k))) t h.under
  where
    go : (a b : ℕ) → T (ltb b a) → a ≤ b → ⊥
    go a b t h = omega (arith, ltb→lt b a t)

-- the strains after the projection of those above, times 1 + 2 ^ -40: no stress reaches the strength
abbrev scaled : List Float
scaled = three (of_bits binary64 0xc008adbd424045ea) (of_bits binary64 0xc00f3410c3212998) (of_bits binary64 0xc00b6045575bda6a)

scaled_is_off : Some (Reaches demanded law strength scaled) scaled → ⊥
unfolding of_bits val mag L
scaled_is_off (inl h) = off tt h
scaled_is_off (inr (inl h)) = off tt h
scaled_is_off (inr (inr (inl h))) = off tt h
scaled_is_off (inr (inr (inr h))) = h

-- in the archive neither
scaled_is_off_archived : Some (Reaches archived law strength scaled) scaled → ⊥
unfolding of_bits val mag L
scaled_is_off_archived (inl h) = off tt h
scaled_is_off_archived (inr (inl h)) = off tt h
scaled_is_off_archived (inr (inr (inl h))) = off tt h
scaled_is_off_archived (inr (inr (inr h))) = h

-- two strains should move, and the highest stays as it was: its stress is above the strength
abbrev half_moved : List Float
half_moved = three (of_bits binary64 0x3ffa998174105cc8) (of_bits binary64 0xbffb00bd2f8622dc) (of_bits binary64 0xc0014d2763e59cbe)

half_moved_is_off : Each (Below demanded (of (of_bits binary64 0x4012a272469e8452) zero) (of_bits binary64 0xc02f72fd2d6aca41) half_moved) half_moved → ⊥
unfolding of_bits val mag L
half_moved_is_off h = off tt h.0

-- all should move, and 2mu + 2lambda divides: no stress reaches the strength
abbrev over_divided : List Float
over_divided = three (of_bits binary64 0xc0068458f7efec5a) (of_bits binary64 0xc0068458f7efec5a) (of_bits binary64 0xc0068458f7efec5a)

over_divided_is_off : Some (Reaches demanded (of (of_bits binary64 0x401a30a5e689adfd) (of_bits binary64 0x3fd81f81c2df15e6)) (of_bits binary64 0xc0437d5a6f7658bd) over_divided) over_divided
    → ⊥
unfolding of_bits val mag L
over_divided_is_off (inl h) = off tt h
over_divided_is_off (inr (inl h)) = off tt h
over_divided_is_off (inr (inr (inl h))) = off tt h
over_divided_is_off (inr (inr (inr h))) = h

-- nothing is done where one strain should move: its stress is above the strength
nothing_is_off : Each (Below demanded law strength given) given → ⊥
unfolding of_bits val mag L
nothing_is_off h = off tt h.0

nothing_is_off_archived : Each (Below archived law strength given) given → ⊥
unfolding of_bits val mag L
nothing_is_off_archived h = off tt h.0
