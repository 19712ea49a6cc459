-- No test of section 5 stands in the walk; and bounds by computation (ticket 8).
use mathlib.Core.List.{List, [], ◌∷◌}
use mathlib.Core.Path.{◌≡◌, refl}
use lib.Ieee as Ieee
use lib.Ieee.{Float, binary64, of_bits}
use Rattle.numbers.specs.Floats.{is_number}
use Rattle.plasticity.specs.declared.State.{State}
use Rattle.walk.specs.Expr.{value}
use Rattle.walk.specs.Walk.{Walk}
use Rattle.walk.proofs.Reason.{Branchless}
use Rattle.walk.specs.Body.{store_walk}
use Rattle.walk.specs.Update.{in_three}
use Rattle.reason.specs.declared.Bound.TheVariants.{Neither, Lower, Upper}
use Rattle.plasticity_snow.specs.declared.SnowPlasticity.{SnowPlasticity}
use Rattle.plasticity_snow.specs.Clamp.{one, defaults}
use Rattle.plasticity_snow.specs.Over.{clamps, harden_walk, run_walk, snow_walk}
use Rattle.plasticity_snow.specs.Reason.{bound_of}

clamps_branchless : {A : Type 0} (p : SnowPlasticity) (l : List Float) (k : List Float → Walk A) → ((vs : List Float) → Branchless (k vs)) → Branchless (clamps p l k)
clamps_branchless p [] k h = h []
clamps_branchless p (x ∷ l) k h = λ y z. clamps_branchless p l (λ vs. k (value z ∷ vs)) (λ vs. h (value z ∷ vs))

pub snow_branchless : (p : SnowPlasticity) (u vt : List (List Float)) (s : State) → Branchless (snow_walk in_three p u vt s)
unfolding snow_walk run_walk harden_walk store_walk
snow_branchless p u vt s = clamps_branchless p s.sigma (λ new. harden_walk in_three p new u vt s) (λ new h. tt)

-- ---- by computation
abbrev of : Float → Float → SnowPlasticity
of low high = record { min_epsilon = low; max_epsilon = high; hardening_coeff = one }

-- within both bounds; below the lower; above the upper
neither_named : bound_of defaults one ≡ Neither
unfolding bound_of is_number Ieee.add Ieee.sub Ieee.lt of_bits Ieee.to_bits
neither_named = refl

-- -0.0 raised to the lower bound 0.0 is changed
zero_raised : bound_of (of one one) (of_bits binary64 0x8000_0000_0000_0000) ≡ Lower
unfolding bound_of is_number Ieee.add Ieee.sub Ieee.lt of_bits Ieee.to_bits
zero_raised = refl

-- crossed bounds: raised to 3, then lowered to 0.5
crossed : bound_of (of (of_bits binary64 0xc000_0000_0000_0000) (of_bits binary64 0xbfe0_0000_0000_0000)) one ≡ Upper
unfolding bound_of is_number Ieee.add Ieee.sub Ieee.lt of_bits Ieee.to_bits
crossed = refl
