-- Snow's parameters and the bare clamp (RULES, section 5; plasticity_snow.rs).
use Rattle.std.specs.Prelude.{Bool, List, [], ◌∷◌, map, Float}
use Rattle.std.specs.Float.{binary64}
use Rattle.std.specs.Float.Ieee.{of_bits}
pub use Rattle.numbers.specs.Constants.{one}
use Rattle.numbers.specs.Floats.{finite, max_of, min_of}
use Rattle.tensor.specs.Axes.{all_of}
use Rattle.tensor.specs.Matrix.{add, sub}
use Rattle.plasticity_snow.specs.declared.SnowPlasticity.{SnowPlasticity}

-- defaults 0.025, 0.0045, 10
abbrev pub defaults : SnowPlasticity
defaults =
    record {
      min_epsilon = of_bits binary64 0x3f99_9999_9999_999a;
      max_epsilon = of_bits binary64 0x3f72_6e97_8d4f_df3b;
      hardening_coeff = of_bits binary64 0x4024_0000_0000_0000;
    }

abbrev pub parameters_of : SnowPlasticity → List Float
parameters_of p = p.min_epsilon ∷ p.max_epsilon ∷ p.hardening_coeff ∷ []

abbrev pub parameters_finite : SnowPlasticity → Bool
parameters_finite p = all_of finite (parameters_of p)

-- ---- the bare clamp, which has no refusal: maximum with 1 - `min_epsilon`, then minimum with 1 + `max_epsilon`
abbrev pub clamp_of : SnowPlasticity → Float → Float
clamp_of p e = min_of (max_of e (sub one p.min_epsilon)) (add one p.max_epsilon)

abbrev pub clamped_of : SnowPlasticity → List Float → List Float
clamped_of p s = map (clamp_of p) s
