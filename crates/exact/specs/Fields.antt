-- The parts of a bit pattern: its sign, exponent and digits (IEEE 754, 3.4).
use Rattle.std.specs.Prelude.{ℕ, ◌/◌, ◌%◌, ◌^◌, Bool, leb}

abbrev pub sign_at : ℕ → Bool
sign_at n = leb (2 ^ 63) n

abbrev pub exponent_at : ℕ → ℕ
exponent_at n = n % 2 ^ 63 / 2 ^ 52

abbrev pub digits_at : ℕ → ℕ
digits_at n = n % 2 ^ 52
