-- Small sheets, by computation: each refusal at its place in reading order.
use mathlib.Core.Path.{◌≡◌, refl}
use mathlib.Core.List.{List, [], ◌∷◌, ◌++◌}
use Prim.Native.Nat.{ℕ, ◌*◌}
use lib.ListN.{replicate}
use lib.Ieee as Ieee
use Rattle.model.specs.Kinds.{law_of, kinds_of}
use Rattle.record.specs.Layout.{floats, bare, determinant_at}
use Rattle.sheet.specs.Records.{sheet_floats, completed}
use Rattle.sheet.specs.Spelling.{spell_bytes, spell_words}
use Rattle.sheet.specs.Sheet.{number_at, word_of, word_at, parameter_at, parameters_at, preamble_of, records_end, header_of}

refusal_of : List ℕ → ℕ
unfolding header_of preamble_of records_end sheet_floats number_at word_of word_at parameter_at law_of kinds_of parameters_at
refusal_of s = (header_of s).refusal

-- Snow with its three parameters 0.0
snow : List ℕ
snow = 0 ∷ replicate 24 0

empty : refusal_of [] ≡ 4
unfolding refusal_of
empty = refl

group_missing : refusal_of (0x80 ∷ []) ≡ 4
unfolding refusal_of
group_missing = refl

padded : refusal_of (0x80 ∷ 0 ∷ []) ≡ 5
unfolding refusal_of
padded = refl

three_groups : refusal_of (0x80 ∷ 0x80 ∷ 1 ∷ []) ≡ 5
unfolding refusal_of
three_groups = refl

unknown_model : refusal_of (8 ∷ []) ≡ 6
unfolding refusal_of
unknown_model = refl

-- -0.0 as NACC's flag is refused before the sheet's end is met
minus_zero : refusal_of (3 ∷ (replicate 31 0 ++ (0x80 ∷ []))) ≡ 6
unfolding refusal_of
minus_zero = refl

flag_ends : refusal_of (3 ∷ replicate 31 0) ≡ 4
unfolding refusal_of
flag_ends = refl

no_particles : refusal_of (snow ++ (0 ∷ [])) ≡ 0
unfolding refusal_of snow
no_particles = refl

byte_after : refusal_of (snow ++ (0 ∷ 0 ∷ [])) ≡ 7
unfolding refusal_of snow
byte_after = refl

record_missing : refusal_of (snow ++ (1 ∷ [])) ≡ 4
unfolding refusal_of snow
record_missing = refl

two_hundred_and_one : refusal_of (snow ++ (0xc9 ∷ 1 ∷ [])) ≡ 7
unfolding refusal_of snow
two_hundred_and_one = refl

one_particle : refusal_of (snow ++ (1 ∷ replicate (bare * 8) 0)) ≡ 0
unfolding refusal_of snow
one_particle = refl

-- NACC's numbers, 3 and 7: a record has the determinant in a sheet of 7, and none in one of 3
one_of_3 : refusal_of (3 ∷ (replicate 48 0 ++ (1 ∷ replicate (bare * 8) 0))) ≡ 0
unfolding refusal_of
one_of_3 = refl

bytes_after_3 : refusal_of (3 ∷ (replicate 48 0 ++ (1 ∷ replicate (floats * 8) 0))) ≡ 7
unfolding refusal_of
bytes_after_3 = refl

one_of_7 : refusal_of (7 ∷ (replicate 48 0 ++ (1 ∷ replicate (floats * 8) 0))) ≡ 0
unfolding refusal_of
one_of_7 = refl

short_7 : refusal_of (7 ∷ (replicate 48 0 ++ (1 ∷ replicate (bare * 8) 0))) ≡ 4
unfolding refusal_of
short_7 = refl

-- An F whose determinant overflows, in a record of a sheet of model 0: it is filled in as worked, an infinity with its sign, a NaN as
-- 7ff8000000000000. Entries of 1e308 and -1e308, on the diagonal and all over.
huge : ℕ
huge = 0x7fe1_ccf3_85eb_c8a0

minus_huge : ℕ
minus_huge = 0xffe1_ccf3_85eb_c8a0

diagonal : ℕ → List ℕ
diagonal x = x ∷ 0 ∷ 0 ∷ 0 ∷ x ∷ 0 ∷ 0 ∷ 0 ∷ x ∷ replicate 27 0

infinite : completed 0 (diagonal huge) ≡ diagonal huge ++ (0x7ff0_0000_0000_0000 ∷ [])
unfolding completed determinant_at diagonal huge Ieee.to_bits Ieee.add Ieee.sub Ieee.mul Ieee.of_bits
infinite = refl

minus_infinite : completed 0 (diagonal minus_huge) ≡ diagonal minus_huge ++ (0xfff0_0000_0000_0000 ∷ [])
unfolding completed determinant_at diagonal minus_huge Ieee.to_bits Ieee.add Ieee.sub Ieee.mul Ieee.of_bits
minus_infinite = refl

not_a_number : completed 0 (replicate 9 huge ++ replicate 27 0) ≡ replicate 9 huge ++ replicate 27 0 ++ (0x7ff8_0000_0000_0000 ∷ [])
unfolding completed determinant_at huge Ieee.to_bits Ieee.add Ieee.sub Ieee.mul Ieee.of_bits
not_a_number = refl

-- in a sheet of model 4 it stands as it came
as_it_came : completed 4 (diagonal huge ++ (0 ∷ [])) ≡ diagonal huge ++ (0 ∷ [])
unfolding completed
as_it_came = refl

-- and the sheet is read, as that of every float
overflow_read : refusal_of (snow ++ (1 ∷ spell_words (diagonal huge))) ≡ 0
unfolding refusal_of snow spell_words spell_bytes diagonal huge
overflow_read = refl
