-- The refusals by name (RULES, section 6).
use Rattle.std.specs.Prelude.{ℕ}

-- an input float is NaN or infinite
abbrev pub not_finite : ℕ
not_finite = 1

-- an elementary function on the path taken would get an argument below its range
abbrev pub below_range : ℕ
below_range = 2

-- a NaN arises on the path taken, or a number to be returned or stored, a modulus or a principal stress isn't finite
abbrev pub no_number : ℕ
no_number = 3

-- the sheet ends early
abbrev pub ends_early : ℕ
ends_early = 4

-- a number in seven-bit groups isn't shortest or has over two groups
abbrev pub not_shortest : ℕ
not_shortest = 5

-- unknown model, or a flag other than 0.0 and 1.0
abbrev pub unknown : ℕ
unknown = 6

-- count over 200, or bytes after the last record
abbrev pub too_many : ℕ
too_many = 7

-- a list's length is wrong
abbrev pub wrong_length : ℕ
wrong_length = 8

-- a lent room is shorter than the sheet
abbrev pub no_room : ℕ
no_room = 9

-- an elementary function on the path taken would get an argument above its range: in 2's place in the order
abbrev pub above_range : ℕ
above_range = 10

-- a record's stored determinant isn't that of its F
abbrev pub wrong_determinant : ℕ
wrong_determinant = 11

-- a zone or a particle out of range, over 256 tallies, or lists of unlike lengths
abbrev pub bad_zone : ℕ
bad_zone = 12

-- a tally would pass its end
abbrev pub tally_full : ℕ
tally_full = 13

-- the factors worked out miss their check
abbrev pub not_accepted : ℕ
not_accepted = 14

-- a part, or a second end, after a sheet's end
abbrev pub after_end : ℕ
after_end = 15

-- over 4,096 records in a report
abbrev pub too_long : ℕ
too_long = 16
