-- What the program's arguments ask (RULES, section 7): of one that is there its bytes.
use Rattle.std.specs.Prelude.{Bool, cond, ◌&&◌, List, [], ◌∷◌, ℕ, ◌+◌, ◌*◌, ◌-◌, leb, Option, None, Some, Result, Ok, Err}
use Rattle.std.specs.Result.{result_map_both}
use Rattle.std.specs.Str.{bytes_eq}
use Rattle.std.specs.declared.env.FillError.{FillError}
use Rattle.std.specs.declared.env.FillError.TheVariants.{NotPresent, TooLong}
use denote.Ref.{Bor}
use lib.Chars.{codes}
use Rattle.asked.specs.declared.Asked.{Asked}
use Rattle.asked.specs.declared.Asked.TheVariants.{Sheet, Why, New, Frames, Other}
use Rattle.asked.specs.declared.NoNumber.{NoNumber}

-- ---- the first: none asks for the answer of a sheet
abbrev pub asked_of : Result (Bor (List ℕ)) FillError → Asked
asked_of (Ok w) =
    cond (bytes_eq w.now (codes "--why")) Why
    (cond (bytes_eq w.now (codes "-o")) New
    (cond (bytes_eq w.now (codes "--frames")) Frames Other))
asked_of (Err TooLong) = Other
asked_of (Err NotPresent) = Sheet

-- ---- the record whose reason is asked: all of them where there is no such argument
abbrev pub no_number : {A : Type 0} → Result A NoNumber
no_number = Err (record {})

abbrev pub is_digit : ℕ → Bool
is_digit d = leb 48 d && leb d 57

-- three digits; a digit's byte is 48 and what it counts
abbrev pub three : ℕ → ℕ → ℕ → Result ℕ NoNumber
three a b c = cond (is_digit a && is_digit b && is_digit c) (Ok ((a - 48) * 100 + (b - 48) * 10 + (c - 48))) no_number

abbrev pub number_of : List ℕ → Result ℕ NoNumber
number_of [] = no_number
number_of (a ∷ []) = three 48 48 a
number_of (a ∷ b ∷ []) = three 48 a b
number_of (a ∷ b ∷ c ∷ []) = three a b c
number_of (a ∷ b ∷ c ∷ d ∷ w) = no_number

abbrev pub only_of : Result (Bor (List ℕ)) FillError → Result (Option ℕ) NoNumber
only_of (Ok w) = result_map_both Some (λ e. e) (number_of w.now)
only_of (Err TooLong) = no_number
only_of (Err NotPresent) = Ok None
