-- A cause's eleven words give it back, each part read at its named place: what a host finds there is what was told. The branch, word 7, is said
-- in Branch. Assumes nothing.
use mathlib.Core.Path.{◌≡◌, refl}
use mathlib.Core.Bool.{Bool, true, false, cond}
use mathlib.Core.List.{List}
use Prim.Native.Nat.{ℕ}
use lib.Dec.{T, eqb}
use lib.ListN.{get_or}
use lib.Ieee.{Float, binary64, of_bits, fits}
use lib.Ieee.Bits.{of_bits-to_bits}
use Rattle.reason.specs.declared.Bound.{Bound}
use Rattle.reason.specs.declared.Bound.TheVariants.{Neither, Lower, Upper}
use Rattle.reason.specs.declared.Reason.{Reason}
use Rattle.reason.specs.declared.Reason.TheVariants as reason
use Rattle.record_why.specs.declared.Cause.{Cause}
use Rattle.record_why.specs.declared.Cause.TheVariants.{Told, Parameter, Record, Refused}
use Rattle.record_why.specs.Words.{bound_number, held_number, words_of}

-- where each part stands (docs/STEPS.md)
abbrev pub place_kind : ℕ
place_kind = 0

abbrev pub place_refusal : ℕ
place_refusal = 1

abbrev pub place_step : ℕ
place_step = 2

abbrev pub place_whose : ℕ
place_whose = 3

abbrev pub place_place : ℕ
place_place = 4

abbrev pub place_test : ℕ
place_test = 5

abbrev pub place_held : ℕ
place_held = 6

abbrev pub place_first : ℕ
place_first = 8

abbrev pub place_second : ℕ
place_second = 9

abbrev pub place_third : ℕ
place_third = 10

module _ (w : List ℕ) where
  abbrev word : ℕ → ℕ
  word k = get_or w k 0

  abbrev number : ℕ → Float
  number k = of_bits binary64 (word k)

  abbrev held : Bool
  held = eqb (word place_held) 1

  -- 0 neither, 1 the lower bound, 2 the upper
  abbrev bound : ℕ → Bound
  bound k = cond (eqb (word k) 0) Neither (cond (eqb (word k) 1) Lower Upper)

  -- 0 two numbers were compared, 1 three with 0, 2 a flag, 3 clamped, 4 refused
  abbrev pub reason_at : Reason
  reason_at =
      cond (eqb (word place_kind) 0) (reason.Tested (word place_test) held (number place_first) (number place_second))
      (cond (eqb (word place_kind) 1) (reason.Zeros (word place_test) held (number place_first) (number place_second) (number place_third))
      (cond (eqb (word place_kind) 2) (reason.Flagged (word place_test) held)
      (cond (eqb (word place_kind) 3) (reason.Clamped (bound place_first) (bound place_second) (bound place_third))
      (reason.Refused (word place_refusal) (word place_step)))))

  -- a place is a parameter's where `whose` is 1, a record's float's where it is 2
  abbrev pub cause_at : Cause
  cause_at = cond (eqb (word place_whose) 1) (Parameter (word place_place)) (cond (eqb (word place_whose) 2) (Record (word place_place)) (Told reason_at))

-- the numbers are f64, as those of the code are; a refused call writes no words
abbrev F64 : Float → Type 0
F64 x = T (fits binary64 x)

abbrev Numbers : Reason → Type 0
Numbers (reason.Tested t h a b) = F64 a × F64 b
Numbers (reason.Zeros t h a b c) = F64 a × F64 b × F64 c
Numbers (reason.Flagged t h) = Unit {0}
Numbers (reason.Clamped x y z) = Unit {0}
Numbers (reason.Refused n k) = Unit {0}

abbrev pub Written : Cause → Type 0
Written (Told q) = Numbers q
Written (Parameter i) = Unit {0}
Written (Record i) = Unit {0}
Written (Refused n) = ⊥

held_back : (h : Bool) → eqb (held_number h) 1 ≡ h
held_back true = refl
held_back false = refl

bound_back : (b : Bound) → cond (eqb (bound_number b) 0) Neither (cond (eqb (bound_number b) 1) Lower Upper) ≡ b
bound_back Neither = refl
bound_back Lower = refl
bound_back Upper = refl

pub words_back : (model : ℕ) (c : Cause) → Written c → cause_at (words_of model c) ≡ c
words_back model (Told (reason.Tested t h a b)) f = λ i. Told (reason.Tested t (held_back h i) (of_bits-to_bits binary64 a f.0 i) (of_bits-to_bits binary64 b f.1 i))
words_back model (Told (reason.Zeros t h a b c)) f =
    λ i. Told (reason.Zeros t (held_back h i) (of_bits-to_bits binary64 a f.0 i) (of_bits-to_bits binary64 b f.1 i) (of_bits-to_bits binary64 c f.2 i))
words_back model (Told (reason.Flagged t h)) f = λ i. Told (reason.Flagged t (held_back h i))
words_back model (Told (reason.Clamped x y z)) f = λ i. Told (reason.Clamped (bound_back x i) (bound_back y i) (bound_back z i))
words_back model (Told (reason.Refused n k)) f = refl
words_back model (Parameter i) f = refl
words_back model (Record i) f = refl
words_back model (Refused n) f = absurd f
