-- What an elementary function answers (RULES, sections 3 and 6).
use Rattle.std.specs.Prelude.{Bool, true, false, cond, ◌&&◌, ℕ, Float}
use Rattle.std.specs.Float.Ieee as Ieee
use Rattle.answers.specs.Refusals.{not_finite, below_range, above_range, no_number}
use Rattle.numbers.specs.Floats.{finite, is_number}
use Rattle.answers.specs.declared.Answer.{Answer}
use Rattle.answers.specs.declared.Answer.TheVariants.{Value, Refused}

-- a range includes its ends
abbrev pub in_range : Float → Float → Float → Bool
in_range low high x = Ieee.le low x && Ieee.le x high

abbrev pub all_in_range : Float → Float → Float → Float → Float → Bool
all_in_range low high a b c = in_range low high a && in_range low high b && in_range low high c

-- on which side of its range an argument lies that isn't in it: an infinity on its own (a NaN is refused before this is asked)
unfoldable pub side_of : Float → Float → Float → ℕ
side_of low high x = cond (Ieee.lt x low) below_range above_range

-- refusals 2 and 10: an argument outside the range
abbrev pub outside_of : Float → Float → Float → Answer
outside_of low high x = Refused (side_of low high x)

-- the value v of a function at x, within its range
abbrev pub ranged : Float → Float → Float → Float → Answer
ranged low high x v = cond (in_range low high x) (Value v) (outside_of low high x)

-- a bare call: refusal 1 of a NaN or an infinity comes first
abbrev pub bare : Float → Answer → Answer
bare x e = cond (finite x) e (Refused not_finite)

-- inside a law: a NaN arose on the path, refusal 3; an infinity lies on its side of the range
abbrev pub on_path : Float → Answer → Answer
on_path x e = cond (is_number x) e (Refused no_number)

-- the number that refuses there an argument outside the range
abbrev pub refusal_of : Float → Float → Float → ℕ
refusal_of low high x = cond (is_number x) (side_of low high x) no_number

-- of three that aren't all in it, the first's that isn't
abbrev pub first_refusal : Float → Float → Float → Float → Float → ℕ
first_refusal low high a b c = cond (in_range low high a) (cond (in_range low high b) (refusal_of low high c) (refusal_of low high b)) (refusal_of low high a)
