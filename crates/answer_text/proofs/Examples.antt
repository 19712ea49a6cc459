-- Whole answers, in the bytes that RULES, section 7, shows.
use mathlib.Core.Path.{◌≡◌, refl}
use mathlib.Core.List.{[], ◌∷◌}
use Rattle.answer_text.specs.Text.{bytes, decimal, hex, outcome, line, lines, sheet_text, refused_text, heading_text}

-- bytes are the characters' numbers
end_bytes : bytes "end\n" ≡ 101 ∷ 110 ∷ 100 ∷ 10 ∷ []
end_bytes = refl

-- section 7's own
pub one_particle : sheet_text 1 (1 ∷ 0x3ff0000000000000 ∷ []) ≡ bytes "particles 1\n0 stored 3ff0000000000000\nend\n"
unfolding sheet_text lines line outcome decimal hex
one_particle = refl

pub three-particles :
    sheet_text 3 (1 ∷ 0x3ff0000000000000 ∷ 0 ∷ 0 ∷ 2 ∷ 11 ∷ []) ≡ bytes "particles 3\n0 stored 3ff0000000000000\n1 untouched\n2 refused 11\nend\n"
unfolding sheet_text lines line outcome decimal hex
three-particles = refl

pub refused_sheet : refused_text 6 ≡ bytes "sheet refused 6\n"
unfolding refused_text decimal
refused_sheet = refl

pub heading : heading_text 4096 ≡ bytes "==> 4096 <==\n"
unfolding heading_text decimal
heading = refl

-- no digit is left out of the greatest number, and none but 0's own is 0
pub greatest : decimal 18446744073709551615 ≡ bytes "18446744073709551615"
unfolding decimal
greatest = refl

pub none : decimal 0 ≡ bytes "0"
unfolding decimal
none = refl
