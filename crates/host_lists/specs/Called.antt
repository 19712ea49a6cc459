-- What a host's call leaves: its number, and the lists that it was lent to write, in the order of its arguments (RULES, section 6).
use Rattle.std.specs.Prelude.{Bool, cond, List, ℕ}
use Rattle.answers.specs.Refusals.{unknown, wrong_length}

pub record Called : Type 0 where
  pub code : ℕ
  pub lists : List (List ℕ)

abbrev pub called : ℕ → List (List ℕ) → Called
called n lists = record { code = n; lists = lists }

-- 8 where a length doesn't fit, and the lists as they came; else what is done
abbrev pub sized_call : Bool → Called → List (List ℕ) → Called
sized_call fits done lists = cond fits done (called wrong_length lists)

-- and then 6 where a number or a flag isn't known
abbrev pub call_of : Bool → Bool → Called → List (List ℕ) → Called
call_of fits known done lists = sized_call fits (cond known done (called unknown lists)) lists
