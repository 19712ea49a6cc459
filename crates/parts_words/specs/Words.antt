-- How far a sheet has come as a list of words (RULES, section 7), and the state that any words answer for.
use Rattle.std.specs.Prelude.{◌≡◌, true, List, [], ◌∷◌, ◌++◌, ℕ, ◌+◌, ◌%◌, ◌<◌, length, get_or, take, drop}
use Rattle.record.specs.Layout.{floats}
use Rattle.model.specs.Kinds.{places}
use Rattle.sheet.specs.Sheet.{words_of}
use Rattle.sheet.specs.Spelling.{spell_words, Below}
use Rattle.sheet.specs.declared.Header.{Header}
use Rattle.parts.specs.declared.Arrival.{Arrival}
use Rattle.parts.specs.Parts.{room, named}

-- seven numbers, a model's parameters, and the bytes held, eight a word
abbrev pub numbers : ℕ
numbers = 7

abbrev pub front : ℕ
front = numbers + places

abbrev pub state_length : ℕ
state_length = front + floats

abbrev pub numbers_of : Arrival → List ℕ
numbers_of a =
    a.refusal ∷ a.header.refusal ∷ a.header.model ∷ a.header.count ∷ a.header.at ∷ a.complete ∷ a.kept ∷ []

unfoldable pub state_words : Arrival → List ℕ
state_words a = numbers_of a ++ (a.header.parameters ++ words_of floats a.held)

-- any words: a refusal is what a byte holds of it
abbrev pub header_at : List ℕ → Header
header_at l =
    record {
      refusal = get_or l 1 0 % 256;
      model = get_or l 2 0;
      parameters = take places (drop numbers l);
      count = get_or l 3 0;
      at = get_or l 4 0;
    }

unfoldable pub arrival_at : List ℕ → Arrival
arrival_at l =
    record {
      refusal = get_or l 0 0 % 256;
      header = header_at l;
      complete = get_or l 5 0;
      kept = get_or l 6 0;
      held = spell_words (drop front l);
    }

-- a state of the types that the code has, with the name of a model
pub record Typed (a : Arrival) : Type 0 where
  pub refusal : a.refusal < 256
  pub stopped : a.header.refusal < 256
  pub parameters : length a.header.parameters ≡ places
  pub held : length a.held ≡ room
  pub bytes : Below 256 a.held
  pub known : named a.header ≡ true
