-- What `header_of` accepts is the format of specs/Spelling, and all of it.
use mathlib.Core.Path.{◌≡◌, refl, sym, ap, ◌∙◌, subst}
use mathlib.Core.List.{List, [], ◌∷◌, ◌++◌}
use Prim.Native.Nat.{ℕ, suc, ◌+◌, ◌*◌, ◌-◌, ◌<◌}
use native.Mathlib.Omega.{arith}
use lib.ListN.{length, get_or, take, drop, length-drop}
use lib.Seq.{take_at}
use borrow.Author.Tests.{le-ltb}
use Rattle.model.specs.Kinds.{last, kinds_of}
use Rattle.sheet.specs.Records.{sheet_floats}
use Rattle.sheet.specs.Sheet.{most, words_of, words_in, padded, preamble_of, records_end, header_of}
use Rattle.sheet.specs.Spelling.{spell_number, spell_words, spell, Below, Fits, Writable, parameters_of}
use Rattle.sheet.specs.declared.Header.{Header}
use Rattle.sheet.proofs.ReadFrom.{ReadFrom, read_from}
use Rattle.sheet.proofs.Steps.{words_length}
use Rattle.sheet.proofs.Pieces.{below_drop, after, number_spelled, number_read, parameters_spelled, parameters_read, fits_length, spelled_length, words_spelled, words_below, words_read}

-- the elements of a slice of bytes are below 256
pub below : (b : ℕ) (s : List ℕ) → ((i : ℕ) → get_or s i 0 < b) → Below b s
below b [] h = tt
below b (x ∷ s) h = (h 0, below b s (λ i. h (suc i)))

-- A sheet that is read without refusal is the spelling of the header's values and of the words in it.
pub record Accepted (s : List ℕ) (h : Header) : Type 0 where
  pub writable : Writable h.model (parameters_of h) h.count (words_in s h)
  pub zeros : h.parameters ≡ padded (parameters_of h)
  pub spelled : s ≡ spell h.model (parameters_of h) h.count (words_in s h)

module _ (s : List ℕ) (b : Below 256 s) (h : Header) (t : ReadFrom s h) where
  words_stand : Fits (kinds_of t.model) t.words
  words_stand = (parameters_spelled s b (kinds_of t.model) t.after_model_lem t.words t.after_words t.are_words).fits

  -- the header's parameters without the zeros
  words_are : take (length (kinds_of t.model)) (padded t.words) ≡ t.words
  words_are = take_at t.words _ (length (kinds_of t.model)) (fits_length (kinds_of t.model) t.words words_stand)

  rest_length : length (drop t.at s) ≡ t.count * sheet_floats t.model * 8
  rest_length = let e = t.ends in omega (arith, length-drop t.at s)

  spelled_is : s ≡ spell t.model t.words t.count (words_of (t.count * sheet_floats t.model) (drop t.at s))
  unfolding spell
  spelled_is =
      let m = number_spelled s 0 t.model t.after_model_lem b t.is_model in
      let p = (parameters_spelled s b (kinds_of t.model) t.after_model_lem t.words t.after_words t.are_words).spelled in
      let c = number_spelled s t.after_words t.count t.at b t.is_count in
      let w = words_spelled (t.count * sheet_floats t.model) (drop t.at s) (below_drop 256 t.at s b) rest_length in
      rw w (m ∙ ap (λ (l : List ℕ). spell_number t.model ++ l) (p ∙ ap (λ (l : List ℕ). spell_words t.words ++ l) c))

  of_read : Accepted s (record { refusal = 0; model = t.model; parameters = padded t.words; count = t.count; at = t.at })
  of_read =
      record {
        writable = record {
          known = t.known;
          fits = rw words_are words_stand;
          few = t.few;
          whole = words_length (t.count * sheet_floats t.model) (drop t.at s);
          bits = words_below (t.count * sheet_floats t.model) (drop t.at s) (below_drop 256 t.at s b) rest_length;
        };
        zeros = rw words_are;
        spelled = rw words_are spelled_is;
      }

pub accepted : (s : List ℕ) → Below 256 s → (header_of s).refusal ≡ 0 → Accepted s (header_of s)
accepted s b z = let t = read_from s z in subst (Accepted s) t.is (of_read s b (header_of s) t)

-- Every spelling of values that can be written is read without refusal, and gives them back.
pub record ReadBack (model : ℕ) (parameters : List ℕ) (count : ℕ) (words : List ℕ) (s : List ℕ) (h : Header) : Type 0 where
  pub read : h.refusal ≡ 0
  pub model_is : h.model ≡ model
  pub parameters_are : h.parameters ≡ padded parameters
  pub count_is : h.count ≡ count
  pub words_are : words_in s h ≡ words

module _ (model : ℕ) (parameters : List ℕ) (count : ℕ) (words : List ℕ) (g : Writable model parameters count words) where
  after_model_lem : ℕ
  after_model_lem = 0 + length (spell_number model)

  after_parameters : ℕ
  after_parameters = after_model_lem + length (spell_words parameters)

  first : ℕ
  first = after_parameters + length (spell_number count)

  sheet : List ℕ
  sheet = spell model parameters count words

  at_model : drop 0 sheet ≡ spell_number model ++ (spell_words parameters ++ (spell_number count ++ spell_words words))
  unfolding sheet spell
  at_model = refl

  at_parameters : drop after_model_lem sheet ≡ spell_words parameters ++ (spell_number count ++ spell_words words)
  unfolding after_model_lem
  at_parameters = after sheet 0 (spell_number model) _ (length (spell_number model)) at_model refl

  at_count : drop after_parameters sheet ≡ spell_number count ++ spell_words words
  unfolding after_parameters
  at_count = after sheet after_model_lem (spell_words parameters) _ (length (spell_words parameters)) at_parameters refl

  at_words : drop first sheet ≡ spell_words words
  unfolding first
  at_words = after sheet after_parameters (spell_number count) (spell_words words) (length (spell_number count)) at_count refl

  left : length sheet - first ≡ count * sheet_floats model * 8
  left = sym (length-drop first sheet) ∙ ap length at_words ∙ spelled_length words ∙ ap (λ (n : ℕ). n * 8) g.whole

  header_is : header_of sheet ≡ record { refusal = 0; model = model; parameters = padded parameters; count = count; at = first }
  unfolding header_of preamble_of records_end after_model_lem after_parameters first
  header_is =
      let k = g.known in
      let f = g.few in
      let m = number_read sheet 0 model _ (omega arith) at_model in
      let p = parameters_read sheet (kinds_of model) after_model_lem parameters _ g.fits at_parameters in
      let c = number_read sheet after_parameters count _ (omega arith) at_count in
      rw (m, le-ltb last model k, p, c, le-ltb most count f, left, le-ltb (count * sheet_floats model * 8) (count * sheet_floats model * 8) (omega arith))

  pub read_back : ReadBack model parameters count words (spell model parameters count words) (header_of (spell model parameters count words))
  unfolding sheet
  read_back =
      rw header_is (record {
        read = refl;
        model_is = refl;
        parameters_are = refl;
        count_is = refl;
        words_are = rw (at_words, ← g.whole) (words_read words g.bits);
      })
