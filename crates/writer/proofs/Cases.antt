-- `refusal_of` case by case, each from the tests that lead to it, and a sheet's length.
use mathlib.Core.Path.{◌≡◌, refl, sym, ap, ◌∙◌}
use mathlib.Core.Bool.{Bool, true, false, cond, not, ◌&&◌, ◌||◌}
use mathlib.Core.List.{List, [], ◌∷◌}
use Prim.Native.Nat.{ℕ, ◌+◌, ◌*◌, ◌/◌, ◌%◌, ◌≤◌, ◌<◌}
use native.Mathlib.Omega.{arith}
use lib.Dec.{eqb, ltb, leb}
use lib.ListN.{length}
use borrow.Author.Tests.{leb-true, eqb-true, le-leb, lt-leb, le-ltb, eq-eqb, ne_eqb}
use Rattle.numbers.proofs.Laws.{and_both}
use Rattle.model.specs.Kinds.{last, kinds_of, flags_allowed, parameters_fit, model_known}
use Rattle.record.specs.Layout.{floats}
use Rattle.sheet.specs.Records.{sheet_floats}
use Rattle.sheet.specs.Sheet.{most}
use Rattle.sheet.specs.Spelling.{spell_number}
use Rattle.writer.specs.Writer.{count_of, sheet_of, refusal_of}
use Rattle.writer.proofs.Stages as stages

-- a number has at most two groups
pub number_most : (n : ℕ) → length (spell_number n) ≤ 2
unfolding spell_number
number_most n = go (ltb n 128)
  where
    go : (b : Bool) → length (cond b (n ∷ []) ((n % 128 + 128) ∷ n / 128 ∷ [])) ≤ 2
    go true = omega arith
    go false = omega arith

module _ (model : ℕ) (p : List ℕ) where
  -- a known model's parameters are as many as it has
  known_low : model_known model p ≡ true → model ≤ last
  unfolding model_known
  known_low k = leb-true model last (and_both (leb model last) (flags_allowed 0 (kinds_of model) p) k).0

  pub parameters_many : parameters_fit model p ≡ true → model_known model p ≡ true → length p ≡ length (kinds_of model)
  parameters_many f k = eqb-true (length p) (length (kinds_of model)) (rw (le-ltb last model (known_low k)) at f)

  module _ (words : List ℕ) where
    pub sheet_length : length p ≡ length (kinds_of model)
        → length (sheet_of model p words) ≡ length (spell_number model) + length (kinds_of model) * 8 + length (spell_number (count_of words)) + count_of words * sheet_floats model * 8
    sheet_length e =
        stages.sheet_length model p words ∙ ap (λ (k : ℕ). length (spell_number model) + k * 8 + length (spell_number (count_of words)) + count_of words * sheet_floats model * 8) e

    module _ (room : ℕ) where
      pub uneven : (length words % floats ≡ 0 → ⊥) → 8 ≡ refusal_of model p words room
      unfolding refusal_of
      uneven h = rw (ne_eqb (length words % floats) 0 h) refl

      module _ (even : length words % floats ≡ 0) where
        pub unfit : parameters_fit model p ≡ false → 8 ≡ refusal_of model p words room
        unfolding refusal_of
        unfit f = rw (eq-eqb (length words % floats) 0 even, f) refl

        module _ (f : parameters_fit model p ≡ true) where
          pub other_model : model_known model p ≡ false → 6 ≡ refusal_of model p words room
          unfolding refusal_of
          other_model k = rw (eq-eqb (length words % floats) 0 even, f, k) refl

          module _ (k : model_known model p ≡ true) where
            pub over : most < count_of words → 7 ≡ refusal_of model p words room
            unfolding refusal_of
            over m = rw (eq-eqb (length words % floats) 0 even, f, k, lt-leb (count_of words) most m) refl

            module _ (m : count_of words ≤ most) where
              pub short_room : room < length (sheet_of model p words) → 9 ≡ refusal_of model p words room
              unfolding refusal_of
              short_room r =
                  rw (eq-eqb (length words % floats) 0 even, f, k, le-leb (count_of words) most m, lt-leb (length (sheet_of model p words)) room r) refl

              pub fine : length (sheet_of model p words) ≤ room → 0 ≡ refusal_of model p words room
              unfolding refusal_of
              fine r =
                  rw (eq-eqb (length words % floats) 0 even, f, k, le-leb (count_of words) most m, le-leb (length (sheet_of model p words)) room r) refl
