-- The sheet put piece by piece into a room that has place for it.
use mathlib.Core.Path.{◌≡◌, sym, ap, ◌∙◌}
use mathlib.Core.List.{List, ◌++◌, append_assoc}
use Prim.Native.Nat.{ℕ, ◌+◌, ◌*◌, ◌/◌, ◌≤◌}
use native.Mathlib.Omega.{arith}
use lib.ListN.{length, length-append}
use Rattle.record.specs.Layout.{floats}
use Rattle.sheet.specs.Records.{sheet_floats, dropped, sheet_words}
use Rattle.sheet.proofs.RecordLaws.{dropped_length, each_length}
use Rattle.sheet.specs.Spelling.{spell_number, spell_words, spell}
use Rattle.sheet.proofs.Pieces.{spelled_length}
use Rattle.writer.specs.Writer.{put, count_of, sheet_of}
use Rattle.writer.proofs.Puts.{put_length, put_more}

module _ (model : ℕ) (p words : List ℕ) where
  abbrev first : List ℕ
  first = spell_number model

  abbrev second : List ℕ
  second = spell_words p

  abbrev third : List ℕ
  third = spell_number (count_of words)

  abbrev fourth : List ℕ
  fourth = spell_words (sheet_words model (count_of words) words)

  fourth_length : length fourth ≡ count_of words * sheet_floats model * 8
  fourth_length =
      spelled_length (sheet_words model (count_of words) words)
      ∙ ap (λ (n : ℕ). n * 8) (each_length (dropped model) floats (sheet_floats model) (dropped_length model) words (count_of words) (omega arith))

  pub sheet_length : length (sheet_of model p words) ≡ length first + length p * 8 + length third + count_of words * sheet_floats model * 8
  unfolding sheet_of spell
  sheet_length = simp (length-append, fourth_length, spelled_length p) (omega arith)

  module _ (room : List ℕ) (h : length first + length p * 8 + length third + count_of words * sheet_floats model * 8 ≤ length room) (a : ℕ) (at_second : a ≡ 0 + length first) where
    pub first_length : (r₁ : List ℕ) → r₁ ≡ put room 0 first → length r₁ ≡ length room
    first_length r₁ e = ap length e ∙ put_length room 0 first (omega arith)

    module _ (r₁ r₂ : List ℕ) (e₁ : r₁ ≡ put room 0 first) (e₂ : r₂ ≡ put r₁ a second) where
      two_put : r₂ ≡ put room 0 (first ++ second)
      two_put = e₂ ∙ rw (e₁, at_second) (put_more room 0 first second (omega arith))

      two_long : 0 + length (first ++ second) ≡ 0 + length first + length p * 8
      two_long = simp (length-append, spelled_length) (omega arith)

      pub second_length : length r₂ ≡ length room
      second_length = ap length two_put ∙ put_length room 0 (first ++ second) (rw two_long (omega (arith, h)))

      module _ (r₃ : List ℕ) (e₃ : r₃ ≡ put r₂ (a + length p * 8) third) where
        three_put : r₃ ≡ put room 0 ((first ++ second) ++ third)
        three_put =
            let s = put_more room 0 (first ++ second) third (rw two_long (omega arith)) in
            e₃ ∙ rw (two_put, at_second) (ap (λ (k : ℕ). put (put room 0 (first ++ second)) k third) (sym two_long) ∙ s)

        three_long : 0 + length ((first ++ second) ++ third) ≡ 0 + length first + length p * 8 + length third
        three_long = simp (length-append, spelled_length) (omega arith)

        pub third_length : length r₃ ≡ length room
        third_length = ap length three_put ∙ put_length room 0 ((first ++ second) ++ third) (rw three_long (omega arith))

        pub whole : (r₄ : List ℕ) → r₄ ≡ put r₃ (a + length p * 8 + length third) fourth → r₄ ≡ put room 0 (sheet_of model p words)
        unfolding sheet_of spell
        whole r₄ e₄ =
            let s = put_more room 0 ((first ++ second) ++ third) fourth (rw three_long (omega arith)) in
            let joined : ((first ++ second) ++ third) ++ fourth ≡ first ++ (second ++ (third ++ fourth)) = append_assoc (first ++ second) third fourth ∙ append_assoc first second (third ++ fourth) in
            e₄ ∙ rw (three_put, at_second) (ap (λ (k : ℕ). put (put room 0 ((first ++ second) ++ third)) k fourth) (sym three_long) ∙ s ∙ ap (put room 0) joined)
