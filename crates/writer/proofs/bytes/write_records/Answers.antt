-- `writer::bytes::write_records` meets its contract: one record more stands behind those before it.
use Rattle.std.proofs.Common.{◌≡◌, ℕ, zero, suc, ◌+◌, ◌*◌, ◌≤◌, ◌<◌, List, length, get_or, take, drop, ap, ◌∙◌, add-one, arith}
use native.Mathlib.Nat.{mul-le-mul_right, zero-mul}
use lib.Seq.{drop-drop}
use Rattle.std.specs.Simd.{first_chunks}
use Rattle.record.specs.Layout.{floats}
use Rattle.sheet.specs.Records.{sheet_floats, dropped, each, sheet_words}
use Rattle.sheet.specs.Spelling.{spell_words}
use Rattle.sheet.proofs.Pieces.{spelled_length}
use Rattle.sheet.proofs.RecordLaws.{dropped_length, each_length}
use Rattle.writer.specs.Writer.{put, count_of}
use Rattle.writer.proofs.Puts.{put_more, words_append}
use Rattle.writer.proofs.bytes.write_records.Goals as goal

-- chunk i of a list
chunk : (n k i : ℕ) (xs d : List ℕ) → i < k → get_or (first_chunks n k xs) i d ≡ take n (drop (i * n) xs)
chunk n zero i xs d h = absurd (omega arith)
chunk n (suc k) zero xs d h = simp zero-mul
chunk n (suc k) (suc i) xs d h =
    let e : n + i * n ≡ suc i * n = omega arith in
    chunk n k i (drop n xs) d (omega arith) ∙ ap (take n) (drop-drop (i * n) n xs ∙ ap (λ j. drop j xs) e)

module _ (room₀ : List ℕ) (at model : ℕ) (records : List ℕ) (h : at + count_of records * sheet_floats model * 8 ≤ length room₀) (i : ℕ) (l : i < count_of records) where
  so_many : length (spell_words (sheet_words model i records)) ≡ i * (sheet_floats model * 8)
  so_many =
      spelled_length (sheet_words model i records)
      ∙ ap (λ (n : ℕ). n * 8) (each_length (dropped model) floats (sheet_floats model) (dropped_length model) records i (omega arith)) ∙ omega arith

  next_record : (room : List ℕ) → room ≡ put room₀ at (spell_words (sheet_words model i records))
      → put room (at + i * (sheet_floats model * 8)) (spell_words (take (sheet_floats model) (take floats (drop (i * floats) records)))) ≡ put room₀ at (spell_words (sheet_words model (i + 1) records))
  unfolding each dropped
  next_record room e =
      let p = mul-le-mul_right (sheet_floats model * 8) l in
      rw (e, add-one i, words_append (sheet_words model i records) (take (sheet_floats model) (take floats (drop (i * floats) records))), ← so_many)
      (put_more room₀ at (spell_words (sheet_words model i records)) (spell_words (take (sheet_floats model) (take floats (drop (i * floats) records)))) (rw so_many (omega arith)))

pub loop-i-preserved : goal.loop-i-preserved
loop-i-preserved c =
    let a = c.args in
    let l = c.loop-i in
    let h : l.i < count_of a.records.now = omega (arith, c.as_chunks.ensures.front_len) in
    let n = next_record a.room.now a.at a.model a.records.now c.requires l.i h l.room l.invariant in
    simp (c.write_words.ensures, c.floats_of-n.ensures, c.as_chunks.ensures.front, chunk) n
