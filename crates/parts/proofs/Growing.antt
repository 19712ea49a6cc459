-- One record more in the bytes: what it adds to the words, to the list's records, and to those worked with their answers, for any law.
-- Assumes nothing.
use mathlib.Core.Path.{◌≡◌, refl, sym, ap, ◌∙◌}
use mathlib.Core.List.{List, [], ◌∷◌, ◌++◌, append_assoc}
use Prim.Native.Nat.{ℕ, zero, suc, ◌+◌, ◌*◌, ◌≤◌, ◌<◌}
use native.Mathlib.Omega.{arith}
use native.Mathlib.Nat.{mul-le-mul_right}
use lib.ListN.{length, take, drop, length-append, length-drop}
use lib.Seq.{drop-append-le, take-append-le, drop_at, take_at, take_all, drop-drop}
use Rattle.record.specs.Layout.{floats}
use Rattle.particles.specs.Pass.{Worked, code_of, value_of, answered, record_at, replaced, worked, answers, worked_over, answers_over}
use Rattle.particles.proofs.PassLaws.{Keeps, worked_length, answers_length, two_set}
use Rattle.sheet.specs.Records.{sheet_floats, completed, each, list_words}
use Rattle.sheet.specs.Sheet.{word_of, words_of}
use Rattle.sheet.proofs.RecordLaws.{completed_length, list_length}
use Rattle.sheet.proofs.Steps.{words_length}
use Rattle.parts.specs.Parts.{answer_of}
use Rattle.parts.specs.Whole.{first_records}

-- ---- words of a longer list, and more words of one list
pub words_front : (n : ℕ) (a b : List ℕ) → n * 8 ≤ length a → words_of n (a ++ b) ≡ words_of n a
unfolding words_of
words_front zero a b h = refl
words_front (suc n) a b h =
    let d = length-drop 8 a in
    rw (take-append-le 8 a b (omega arith), drop-append-le 8 a b (omega arith), words_front n (drop 8 a) b (omega arith))

pub words_more : (n m : ℕ) (l : List ℕ) → words_of (n + m) l ≡ words_of n l ++ words_of m (drop (n * 8) l)
unfolding words_of
words_more zero m l = let e : 0 + m ≡ m = omega arith in rw e
words_more (suc n) m l =
    let e : suc n + m ≡ suc (n + m) = omega arith in
    let f : suc n * 8 ≡ 8 + n * 8 = omega arith in
    rw (e, f, ← drop-drop (n * 8) 8 l) (ap (λ (t : List ℕ). word_of (take 8 l) ∷ t) (words_more n m (drop 8 l)))

-- ---- records of a list
each_front : (f : List ℕ → List ℕ) (k n : ℕ) (a b : List ℕ) → n * k ≤ length a → each f k n (a ++ b) ≡ each f k n a
unfolding each
each_front f k zero a b h = refl
each_front f k (suc n) a b h =
    let d = length-drop (n * k) a in
    rw (each_front f k n a b (omega arith), drop-append-le (n * k) a b (omega arith), take-append-le k (drop (n * k) a) b (omega arith))

module _ (model k : ℕ) (bytes : List ℕ) where
  pub first_length : length (first_records model k bytes) ≡ k * floats
  first_length = list_length model k (words_of (k * sheet_floats model) bytes) (words_length (k * sheet_floats model) bytes)

  -- more bytes don't change the first ones
  pub first_stay : (more : List ℕ) → k * sheet_floats model * 8 ≤ length bytes → first_records model k (bytes ++ more) ≡ first_records model k bytes
  first_stay more h = ap (list_words model k) (words_front (k * sheet_floats model) bytes more h)

  -- the next one
  unfoldable pub next_one : List ℕ
  next_one = completed model (words_of (sheet_floats model) (drop (k * sheet_floats model * 8) bytes))

  pub next_length : length next_one ≡ floats
  unfolding next_one
  next_length = completed_length model _ (words_length (sheet_floats model) (drop (k * sheet_floats model * 8) bytes))

  pub first_more : first_records model (suc k) bytes ≡ first_records model k bytes ++ next_one
  unfolding each next_one
  first_more =
      let f = sheet_floats model in
      let a = words_of (k * f) bytes in
      let b = words_of f (drop (k * f * 8) bytes) in
      let n : length a ≡ k * f = words_length (k * f) bytes in
      let m : length b ≡ f = words_length f (drop (k * f * 8) bytes) in
      let e : suc k * sheet_floats model ≡ k * sheet_floats model + sheet_floats model = omega arith in
      rw (e, words_more (k * f) f bytes, each_front (completed model) f k a b (omega arith), drop_at a b (k * f) n, take_all f b (omega arith))

-- ---- worked, with their answers
module _ (law : List ℕ → Worked) where
  record_stays : (a b : List ℕ) (i : ℕ) → suc i * floats ≤ length a → record_at (a ++ b) i ≡ record_at a i
  record_stays a b i h =
      let d = length-drop (i * floats) a in
      rw (drop-append-le (i * floats) a b (omega arith), take-append-le floats (drop (i * floats) a) b (omega arith))

  worked_stay : (a b : List ℕ) (k : ℕ) → k * floats ≤ length a → worked law (a ++ b) k ≡ worked law a k
  unfolding worked_over
  worked_stay a b zero h = refl
  worked_stay a b (suc k) h = rw (record_stays a b k h, worked_stay a b k (omega arith))

  answers_stay : (a b : List ℕ) (k : ℕ) → k * floats ≤ length a → answers law (a ++ b) k ≡ answers law a k
  unfolding answers_over
  answers_stay a b zero h = refl
  answers_stay a b (suc k) h = rw (record_stays a b k h, answers_stay a b k (omega arith))

  module _ (ws new : List ℕ) (k : ℕ) (e : length ws ≡ k * floats) (f : length new ≡ floats) where
    new_record : record_at (ws ++ new) k ≡ new
    new_record = rw (drop_at ws new (k * floats) e) (take_all floats new (omega arith))

    worked_more : worked law (ws ++ new) (suc k) ≡ worked law ws k ++ (law new).after
    unfolding worked_over
    worked_more = rw (new_record, worked_stay ws new k (omega arith))

    answers_more : answers law (ws ++ new) (suc k) ≡ answers law ws k ++ answer_of (law new).outcome
    unfolding answers_over
    answers_more = rw (new_record, answers_stay ws new k (omega arith))

    -- in front of what the lent lists held
    module _ (keeps : Keeps law) (xs₀ xs : List ℕ) (x : xs ≡ worked law ws k ++ drop (k * floats) xs₀) where
      pub records_grow : replaced xs k (law new).after ≡ worked law (ws ++ new) (suc k) ++ drop (suc k * floats) xs₀
      records_grow =
          let n = worked_length floats law keeps ws k (omega arith) in
          let j : suc k * floats ≡ k * floats + floats = omega arith in
          rw (x, worked_more, j, take_at (worked law ws k) (drop (k * floats) xs₀) (k * floats) n, drop_at (worked law ws k) (drop (k * floats) xs₀) (k * floats) n, drop-drop floats (k * floats) xs₀)
          (sym (append_assoc (worked law ws k) (law new).after (drop (k * floats + floats) xs₀)))

    pub answers_grow : (out₀ out : List ℕ) → k * 2 + 2 ≤ length out₀ → out ≡ answers law ws k ++ drop (k * 2) out₀
        → answered out k (law new).outcome ≡ answers law (ws ++ new) (suc k) ++ drop (suc k * 2) out₀
    answers_grow out₀ out h x =
        let j : suc k * 2 ≡ k * 2 + 2 = omega arith in
        rw (x, answers_more, j) (two_set (answers law ws k) out₀ (k * 2) (code_of (law new).outcome) (value_of (law new).outcome) (answers_length floats law ws k) h)
