-- What the reading of one record leaves in its room, and one more record in the list's. Assumes nothing.
use mathlib.Core.Path.{◌≡◌, refl, sym, ap, ◌∙◌}
use mathlib.Core.Bool.{true, false}
use mathlib.Core.List.{List, [], ◌∷◌, ◌++◌, append_assoc, append-nil}
use Prim.Native.Nat.{ℕ, zero, suc, ◌+◌, ◌*◌, ◌-◌, ◌≤◌, ◌<◌}
use native.Mathlib.Omega.{arith}
use native.Mathlib.Nat.{mul-le-mul_right, suc-add, zero-add}
use native.Mathlib.Numerals.{add-one}
use lib.ListN.{length, get_or, take, drop, set, drop_of_length-le}
use lib.Seq.{drop-cons, drop-drop, set_at, take_at, drop_at}
use Rattle.record.specs.Layout.{floats, bare, place_determinant, determinant_at}
use Rattle.model.specs.Kinds.{whole}
use Rattle.sheet.specs.Records.{sheet_floats, completed, each, list_words}
use Rattle.sheet.specs.Sheet.{word_of, words_of}
use Rattle.sheet.proofs.Steps.{words_length}
use Rattle.sheet.proofs.RecordLaws.{determinant_front, completed_length, each_length}

-- ---- one record
module _ (model : ℕ) (l room : List ℕ) (m : length room ≡ floats) (out : List ℕ) (e : out ≡ words_of (sheet_floats model) l ++ drop (sheet_floats model) room) where
  -- the determinant is in the sheet
  pub read_whole : whole model ≡ true → out ≡ completed model (words_of (sheet_floats model) l)
  unfolding sheet_floats completed
  read_whole w =
      let d : drop floats room ≡ [] = drop_of_length-le room {i = floats} (omega arith) in
      rw w ((rw (w, d) at e) ∙ append-nil (words_of floats l))

  -- it is filled in, in the last place
  pub read_bare : whole model ≡ false → (d : ℕ) → d ≡ determinant_at out → set out place_determinant d ≡ completed model (words_of (sheet_floats model) l)
  unfolding sheet_floats completed
  read_bare w d f =
      let n : length (words_of bare l) ≡ bare = words_length bare l in
      let g : out ≡ words_of bare l ++ drop bare room = rw w at e in
      let t : take bare out ≡ words_of bare l = ap (take bare) g ∙ take_at (words_of bare l) (drop bare room) bare n in
      let q : d ≡ determinant_at (words_of bare l) = f ∙ sym (determinant_front bare out (omega arith)) ∙ ap determinant_at t in
      let z : drop (suc bare) room ≡ [] = drop_of_length-le room {i = floats} (omega arith) in
      let r : drop bare room ≡ get_or room bare 0 ∷ [] = drop-cons room bare 0 (omega arith) ∙ ap (λ (x : List ℕ). get_or room bare 0 ∷ x) z in
      rw (w, ← q) (ap (λ (x : List ℕ). set x place_determinant d) (g ∙ ap (λ (x : List ℕ). words_of bare l ++ x) r) ∙ set_at (words_of bare l) (get_or room bare 0) [] d bare n)

-- ---- the floats of one record among those of all
words_split : (a b : ℕ) (l : List ℕ) → words_of (a + b) l ≡ words_of a l ++ words_of b (drop (a * 8) l)
unfolding words_of
words_split zero b l = rw (zero-add b) refl
words_split (suc a) b l =
    let n : suc a * 8 ≡ 8 + a * 8 = omega arith in
    rw (suc-add a b, n, ← drop-drop (a * 8) 8 l) (ap (λ (r : List ℕ). word_of (take 8 l) ∷ r) (words_split a b (drop 8 l)))

words_part : (k i r : ℕ) (l : List ℕ) → take k (drop (i * k) (words_of (i * k + (k + r)) l)) ≡ words_of k (drop (i * k * 8) l)
words_part k i r l =
    rw (
      words_split (i * k) (k + r) l,
      drop_at (words_of (i * k) l) (words_of (k + r) (drop (i * k * 8) l)) (i * k) (words_length (i * k) l),
      words_split k r (drop (i * k * 8) l),
    )
    (take_at (words_of k (drop (i * k * 8) l)) (words_of r (drop (k * 8) (drop (i * k * 8) l))) k (words_length k (drop (i * k * 8) l)))

-- ---- one more record
module _ (model count at : ℕ) (s room₀ : List ℕ) (there : at + count * sheet_floats model * 8 ≤ length s) (place : count * floats ≤ length room₀) where
  -- the floats of all
  abbrev pub words : List ℕ
  words = words_of (count * sheet_floats model) (drop at s)

  -- the first i records stand in the room, and behind them what it held
  abbrev pub Stand : ℕ → List ℕ → Type 0
  Stand i room = room ≡ list_words model i words ++ drop (i * floats) room₀

  pub inside : (i : ℕ) → i < count → at + i * (sheet_floats model * 8) + sheet_floats model * 8 ≤ length s
  inside i h = let p = mul-le-mul_right (sheet_floats model * 8) h in omega arith

  front_length : (i : ℕ) → i ≤ count → length (list_words model i words) ≡ i * floats
  front_length i h =
      let n = words_length (count * sheet_floats model) (drop at s) in
      let p = mul-le-mul_right (sheet_floats model) h in
      each_length (completed model) (sheet_floats model) floats (completed_length model) words i (rw n p)

  -- record i of the sheet's floats
  part : (i : ℕ) → i < count → take (sheet_floats model) (drop (i * sheet_floats model) words) ≡ words_of (sheet_floats model) (drop (at + i * (sheet_floats model * 8)) s)
  part i h =
      let p = mul-le-mul_right (sheet_floats model) h in
      let n : count * sheet_floats model ≡ i * sheet_floats model + (sheet_floats model + (count * sheet_floats model - suc i * sheet_floats model)) = omega arith in
      let m : at + i * sheet_floats model * 8 ≡ at + i * (sheet_floats model * 8) = omega arith in
      ap (λ (k : ℕ). take (sheet_floats model) (drop (i * sheet_floats model) (words_of k (drop at s)))) n
      ∙ words_part (sheet_floats model) i (count * sheet_floats model - suc i * sheet_floats model) (drop at s)
      ∙ ap (words_of (sheet_floats model)) (drop-drop (i * sheet_floats model * 8) at s ∙ ap (λ (k : ℕ). drop k s) m)

  pub next_record : (i : ℕ) (room : List ℕ) → i < count → Stand i room
      → take (i * floats) room ++ (completed model (words_of (sheet_floats model) (drop (at + i * (sheet_floats model * 8)) s)) ++ drop floats (drop (i * floats) room)) ≡ list_words model (i + 1) words ++ drop ((i + 1) * floats) room₀
  unfolding each
  next_record i room h e =
      let n = front_length i (omega arith) in
      let t : take (i * floats) room ≡ list_words model i words = ap (take (i * floats)) e ∙ take_at (list_words model i words) (drop (i * floats) room₀) (i * floats) n in
      let d : drop (i * floats) room ≡ drop (i * floats) room₀ = ap (drop (i * floats)) e ∙ drop_at (list_words model i words) (drop (i * floats) room₀) (i * floats) n in
      let j : suc i * floats ≡ i * floats + floats = omega arith in
      rw (t, d, ← part i h, add-one i, j, drop-drop floats (i * floats) room₀) (sym (append_assoc (list_words model i words) (completed model (take (sheet_floats model) (drop (i * sheet_floats model) words))) (drop (i * floats + floats) room₀)))
