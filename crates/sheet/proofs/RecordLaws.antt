-- A sheet's records as the list has them, and back: lengths, the parts one by one, and each way undoes the other. Assumes nothing.
use mathlib.Core.Path.{◌≡◌, refl, sym, ap, ◌∙◌}
use mathlib.Core.Logic.{◌⊎◌, inl, inr}
use mathlib.Core.Bool.{Bool, true, false, cond}
use mathlib.Core.List.{List, [], ◌∷◌, ◌++◌, append-nil}
use Prim.Native.Nat.{ℕ, zero, suc, ◌+◌, ◌*◌, ◌-◌, ◌≤◌, ◌<◌}
use native.Mathlib.Omega.{arith}
use native.Mathlib.Nat.{mul-le-mul_right}
use lib.Dec.{ltb}
use lib.ListN.{length, get_or, take, drop, length-append, length-drop}
use lib.Seq.{length-take-le, take_all, take-suc, take-add, take_at, drop_at, get_or-take, get_or_at, take-append-le, drop-append-le}
use borrow.Author.Tests.{ltb-true, ltb-false, eq-eqb, eqb-true}
use Rattle.record.specs.Layout.{floats, bare, place_determinant, determinant_at, determinant_right}
use Rattle.model.specs.Kinds.{whole}
use Rattle.sheet.specs.Records.{sheet_floats, completed, dropped, each, list_words, sheet_words, Right, AllRight}

-- ---- the determinant is of the first floats
pub determinant_front : (k : ℕ) (r : List ℕ) → 9 ≤ k → determinant_at (take k r) ≡ determinant_at r
unfolding determinant_at
determinant_front k r h =
    rw (
      get_or-take k r 0 0 (omega arith),
      get_or-take k r 1 0 (omega arith),
      get_or-take k r 2 0 (omega arith),
      get_or-take k r 3 0 (omega arith),
      get_or-take k r 4 0 (omega arith),
      get_or-take k r 5 0 (omega arith),
      get_or-take k r 6 0 (omega arith),
      get_or-take k r 7 0 (omega arith),
      get_or-take k r 8 0 (omega arith),
    ) refl

-- ---- one record
pub floats_most : (model : ℕ) → sheet_floats model ≤ floats
unfolding sheet_floats
floats_most model = go (whole model)
  where
    go : (b : Bool) → cond b floats bare ≤ floats
    go true = omega arith
    go false = omega arith

pub floats_least : (model : ℕ) → bare ≤ sheet_floats model
unfolding sheet_floats
floats_least model = go (whole model)
  where
    go : (b : Bool) → bare ≤ cond b floats bare
    go true = omega arith
    go false = omega arith

pub completed_length : (model : ℕ) (w : List ℕ) → length w ≡ sheet_floats model → length (completed model w) ≡ floats
unfolding sheet_floats completed
completed_length model w = go (whole model)
  where
    go : (b : Bool) → length w ≡ cond b floats bare → length (cond b w (w ++ (determinant_at w ∷ []))) ≡ floats
    go true h = h
    go false h = length-append w (determinant_at w ∷ []) ∙ omega (arith, h)

pub dropped_length : (model : ℕ) (r : List ℕ) → length r ≡ floats → length (dropped model r) ≡ sheet_floats model
unfolding dropped
dropped_length model r h = length-take-le (sheet_floats model) r (let m = floats_most model in omega arith)

pub dropped_completed : (model : ℕ) (w : List ℕ) → length w ≡ sheet_floats model → dropped model (completed model w) ≡ w
unfolding sheet_floats completed dropped
dropped_completed model w = go (whole model)
  where
    go : (b : Bool) → length w ≡ cond b floats bare → take (cond b floats bare) (cond b w (w ++ (determinant_at w ∷ []))) ≡ w
    go true h = take_all floats w (omega arith)
    go false h = take_at w (determinant_at w ∷ []) bare h

-- what is filled in is right
pub completed_right : (model : ℕ) (w : List ℕ) → length w ≡ sheet_floats model → Right model (completed model w)
unfolding sheet_floats completed determinant_right
completed_right model w = go (whole model)
  where
    go : (b : Bool) → length w ≡ cond b floats bare → (b ≡ true) ⊎ (determinant_right (cond b w (w ++ (determinant_at w ∷ []))) ≡ true)
    go true h = inl refl
    go false h =
        let r = w ++ (determinant_at w ∷ []) in
        let q : determinant_at w ≡ determinant_at r = ap determinant_at (sym (take_at w (determinant_at w ∷ []) bare h)) ∙ determinant_front bare r (omega arith) in
        inr (eq-eqb (get_or r place_determinant 0) (determinant_at r) (get_or_at w (determinant_at w) [] 0 place_determinant h ∙ q))

last_float : (r : List ℕ) → length r ≡ floats → r ≡ take bare r ++ (get_or r place_determinant 0 ∷ [])
last_float r h = sym (take_all (suc bare) r (omega arith)) ∙ take-suc r bare 0 (omega arith)

pub completed_dropped : (model : ℕ) (r : List ℕ) → length r ≡ floats → Right model r → completed model (dropped model r) ≡ r
unfolding sheet_floats completed dropped determinant_right
completed_dropped model r h = go (whole model)
  where
    go : (b : Bool) → (b ≡ true) ⊎ (determinant_right r ≡ true) → cond b (take (cond b floats bare) r) (take (cond b floats bare) r ++ (determinant_at (take (cond b floats bare) r) ∷ [])) ≡ r
    go true e = take_all floats r (omega arith)
    go false (inl e) = let z : ◌≡◌ {A = ℕ} 0 1 = cc in absurd (omega arith)
    go false (inr e) =
        let q : get_or r place_determinant 0 ≡ determinant_at r = eqb-true _ _ e in
        rw (determinant_front bare r (omega arith), ← q) (sym (last_float r h))

-- ---- all of them
module _ (f : List ℕ → List ℕ) (k m : ℕ) (long : (w : List ℕ) → length w ≡ k → length (f w) ≡ m) (l : List ℕ) where
  part_length : (i n : ℕ) → i < n → n * k ≤ length l → length (take k (drop (i * k) l)) ≡ k
  part_length i n h e =
      let p = mul-le-mul_right k h in
      length-take-le k (drop (i * k) l) (rw (length-drop (i * k) l) (omega arith))

  pub each_length : (n : ℕ) → n * k ≤ length l → length (each f k n l) ≡ n * m
  unfolding each
  each_length zero h = omega arith
  each_length (suc n) h =
      let a = each_length n (omega arith) in
      let b = long (take k (drop (n * k) l)) (part_length n (suc n) (omega arith) h) in
      length-append (each f k n l) (f (take k (drop (n * k) l))) ∙ omega arith

  -- part i of what was made is made from part i
  pub each_at : (i n : ℕ) → i < n → n * k ≤ length l → take m (drop (i * m) (each f k n l)) ≡ f (take k (drop (i * k) l))
  unfolding each
  each_at i zero h e = absurd (omega arith)
  each_at i (suc n) h e = by_place (ltb i n) refl (λ s. each_at i n s (omega arith))
    where
      by_place : (b : Bool) → ltb i n ≡ b → (i < n → take m (drop (i * m) (each f k n l)) ≡ f (take k (drop (i * k) l)))
          → take m (drop (i * m) (each f k n l ++ f (take k (drop (n * k) l)))) ≡ f (take k (drop (i * k) l))
      by_place true t before =
          let s = ltb-true i n t in
          let a = each_length n (omega arith) in
          let p = mul-le-mul_right m s in
          ap (take m) (drop-append-le (i * m) (each f k n l) (f (take k (drop (n * k) l))) (omega arith))
          ∙ take-append-le m (drop (i * m) (each f k n l)) (f (take k (drop (n * k) l))) (rw (length-drop (i * m) (each f k n l)) (omega arith))
          ∙ before s
      by_place false t before =
          let s = ltb-false i n t in
          let q : i ≡ n = omega arith in
          let a = each_length n (omega arith) in
          let b = long (take k (drop (n * k) l)) (part_length n (suc n) (omega arith) e) in
          rw q (ap (take m) (drop_at (each f k n l) (f (take k (drop (n * k) l))) (n * m) a) ∙ take_all m (f (take k (drop (n * k) l))) (omega arith))

  -- and where each part goes back, all go back
  module _ (g : List ℕ → List ℕ) (n : ℕ) (e : n * k ≤ length l) (back : (i : ℕ) → i < n → g (f (take k (drop (i * k) l))) ≡ take k (drop (i * k) l)) where
    each_so_far : (i : ℕ) → i ≤ n → each g m i (each f k n l) ≡ take (i * k) l
    unfolding each
    each_so_far zero h = let z : 0 * k ≡ 0 = omega arith in rw z refl
    each_so_far (suc i) h =
        let j : suc i * k ≡ i * k + k = omega arith in
        rw (each_so_far i (omega arith), j, take-add (i * k) k l) (ap (λ (r : List ℕ). take (i * k) l ++ r) (ap g (each_at i n (omega arith) e) ∙ back i (omega arith)))

    pub each_back : length l ≡ n * k → each g m n (each f k n l) ≡ l
    each_back q = each_so_far n (omega arith) ∙ take_all (n * k) l (omega arith)

-- ---- a sheet's records and a list's
module _ (model count : ℕ) (words : List ℕ) where
  pub list_length : length words ≡ count * sheet_floats model → length (list_words model count words) ≡ count * floats
  list_length e = each_length (completed model) (sheet_floats model) floats (completed_length model) words count (omega arith)

  -- what was filled in is dropped again
  pub sheet_list : length words ≡ count * sheet_floats model → sheet_words model count (list_words model count words) ≡ words
  sheet_list e =
      each_back (completed model) (sheet_floats model) floats (completed_length model) words (dropped model) count (omega arith)
      (λ i h. dropped_completed model (take (sheet_floats model) (drop (i * sheet_floats model) words)) (part_length (completed model) (sheet_floats model) floats (completed_length model) words i count h (omega arith))) e

  pub sheet_length : length words ≡ count * floats → length (sheet_words model count words) ≡ count * sheet_floats model
  sheet_length e = each_length (dropped model) floats (sheet_floats model) (dropped_length model) words count (omega arith)

  -- each determinant is right of what `read` delivers
  pub list_right : length words ≡ count * sheet_floats model → AllRight model count (list_words model count words)
  list_right e i h =
      rw (each_at (completed model) (sheet_floats model) floats (completed_length model) words i count h (omega arith))
      (completed_right model (take (sheet_floats model) (drop (i * sheet_floats model) words)) (part_length (completed model) (sheet_floats model) floats (completed_length model) words i count h (omega arith)))

  -- what is dropped is filled in again
  pub list_sheet : length words ≡ count * floats → AllRight model count words → list_words model count (sheet_words model count words) ≡ words
  list_sheet e right =
      each_back (dropped model) floats (sheet_floats model) (dropped_length model) words (completed model) count (omega arith)
      (λ i h. completed_dropped model (take floats (drop (i * floats) words)) (part_length (dropped model) floats (sheet_floats model) (dropped_length model) words i count h (omega arith)) (right i h)) e
