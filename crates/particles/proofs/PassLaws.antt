-- Laws of a pass over records of any width w, by any step that keeps a record's length: what record i adds to the records, the answers and the
-- counts.
-- Assumes nothing.
use mathlib.Core.Bool.{Bool, true, false, not, cond}
use mathlib.Core.Path.{◌≡◌, refl, sym, ap, subst, ◌∙◌}
use mathlib.Core.List.{List, [], ◌∷◌, ◌++◌, append_assoc, append-nil}
use Prim.Native.Nat.{ℕ, zero, suc, ◌+◌, ◌*◌, ◌≤◌, ◌<◌}
use native.Mathlib.Nat.{zero-mul}
use native.Mathlib.Omega.{arith}
use native.Mathlib.Numerals.{add-one}
use lib.Dec.{T, ltb, ltb→lt, nltb→le}
use lib.ListN.{length, set, take, drop, get_or, length-set, length-append, length-take, length-drop, get_or-append}
use lib.Seq.{take_at, drop_at, drop-drop, drop-cons, set_at, drop-length, get_or-append-add}
use Rattle.plasticity.specs.declared.Outcome.{Outcome}
use Rattle.plasticity.specs.declared.Outcome.TheVariants.{Untouched, Stored, Refused}
use Rattle.plasticity.specs.declared.Scalars.{Scalars}
use Rattle.plasticity.specs.declared.State.{State}
use Rattle.record.specs.Layout.{layout, place, place_determinant, bits, determinant_at, put_shape}
use Rattle.model.specs.declared.Model.{Model}
use Rattle.model.specs.declared.Law.{Law}
use Rattle.model.specs.Rows.{row_of, acts_of}
use Rattle.model.specs.Named.{scalar_of, parts_written, named}
use Rattle.particles.specs.declared.list.Passed.TheVariants as passed_variants
use Rattle.particles.specs.declared.failure.FailureCounts.{FailureCounts}
use Rattle.particles.specs.declared.failure.PassedWithFailure.TheVariants as failure_variants
use Rattle.one_record.specs.Kept.{by_outcome}
use Rattle.one_record.specs.RecordLaw.{record_law, kept, law_at, put_state}
use Rattle.particles.specs.Fill.{fill_law}
use Rattle.particles.specs.Pass.{Worked, code_of, value_of, answered, counted_if, counted, record_over, replaced_over, worked_over, answers_over, counts_over, three_of, without_verdicts}

-- a law keeps a record's length
abbrev pub Keeps : (List ℕ → Worked) → Type 0
Keeps law = (r : List ℕ) → length (law r).after ≡ length r

-- of any layout
parts_length : (ws parts r : List ℕ) (x : Scalars) → length (parts_written ws parts r x) ≡ length r
parts_length ws [] r x = refl
parts_length ws (part ∷ parts) r x = parts_length ws parts (set r (place ws part) (bits (scalar_of x part))) x ∙ length-set r (place ws part) (bits (scalar_of x part))

pub named_length : (ws : List ℕ) (l : Law) (r : List ℕ) (x : Scalars) → length (named ws l r x) ≡ length r
named_length ws l r x = parts_length ws (row_of l).written r x

pub outcome_length : (o : Outcome) (r q : List ℕ) → length q ≡ length r → length (by_outcome o r q) ≡ length r
outcome_length Untouched r q h = refl
outcome_length (Stored a) r q h = h
outcome_length (Refused n) r q h = refl

-- what is not stored keeps its bits
pub outcome_same : (o : Outcome) (r q : List ℕ) → (code_of o ≡ 1 → ⊥) → by_outcome o r q ≡ r
outcome_same Untouched r q h = refl
outcome_same (Stored a) r q h = absurd (h refl)
outcome_same (Refused n) r q h = refl

pub kept_length : (m : Model) (o : Outcome) (r : List ℕ) (s : State) → length (kept m o r s) ≡ length r
kept_length m o r s = outcome_length o r (put_state m r s) (named_length layout (acts_of m).law (put_shape r s) s.scalars ∙ simp length-set)

pub record_keeps : (m : Model) → Keeps (record_law m)
unfolding record_law
record_keeps m r = kept_length m (law_at m r).outcome r (law_at m r).state

pub fill_keeps : Keeps fill_law
fill_keeps r = length-set r place_determinant (determinant_at r)

module _ (w : ℕ) (law : List ℕ → Worked) (k : Keeps law) (l : List ℕ) where
  pub worked_length : (i : ℕ) → i * w ≤ length l → length (worked_over w law l i) ≡ i * w
  unfolding worked_over
  worked_length zero h = sym (zero-mul w)
  worked_length (suc i) h =
      let e : i * w ≤ length l = omega arith in
      let ih = worked_length i e in
      simp (length-append, k, length-take, length-drop) (omega arith)

  pub worked_step : (i : ℕ) → i * w + w ≤ length l → (xs : List ℕ) → xs ≡ worked_over w law l i ++ drop (i * w) l
      → replaced_over w xs i (law (record_over w xs i)).after ≡ worked_over w law l (i + 1) ++ drop ((i + 1) * w) l
  unfolding worked_over
  worked_step i h xs e =
      let n : length (worked_over w law l i) ≡ i * w = worked_length i (omega arith) in
      let t : take (i * w) xs ≡ worked_over w law l i = ap (take (i * w)) e ∙ take_at (worked_over w law l i) (drop (i * w) l) (i * w) n in
      let d : drop (i * w) xs ≡ drop (i * w) l = ap (drop (i * w)) e ∙ drop_at (worked_over w law l i) (drop (i * w) l) (i * w) n in
      let j : suc i * w ≡ i * w + w = omega arith in
      simp (t, d, drop-drop, j, add-one i, append_assoc)

  module _ (i : ℕ) (xs : List ℕ) (e : xs ≡ worked_over w law l i ++ drop (i * w) l) (h : i * w ≤ length l) where
    pub records_length : length xs ≡ length l
    records_length =
        let n = worked_length i h in
        ap length e ∙ simp (length-append, length-drop) (omega arith)

    -- record i is still as it came
    pub record_same : record_over w xs i ≡ record_over w l i
    record_same =
        ap (λ (t : List ℕ). take w (drop (i * w) t)) e
        ∙ ap (take w) (drop_at (worked_over w law l i) (drop (i * w) l) (i * w) (worked_length i h))

-- two places after a prefix are written
pub two_set : (q a : List ℕ) (k v w : ℕ) → length q ≡ k → k + 2 ≤ length a → set (set (q ++ drop k a) k v) (k + 1) w ≡ (q ++ (v ∷ w ∷ [])) ++ drop (k + 2) a
two_set q a k v w n h =
    let b1 : k < length a = omega arith in
    let b2 : suc k < length a = omega arith in
    let d : drop k a ≡ get_or a k 0 ∷ get_or a (suc k) 0 ∷ drop (suc (suc k)) a =
    drop-cons a k 0 b1 ∙ ap (λ (t : List ℕ). get_or a k 0 ∷ t) (drop-cons a (suc k) 0 b2) in
    let m : length (q ++ (v ∷ [])) ≡ k + 1 = simp length-append (omega arith) in
    let e : k + 2 ≡ suc (suc k) = omega arith in
    ap (λ (t : List ℕ). set (set (q ++ t) k v) (k + 1) w) d
    ∙ ap (λ (t : List ℕ). set t (k + 1) w) (set_at q (get_or a k 0) (get_or a (suc k) 0 ∷ drop (suc (suc k)) a) v k n)
    ∙ ap (λ (t : List ℕ). set t (k + 1) w) (sym (append_assoc q (v ∷ []) (get_or a (suc k) 0 ∷ drop (suc (suc k)) a)))
    ∙ set_at (q ++ (v ∷ [])) (get_or a (suc k) 0) (drop (suc (suc k)) a) w (k + 1) m
    ∙ simp (append_assoc, e)

-- no count is above the number of records
abbrev pub Most : FailureCounts → ℕ → Type 0
Most c i = (c.untouched ≤ i) × (c.stored ≤ i) × (c.refused ≤ i) × (c.failed ≤ i)

counted_if_most : (n i : ℕ) (b : Bool) → n ≤ i → counted_if n b ≤ suc i
counted_if_most n i true h = omega arith
counted_if_most n i false h = omega arith

counted_most : (c : FailureCounts) (o : Outcome) (f : Bool) (i : ℕ) → Most c i → Most (counted c o f) (suc i)
counted_most c Untouched f i h = (omega arith, omega arith, omega arith, counted_if_most c.failed i f h.3)
counted_most c (Stored a) f i h = (omega arith, omega arith, omega arith, counted_if_most c.failed i f h.3)
counted_most c (Refused n) f i h = (omega arith, omega arith, omega arith, counted_if_most c.failed i f h.3)

module _ (w : ℕ) (law : List ℕ → Worked) (l : List ℕ) where
  pub answers_length : (i : ℕ) → length (answers_over w law l i) ≡ i * 2
  unfolding answers_over
  answers_length zero = refl
  answers_length (suc i) =
      let ih = answers_length i in
      simp length-append (omega arith)

  pub answers_long : (a : List ℕ) (i : ℕ) (out : List ℕ) → out ≡ answers_over w law l i ++ drop (i * 2) a → i * 2 ≤ length a → length out ≡ length a
  answers_long a i out e h =
      let n = answers_length i in
      ap length e ∙ simp (length-append, length-drop) (omega arith)

  pub answers_step : (i : ℕ) (a : List ℕ) → i * 2 + 2 ≤ length a → (out : List ℕ) → out ≡ answers_over w law l i ++ drop (i * 2) a
      → (o : Outcome) → o ≡ (law (record_over w l i)).outcome → answered out i o ≡ answers_over w law l (i + 1) ++ drop ((i + 1) * 2) a
  unfolding answers_over
  answers_step i a h out e o f =
      let k : suc i * 2 ≡ i * 2 + 2 = omega arith in
      rw (e, f, add-one i, k) (two_set (answers_over w law l i) a (i * 2) _ _ (answers_length i) h)

  pub counts_most : (i : ℕ) → Most (counts_over w law l i) i
  unfolding counts_over
  counts_most zero = omega arith
  counts_most (suc i) = counted_most (counts_over w law l i) (law (record_over w l i)).outcome (law (record_over w l i)).failed i (counts_most i)

  pub counts_step : (i : ℕ) (c : FailureCounts) (o : Outcome) (f : Bool) → c ≡ counts_over w law l i → o ≡ (law (record_over w l i)).outcome
      → f ≡ (law (record_over w l i)).failed → counted c o f ≡ counts_over w law l (i + 1)
  unfolding counts_over
  counts_step i c o f e g h = rw (add-one i, e, g, h)

-- the first three counts, or the refusal
pub three_passed : (b : Bool) (c : FailureCounts) (n : ℕ)
    → without_verdicts (cond b (failure_variants.Done c) (failure_variants.Refused n)) ≡ cond b (passed_variants.Done (three_of c)) (passed_variants.Refused n)
three_passed true c n = refl
three_passed false c n = refl

-- at the end nothing is left of the old list
pub all_done : (q l : List ℕ) (k : ℕ) → length l ≡ k → q ++ drop k l ≡ q
all_done q l k e = rw (← e, drop-length) (append-nil q)

-- ---- the two answers of record i
-- i below n + 1 is below n, or n
pub or_last : (i n : ℕ) {G : Type 0} → i < suc n → (i < n → G) → (i ≡ n → G) → G
or_last i n {G} h f g = go (ltb i n) (ltb→lt i n) (nltb→le i n)
  where
    go : (b : Bool) → (T b → i < n) → (T (not b) → n ≤ i) → G
    go true k l = f (k tt)
    go false k l = g (let m = l tt in omega arith)

module _ (w : ℕ) (law : List ℕ → Worked) (l : List ℕ) where
  abbrev code : ℕ → ℕ
  code i = code_of (law (record_over w l i)).outcome

  abbrev value : ℕ → ℕ
  value i = value_of (law (record_over w l i)).outcome

  pub answers_at : (n i : ℕ) → i < n → (get_or (answers_over w law l n) (i * 2) 0 ≡ code i) × (get_or (answers_over w law l n) (i * 2 + 1) 0 ≡ value i)
  unfolding answers_over
  answers_at zero i j = absurd (omega arith)
  answers_at (suc n) i j =
      let q = answers_over w law l n in
      let s = code n ∷ value n ∷ [] in
      let e : length q ≡ n * 2 = answers_length w law l n in
      or_last i n j
      (λ m. let a = answers_at n i m in
      (get_or-append q s 0 (i * 2) (omega arith) ∙ a.0, get_or-append q s 0 (i * 2 + 1) (omega arith) ∙ a.1))
      (λ m. subst (λ (x : ℕ). (get_or (q ++ s) (x * 2) 0 ≡ code x) × (get_or (q ++ s) (x * 2 + 1) 0 ≡ value x)) (sym m) (
        ap (λ (x : ℕ). get_or (q ++ s) x 0) (let y : n * 2 ≡ length q + 0 = omega arith in y) ∙ get_or-append-add q s 0 0,
        ap (λ (x : ℕ). get_or (q ++ s) x 0) (let y : n * 2 + 1 ≡ length q + 1 = omega arith in y) ∙ get_or-append-add q s 1 0,
      ))
