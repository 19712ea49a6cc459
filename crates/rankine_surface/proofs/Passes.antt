-- What stands at record i, and at its answers, after a pass over records of any width w by any law that keeps a record's length
use mathlib.Core.Path.{◌≡◌, refl, sym, ap, ◌∙◌, subst}
use mathlib.Core.Bool.{Bool, true, false, not, cond}
use mathlib.Core.List.{List, [], ◌∷◌, ◌++◌}
use Prim.Native.Nat.{ℕ, zero, suc, ◌+◌, ◌*◌, ◌/◌, ◌≤◌, ◌<◌}
use native.Mathlib.Nat.{mul-le-mul_right}
use native.Mathlib.Omega.{arith}
use borrow.Author.Tests.{eqb-true}
use lib.Dec.{T, eqb, ltb, ltb→lt, nltb→le}
use lib.ListN.{length, take, get_or, length-take, length-drop, get_or-append}
use lib.Seq.{drop_at, take_all, get_or-append-add}
use lib.Ieee.Fits.{and_l}
use Rattle.record.specs.Layout.{floats}
use Rattle.particles.specs.Pass.{Worked, code_of, value_of, record_at, record_over, well_sized_over, worked_over, answers_over}
use Rattle.particles.proofs.PassLaws.{Keeps, worked_length, answers_length}
use Rattle.sheet_run.proofs.Parts.{record_front}
use Rattle.rankine_surface.specs.Record.{Found, found_of, InPassOver, InPass, pass_found_over, pass_found}
use Rattle.rankine_surface.proofs.Hardening.{is_true}

-- i below n + 1 is below n, or n
split : (i n : ℕ) {G : Type 0} → i < suc n → (i < n → G) → (i ≡ n → G) → G
split i n {G} h f g = go (ltb i n) (ltb→lt i n) (nltb→le i n)
  where
    go : (b : Bool) → (T b → i < n) → (T (not b) → n ≤ i) → G
    go true k l = f (k tt)
    go false k l = g (let m = l tt in omega arith)

-- equal in each of the three places
pub same : {c d x y : ℕ} {s t : List ℕ} → c ≡ d → x ≡ y → s ≡ t
    → ◌≡◌ {A = Found} (record { code = c; value = x; after = s }) (record { code = d; value = y; after = t })
same p q r = rw (p, q, r)

record_end : (w : ℕ) (q s : List ℕ) (i : ℕ) → length q ≡ i * w → length s ≤ w → record_over w (q ++ s) i ≡ s
record_end w q s i h k = ap (take w) (drop_at q s (i * w) h) ∙ take_all w s k

-- record i of n ends within their floats
within : (w i n : ℕ) → i < n → i * w + w ≤ n * w
within w i n h = let k : suc i * w ≤ n * w = mul-le-mul_right w h in omega arith

module _ (w : ℕ) (law : List ℕ → Worked) (k : Keeps law) (l : List ℕ) where
  record_long : (i : ℕ) → i * w + w ≤ length l → length (record_over w l i) ≡ w
  record_long i h = simp (length-take, length-drop) (omega arith)

  worked_at : (n i : ℕ) → n * w ≤ length l → i < n → record_over w (worked_over w law l n) i ≡ (law (record_over w l i)).after
  unfolding worked_over
  worked_at zero i h j = absurd (omega arith)
  worked_at (suc n) i h j =
      let s = (law (record_over w l n)).after in
      let e : length (worked_over w law l n) ≡ n * w = worked_length w law k l n (omega arith) in
      split i n j
      (λ m. record_front w (worked_over w law l n) s i (let x = within w i n m in omega arith) ∙ worked_at n i (omega arith) m)
      (λ m. subst (λ (x : ℕ). record_over w (worked_over w law l n ++ s) x ≡ (law (record_over w l x)).after) (sym m)
      (record_end w (worked_over w law l n) s n e (let y = k (record_over w l n) in let z = record_long n (omega arith) in omega arith)))

  abbrev o : ℕ → ℕ
  o i = code_of (law (record_over w l i)).outcome

  abbrev v : ℕ → ℕ
  v i = value_of (law (record_over w l i)).outcome

  answers_at : (n i : ℕ) → i < n → (get_or (answers_over w law l n) (i * 2) 0 ≡ o i) × (get_or (answers_over w law l n) (i * 2 + 1) 0 ≡ v i)
  unfolding answers_over
  answers_at zero i j = absurd (omega arith)
  answers_at (suc n) i j =
      let q = answers_over w law l n in
      let s = o n ∷ v n ∷ [] in
      let e : length q ≡ n * 2 = answers_length w law l n in
      split i n j
      (λ m. let a = answers_at n i m in
      (get_or-append q s 0 (i * 2) (omega arith) ∙ a.0, get_or-append q s 0 (i * 2 + 1) (omega arith) ∙ a.1))
      (λ m. subst (λ (x : ℕ). (get_or (q ++ s) (x * 2) 0 ≡ o x) × (get_or (q ++ s) (x * 2 + 1) 0 ≡ v x)) (sym m) (
        ap (λ (x : ℕ). get_or (q ++ s) x 0) (let y : n * 2 ≡ length q + 0 = omega arith in y) ∙ get_or-append-add q s 0 0,
        ap (λ (x : ℕ). get_or (q ++ s) x 0) (let y : n * 2 + 1 ≡ length q + 1 = omega arith in y) ∙ get_or-append-add q s 1 0,
      ))

  -- the lists hold whole records
  all_whole : (out : List ℕ) (i : ℕ) → InPassOver w l out i → length l / w * w ≡ length l
  all_whole out i g = eqb-true (length l / w * w) (length l) (is_true (eqb (length l / w * w) (length l)) (and_l (eqb (length l / w * w) (length l)) (eqb (length l / w * 2) (length out)) g.sized))

  pub in_pass_over : (out : List ℕ) (i : ℕ) → InPassOver w l out i → length (record_over w l i) ≡ w
  in_pass_over out i g = record_long i (let e = all_whole out i g in let h = within w i (length l / w) g.index in omega arith)

  pub found_over : (out : List ℕ) (i : ℕ) → InPassOver w l out i → pass_found_over w law l out i ≡ found_of (law (record_over w l i))
  found_over out i g =
      let n = length l / w in
      let a = answers_at n i g.index in
      let c = worked_at n i (let e = all_whole out i g in omega arith) g.index in
      same (ap (λ (t : List ℕ). get_or t (i * 2) 0) (sure (well_sized_over w l out) (answers_over w law l n) out g.sized) ∙ a.0)
      (ap (λ (t : List ℕ). get_or t (i * 2 + 1) 0) (sure (well_sized_over w l out) (answers_over w law l n) out g.sized) ∙ a.1)
      (ap (λ (t : List ℕ). record_over w t i) (sure (well_sized_over w l out) (worked_over w law l n) l g.sized) ∙ c)
    where
      sure : (b : Bool) (x y : List ℕ) → T b → cond b x y ≡ x
      sure true x y t = refl
      sure false x y t = absurd t

-- ---- in three axes
module _ (law : List ℕ → Worked) (k : Keeps law) (l out : List ℕ) (i : ℕ) (g : InPass l out i) where
  pub in_pass : length (record_at l i) ≡ floats
  in_pass = in_pass_over floats law k l out i g

  pub found : pass_found law l out i ≡ found_of (law (record_at l i))
  found = found_over floats law k l out i g
