-- Each refusal comes exactly when its reason holds, and every input has one answer.
use mathlib.Core.Path.{◌≡◌, refl, sym, ◌∙◌, subst}
use mathlib.Core.Bool.{Bool, true, false, ◌&&◌}
use mathlib.Core.List.{List}
use Prim.Native.Nat.{ℕ, ◌%◌, ◌≤◌, ◌<◌}
use native.Mathlib.Omega.{arith}
use lib.Dec.{eqb, ltb, leb}
use lib.ListN.{length}
use borrow.Author.Tests.{ltb-true, ltb-false, leb-true, leb-false, eqb-true, eqb-false, lt-ltb, le-ltb, lt-leb, le-leb, eq-eqb, ne_eqb}
use Rattle.model.specs.Kinds.{last, kinds_of, flags_allowed, parameters_fit, model_known}
use Rattle.record.specs.Layout.{floats}
use Rattle.sheet.specs.Sheet.{most}
use Rattle.sheet.proofs.AllSheets.{by_test}
use Rattle.writer.specs.Writer.{count_of, sheet_of, refusal_of}
use Rattle.writer.specs.Reasons.{Listed, Named, Reason, uneven, parameters, unknown_model, other_flag, over, short_room, Fine}
use Rattle.writer.proofs.Cases as cases

module _ (model : ℕ) (p words : List ℕ) where
  fits : Listed model p words → parameters_fit model p ≡ true
  fits l = rw (le-ltb last model l.known) (eq-eqb (length p) (length (kinds_of model)) l.many)

  is_known : Named model p words → model_known model p ≡ true
  unfolding model_known
  is_known n = rw (le-leb model last n.listed.known) n.flags

  module _ (room : ℕ) where
    -- the reason tells the number
    pub told : (n : ℕ) → Reason model p words room n → refusal_of model p words room ≡ n
    unfolding model_known
    told _ (uneven h) = sym (cases.uneven model p words room h)
    told _ (parameters e k h) = sym (cases.unfit model p words room e (rw (le-ltb last model k) (ne_eqb (length p) (length (kinds_of model)) h)))
    told _ (unknown_model e k) = sym (cases.other_model model p words room e (rw (lt-ltb last model k) refl) (rw (lt-leb model last k) refl))
    told _ (other_flag l f) = sym (cases.other_model model p words room l.even (fits l) (rw (le-leb model last l.known) f))
    told _ (over n m) = sym (cases.over model p words room n.listed.even (fits n.listed) (is_known n) m)
    told _ (short_room n f r) = sym (cases.short_room model p words room n.listed.even (fits n.listed) (is_known n) f r)

    pub written : Fine model p words room → refusal_of model p words room ≡ 0
    written f =
        let n = f.named in
        sym (cases.fine model p words room n.listed.even (fits n.listed) (is_known n) f.few f.place)

    -- what is asked of every input: one of the reasons, or none
    pub data Answered : Type 0 where
      refuses : (n : ℕ) → Reason model p words room n → Answered
      writes : Fine model p words room → Answered

    pub answered : Answered
    answered =
        by_test (eqb (length words % floats) 0) (λ e. even (eqb-true (length words % floats) 0 e)) (λ e. refuses 8 (uneven (eqb-false (length words % floats) 0 e)))
      where
        last_two : Named model p words → Answered
        last_two n =
            by_test (leb (count_of words) most)
            (λ f. by_test (leb (length (sheet_of model p words)) room)
            (λ r. writes (record { named = n; few = leb-true (count_of words) most f; place = leb-true (length (sheet_of model p words)) room r }))
            (λ r. refuses 9 (short_room n (leb-true (count_of words) most f) (leb-false (length (sheet_of model p words)) room r))))
            (λ f. refuses 7 (over n (leb-false (count_of words) most f)))

        even : length words % floats ≡ 0 → Answered
        even e =
            by_test (ltb last model) (λ k. refuses 6 (unknown_model e (ltb-true last model k)))
            (λ k. by_test (eqb (length p) (length (kinds_of model)))
            (λ m. let l : Listed model p words = record { even = e; known = ltb-false last model k; many = eqb-true (length p) (length (kinds_of model)) m } in
            by_test (flags_allowed 0 (kinds_of model) p) (λ f. last_two (record { listed = l; flags = f })) (λ f. refuses 6 (other_flag l f)))
            (λ m. refuses 8 (parameters e (ltb-false last model k) (eqb-false (length p) (length (kinds_of model)) m))))

    -- and the number tells the reason
    pub reason : (n : ℕ) → (n ≡ 0 → ⊥) → refusal_of model p words room ≡ n → Reason model p words room n
    reason n z e = go answered
      where
        go : Answered → Reason model p words room n
        go (refuses k r) = subst (Reason model p words room) (sym (told k r) ∙ e) r
        go (writes f) = absurd (z (sym e ∙ written f))

    pub fine : refusal_of model p words room ≡ 0 → Fine model p words room
    fine e = go answered
      where
        none : (k : ℕ) → Reason model p words room k → k ≡ 0 → ⊥
        none _ (uneven h) z = omega (arith, z)
        none _ (parameters h i j) z = omega (arith, z)
        none _ (unknown_model h i) z = omega (arith, z)
        none _ (other_flag h i) z = omega (arith, z)
        none _ (over h i) z = omega (arith, z)
        none _ (short_room h i j) z = omega (arith, z)

        go : Answered → Fine model p words room
        go (refuses k r) = absurd (none k r (sym (told k r) ∙ e))
        go (writes f) = f
