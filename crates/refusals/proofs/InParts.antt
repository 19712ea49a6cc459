-- A call of a sheet in parts is answered by 15 exactly where an end before it told no refusal. Assumes nothing.
use mathlib.Core.Path.{◌≡◌, refl, sym, ap, ◌∙◌, subst}
use mathlib.Core.Logic.{◌⊎◌, inl, inr}
use mathlib.Core.Bool.{Bool, true, false}
use mathlib.Core.List.{List, [], ◌∷◌, ◌++◌}
use Prim.Native.Nat.{ℕ}
use native.Mathlib.Omega.{arith}
use lib.Dec.{eqb}
use borrow.Author.Tests.{eqb-true, eqb-false}
use Rattle.sheet.specs.Spelling.{Below}
use Rattle.sheet.proofs.Pieces.{below_append}
use Rattle.parts.specs.declared.Arrival.{Arrival}
use Rattle.parts.specs.declared.Told.{Told}
use Rattle.parts.specs.Parts.{Work, works, begun, after, stopped, lent, Lent, parted, part_answer, told, missing, ended}
use Rattle.parts.proofs.Cases.{lists_lent, end_short, end_good}
use Rattle.parts.proofs.Cutting.{part_again, part_stays, end_again}
use Rattle.parts.proofs.Standing.{Stands, at_start, after_stands, stands_lent}
use Rattle.parts.proofs.Ending.{not_ended}
use Rattle.refusals.specs.InParts.{Call, Part, End, end_told, answer_of, step_of, steps, Bytes, EndedIn}

-- ---- after a fault and after the end every call tells the number, and changes nothing
module _ (w : Work) (n : w.arrival.refusal ≡ 0 → ⊥) (t : lent w.records w.answers ≡ true) where
  step_stays : (c : Call) → step_of w c ≡ w
  step_stays (Part l) = part_stays w n l t
  step_stays End = ap (λ (x : Told). works x.arrival w.records w.answers) (end_again w n t)

  answer_again : (c : Call) → answer_of w c ≡ w.arrival.refusal
  answer_again (Part l) = ap (λ (x : Told). x.refusal) (part_again w n l t)
  answer_again End = ap (λ (x : Told). x.refusal) (end_again w n t)

  steps_stay : (cs : List Call) → steps w cs ≡ w
  unfolding steps
  steps_stay [] = refl
  steps_stay (c ∷ cs) = ap (λ (x : Work). steps x cs) (step_stays c) ∙ steps_stay cs

  later : (cs : List Call) (c : Call) → answer_of (steps w cs) c ≡ w.arrival.refusal
  later cs c = ap (λ (x : Work). answer_of x c) (steps_stay cs) ∙ answer_again c

  never_ended : (cs : List Call) → EndedIn w cs → ⊥
  never_ended [] h = h
  never_ended (Part l ∷ cs) h = never_ended cs (subst (λ (x : Work). EndedIn x cs) (step_stays (Part l)) h)
  never_ended (End ∷ cs) (inl e) = n (sym (answer_again End) ∙ e)
  never_ended (End ∷ cs) (inr h) = never_ended cs (subst (λ (x : Work). EndedIn x cs) (step_stays End) h)

-- ---- the three ways of an end
data Way (w : Work) : Type 0 where
  again : (w.arrival.refusal ≡ 0 → ⊥) → Way w
  short : end_told w ≡ told 4 (stopped w.arrival 4) → Way w
  good : end_told w ≡ told 0 (stopped w.arrival 15) → Way w

way : (w : Work) → lent w.records w.answers ≡ true → Way w
way w t = by_refusal (eqb w.arrival.refusal 0) refl
  where
    by_missing : w.arrival.refusal ≡ 0 → (b : Bool) → missing w.arrival ≡ b → Way w
    by_missing z true m = short (rw t (sym (end_short w.arrival z m)))
    by_missing z false m = good (rw t (sym (end_good w.arrival z m)))

    by_refusal : (b : Bool) → eqb w.arrival.refusal 0 ≡ b → Way w
    by_refusal true e = by_missing (eqb-true w.arrival.refusal 0 e) (missing w.arrival) refl
    by_refusal false e = again (eqb-false w.arrival.refusal 0 e)

-- the work that an end leaves
abbrev left : Work → ℕ → Work
left w n = works (stopped w.arrival n) w.records w.answers

end_leaves : (w : Work) (k n : ℕ) → end_told w ≡ told k (stopped w.arrival n) → step_of w End ≡ left w n
end_leaves w k n e = ap (λ (x : Told). works x.arrival w.records w.answers) e

end_answers : (w : Work) (k n : ℕ) → end_told w ≡ told k (stopped w.arrival n) → answer_of w End ≡ k
end_answers w k n e = ap (λ (x : Told). x.refusal) e

-- ---- a sequence of calls
abbrev Exactly : Work → List Call → Call → Type 0
Exactly w cs c = (answer_of (steps w cs) c ≡ 15 → EndedIn w cs) × (EndedIn w cs → answer_of (steps w cs) c ≡ 15)

module _ (xs₀ out₀ : List ℕ) (lists : Lent xs₀ out₀) where
  module _ (s : List ℕ) (w : Work) (h : Stands xs₀ out₀ s w) where
    lent_there : lent w.records w.answers ≡ true
    lent_there = lists_lent w.records w.answers (stands_lent xs₀ out₀ lists s w h)

    part_is : (l : List ℕ) → parted w l ≡ after w l
    unfolding parted
    part_is l = rw lent_there

    part_stands : (l : List ℕ) → Below 256 (s ++ l) → Stands xs₀ out₀ (s ++ l) (parted w l)
    part_stands l b = rw (part_is l) (after_stands xs₀ out₀ lists s l b w h)

    -- before the end no call is answered by 15
    not_yet : Below 256 s → (c : Call) → Bytes (c ∷ []) → answer_of w c ≡ 15 → ⊥
    not_yet b (Part l) d e =
        not_ended xs₀ out₀ lists (s ++ l) (after w l) (after_stands xs₀ out₀ lists s l (below_append 256 s l b d.0) w h)
        (sym (told_part l) ∙ e)
      where
        told_part : (l : List ℕ) → (part_answer w l).refusal ≡ (after w l).arrival.refusal
        told_part l = rw lent_there
    not_yet b End d e = by_way_lem (way w lent_there)
      where
        by_way_lem : Way w → ⊥
        by_way_lem (again n) = not_ended xs₀ out₀ lists s w h (sym (answer_again w n lent_there End) ∙ e)
        by_way_lem (short q) = let a = end_answers w 4 4 q in omega (arith, a, e)
        by_way_lem (good q) = let a = end_answers w 0 15 q in omega (arith, a, e)

  from : (s : List ℕ) → Below 256 s → (w : Work) → Stands xs₀ out₀ s w → (cs : List Call) → Bytes cs → (c : Call) → Bytes (c ∷ []) → Exactly w cs c
  unfolding steps
  from s b w h [] d c k = (λ e. not_yet s w h b c k e, λ e. absurd e)
  from s b w h (Part l ∷ cs) d c k =
      let m = below_append 256 s l b d.0 in
      from (s ++ l) m (parted w l) (part_stands s w h l m) cs d.1 c k
  from s b w h (End ∷ cs) d c k = by_way_lem (way w (lent_there s w h))
    where
      t : lent w.records w.answers ≡ true
      t = lent_there s w h

      still : (left w 4).arrival.refusal ≡ 0 → ⊥
      still y = omega (arith, y)

      not_15 : end_told w ≡ told 4 (stopped w.arrival 4) → answer_of (steps (step_of w End) cs) c ≡ 15 → ⊥
      not_15 q e =
          let f : answer_of (steps (step_of w End) cs) c ≡ 4 = ap (λ (x : Work). answer_of (steps x cs) c) (end_leaves w 4 4 q) ∙ later (left w 4) still t cs c in
          omega (arith, e, f)

      not_short : end_told w ≡ told 4 (stopped w.arrival 4) → EndedIn w (End ∷ cs) → ⊥
      not_short q (inl e) = let a = end_answers w 4 4 q in omega (arith, a, e)
      not_short q (inr e) = never_ended (left w 4) still t cs (subst (λ (x : Work). EndedIn x cs) (end_leaves w 4 4 q) e)

      by_way_lem : Way w → Exactly w (End ∷ cs) c
      by_way_lem (again n) = (
        λ e. absurd (not_ended xs₀ out₀ lists s w h (sym (later w n t (End ∷ cs) c) ∙ e)),
        λ e. absurd (never_ended w n t (End ∷ cs) e),
      )
      by_way_lem (short q) = (λ e. absurd (not_15 q e), λ e. absurd (not_short q e))
      by_way_lem (good q) = (
        λ e. inl (end_answers w 0 15 q),
        λ e. ap (λ (x : Work). answer_of (steps x cs) c) (end_leaves w 0 15 q) ∙ later (left w 15) (λ y. omega (arith, y)) t cs c,
      )

  -- FIFTEEN: from the beginning, after any calls, whatever call comes next
  pub fifteen_exactly : (cs : List Call) → Bytes cs → (c : Call) → Bytes (c ∷ []) → Exactly (works begun xs₀ out₀) cs c
  fifteen_exactly cs d c k = from [] tt (works begun xs₀ out₀) (at_start xs₀ out₀) cs d c k
