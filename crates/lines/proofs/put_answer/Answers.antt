-- `lines::put_answer` meets its contract: a refusal alone, or the answers of the run.
use Rattle.std.proofs.Common.{◌≡◌, subst, List, ℕ, replicate, eq-eqb, ne_eqb}
use Rattle.answer_text.specs.Text.{Puts, sheet_text, refused_text}
use Rattle.sheet_run.specs.declared.Ran.{Ran}
use Rattle.sheet_run.specs.Run.{ran_of, ran_answers}
use Rattle.lines.specs.Answer.{told, answer_in}
use Rattle.lines.proofs.put_answer.Goals as goal

module _ (s records answers : List ℕ) {text then : List ℕ} {at k : ℕ} (r : Ran) (is : r ≡ ran_of s records answers) where
  refused : (r.refusal ≡ 0 → ⊥) → Puts (refused_text r.refusal) text at k then → Puts (answer_in s records answers) text at k then
  unfolding answer_in
  refused fails p = subst (λ (x : Ran). Puts (told x (ran_answers s records answers)) text at k then) is (rw (ne_eqb r.refusal 0 fails) p)

  worked : (out : List ℕ) → out ≡ ran_answers s records answers → r.refusal ≡ 0 → Puts (sheet_text r.particles out) text at k then
      → Puts (answer_in s records answers) text at k then
  unfolding answer_in
  worked out stand passes p =
      subst (λ (x : Ran). Puts (told x (ran_answers s records answers)) text at k then) is
      (subst (λ (l : List ℕ). Puts (told r l) text at k then) stand (rw (eq-eqb r.refusal 0 passes) p))

pub returns-then-r-ne0 : goal.returns-then-r-ne0
returns-then-r-ne0 c =
    let ran = c.run_sheet-r in
    refused c.args.s.now (replicate 7400 0) (replicate 400 0) ran.result ran.ensures.value c.if-r-ne0.true c.put_refused.ensures

pub returns-else-r-ne0 : goal.returns-else-r-ne0
returns-else-r-ne0 c =
    let ran = c.run_sheet-r in
    worked c.args.s.now (replicate 7400 0) (replicate 400 0) ran.result ran.ensures.value ran.new.answers ran.ensures.answers_after c.if-r-ne0.false c.put_sheet.ensures
