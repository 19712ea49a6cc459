-- Document 02, ticket 2, "Nothing accepted before changes", of any walk: what it answered when 2 stood for both sides of a range, and
-- that it answers the same now, but for 10 at places where it answered 2.
use mathlib.Core.Bool.{Bool, true, false, cond}
use mathlib.Core.Logic.{◌↔◌}
use mathlib.Core.Path.{◌≡◌, refl, sym, ap, ◌∙◌}
use Prim.Native.Nat.{ℕ}
use native.Mathlib.Omega.{arith}
use lib.Dec.{eqb}
use borrow.Author.Tests.{eqb-true}
use lib.Ieee.{Float}
use Rattle.answers.specs.Refusals.{below_range, above_range}
use Rattle.answers.specs.Before.{number_before, answer_before}
use Rattle.answers.specs.declared.Answer.{Answer}
use Rattle.answers.specs.declared.Answer.TheVariants as answers
use Rattle.answers.proofs.Before.{on_path_before}
use Rattle.walk.specs.Walk.{low_of, high_of, at, Walk, Ended, given, refused, answer_of, asked, unnoted, walk_result}
use Rattle.walk.proofs.Exact.{read_to}
use Rattle.walk.specs.Before.{answer_of_before, result_before, ended_before}

-- ---- they are one
asked_before : {A : Type 0} (e : Answer) (k l : Float → Ended A) → ((v : Float) → ended_before (k v) ≡ l v) → ended_before (asked e k) ≡ asked (answer_before e) l
asked_before (answers.Value v) k l h = h v
asked_before (answers.Refused n) k l h = refl

pub same_before : {A : Type 0} (w : Walk A) → ended_before (walk_result w) ≡ result_before w
same_before w =
    read_to ended_before answer_of answer_of_before (λ m n. refused m) (λ m n. refused m) unnoted refl (λ n. refl)
    (λ n g x k l h. asked_before (answer_of g x) k l h ∙ ap (λ a. asked a l) (on_path_before (low_of g) (high_of g) x (at g x))) (λ r a. given a) (λ r a. given a) (λ r a. refl) tt w

-- ---- the ticket's words
module _ {A : Type 0} (w : Walk A) where
  given_back : (x : Ended A) (a : A) → ended_before x ≡ given a → x ≡ given a
  given_back (given b) a h = h
  given_back (refused n) a h = absurd (let z : ◌≡◌ {A = ℕ} 0 1 = cc in omega arith)

  -- "Nothing accepted before changes"
  pub accepted_same : (a : A) → (walk_result w ≡ given a) ↔ (result_before w ≡ given a)
  accepted_same a = (λ q. sym (same_before w) ∙ ap ended_before q, λ q. given_back (walk_result w) a (same_before w ∙ q))

  -- 10 comes only where 2 came
  pub above_was_2 : walk_result w ≡ refused above_range → result_before w ≡ refused 2
  above_was_2 q = sym (same_before w) ∙ ap ended_before q

  refused_back : (x : Ended A) (n : ℕ) → ended_before x ≡ refused n → (n ≡ 2 → ⊥) → x ≡ refused n
  refused_back (given a) n h f = absurd (let z : ◌≡◌ {A = ℕ} 0 1 = cc in omega arith)
  refused_back (refused m) n h f = go (eqb m above_range) refl (let z : number_before m ≡ n = cc in z)
    where
      go : (b : Bool) → eqb m above_range ≡ b → cond b below_range m ≡ n → ◌≡◌ {A = Ended A} (refused m) (refused n)
      go true e z = absurd (f (sym z))
      go false e z = ap refused z

  -- every other refusal is as it was
  pub refused_same : (n : ℕ) → (n ≡ below_range → ⊥) → (n ≡ above_range → ⊥) → (walk_result w ≡ refused n) ↔ (result_before w ≡ refused n)
  refused_same n f g = (λ q. sym (same_before w) ∙ ap ended_before q ∙ ap refused (kept (eqb n above_range) refl), λ q. refused_back (walk_result w) n (same_before w ∙ q) f)
    where
      kept : (b : Bool) → eqb n above_range ≡ b → cond b below_range n ≡ n
      kept true e = absurd (g (eqb-true n above_range e))
      kept false e = refl
