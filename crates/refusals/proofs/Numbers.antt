-- What is said of a walk that begins with its inputs and tests none later. Assumes nothing.
use mathlib.Core.Path.{◌≡◌, refl, sym, ap, ◌∙◌}
use mathlib.Core.Logic.{◌⊎◌, inl, inr, ⊎_elim, ◌↔◌}
use mathlib.Core.Bool.{Bool, true, false, ◌&&◌, true≢false, false≢true}
use mathlib.Core.List.{List, [], ◌∷◌}
use mathlib.Core.Option.{Option, some, none}
use Prim.Native.Nat.{ℕ}
use native.Mathlib.Omega.{arith}
use lib.Ieee.{Float}
use Rattle.numbers.specs.Floats.{finite}
use Rattle.answers.specs.Refusals.{below_range, above_range, wrong_determinant, not_accepted}
use Rattle.tensor.specs.Axes.{all_of}
use Rattle.walk.specs.Walk.{Walk, inputs, walk_result}
use Rattle.walk.specs.Exact.{Met, input, path}
use Rattle.walk.proofs.Every.{every, all_every}
use Rattle.walk.proofs.Numbers as walk
use Rattle.walk.specs.Numbers.{Stops, Clear}
use Rattle.walk.specs.Answers.{refusal_in}
use Rattle.walk.proofs.Answers.{refused_when, accepted_when}
use Rattle.walk.proofs.Inner.{Inner, Later, later, between, never_one}
use Rattle.refusals.specs.Refusals.{SomeNotFinite, Numbers, RecordNumbers}

-- ---- a list of floats
pub one_fails : (a b : Bool) → a && b ≡ false → (a ≡ false) ⊎ (b ≡ false)
one_fails true b q = inr q
one_fails false b q = inl refl

left_fails : (a b : Bool) → a ≡ false → a && b ≡ false
left_fails true b q = absurd (true≢false q)
left_fails false b q = refl

right_fails : (a b : Bool) → b ≡ false → a && b ≡ false
right_fails true b q = q
right_fails false b q = refl

every_fails : (l : List Float) → (every finite l ≡ false) ↔ SomeNotFinite l
every_fails [] = (λ q. true≢false q, λ q. absurd q)
every_fails (x ∷ l) = (
  λ q. ⊎_elim (λ a. inl a) (λ a. inr ((every_fails l).0 a)) (one_fails (finite x) (every finite l) q),
  ⊎_elim (left_fails (finite x) (every finite l)) (λ q. right_fails (finite x) (every finite l) ((every_fails l).1 q)),
)

pub not_finite_lem : (l : List Float) → (all_of finite l ≡ false) ↔ SomeNotFinite l
not_finite_lem l = (λ q. (every_fails l).0 (sym (all_every finite l) ∙ q), λ q. all_every finite l ∙ (every_fails l).1 q)

stops_one : (l : List Float) (ms : List Met) → Later ms → Stops 1 (input l ∷ ms) ↔ SomeNotFinite l
stops_one l ms h = (forth, λ q. inl (inr (inr ((not_finite_lem l).1 q, refl))))
  where
    forth : Stops 1 (input l ∷ ms) → SomeNotFinite l
    forth (inl (inl q)) = absurd (false≢true q.0)
    forth (inl (inr (inl q))) = absurd (false≢true q.0)
    forth (inl (inr (inr q))) = (not_finite_lem l).0 q.0
    forth (inr q) = absurd (never_one ms h q.1)

-- ---- R n: refused by n, as the walk's answer tells
pub differ : {m n : ℕ} → some m ≡ some n → m ≡ n
differ e = cc

pub nothing : (n : ℕ) → ◌≡◌ {A = Option ℕ} none (some n) → ⊥
nothing n e = let z : ◌≡◌ {A = ℕ} 0 1 = cc in omega arith

never_some : (o : Option ℕ) → ((n : ℕ) → o ≡ some n → ⊥) → o ≡ none
never_some none f = refl
never_some (some n) f = absurd (f n refl)

pub numbers : {A : Type 0} {R : ℕ → Type 0} (l : List Float) (w : Walk A) → Inner w → ((n : ℕ) → R n ↔ (refusal_in (walk_result (inputs l w)) ≡ some n))
    → Numbers R (path (inputs l w))
numbers {R = R} l w h r =
    let ms = path (inputs l w) in
    record {
      refused = by;
      accepted = none_of;
      one = at_one;
      below = (λ q. (walk.stops_below ms).0 ((by below_range).0 q), λ q. (by below_range).1 ((walk.stops_below ms).1 q));
      above = (λ q. (walk.stops_above ms).0 ((by above_range).0 q), λ q. (by above_range).1 ((walk.stops_above ms).1 q));
      only = λ n q. between ms n ((by n).0 q);
    }
  where
    by : (n : ℕ) → R n ↔ Stops n (path (inputs l w))
    by n = (λ q. (refused_when (inputs l w) n).0 ((r n).0 q), λ q. (r n).1 ((refused_when (inputs l w) n).1 q))

    none_of : ((n : ℕ) → R n → ⊥) ↔ Clear (path (inputs l w))
    none_of = (
      λ f. (accepted_when (inputs l w)).0 (never_some (refusal_in (walk_result (inputs l w))) (λ n e. f n ((r n).1 e))),
      λ c n q. nothing n (sym ((accepted_when (inputs l w)).1 c) ∙ (r n).0 q),
    )

    at_one : R 1 ↔ SomeNotFinite l
    at_one =
        let e = stops_one l (path w) (later w h) in
        (λ q. e.0 ((by 1).0 q), λ q. (by 1).1 (e.1 q))

-- an answer x of any kind: F tells its number, and `by n` is the refusal by n
pub told : {A X : Type 0} (F : X → Option ℕ) (by : ℕ → X) → ((n : ℕ) → F (by n) ≡ some n) → ((x : X) (n : ℕ) → F x ≡ some n → x ≡ by n)
    → (x : X) (l : List Float) (w : Walk A) → Inner w → F x ≡ refusal_in (walk_result (inputs l w)) → Numbers (λ n. x ≡ by n) (path (inputs l w))
told F by on back x l w h e = numbers l w h (λ n. (λ q. sym e ∙ ap F q ∙ on n, λ q. back x n (e ∙ q)))

-- the same of another way to say that the call is refused by n
pub transfer : {R Q : ℕ → Type 0} {ms : List Met} → ((n : ℕ) → R n ↔ Q n) → Numbers Q ms → Numbers R ms
transfer w q =
    record {
      refused = λ n. (λ r. (q.refused n).0 ((w n).0 r), λ s. (w n).1 ((q.refused n).1 s));
      accepted = (λ f. q.accepted.0 (λ n s. f n ((w n).1 s)), λ c n r. q.accepted.1 c n ((w n).0 r));
      one = (λ r. q.one.0 ((w 1).0 r), λ b. (w 1).1 (q.one.1 b));
      below = (λ r. q.below.0 ((w below_range).0 r), λ b. (w below_range).1 (q.below.1 b));
      above = (λ r. q.above.0 ((w above_range).0 r), λ b. (w above_range).1 (q.above.1 b));
      only = λ n r. q.only n ((w n).0 r);
    }

-- ---- the numbers of a record, of which there are never two: refused by 1, 11 or 14, or the law's numbers
module _ {R : ℕ → Type 0} (alone : (m n : ℕ) → R m → R n → m ≡ n) {l : List Float} {right checked : Bool} {ms : List Met} where
  pub by_one : R 1 → SomeNotFinite l → RecordNumbers R l right checked ms
  by_one h z =
      record {
        one = (λ q. z, λ q. h);
        eleven = (λ q. absurd (let e = alone 1 wrong_determinant h q in omega arith), λ q. absurd (q.0 z));
        fourteen = (λ q. absurd (let e = alone 1 not_accepted h q in omega arith), λ q. absurd (q.0 z));
        goes_on = λ f. absurd (f z);
        alone = alone;
      }

  pub by_eleven : R wrong_determinant → (SomeNotFinite l → ⊥) → right ≡ false → RecordNumbers R l right checked ms
  by_eleven h f d =
      record {
        one = (λ q. absurd (let e = alone 1 wrong_determinant q h in omega arith), λ q. absurd (f q));
        eleven = (λ q. (f, d), λ q. h);
        fourteen = (λ q. absurd (let e = alone wrong_determinant not_accepted h q in omega arith), λ q. absurd (true≢false (sym q.1 ∙ d)));
        goes_on = λ g t. absurd (true≢false (sym t ∙ d));
        alone = alone;
      }

  pub by_fourteen : R not_accepted → (SomeNotFinite l → ⊥) → right ≡ true → checked ≡ false → RecordNumbers R l right checked ms
  by_fourteen h f d c =
      record {
        one = (λ q. absurd (let e = alone 1 not_accepted q h in omega arith), λ q. absurd (f q));
        eleven = (λ q. absurd (let e = alone wrong_determinant not_accepted q h in omega arith), λ q. absurd (true≢false (sym d ∙ q.1)));
        fourteen = (λ q. (f, d, c), λ q. h);
        goes_on = λ g t k. absurd (true≢false (sym k ∙ c));
        alone = alone;
      }

  pub by_law : (SomeNotFinite l → ⊥) → right ≡ true → checked ≡ true → (R 1 → ⊥) → Numbers R ms → RecordNumbers R l right checked ms
  by_law f d c g q =
      record {
        one = (λ z. absurd (g z), λ z. absurd (f z));
        eleven = (λ z. absurd (⊎_elim (λ k. omega arith) (λ k. omega arith) (q.only wrong_determinant z)), λ z. absurd (true≢false (sym d ∙ z.1)));
        fourteen = (λ z. absurd (⊎_elim (λ k. omega arith) (λ k. omega arith) (q.only not_accepted z)), λ z. absurd (true≢false (sym c ∙ z.2)));
        goes_on = λ h t k. q;
        alone = alone;
      }

pub record_transfer : {R Q : ℕ → Type 0} {l : List Float} {right checked : Bool} {ms : List Met} → ((n : ℕ) → R n ↔ Q n) → RecordNumbers Q l right checked ms
    → RecordNumbers R l right checked ms
record_transfer w q =
    record {
      one = (λ r. q.one.0 ((w 1).0 r), λ b. (w 1).1 (q.one.1 b));
      eleven = (λ r. q.eleven.0 ((w wrong_determinant).0 r), λ b. (w wrong_determinant).1 (q.eleven.1 b));
      fourteen = (λ r. q.fourteen.0 ((w not_accepted).0 r), λ b. (w not_accepted).1 (q.fourteen.1 b));
      goes_on = λ f t c. transfer w (q.goes_on f t c);
      alone = λ m n a b. q.alone m n ((w m).0 a) ((w n).0 b);
    }
