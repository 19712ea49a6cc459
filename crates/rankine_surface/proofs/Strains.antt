-- What the logarithm and the exponential answer: our log strains of sigma are finite f64, and the new sigma are f64
use mathlib.Core.Path.{◌≡◌, refl, ap, ◌∙◌}
use mathlib.Core.Bool.{Bool, true, false, cond}
use mathlib.Core.List.{List, [], ◌∷◌, map}
use Prim.Native.Nat.{ℕ, suc}
use lib.Dec.{T}
use lib.ListN.{length}
use lib.Ieee.{Float, nan, inf, fin, binary64, le, lt, eq}
use lib.Ieee.Fits.{add-fits}
use Rattle.exact.specs.Units.{Fin64}
use Rattle.numbers.specs.Floats.{is_number}
use Rattle.answers.specs.Refusals.{no_number}
use Rattle.answers.specs.Range.{in_range, side_of}
use Rattle.answers.proofs.Values.{between}
use Rattle.answers.specs.declared.Answer.{Answer}
use Rattle.answers.specs.declared.Answer.TheVariants.{Value, Refused}
use Rattle.logarithm.specs.Worked as logarithm
use Rattle.logarithm.proofs.Laws.{ln_near}
use Rattle.exponential.specs.Worked as exponential
use Rattle.plasticity.specs.declared.State.{State}
use Rattle.walk.specs.Walk.{Function, exp, ln, low_of, high_of, at, answer_of, Walk, asks, end, Ended, given, refused, asked, walk_result}
use Rattle.walk.specs.Exact.{and_then}
use Rattle.rankine_surface.specs.Axes.{Each}
use Rattle.rankine_surface.specs.Surface.{numbers_of, logs_of, exps_of, log_strains, Small, Strain, F64}

-- of an answer's value, if it has one
abbrev Answers : (Float → Type 0) → Answer → Type 0
Answers F (Value x) = F x
Answers F (Refused n) = Unit {0}

in_range_lem : (F : Float → Type 0) (a b : Bool) (n : ℕ) (v : Float) → (b ≡ true → F v) → Answers F (cond a (cond b (Value v) (Refused n)) (Refused no_number))
in_range_lem F true true n v h = h refl
in_range_lem F true false n v h = tt
in_range_lem F false b n v h = tt

-- each entry of what is asked of a list
module _ (F : Float → Type 0) (n : ℕ) (f : Function) where
  each_by : (k : Float → Ended (List Float)) → ((v : Float) → F v → Each F (numbers_of (k v))) → (a : Answer) → Answers F a → Each F (numbers_of (asked a k))
  each_by k h (Value v) q = h v q
  each_by k h (Refused m) q = tt

  each : (l : List Float) (k : List Float → List Float) → Each (λ x. Answers F (answer_of f x)) l → ((vs : List Float) → Each F vs → Each F (k vs))
      → Each F (numbers_of (walk_result (asks n f l (λ vs. end (k vs)))))
  each [] k h i = i [] tt
  each (x ∷ l) k h i =
      each_by (λ v. walk_result (asks n f l (λ vs. end (k (v ∷ vs))))) (λ v q. each l (λ vs. k (v ∷ vs)) h.1 (λ vs j. i (v ∷ vs) (q, j))) (answer_of f x) h.0

ln_fine : (x : Float) → F64 x → Answers Fin64 (answer_of ln x)
ln_fine x f = in_range_lem Fin64 (is_number x) (in_range logarithm.low logarithm.high x) (side_of logarithm.low logarithm.high x) (logarithm.ln_of x) (λ r. (ln_near x f r).fine)

exp_f64 : (x : Float) → Answers F64 (answer_of exp x)
unfolding exponential.exp_of exponential.times_of
exp_f64 x = in_range_lem F64 (is_number x) (in_range exponential.low exponential.high x) (side_of exponential.low exponential.high x) (exponential.exp_of x) (λ r. add-fits binary64 _ _)

pub of_each : (F G : Float → Type 0) → ((x : Float) → F x → G x) → (l : List Float) → Each F l → Each G l
of_each F G f [] h = tt
of_each F G f (x ∷ l) h = (f x h.0, of_each F G f l h.1)

of_all : (G : Float → Type 0) → ((x : Float) → G x) → (l : List Float) → Each G l
of_all G f [] = tt
of_all G f (x ∷ l) = (f x, of_all G f l)

logs_fine : (sigma : List Float) → Each F64 sigma → Each Fin64 (numbers_of (logs_of sigma))
unfolding logs_of
logs_fine sigma h = each Fin64 2 ln sigma (λ vs. vs) (of_each F64 (λ x. Answers Fin64 (answer_of ln x)) ln_fine sigma h) (λ vs i. i)

pub exps_f64 : (e : List Float) → Each F64 (numbers_of (exps_of e))
unfolding exps_of
exps_f64 e = each F64 9 exp e (λ vs. vs) (of_all (λ x. Answers F64 (answer_of exp x)) exp_f64 e) (λ vs i. i)

-- as many as are asked
abbrev pub Sized : ℕ → Ended (List Float) → Type 0
Sized m (given l) = length l ≡ m
Sized m (refused n) = Unit {0}

module _ (n m : ℕ) (f : Function) where
  many_by : (k : Float → Ended (List Float)) → ((v : Float) → Sized m (k v)) → (a : Answer) → Sized m (asked a k)
  many_by k h (Value v) = h v
  many_by k h (Refused r) = tt

  many : (l : List Float) (k : List Float → List Float) → ((vs : List Float) → length vs ≡ length l → length (k vs) ≡ m) → Sized m (walk_result (asks n f l (λ vs. end (k vs))))
  many [] k h = h [] refl
  many (x ∷ l) k h =
      many_by (λ v. walk_result (asks n f l (λ vs. end (k (v ∷ vs))))) (λ v. many l (λ vs. k (v ∷ vs)) (λ vs e. h (v ∷ vs) (ap suc e))) (answer_of f x)

pub logs_sized : (sigma : List Float) (m : ℕ) → length sigma ≡ m → Sized m (logs_of sigma)
unfolding logs_of
logs_sized sigma m h = many 2 m ln sigma (λ vs. vs) (λ vs e. e ∙ h)

pub exps_sized : (e : List Float) (m : ℕ) → length e ≡ m → Sized m (exps_of e)
unfolding exps_of
exps_sized l m h = many 9 m exp l (λ vs. vs) (λ vs e. e ∙ h)

-- ---- what is asked of a list, and what follows
module _ {A : Type 0} (n : ℕ) (f : Function) (g : List Float → Walk A) where
  abbrev on : Ended (List Float) → Ended A
  on t = and_then t (λ vs. walk_result (g vs))

  follows_by : (k : Float → Ended A) (m : Float → Ended (List Float)) → ((v : Float) → k v ≡ on (m v)) → (a : Answer) → asked a k ≡ on (asked a m)
  follows_by k m h (Value v) = h v
  follows_by k m h (Refused r) = refl

  follows : (l : List Float) (k : List Float → List Float) → walk_result (asks n f l (λ vs. g (k vs))) ≡ on (walk_result (asks n f l (λ vs. end (k vs))))
  follows [] k = refl
  follows (x ∷ l) k =
      follows_by (λ v. walk_result (asks n f l (λ vs. g (k (v ∷ vs))))) (λ v. walk_result (asks n f l (λ vs. end (k (v ∷ vs))))) (λ v. follows l (λ vs. k (v ∷ vs))) (answer_of f x)

pub logs_follow : {A : Type 0} (g : List Float → Walk A) (sigma : List Float) → walk_result (asks 2 ln sigma g) ≡ and_then (logs_of sigma) (λ e. walk_result (g e))
unfolding logs_of
logs_follow g sigma = follows 2 ln g sigma (λ vs. vs)

pub exps_follow : {A : Type 0} (g : List Float → Walk A) (e : List Float) → walk_result (asks 9 exp e g) ≡ and_then (exps_of e) (λ sigma. walk_result (g sigma))
unfolding exps_of
exps_follow g e = follows 9 exp g e (λ vs. vs)

-- ---- a function whose range takes each entry answers each
a_number : (l x : Float) → T (le l x) → is_number x ≡ true
unfolding le lt eq is_number
a_number nan nan h = absurd h
a_number (inf s) nan h = absurd h
a_number (fin s m e) nan h = absurd h
a_number l (inf s) h = refl
a_number l (fin s m e) h = refl

pub answers : (f : Function) (x : Float) → in_range (low_of f) (high_of f) x ≡ true → answer_of f x ≡ Value (at f x)
answers f x r = rw (a_number (low_of f) x (between (low_of f) (high_of f) x r).0, r) refl

module _ (n : ℕ) (f : Function) where
  answered : (l : List Float) (k : List Float → List Float) → Each (λ x. answer_of f x ≡ Value (at f x)) l
      → walk_result (asks n f l (λ vs. end (k vs))) ≡ given (k (map (at f) l))
  answered [] k h = refl
  answered (x ∷ l) k h =
      ap (λ a. asked a (λ v. walk_result (asks n f l (λ vs. end (k (v ∷ vs)))))) h.0 ∙ answered l (λ vs. k (at f x ∷ vs)) h.1

pub logs_answered : (sigma : List Float) → Each (λ x. answer_of ln x ≡ Value (at ln x)) sigma → logs_of sigma ≡ given (map (at ln) sigma)
unfolding logs_of
logs_answered sigma h = answered 2 ln sigma (λ vs. vs) h

pub exps_answered : (e : List Float) → Each (λ x. answer_of exp x ≡ Value (at exp x)) e → exps_of e ≡ given (map (at exp) e)
unfolding exps_of
exps_answered e h = answered 9 exp e (λ vs. vs) h

both : (e : List Float) → Each Fin64 e → Each Small e → Each Strain e
both [] f s = tt
both (x ∷ e) f s = (record { fine = f.0; size = s.0 }, both e f.1 s.1)

-- of any sigma, and of a record's
pub strained_of : (sigma : List Float) → Each F64 sigma → Each Small (numbers_of (logs_of sigma)) → Each Strain (numbers_of (logs_of sigma))
strained_of sigma f s = both (numbers_of (logs_of sigma)) (logs_fine sigma f) s

pub strained : (st : State) → Each F64 st.sigma → Each Small (log_strains st) → Each Strain (log_strains st)
strained st f s = strained_of st.sigma f s
