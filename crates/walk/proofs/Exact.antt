-- That a walk is read by what is met on its path; a reading of a reading, and a walk and what follows it.
use mathlib.Core.Bool.{Bool, true, false, cond, ◌&&◌}
use mathlib.Core.List.{List, [], ◌∷◌, map}
use mathlib.Core.Option.{Option, some}
use mathlib.Core.Path.{◌≡◌, refl, sym, ap, ◌∙◌}
use Prim.Native.Nat.{ℕ}
use lib.Ieee.{Float, nan, inf, fin}
use Rattle.answers.specs.Refusals.{no_number}
use Rattle.numbers.specs.Floats.{finite, is_number}
use Rattle.answers.specs.Range.{in_range, side_of}
use Rattle.answers.specs.declared.Answer.{Answer}
use Rattle.answers.specs.declared.Answer.TheVariants as answers
use Rattle.tensor.specs.Axes.{from_left, all_of}
use Rattle.walk.specs.Expr.{Expr, num, value, clean, values, nums}
use Rattle.walk.proofs.Expr.{whole_tells}
use Rattle.walk.specs.Walk.{Function, low_of, high_of, at, Test, less, at_most, zeros, flag, holds, compared, Walk, inputs, ask, works, either, branch, split, results, end, ◌then◌, Ended, given, refused, answer_of, asked, numbers, tellable, picked, by_answer, read, unnoted, walk_result, answer_as}
use Rattle.walk.specs.Exact.{Met, path, final, first, place_of, Refusal, stop_at, all_clean, noted, ended_by, answer, and_then}

each_clean : (es : List Expr) → map is_number (values es) ≡ map clean es
each_clean [] = refl
each_clean (e ∷ es) = rw (whole_tells e, each_clean es)

each_number : (l : List Float) → map is_number l ≡ map clean (nums l)
each_number [] = refl
each_number (x ∷ l) = ap (λ m. is_number x ∷ m) (each_number l)

pub all_clean_lem : (es : List Expr) → numbers es ≡ all_clean es
all_clean_lem es = rw (each_clean es)

pub told : (t : Test) → tellable t ≡ all_clean (compared t)
told (less a b) = rw (whole_tells a, whole_tells b)
told (at_most a b) = rw (whole_tells a, whole_tells b)
told (zeros l) = ap (λ m. from_left ◌&&◌ true m) (each_number l)
told (flag b) = refl

pub picked_clean : (c : Bool) (a b : Expr) → is_number (cond c (value a) (value b)) ≡ clean (cond c a b)
picked_clean true a b = whole_tells a
picked_clean false a b = whole_tells b

number_finite : (x : Float) → finite x ≡ is_number x && finite x
unfolding is_number finite
number_finite nan = refl
number_finite (inf s) = refl
number_finite (fin s m e) = refl

finite_clean : (e : Expr) → finite (value e) ≡ clean e && finite (value e)
finite_clean e = number_finite (value e) ∙ ap (λ b. b && finite (value e)) (whole_tells e)

row_clean : (es : List Expr) → map finite (values es) ≡ map (λ e. clean e && finite (value e)) es
row_clean [] = refl
row_clean (e ∷ es) = ap (λ b. b ∷ map finite (values es)) (finite_clean e) ∙ ap (λ l. (clean e && finite (value e)) ∷ l) (row_clean es)

pub rows_clean : (rows : List (List Expr)) → map (all_of finite) (map values rows) ≡ map (all_of (λ e. clean e && finite (value e))) rows
rows_clean [] = refl
rows_clean (es ∷ rows) =
    ap (λ l. from_left ◌&&◌ true l ∷ map (all_of finite) (map values rows)) (row_clean es)
    ∙ ap (λ l. all_of (λ e. clean e && finite (value e)) es ∷ l) (rows_clean rows)

-- ---- the theorem: a walk is refused exactly where a step of its path refuses, by the first one; else it is read where the path ends
module _ {B S : Type 0} (stop : ℕ → ℕ → B) (note : S → ℕ → Test → Bool → S) where
  gated : (b : Bool) (n k i : ℕ) (x : B) (o : Option Refusal) (y : B) → x ≡ ended_by stop o y
      → cond b x (stop n k) ≡ ended_by stop (cond b o (some (record { number = n; step = k; place = i }))) y
  gated true n k i x o y h = h
  gated false n k i x o y h = refl

  gate : (b : Bool) (k : ℕ) (x : B) (o : Option Refusal) (y : B) → x ≡ ended_by stop o y → cond b x (stop 3 k) ≡ ended_by stop (cond b o (stop_at 3 k)) y
  gate b k x o y h = gated b 3 k 0 x o y h

  asking : (b c : Bool) (m n : ℕ) (v : Float) (k : Float → B) (o : Option Refusal) (y : B) → k v ≡ ended_by stop o y
      → by_answer (λ m. stop m n) (cond b (cond c (answers.Value v) (answers.Refused m)) (answers.Refused no_number)) k ≡ ended_by stop (cond b (cond c o (stop_at m n)) (stop_at 3 n)) y
  asking true true m n v k o y h = h
  asking true false m n v k o y h = refl
  asking false c m n v k o y h = refl

  module _ {A : Type 0} (ends : S → A → B) where
    -- q is what is noted by which way the test goes
    fork : (c : Bool) (q : Bool → S) (x y : B) (p p' : List Met) (a b : A) → x ≡ ended_by stop (first p) (ends (noted note (q true) p) a)
        → y ≡ ended_by stop (first p') (ends (noted note (q false) p') b)
        → cond c x y ≡ ended_by stop (first (cond c p p')) (ends (noted note (q c) (cond c p p')) (cond c a b))
    fork true q x y p p' a b h i = h
    fork false q x y p p' a b h i = i

    abbrev R : S → Walk A → B
    R r w = read answer_of stop note ends r w

    abbrev At : S → Walk A → B
    At r w = ends (noted note r (path w)) (final w)

    pub read_exactly : (r : S) (w : Walk A) → read answer_of stop note ends r w ≡ ended_by stop (first (path w)) (ends (noted note r (path w)) (final w))
    read_exactly r (inputs l w) = gated (all_of finite l) 1 0 (place_of l) (R r w) (first (path w)) (At r w) (read_exactly r w)
    read_exactly r (ask n f e k) =
        let v = at f (value e) in
        let w = k (num v) in
        rw (← whole_tells e)
        (asking (is_number (value e)) (in_range (low_of f) (high_of f) (value e)) (side_of (low_of f) (high_of f) (value e)) n v (λ x. R r (k (num x))) (first (path w)) (At r w)
        (read_exactly r (k (num (at f (value e))))))
    read_exactly r (works n es k) =
        let w = k (values es) in
        rw (← all_clean_lem es) (gate (numbers es) n (R r w) (first (path w)) (At r w) (read_exactly r (k (values es))))
    read_exactly r (either n t a b k) =
        let w = k (num (picked t a b)) in
        let ok = is_number (picked t a b) in
        rw (← told t, ← picked_clean (holds t) a b)
        (gate (tellable t) n (cond ok (R r w) (stop no_number n)) (cond ok (first (path w)) (stop_at 3 n)) (At r w)
        (gate ok n (R r w) (first (path w)) (At r w) (read_exactly r (k (num (picked t a b))))))
    read_exactly r (branch n t w v) =
        let c = holds t in
        let q : Bool → S = note r n t in
        rw (← told t)
        (gate (tellable t) n (cond c (R (q true) w) (R (q false) v)) (first (cond c (path w) (path v))) (ends (noted note (q c) (cond c (path w) (path v))) (cond c (final w) (final v)))
        (fork c q (R (q true) w) (R (q false) v) (path w) (path v) (final w) (final v) (read_exactly (note r n t true) w) (read_exactly (note r n t false) v)))
    read_exactly r (split n t w v) =
        let c = holds t in
        rw (← told t)
        (gate (tellable t) n (cond c (R r w) (R r v)) (first (cond c (path w) (path v))) (ends (noted note r (cond c (path w) (path v))) (cond c (final w) (final v)))
        (fork c (λ b. r) (R r w) (R r v) (path w) (path v) (final w) (final v) (read_exactly r w) (read_exactly r v)))
    read_exactly r (results n rows w) =
        rw (← rows_clean rows) (gate (all_of (all_of finite) (map values rows)) n (R r w) (first (path w)) (At r w) (read_exactly r w))
    read_exactly r (end a) = refl

pub exactly : {A : Type 0} (w : Walk A) → walk_result w ≡ answer (first (path w)) (final w)
exactly w = read_exactly (λ m n. refused m) unnoted (λ r a. given a) tt w

-- ---- a reading of a reading: f takes each refusal, answer and end of the one to that of the other
module _ {B C S : Type 0} (f : B → C) (answered answered' : Function → Float → Answer) (stop : ℕ → ℕ → B) (stop' : ℕ → ℕ → C) (note : S → ℕ → Test → Bool → S)
    (first_to : f (stop 1 0) ≡ stop' 1 0) (stop_to : (n : ℕ) → f (stop 3 n) ≡ stop' 3 n)
    (ask_to : (n : ℕ) (g : Function) (x : Float) (k : Float → B) (l : Float → C) → ((v : Float) → f (k v) ≡ l v)
    → f (by_answer (λ m. stop m n) (answered g x) k) ≡ by_answer (λ m. stop' m n) (answered' g x) l) where
  gate_to : (b : Bool) (n : ℕ) (x : B) (y : C) → f x ≡ y → f (cond b x (stop 3 n)) ≡ cond b y (stop' 3 n)
  gate_to true n x y h = h
  gate_to false n x y h = stop_to n

  input_to : (b : Bool) (x : B) (y : C) → f x ≡ y → f (cond b x (stop 1 0)) ≡ cond b y (stop' 1 0)
  input_to true x y h = h
  input_to false x y h = first_to

  fork_to : (b : Bool) (x y : B) (p q : C) → f x ≡ p → f y ≡ q → f (cond b x y) ≡ cond b p q
  fork_to true x y p q h i = h
  fork_to false x y p q h i = i

  module _ {A : Type 0} (ends : S → A → B) (ends' : S → A → C) (ends_to : (r : S) (a : A) → f (ends r a) ≡ ends' r a) where
    pub read_to : (r : S) (w : Walk A) → f (read answered stop note ends r w) ≡ read answered' stop' note ends' r w
    read_to r (inputs l w) = input_to (all_of finite l) _ _ (read_to r w)
    read_to r (ask n g e k) = ask_to n g (value e) _ _ (λ v. read_to r (k (num v)))
    read_to r (works n es k) = gate_to (numbers es) n _ _ (read_to r (k (values es)))
    read_to r (either n t a b k) = gate_to (tellable t) n _ _ (gate_to (is_number (picked t a b)) n _ _ (read_to r (k (num (picked t a b)))))
    read_to r (branch n t w v) = gate_to (tellable t) n _ _ (fork_to (holds t) _ _ _ _ (read_to (note r n t true) w) (read_to (note r n t false) v))
    read_to r (split n t w v) = gate_to (tellable t) n _ _ (fork_to (holds t) _ _ _ _ (read_to r w) (read_to r v))
    read_to r (results n rows w) = gate_to (all_of (all_of finite) (map values rows)) n _ _ (read_to r w)
    read_to r (end a) = ends_to r a

-- by the same answers
module _ {B C S : Type 0} (f : B → C) (stop : ℕ → ℕ → B) (note : S → ℕ → Test → Bool → S) where
  answer_to : (n : ℕ) (e : Answer) (k : Float → B) (l : Float → C) → ((v : Float) → f (k v) ≡ l v)
      → f (by_answer (λ m. stop m n) e k) ≡ by_answer (λ m. f (stop m n)) e l
  answer_to n (answers.Value v) k l h = h v
  answer_to n (answers.Refused m) k l h = refl

  pub read_map : {A : Type 0} (ends : S → A → B) (r : S) (w : Walk A) → f (read answer_of stop note ends r w) ≡ read answer_of (λ m n. f (stop m n)) note (λ q a. f (ends q a)) r w
  read_map ends r w =
      read_to f answer_of answer_of stop (λ m n. f (stop m n)) note refl (λ n. refl) (λ n g x k l h. answer_to n (answer_of g x) k l h) ends (λ q a. f (ends q a)) (λ q a. refl) r w

-- ---- a walk and what follows it are read one after the other
module _ {B S : Type 0} (stop : ℕ → ℕ → B) (note : S → ℕ → Test → Bool → S) {A C : Type 0} (ends : S → C → B) (h : A → Walk C) where
  abbrev F : S → Walk C → B
  F r w = read answer_of stop note ends r w

  abbrev G : S → Walk A → B
  G r w = read answer_of stop note (λ q a. read answer_of stop note ends q (h a)) r w

  both_then : (b c : Bool) (x x' y y' z : B) → x ≡ x' → y ≡ y' → cond b (cond c x y) z ≡ cond b (cond c x' y') z
  both_then b c x x' y y' z p q = rw (p, q)

  asked_then : (n : ℕ) (e : Answer) (k l : Float → B) → ((v : Float) → k v ≡ l v) → by_answer (λ m. stop m n) e k ≡ by_answer (λ m. stop m n) e l
  asked_then n (answers.Value v) k l p = p v
  asked_then n (answers.Refused m) k l p = refl

  pub read_then : (r : S) (w : Walk A) → read answer_of stop note ends r (w then h) ≡ read answer_of stop note (λ q a. read answer_of stop note ends q (h a)) r w
  read_then r (inputs l w) = ap (λ x. cond (all_of finite l) x (stop 1 0)) (read_then r w)
  read_then r (ask n f e k) = asked_then n (answer_of f (value e)) (λ v. F r (k (num v) then h)) (λ v. G r (k (num v))) (λ v. read_then r (k (num v)))
  read_then r (works n es k) = ap (λ x. cond (numbers es) x (stop 3 n)) (read_then r (k (values es)))
  read_then r (either n t a b k) = ap (λ x. cond (tellable t) (cond (is_number (picked t a b)) x (stop 3 n)) (stop 3 n)) (read_then r (k (num (picked t a b))))
  read_then r (branch n t w v) = both_then (tellable t) (holds t) _ _ _ _ (stop 3 n) (read_then (note r n t true) w) (read_then (note r n t false) v)
  read_then r (split n t w v) = both_then (tellable t) (holds t) _ _ _ _ (stop 3 n) (read_then r w) (read_then r v)
  read_then r (results n rows w) = ap (λ x. cond (all_of (all_of finite) (map values rows)) x (stop 3 n)) (read_then r w)
  read_then r (end a) = refl

pub result_then : {A B : Type 0} (w : Walk A) (g : A → Walk B) → walk_result (w then g) ≡ and_then (walk_result w) (λ a. walk_result (g a))
result_then w g =
    read_then (λ m n. refused m) unnoted (λ r a. given a) g tt w ∙ sym (read_map (λ x. and_then x (λ a. walk_result (g a))) (λ m n. refused m) unnoted (λ r a. given a) tt w)

-- the code hands a number on as an `Answer`
through : {B : Type 0} (x : Ended Float) (g : Float → Ended B) → and_then x g ≡ asked (answer_as x) g
through (given x) g = refl
through (refused n) g = refl

pub number_then : {B : Type 0} (w : Walk Float) (g : Float → Walk B) → walk_result (w then g) ≡ asked (answer_as (walk_result w)) (λ v. walk_result (g v))
number_then w g = result_then w g ∙ through (walk_result w) (λ v. walk_result (g v))
