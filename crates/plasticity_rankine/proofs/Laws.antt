-- What is handed from one piece of the walk to the next, as the code hands it on; and the tests that meet no NaN.
use mathlib.Core.Bool.{Bool, true, false, cond, ◌&&◌}
use mathlib.Core.List.{List, [], ◌∷◌, ◌++◌}
use mathlib.Core.Path.{◌≡◌, refl, sym, ap, ◌∙◌}
use Prim.Native.Nat.{ℕ}
use lib.Ieee.{Float, of_bits}
use Rattle.numbers.specs.Floats.{finite, is_number, min_of}
use Rattle.tensor.specs.Axes.{all_of, pairwise}
use Rattle.tensor.specs.Matrix.{add, sub, mul, one, three, row_sub_of, recompose_of}
use Rattle.tensor.specs.Finite.{row_finite, mat_finite}
use Rattle.tensor.specs.Answer.{answered_vector, refused_vector}
use Rattle.physics.specs.Norm.{norm_of}
use Rattle.plasticity.specs.State as law
use Rattle.plasticity.specs.State.{inputs_finite, scalars_finite}
use Rattle.plasticity.specs.declared.Outcome.TheVariants as outcome
use Rattle.plasticity.specs.declared.Outcome.TheVariants.{Stored}
use Rattle.plasticity.specs.declared.Scalars.{Scalars}
use Rattle.plasticity.specs.declared.State.{State}
use Rattle.plasticity.specs.declared.Updated.{Updated}
use Rattle.walk.specs.Expr.{Expr, num, ◌-ᵉ◌, value, values, nums}
use Rattle.walk.specs.Walk.{Test, Walk, ◌then◌, Ended, given, refused, asked, answer_of, by_answer, read, unnoted, walk_result}
use Rattle.walk.proofs.Number.{sub_number, finite_sub}
use Rattle.numbers.proofs.Laws.{finite_number}
use Rattle.walk.specs.Exact.{and_then}
use Rattle.walk.proofs.Exact.{result_then}
use Rattle.walk.proofs.Every.{and_left, and_right, all_append}
use Rattle.walk.proofs.Steps.{least_read}
use Rattle.walk.specs.Matrix.{value_dots, values_nums}
use Rattle.walk.specs.Body as body
use Rattle.walk.specs.Body.{Body, updated_of}
use Rattle.walk.proofs.Body.{inputs_finite_lem, finite_scalars, store_law as walk_store}
use Rattle.walk.specs.Update as update
use Rattle.walk.specs.Update.{in_three, Change}
use Rattle.reason.specs.Traced.{Traced, reached, stopped, traced, untraced}
use Rattle.reason.proofs.Laws.{result_traced}
use Rattle.plasticity_rankine.specs.declared.Rank.{Rank}
use Rattle.plasticity_rankine.specs.declared.Rank.TheVariants.{R012, R021, R102, R120, R201, R210}
use Rattle.plasticity_rankine.specs.declared.RankineArguments.{RankineArguments}
use Rattle.plasticity_rankine.specs.declared.RankinePlasticity.{RankinePlasticity}
use Rattle.plasticity_rankine.specs.Law.{law_of, parameters_of, arguments_floats, elastic_finite, parameters_finite, moduli}
use Rattle.plasticity_rankine.specs.Sorting.{restored_of}
use Rattle.plasticity_rankine.specs.Inner.{indexes_of, branch_of, moved_of, projected_of, by_branch, followed_of}
use Rattle.plasticity_rankine.specs.Rankine.{state_of, store_walk, strained_walk, way_walk, soft_strength, run_walk, rankine_walk, arguments_walk, rankine_update, grows, changes}
use Rattle.plasticity_rankine.specs.Projection.{Way, none_moves, one_moves, two_move, all_move, Moved, project_walk, returned_walk, call_floats, call_over, vector_of, project_of, arguments_project}
use Rattle.plasticity_rankine.specs.Over as over
use Rattle.plasticity_rankine.specs.Over.{hardened_of}

-- ---- the inputs, over however many axes
pub inputs_law : {S R : Type 0} (b : Body S R) (l : List Float) (u vt : List (List Float)) (s : S)
    → all_of finite (over.floats b l u vt s) ≡ all_of finite l && body.inputs_finite b u vt s
unfolding over.floats
inputs_law b l u vt s = inputs_finite_lem b l u vt s

leftwards : (a b c : Bool) → a && (b && c) ≡ a && b && c
leftwards true b c = refl
leftwards false b c = refl

pub call_law : (l e : List Float) (s : Float) → all_of finite (call_floats l e s) ≡ all_of finite l && row_finite e && finite s
unfolding call_floats
call_law l e s = all_append finite l (e ++ (s ∷ [])) ∙ rw (all_append finite e (s ∷ [])) (leftwards (all_of finite l) (row_finite e) (finite s))

-- the arguments' own test, and then the law's
twice : {B : Type 0} (y n x m i : Bool) (w z : B) → cond ((y && n && x && m) && i) w z ≡ cond (y && n) (cond ((x && m) && i) w z) z
twice true true true m i w z = refl
twice true true false m i w z = refl
twice true false x m i w z = refl
twice false n x m i w z = refl

picked : {A B : Type 0} (f : A → B) (b : Bool) (x y : A) → f (cond b x y) ≡ cond b (f x) (f y)
picked f true x y = refl
picked f false x y = refl

-- by any reading
pub arguments_read : {B N : Type 0} (stop : ℕ → ℕ → B) (note : N → ℕ → Test → Bool → N) (ends : N → Change → B) (r : N) (a : RankineArguments) (u vt : List (List Float)) (s : State)
    → read answer_of stop note ends r (arguments_walk a u vt s) ≡ cond (elastic_finite a) (read answer_of stop note ends r (rankine_walk (law_of a) u vt s)) (stop 1 0)
unfolding over.arguments_walk over.rankine_walk
arguments_read stop note ends r a u vt s =
    rw (inputs_law in_three (arguments_floats a) u vt s, inputs_law in_three (parameters_of (law_of a)) u vt s)
    (twice (finite a.young_modulus) (finite a.poisson_ratio) (finite a.tensile_strength) (finite a.softening_rate) (inputs_finite u vt s)
    (read answer_of stop note ends r (moduli (law_of a) (run_walk (law_of a) s.sigma u vt s))) (stop 1 0))

pub arguments_law : (a : RankineArguments) (u vt : List (List Float)) (s : State)
    → update.updated_of s (walk_result (arguments_walk a u vt s)) ≡ cond (elastic_finite a) (rankine_update (law_of a) u vt s) (law.refused 1 s)
arguments_law a u vt s =
    ap (update.updated_of s) (arguments_read (λ m n. refused m) unnoted (λ q c. given c) tt a u vt s)
    ∙ picked (update.updated_of s) (elastic_finite a) (walk_result (rankine_walk (law_of a) u vt s)) (refused 1)

pub arguments_call : (a : RankineArguments) (e : List Float) (s : Float)
    → arguments_project a e s ≡ cond (elastic_finite a) (project_of (law_of a) e s) (refused_vector 1)
unfolding call_over call_floats
arguments_call a e s =
    let t = e ++ (s ∷ []) in
    rw (all_append finite (arguments_floats a) t, all_append finite (parameters_of (law_of a)) t)
    (ap vector_of (twice (finite a.young_modulus) (finite a.poisson_ratio) (finite a.tensile_strength) (finite a.softening_rate) (all_of finite t)
    (walk_result (moduli (law_of a) (project_walk (law_of a) e (num s) then returned_walk))) (refused 1))
    ∙ picked vector_of (elastic_finite a) _ (refused 1))

-- ---- of finite inputs: the strength is finite, and the softened one is a number
pub strength_finite : (p : RankinePlasticity) (u vt : List (List Float)) (s : State) → parameters_finite p && inputs_finite u vt s ≡ true → finite p.tensile_strength ≡ true
strength_finite p u vt s h = and_left (finite p.tensile_strength) (finite p.softening_rate) (and_left (parameters_finite p) (inputs_finite u vt s) h)

pub hardening_of : (x : Scalars) → scalars_finite x ≡ true → finite x.plastic_hardening ≡ true
hardening_of x all =
    let three = finite x.phase && finite x.plastic_determinant && finite x.plastic_hardening in
    let four = three && finite x.elastic_hardening in
    and_right (finite x.phase && finite x.plastic_determinant) (finite x.plastic_hardening)
    (and_left three (finite x.elastic_hardening) (and_left four (finite x.log_gain) (and_left (four && finite x.log_gain) (finite x.alpha) all)))

one_finite : finite one ≡ true
unfolding finite of_bits
one_finite = refl

pub soft_of : (p : RankinePlasticity) (x : Float) → finite p.tensile_strength ≡ true → finite x ≡ true → is_number (value (soft_strength p x)) ≡ true
soft_of p x h f = finite_sub p.tensile_strength (sub x one) h (sub_number x one (finite_number x f) one_finite)

pub soft_number : (p : RankinePlasticity) (u vt : List (List Float)) (s : State) → parameters_finite p && inputs_finite u vt s ≡ true
    → is_number (value (soft_strength p s.scalars.plastic_hardening)) ≡ true
soft_number p u vt s h =
    soft_of p s.scalars.plastic_hardening (strength_finite p u vt s h)
    (hardening_of s.scalars (finite_scalars in_three u vt s (and_right (parameters_finite p) (inputs_finite u vt s) h)))

-- ---- the strains in index order
pub restored : (k : Rank) (x y z : Expr) → values (restored_of (indexes_of k) (three x y z)) ≡ restored_of (indexes_of k) (three (value x) (value y) (value z))
restored R012 x y z = refl
restored R021 x y z = refl
restored R102 x y z = refl
restored R120 x y z = refl
restored R201 x y z = refl
restored R210 x y z = refl

-- ---- the projection is returned: over however many axes, by whatever hands it out
module _ {A : Type 0} (hands : Ended (List Float) → A) where
  abbrev pub handed_of : Ended Moved → A
  handed_of (given q) = cond (row_finite (values q.strains)) (hands (given (values q.strains))) (hands (refused 3))
  handed_of (refused n) = hands (refused n)

  kept : (b : Bool) (v : List Float) → hands (cond b (given v) (refused 3)) ≡ cond b (hands (given v)) (hands (refused 3))
  kept true v = refl
  kept false v = refl

  returns : (x : Ended Moved) → hands (and_then x (λ q. walk_result (returned_walk q))) ≡ handed_of x
  returns (given q) = kept (row_finite (values q.strains)) (values q.strains)
  returns (refused n) = refl

  pub handed_law : (w : Walk Moved) → hands (walk_result (w then returned_walk)) ≡ handed_of (walk_result w)
  handed_law w = ap hands (result_then w returned_walk) ∙ returns (walk_result w)

by_way_lem : (w : Way) (e : List Float) → answered_vector e ≡ by_branch (branch_of w) e
by_way_lem (none_moves x y) e = refl
by_way_lem (one_moves x y) e = refl
by_way_lem (two_move x y) e = refl
by_way_lem (all_move x y) e = refl

by_branch_lem : (x : Traced Moved) → handed_of vector_of (untraced x) ≡ by_branch (moved_of x).branch (moved_of x).strains
unfolding answered_vector
by_branch_lem (reached q) = by_way_lem q.way (values q.strains)
by_branch_lem (stopped n step) = refl

pub returned_law : (p : RankinePlasticity) (e : List Float) (s : Float)
    → vector_of (walk_result (project_walk p e (num s) then returned_walk)) ≡ by_branch (projected_of p e s).branch (projected_of p e s).strains
returned_law p e s =
    let w = project_walk p e (num s) in
    handed_law vector_of w ∙ ap (handed_of vector_of) (result_traced w) ∙ by_branch_lem (traced w)

-- ---- strains that moved
values_change : (a b : List Expr) → values (pairwise ◌-ᵉ◌ a b) ≡ pairwise sub (values a) (values b)
values_change [] b = refl
values_change (x ∷ a) [] = refl
values_change (x ∷ a) (y ∷ b) = ap (λ t. sub (value x) (value y) ∷ t) (values_change a b)

pub change_law : (old : List Float) (new : List Expr) → values (pairwise ◌-ᵉ◌ (nums old) new) ≡ row_sub_of old (values new)
unfolding row_sub_of
change_law old new = values_change (nums old) new ∙ ap (λ l. pairwise sub l (values new)) (values_nums old)

-- ---- by any reading of the walk
module _ {B N A : Type 0} (stop : ℕ → ℕ → B) (note : N → ℕ → Test → Bool → N) (ends : N → A → B) (r : N) where
  changes_read : (old : List Float) (new : List Expr) (k : Expr → Walk A)
      → read answer_of stop note ends r (changes old new k) ≡ by_answer (λ m. stop m 7) (norm_of (row_sub_of old (values new))) (λ norm. read answer_of stop note ends r (k (num norm)))
  changes_read old new k =
      let change = pairwise ◌-ᵉ◌ (nums old) new in
      rw (value_dots change change, change_law old new)

  same : (b : Bool) (x y z : B) → (b ≡ true → x ≡ y) → cond b x z ≡ cond b y z
  same true x y z h = h refl
  same false x y z h = refl

  grows_read : (p : RankinePlasticity) (hardening norm : Float) (k : Expr → Walk A) → finite p.tensile_strength ≡ true
      → let grown = add hardening (mul p.softening_rate norm) in
      read answer_of stop note ends r (grows p hardening (num norm) k) ≡ cond (is_number grown) (read answer_of stop note ends r (k (num (min_of grown p.tensile_strength)))) (stop 3 8)
  grows_read p hardening norm k h =
      let grown = add hardening (mul p.softening_rate norm) in
      let strength = p.tensile_strength in
      same (is_number grown) _ (read answer_of stop note ends r (k (num (min_of grown strength)))) (stop 3 8)
      (λ i. least_read stop note ends r 8 (num grown) (num strength) k i (finite_number strength h))

module _ {S R : Type 0} (b : Body S R) {B N : Type 0} (stop : ℕ → ℕ → B) (note : N → ℕ → Test → Bool → N) (ends : N → body.Change S → B) (r : N)
    (p : RankinePlasticity) (u vt : List (List Float)) (s : S) where
  abbrev Rd : Walk (body.Change S) → B
  Rd w = read answer_of stop note ends r w

  pub moved_read : (old : List Float) (new : List Expr)
      → Rd (over.moved_walk b p old new u vt s) ≡ by_answer (λ m. stop m 7) (norm_of (row_sub_of old (values new))) (λ norm. Rd (over.harden_walk b p (num norm) (values new) u vt s))
  unfolding over.moved_walk
  moved_read old new = changes_read stop note ends r old new (λ norm. over.harden_walk b p norm (values new) u vt s)

  pub numbers_moved : (old : List Float) (new : List Expr) → Rd (over.moved_walk b p old new u vt s) ≡ Rd (over.moved_walk b p old (nums (values new)) u vt s)
  numbers_moved old new = moved_read old new ∙ sym (moved_read old (nums (values new)) ∙ rw (values_nums (values new)))

  pub harden_read : (norm : Float) (e : List Float) → finite p.tensile_strength ≡ true
      → let grown = add (b.scalars s).plastic_hardening (mul p.softening_rate norm) in
      Rd (over.harden_walk b p (num norm) e u vt s) ≡ cond (is_number grown) (Rd (over.exps_walk b e u vt (num (min_of grown p.tensile_strength)) s)) (stop 3 8)
  unfolding over.harden_walk
  harden_read norm e h = grows_read stop note ends r p (b.scalars s).plastic_hardening norm (λ g. over.exps_walk b e u vt g s) h

-- of the walk's answer
pub changes_law : {A : Type 0} (old : List Float) (new : List Expr) (k : Expr → Walk A)
    → walk_result (changes old new k) ≡ asked (norm_of (row_sub_of old (values new))) (λ norm. walk_result (k (num norm)))
changes_law = changes_read (λ m n. refused m) unnoted (λ q a. given a) tt

pub grows_law : {A : Type 0} (p : RankinePlasticity) (hardening norm : Float) (k : Expr → Walk A) → finite p.tensile_strength ≡ true
    → let grown = add hardening (mul p.softening_rate norm) in
    walk_result (grows p hardening (num norm) k) ≡ cond (is_number grown) (walk_result (k (num (min_of grown p.tensile_strength)))) (refused 3)
grows_law = grows_read (λ m n. refused m) unnoted (λ q a. given a) tt

module _ {S R : Type 0} (b : Body S R) (p : RankinePlasticity) (u vt : List (List Float)) (s : S) where
  pub moved_law : (old : List Float) (new : List Expr)
      → walk_result (over.moved_walk b p old new u vt s) ≡ asked (norm_of (row_sub_of old (values new))) (λ norm. walk_result (over.harden_walk b p (num norm) (values new) u vt s))
  moved_law = moved_read b (λ m n. refused m) unnoted (λ q c. given c) tt p u vt s

  pub harden_law : (norm : Float) (e : List Float) → finite p.tensile_strength ≡ true
      → let grown = add (b.scalars s).plastic_hardening (mul p.softening_rate norm) in
      walk_result (over.harden_walk b p (num norm) e u vt s) ≡ cond (is_number grown) (walk_result (over.exps_walk b e u vt (num (min_of grown p.tensile_strength)) s)) (refused 3)
  harden_law = harden_read b (λ m n. refused m) unnoted (λ q c. given c) tt p u vt s

  -- ---- the projection is followed by its branch, as the code hands it on
  numbers_way : (w : Way) (old : List Float) (new : List Expr) → walk_result (over.way_walk b p w old new u vt s) ≡ walk_result (over.way_walk b p w old (nums (values new)) u vt s)
  unfolding over.way_walk
  numbers_way (none_moves x y) old new = refl
  numbers_way (one_moves x y) old new = numbers_moved b (λ m n. refused m) unnoted (λ q c. given c) tt p u vt s old new
  numbers_way (two_move x y) old new = numbers_moved b (λ m n. refused m) unnoted (λ q c. given c) tt p u vt s old new
  numbers_way (all_move x y) old new = numbers_moved b (λ m n. refused m) unnoted (λ q c. given c) tt p u vt s old new

  module _ (old : List Float) (followed : Ended Moved → R)
      (goes : (w : Way) (new : List Expr) → updated_of b s (walk_result (over.way_walk b p w old (nums (values new)) u vt s)) ≡ followed (given (record { way = w; strains = new })))
      (stops : (n : ℕ) → b.handed s (outcome.Refused n) ≡ followed (refused n)) where
    follows : (x : Ended Moved) → updated_of b s (and_then x (λ q. walk_result (over.way_walk b p q.way old q.strains u vt s))) ≡ followed x
    follows (given q) = ap (updated_of b s) (numbers_way q.way old q.strains) ∙ goes q.way q.strains
    follows (refused n) = stops n

    pub strained_over : (project : RankinePlasticity → List Float → Expr → Walk Moved) → let soft = value (soft_strength p (b.scalars s).plastic_hardening) in is_number soft ≡ true
        → updated_of b s (walk_result (over.strained_walk b project p old u vt s)) ≡ followed (walk_result (project p old (num soft)))
    unfolding over.strained_walk
    strained_over project h =
        let w = project p old (num (value (soft_strength p (b.scalars s).plastic_hardening))) in
        simp h (ap (updated_of b s) (result_then w (λ q. over.way_walk b p q.way old q.strains u vt s)) ∙ follows (walk_result w))

-- ---- three axes: the branch
module _ (p : RankinePlasticity) (u vt : List (List Float)) (s : State) where
  way_law : (w : Way) (old new : List Float) → update.updated_of s (walk_result (way_walk p w old (nums new) u vt s)) ≡ followed_of (branch_of w) p old new u vt s
  unfolding over.way_walk
  way_law (none_moves x y) old new = refl
  way_law (one_moves x y) old new = refl
  way_law (two_move x y) old new = refl
  way_law (all_move x y) old new = refl

  abbrev by_end : List Float → Ended Moved → Updated
  by_end e (given q) = followed_of (branch_of q.way) p e (values q.strains) u vt s
  by_end e (refused n) = law.refused n s

  by_step : (e : List Float) (x : Traced Moved) → by_end e (untraced x) ≡ followed_of (moved_of x).branch p e (moved_of x).strains u vt s
  by_step e (reached q) = refl
  by_step e (stopped n step) = refl

  pub strained_law : (e : List Float) → let soft = value (soft_strength p s.scalars.plastic_hardening) in is_number soft ≡ true
      → update.updated_of s (walk_result (strained_walk p e u vt s)) ≡ followed_of (projected_of p e soft).branch p e (projected_of p e soft).strains u vt s
  strained_law e h =
      let w = project_walk p e (num (value (soft_strength p s.scalars.plastic_hardening))) in
      strained_over in_three p u vt s e (by_end e) (λ w new. way_law w e (values new)) (λ n. refl) project_walk h ∙ ap (by_end e) (result_traced w) ∙ by_step e (traced w)

-- ---- the results as the code tests them
pub store_law : (u : List (List Float)) (sigma : List Float) (vt : List (List Float)) (h : Expr) (s : State)
    → update.updated_of s (walk_result (store_walk u sigma vt h s))
    ≡ cond ((mat_finite (recompose_of u sigma vt) && row_finite sigma) && finite (value h))
    (record { state = state_of (recompose_of u sigma vt) sigma (value h) s; outcome = Stored (value h) }) (law.refused 3 s)
store_law u sigma vt h s = walk_store in_three 10 u sigma vt (h ∷ []) (hardened_of (value h) s.scalars) (value h) s
