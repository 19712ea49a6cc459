-- When the law refuses (RULES, section 6), and why it moved (ticket 8), both read off its walk.
use mathlib.Core.Bool.{true, false}
use mathlib.Core.List.{List, [], ◌∷◌, map}
use mathlib.Core.Logic.{◌↔◌}
use mathlib.Core.Option.{Option, some, none}
use mathlib.Core.Path.{◌≡◌, refl, sym, ap, ◌∙◌}
use Prim.Native.Nat.{ℕ, suc}
use native.Mathlib.Omega.{arith}
use lib.Ieee.{Float}
use Rattle.tensor.specs.Matrix.{three}
use Rattle.plasticity.specs.declared.Outcome.TheVariants.{Refused}
use Rattle.plasticity.specs.declared.State.{State}
use Rattle.walk.specs.Expr.{Expr, num, value, values, nums}
use Rattle.walk.specs.Matrix.{sum}
use Rattle.walk.specs.Walk.{Function, ln, exp, at, at_most, Walk, asks, end, ◌then◌, given, walk_result}
use Rattle.walk.specs.Exact.{Met, path, final, first, Refusal, answer, last, last_from, Reason}
use Rattle.walk.proofs.Exact.{exactly}
use Rattle.walk.proofs.Reason.{final_then, last_then, Told, branch_told, Branchless, quiet, branchless_asks}
use Rattle.walk.specs.Numbers.{Stops, Clear}
use Rattle.walk.proofs.Numbers.{first_stops, first_clear, refused_when, accepted_when}
use Rattle.walk.proofs.Answers.{stops_positive}
use Rattle.walk.specs.Body as body
use Rattle.walk.specs.Update.{in_three, Change, refusal_of, number_of}
use Rattle.plasticity_rankine.specs.declared.RankineArguments.{RankineArguments}
use Rattle.plasticity_rankine.specs.declared.RankinePlasticity.{RankinePlasticity}
use Rattle.plasticity_rankine.specs.declared.Sorted.{Sorted}
use Rattle.plasticity_rankine.specs.Law.{law_of}
use Rattle.plasticity_rankine.specs.Sorting.{order_of, arrange_of}
use Rattle.plasticity_rankine.specs.Projection.{first_side, second_side, third_side, back_one, back_two, back_all, Way, none_moves, one_moves, two_move, all_move, Moved, ends, third_walk, second_walk, first_walk, project_walk, project_call, arguments_call, vector_of, project_of, arguments_project}
use Rattle.plasticity_rankine.specs.Over as over
use Rattle.plasticity_rankine.specs.Rankine.{moved_walk, way_walk, soft_strength, run_walk, rankine_walk, arguments_walk, rankine_update, arguments_update, store_walk, strained_walk}

-- ---- the refusal
pub arguments_refused : (a : RankineArguments) (u vt : List (List Float)) (s : State) (n : ℕ) → ((arguments_update a u vt s).outcome ≡ Refused n) ↔ Stops n (path (arguments_walk a u vt s))
arguments_refused a u vt s n = refused_when in_three s (arguments_walk a u vt s) n

-- of a call that answers a vector, 0 where it refuses nothing
abbrev code_of : Option ℕ → ℕ
code_of none = 0
code_of (some n) = n

told : (o : Option Refusal) (v : List Float) → (vector_of (answer o v)).refusal ≡ code_of (number_of o)
told none v = refl
told (some r) v = refl

some_none : (n : ℕ) → ◌≡◌ {A = Option ℕ} (some n) none → ⊥
some_none n e = let z : ◌≡◌ {A = ℕ} 0 1 = cc in omega arith

number : (o : Option ℕ) (n : ℕ) → code_of o ≡ suc n → o ≡ some (suc n)
number none n e = absurd (omega arith)
number (some m) n e = ap some e

-- no refusal has the number 0
no_stop : (ms : List Met) → Stops 0 ms → ⊥
no_stop ms q = let h = stops_positive ms 0 q in omega arith

nothing : (ms : List Met) (o : Option ℕ) → number_of (first ms) ≡ o → code_of o ≡ 0 → o ≡ none
nothing ms none h e = refl
nothing ms (some n) h e = absurd (no_stop ms ((first_stops ms 0).0 (h ∙ ap some e)))

given_by : (o : Option Refusal) (v : List Float) → number_of o ≡ none → answer o v ≡ given v
given_by none v e = refl
given_by (some r) v e = absurd (some_none r.number e)

module _ (w : Walk (List Float)) where
  code : (vector_of (walk_result w)).refusal ≡ code_of (number_of (first (path w)))
  code = ap (λ x. (vector_of x).refusal) (exactly w) ∙ told (first (path w)) (final w)

  vector_refused : (n : ℕ) → ((vector_of (walk_result w)).refusal ≡ suc n) ↔ Stops (suc n) (path w)
  vector_refused n = (
    λ e. (first_stops (path w) (suc n)).0 (number (number_of (first (path w))) n (sym code ∙ e)),
    λ q. code ∙ ap code_of ((first_stops (path w) (suc n)).1 q),
  )

  pub vector_given : (vector_of (walk_result w)).refusal ≡ 0 → walk_result w ≡ given (final w)
  vector_given e = exactly w ∙ given_by (first (path w)) (final w) (nothing (path w) (number_of (first (path w))) refl (sym code ∙ e))

pub project_refused : (p : RankinePlasticity) (e : List Float) (s : Float) (n : ℕ) → ((project_of p e s).refusal ≡ suc n) ↔ Stops (suc n) (path (project_call p e s))
project_refused p e s n = vector_refused (project_call p e s) n

-- ---- the reason
abbrev pub reason_of : Way → Reason
reason_of (none_moves side s) = record { test = 4; compares = side ∷ s ∷ []; held = true }
reason_of (one_moves side s) = record { test = 5; compares = side ∷ s ∷ []; held = true }
reason_of (two_move side s) = record { test = 6; compares = side ∷ s ∷ []; held = true }
reason_of (all_move side s) = record { test = 6; compares = side ∷ s ∷ []; held = false }

abbrev R : Moved → Reason
R q = reason_of q.way

module _ (p : RankinePlasticity) (k : List ℕ) (e : List Float) (r : Sorted) (s : Expr) where
  abbrev a : Expr
  a = num r.high

  abbrev b : Expr
  b = num r.mid

  abbrev c : Expr
  c = num r.low

  third_told : (o : Option Reason) → Told R o (third_walk p k e r s)
  unfolding third_walk
  third_told o =
      let side = third_side p c in
      branch_told R 6 (at_most side s) (ends (two_move (value side) (value s)) k (three c (back_two p s (sum e) a b) (back_two p s (sum e) a b)))
      (ends (all_move (value side) (value s)) k (three (back_all p s) (back_all p s) (back_all p s))) o (λ h. refl) (λ h. refl)

  second_told : (o : Option Reason) → Told R o (second_walk p k e r s)
  unfolding second_walk
  second_told o =
      let side = second_side p (sum e) a b in
      branch_told R 5 (at_most side s) (ends (one_moves (value side) (value s)) k (three c b (back_one p s (sum e) a))) (third_walk p k e r s) o (λ h. refl)
      (λ h. third_told (some (record { test = 5; compares = value side ∷ value s ∷ []; held = false })))

  first_told : (o : Option Reason) → Told R o (first_walk p k e r s)
  unfolding first_walk
  first_told o =
      let side = first_side p (sum e) a in
      branch_told R 4 (at_most side s) (end (record { way = none_moves (value side) (value s); strains = nums e })) (second_walk p k e r s) o (λ h. refl)
      (λ h. second_told (some (record { test = 4; compares = value side ∷ value s ∷ []; held = false })))

pub project_told : (p : RankinePlasticity) (e : List Float) (s : Expr) → last (path (project_walk p e s)) ≡ some (reason_of (final (project_walk p e s)).way)
project_told p e s = first_told p (order_of e) e (arrange_of (order_of e) e) s none

-- no test counts after the projection
module _ (p : RankinePlasticity) (old : List Float) (new : List Expr) (u vt : List (List Float)) (s : State) where
  moved_branchless : Branchless (moved_walk p old new u vt s)
  unfolding over.moved_walk over.harden_walk over.exps_walk body.store_walk
  moved_branchless = λ norm l h. branchless_asks 9 exp (values new) (λ sigma. store_walk u sigma vt h s) (λ vs. tt)

  way_branchless : (w : Way) → Branchless (way_walk p w old new u vt s)
  unfolding over.way_walk
  way_branchless (none_moves x y) = tt
  way_branchless (one_moves x y) = moved_branchless
  way_branchless (two_move x y) = moved_branchless
  way_branchless (all_move x y) = moved_branchless

asks_last : {A : Type 0} (n : ℕ) (f : Function) (l : List Float) (k : List Float → Walk A) (o : Option Reason)
    → last_from o (path (asks n f l k)) ≡ last_from o (path (k (map (at f) l)))
asks_last n f [] k o = refl
asks_last n f (x ∷ l) k o = asks_last n f l (λ vs. k (at f x ∷ vs)) o

pub asks_final : {A : Type 0} (n : ℕ) (f : Function) (l : List Float) (k : List Float → Walk A) → final (asks n f l k) ≡ final (k (map (at f) l))
asks_final n f [] k = refl
asks_final n f (x ∷ l) k = asks_final n f l (λ vs. k (at f x ∷ vs))

module _ (p : RankinePlasticity) (u vt : List (List Float)) (s : State) where
  -- the log strains and the projection that the update works
  abbrev pub strains : List Float
  strains = map (at ln) s.sigma

  abbrev pub projection : Walk Moved
  projection = project_walk p strains (num (value (soft_strength p s.scalars.plastic_hardening)))

  abbrev pub W : Moved → Walk Change
  W q = way_walk p q.way strains q.strains u vt s

  -- the last test and its numbers are the branch's, and that branch gives the stored record
  pub rankine_reason : (last (path (rankine_walk p u vt s)) ≡ some (reason_of (final projection).way)) × (final (rankine_walk p u vt s) ≡ final (W (final projection)))
  unfolding over.rankine_walk over.run_walk over.strained_walk
  rankine_reason =
      let q = final projection in (
        asks_last 2 ln s.sigma (λ e. strained_walk p e u vt s) none ∙ last_then projection W none
            ∙ quiet (W q) (way_branchless p strains q.strains u vt s q.way) (last_from none (path projection))
            ∙ project_told p strains (num (value (soft_strength p s.scalars.plastic_hardening))),
        asks_final 2 ln s.sigma (λ e. strained_walk p e u vt s) ∙ final_then projection W,
      )

-- of the arguments
pub arguments_reason : (a : RankineArguments) (u vt : List (List Float)) (s : State) → let q = final (projection (law_of a) u vt s) in
    (last (path (arguments_walk a u vt s)) ≡ some (reason_of q.way)) × (final (arguments_walk a u vt s) ≡ final (W (law_of a) u vt s q))
unfolding over.arguments_walk over.rankine_walk
arguments_reason a u vt s = rankine_reason (law_of a) u vt s
