-- Demand 3 over Rankine's update in any number of axes: what is accepted is untouched inside the surface, or stored upon it. The axes give the
-- state, the projection, and what the projection does to so many strains by the first test.
use mathlib.Core.Path.{◌≡◌, refl, sym, ap, ◌∙◌, subst}
use mathlib.Core.List.{List, [], ◌∷◌}
use mathlib.Core.Bool.{Bool, not, cond, ◌&&◌}
use Prim.Native.Nat.{ℕ}
use lib.Dec.{T}
use lib.ListN.{length}
use lib.Ieee.{Float, binary64, fits}
use lib.Ieee.Fits.{and_l, and_r, sub-fits, div-fits}
use Rattle.exact.specs.Units.{Fin64}
use Rattle.numbers.specs.Floats.{finite, is_number}
use Rattle.numbers.proofs.Laws.{finite_is}
use Rattle.physics.specs.Physics.{lambda_of, shear_modulus_of}
use Rattle.tensor.specs.Axes.{all_of}
use Rattle.tensor.specs.Finite.{row_finite, mat_finite}
use Rattle.plasticity.specs.declared.Outcome.TheVariants as outcome
use Rattle.walk.specs.Expr.{Expr, num, value, values}
use Rattle.walk.specs.Walk.{Walk, inputs, ◌then◌, Ended, given, refused, walk_result}
use Rattle.walk.specs.Exact.{and_then}
use Rattle.walk.proofs.Exact.{result_then}
use Rattle.walk.specs.Body.{Body, Change, updated_of, outcome_of, inputs_finite}
use Rattle.walk.proofs.Body.{store_law}
use Rattle.plasticity_rankine.specs.declared.RankineArguments.{RankineArguments}
use Rattle.plasticity_rankine.specs.declared.RankinePlasticity.{RankinePlasticity}
use Rattle.plasticity_rankine.specs.Law.{law_of, arguments_floats, arguments_finite, elastic_finite, moduli_finite, moduli}
use Rattle.plasticity_rankine.specs.Projection.{Way, none_moves, one_moves, two_move, all_move, Moved}
use Rattle.plasticity_rankine.specs.Over as over
use Rattle.plasticity_rankine.specs.Over.{hardened_of, grows, changes, soft_strength}
use Rattle.plasticity_rankine.proofs.Laws.{inputs_law}
use Rattle.rankine_surface.specs.Axes.{Each}
use Rattle.rankine_surface.specs.Surface.{Accepted, numbers_of, logs_of, exps_of, demanded, BelowIn, ArchivedIn, RangesIn, FairIn, Strain, Axes, log_strains_in, softened_in, first_test_in, projected_in, AssumedIn, AssumedByIn, InsideIn, ReturnedIn, Demand3In}
use Rattle.rankine_surface.proofs.Indexed.{Given, Moves, LandedIn, ReturnsIn}
use Rattle.rankine_surface.proofs.Strains.{Sized, logs_sized, exps_sized, strained_of, logs_follow, exps_follow}
use Rattle.rankine_surface.proofs.Hardening.{passed, by, Capped, changes_end}
use Rattle.rankine_surface.proofs.Archive.{archive}

-- what is stored
record Done {S R : Type 0} (ax : Axes S R) (law : RankinePlasticity) (v : R) (sigma : List Float) : Type 0 where
  pub hardening : Float
  pub stored : ax.body.outcome_in v ≡ outcome.Stored hardening
  pub written : (ax.body.scalars (ax.body.state_in v)).plastic_hardening ≡ hardening
  pub capped : Capped law hardening
  pub shape : ax.body.sigma (ax.body.state_in v) ≡ sigma
  pub axes : length sigma ≡ ax.count

-- no strain moves
abbrev Still : Way → Type 0
Still (none_moves x y) = Unit {0}
Still (one_moves x y) = ⊥
Still (two_move x y) = ⊥
Still (all_move x y) = ⊥

abbrev pub Stays : Ended Moved → Type 0
Stays (given q) = Still q.way
Stays (refused n) = ⊥

-- of so many strains, by the first test
pub record Strained {S R : Type 0} (ax : Axes S R) (law : RankinePlasticity) (s : Float) : Type 0 where
  pub worth : (q : Moved) → ax.strains_in (given q) ≡ values q.strains
  pub inside : (e : List Float) → length e ≡ ax.count → Each Strain e → T (first_test_in ax law e s) → Each (BelowIn ax.count demanded law s e) e
  pub same : (e : List Float) → length e ≡ ax.count → T (first_test_in ax law e s) → Given (walk_result (ax.project law e (num s)))
      → Stays (walk_result (ax.project law e (num s)))
  pub outside : (e : List Float) → length e ≡ ax.count → Each Strain e → T (not (first_test_in ax law e s)) → Given (walk_result (ax.project law e (num s)))
      → ReturnsIn ax.count law s (walk_result (ax.project law e (num s)))

module _ {S R : Type 0} (ax : Axes S R) (law : RankinePlasticity) (u vt : List (List Float)) (st : S) where
  abbrev b : Body S R
  b = ax.body

  abbrev n : ℕ
  n = ax.count

  abbrev s : Float
  s = value (soft_strength law (b.scalars st).plastic_hardening)

  -- of a walk's answer
  abbrev Took : Ended (Change S) → Type 0
  Took x = Accepted (outcome_of b st x)

  no : (k : ℕ) → Took (refused k) → ⊥
  no k a = by Accepted (b.outcome_in_lem st (outcome.Refused k)) a

  took_given : (x : Ended (Change S)) → Took x → Given x
  took_given (given c) a = tt
  took_given (refused k) a = no k a

  abbrev finish : List Float → Float → Ended (Change S)
  finish sigma h = walk_result (over.store_walk b u sigma vt (num h) st)

  exps_then : (e : List Float) (h : Float) → walk_result (over.exps_walk b e u vt (num h) st) ≡ and_then (exps_of e) (λ sigma. finish sigma h)
  unfolding over.exps_walk
  exps_then e h = exps_follow (λ sigma. over.store_walk b u sigma vt (num h) st) e

  store_done : (h : Float) (sigma : List Float) → length sigma ≡ n → Capped law h → Took (finish sigma h) → Done ax law (updated_of b st (finish sigma h)) sigma
  store_done h sigma m l t =
      let x = hardened_of h (b.scalars st) in
      let e = store_law b 10 u sigma vt (num h ∷ []) x h st in
      let f = b.recomposed u sigma vt in
      let new = b.made f sigma x in
      let F : R → Type 0 = λ v. Accepted (b.outcome_in v) in
      let q = passed F ((mat_finite f && row_finite sigma) && finite h) (b.handed new (outcome.Stored h)) (b.handed st (outcome.Refused 3)) (no 3) (by F e t) in
      subst (λ v. Done ax law v sigma) (sym (e ∙ q.1))
      (record {
        hardening = h;
        stored = b.outcome_in_lem new (outcome.Stored h);
        written = ap (λ z. (b.scalars z).plastic_hardening) (b.state_in_lem new (outcome.Stored h)) ∙ ap (λ z. z.plastic_hardening) (b.scalars_made f sigma x);
        capped = l;
        shape = ap b.sigma (b.state_in_lem new (outcome.Stored h)) ∙ b.sigma_made f sigma x;
        axes = m;
      })

  -- ---- the inputs, after the parameters l, and the moduli are finite; the logarithms are asked
  abbrev pub update_by : List Float → Ended (Change S)
  update_by l = walk_result (inputs (over.floats b l u vt st) (moduli law (over.run_walk b ax.project law (b.sigma st) u vt st)))

  abbrev logged : Ended (List Float) → Ended (Change S)
  logged t = and_then t (λ e. walk_result (over.strained_walk b ax.project law e u vt st))

  logs_then : walk_result (over.run_walk b ax.project law (b.sigma st) u vt st) ≡ logged (logs_of (b.sigma st))
  unfolding over.run_walk
  logs_then = logs_follow (λ e. over.strained_walk b ax.project law e u vt st) (b.sigma st)

  pub runs : (l : List Float) → Took (update_by l) → T (all_of finite l && inputs_finite b u vt st) × T (moduli_finite law) × (update_by l ≡ logged (logs_of (b.sigma st)))
  runs l t =
      let run = walk_result (over.run_walk b ax.project law (b.sigma st) u vt st) in
      let first = passed Took (all_of finite (over.floats b l u vt st)) (cond (moduli_finite law) run (refused 3)) (refused 1) (no 1) t in
      let second = passed Took (moduli_finite law) run (refused 3) (no 3) (by Took first.1 t) in
      (by T (inputs_law b l u vt st) first.0, second.0, first.1 ∙ second.1 ∙ logs_then)

  module _ (f : T (finite law.tensile_strength)) where
    abbrev Doing : List Float → Ended (Change S) → Type 0
    Doing new x = Took x → Done ax law (updated_of b st x) (numbers_of (exps_of new))

    moved_done : (old : List Float) (new : List Expr) → length (values new) ≡ n → Doing (values new) (walk_result (over.moved_walk b law old new u vt st))
    unfolding over.moved_walk over.harden_walk
    moved_done old new m t =
        let e = values new in
        let h = (b.scalars st).plastic_hardening in
        let x = walk_result (changes old new (λ norm. grows law h norm (λ g. over.exps_walk b e u vt g st))) in
        let q = changes_end law f finish h old new (λ g. over.exps_walk b e u vt g st) (exps_then e) (took_given x t) in
        let d = store_done q.hardening q.sigma (by (Sized n) q.exps (exps_sized e n m)) q.capped (by Took q.ends t) in
        subst (λ y. Done ax law (updated_of b st y) (numbers_of (exps_of e))) (sym q.ends)
        (subst (λ y. Done ax law (updated_of b st (finish q.sigma q.hardening)) (numbers_of y)) (sym q.exps) d)

    -- ---- after the projection
    abbrev after : List Float → Ended Moved → Ended (Change S)
    after e x = and_then x (λ q. walk_result (over.way_walk b law q.way e q.strains u vt st))

    way_done : (w : Way) → Moves w → (e : List Float) (new : List Expr) → length (values new) ≡ n → Doing (values new) (walk_result (over.way_walk b law w e new u vt st))
    unfolding over.way_walk
    way_done (none_moves x y) m e new a = absurd m
    way_done (one_moves x y) m e new a = moved_done e new a
    way_done (two_move x y) m e new a = moved_done e new a
    way_done (all_move x y) m e new a = moved_done e new a

    way_stays : (w : Way) → Still w → (e : List Float) (new : List Expr) → updated_of b st (walk_result (over.way_walk b law w e new u vt st)) ≡ b.handed st outcome.Untouched
    unfolding over.way_walk
    way_stays (none_moves x y) m e new = refl
    way_stays (one_moves x y) m e new = absurd m
    way_stays (two_move x y) m e new = absurd m
    way_stays (all_move x y) m e new = absurd m

    stays : (e : List Float) (x : Ended Moved) → Stays x → updated_of b st (after e x) ≡ b.handed st outcome.Untouched
    stays e (given q) h = way_stays q.way h e q.strains
    stays e (refused k) h = absurd h

    went_on : (e : List Float) (x : Ended Moved) → Took (after e x) → Given x
    went_on e (given q) t = tt
    went_on e (refused k) t = no k t

    strains_run : (e : List Float) → Took (walk_result (over.strained_walk b ax.project law e u vt st))
        → walk_result (over.strained_walk b ax.project law e u vt st) ≡ after e (walk_result (ax.project law e (num s)))
    unfolding over.strained_walk
    strains_run e t =
        let w = ax.project law e (num s) in
        let g : Moved → Walk (Change S) = λ q. over.way_walk b law q.way e q.strains u vt st in
        (passed Took (is_number s) (walk_result (w then g)) (refused 3) (no 3) t).1 ∙ result_then w g

    -- ---- the two cases, of what the logarithms answered
    module _ (p : Strained ax law s) where
      abbrev back : List Float → List Float
      back e = ax.strains_in (walk_result (ax.project law e (num s)))

      abbrev Holds : List Float → Ended (Change S) → Type 0
      Holds e v = Took v → Each Strain e → T (first_test_in ax law e s) → (updated_of b st v ≡ b.handed st outcome.Untouched) × Each (BelowIn n demanded law s e) e

      abbrev Fails : List Float → Ended (Change S) → Type 0
      Fails e v = Took v → Each Strain e → T (not (first_test_in ax law e s)) → Done ax law (updated_of b st v) (numbers_of (exps_of (back e))) × LandedIn n law s (back e)

      returned_done : (e : List Float) (x : Ended Moved) → ReturnsIn n law s x → Took (after e x)
          → Done ax law (updated_of b st (after e x)) (numbers_of (exps_of (ax.strains_in x))) × LandedIn n law s (ax.strains_in x)
      returned_done e (given q) k t =
          subst (λ l. Done ax law (updated_of b st (after e (given q))) (numbers_of (exps_of l)) × LandedIn n law s l) (sym (p.worth q))
          (way_done q.way k.moves e q.strains k.landed.axes t, k.landed)
      returned_done e (refused m) k t = absurd k

      log_holds : (t : Ended (List Float)) → Sized n t → Holds (numbers_of t) (logged t)
      log_holds (given e) m a i h =
          let x = walk_result (ax.project law e (num s)) in
          let q = strains_run e a in
          (ap (updated_of b st) q ∙ stays e x (p.same e m h (went_on e x (by Took q a))), p.inside e m i h)
      log_holds (refused k) m a i h = absurd (no k a)

      log_fails : (t : Ended (List Float)) → Sized n t → Fails (numbers_of t) (logged t)
      log_fails (given e) m a i h =
          let x = walk_result (ax.project law e (num s)) in
          let q = strains_run e a in
          let c = by Took q a in
          let d = returned_done e x (p.outside e m i h (went_on e x c)) c in
          (subst (λ v. Done ax law (updated_of b st v) (numbers_of (exps_of (back e)))) (sym q) d.0, d.1)
      log_fails (refused k) m a i h = absurd (no k a)

  -- ---- the theorem: of the update by the law, where its parameters l are finite
  pub demand_over : (l : List Float) → (T (all_of finite l) → T (finite law.tensile_strength)) → (FairIn n law s → Strained ax law s)
      → AssumedIn ax law st (updated_of b st (update_by l)) → Demand3In ax law st (updated_of b st (update_by l))
  demand_over l strength strained g = record { holds = held; fails = failed }
    where
      ran : T (all_of finite l && inputs_finite b u vt st) × T (moduli_finite law) × (update_by l ≡ logged (logs_of (b.sigma st)))
      ran = runs l g.accepted

      f : T (finite law.tensile_strength)
      f = strength (and_l (all_of finite l) (inputs_finite b u vt st) ran.0)

      update : updated_of b st (update_by l) ≡ updated_of b st (logged (logs_of (b.sigma st)))
      update = ap (updated_of b st) ran.2

      took : Took (logged (logs_of (b.sigma st)))
      took = by (λ v. Accepted (b.outcome_in v)) update g.accepted

      strains : Each Strain (log_strains_in ax st)
      strains = strained_of (b.sigma st) g.sigma g.strains

      sized : Sized n (logs_of (b.sigma st))
      sized = logs_sized (b.sigma st) n g.axes

      held : T (first_test_in ax law (log_strains_in ax st) (softened_in ax law st)) → InsideIn ax law st (updated_of b st (update_by l))
      held h =
          let k = log_holds f (strained g.fair) (logs_of (b.sigma st)) sized took strains h in
          record { untouched = update ∙ k.0; below = k.1 }

      failed : T (not (first_test_in ax law (log_strains_in ax st) (softened_in ax law st))) → ReturnedIn ax law st (updated_of b st (update_by l))
      failed h =
          let k = log_fails f (strained g.fair) (logs_of (b.sigma st)) sized took strains h in
          let d = k.0 in
          let shape : b.sigma (ax.body.state_in (updated_of b st (update_by l))) ≡ numbers_of (exps_of (projected_in ax law st)) = ap (λ v. b.sigma (ax.body.state_in v)) update ∙ d.shape in
          record {
            hardening = d.hardening;
            stored = ap (λ v. b.outcome_in v) update ∙ d.stored;
            written = ap (λ v. (b.scalars (ax.body.state_in v)).plastic_hardening) update ∙ d.written;
            capped = d.capped.0;
            f64 = d.capped.1;
            sigma = shape;
            axes = d.axes;
            on_surface = k.1.on_surface;
            archive = subst (ArchivedIn n law (softened_in ax law st)) (sym shape) (archive g.fair (projected_in ax law st) k.1);
          }

-- ---- the moduli that `new` makes are f64
fine : (x : Float) → T (finite x) → T (fits binary64 x) → Fin64 x
fine x f t = (rw (finite_is x) at f, t)

fair_by : {d : ℕ} (a : RankineArguments) (s : Float) → T (moduli_finite (law_of a)) → Fin64 s → RangesIn d (law_of a) s → FairIn d (law_of a) s
unfolding lambda_of shear_modulus_of
fair_by a s m f r =
    let law = law_of a in
    record {
      mu_fine = fine law.mu (and_r (finite law.lambda) (finite law.mu) m) (div-fits binary64 _ _);
      la_fine = fine law.lambda (and_l (finite law.lambda) (finite law.mu) m) (div-fits binary64 _ _);
      s_fine = f;
      ranges = r;
    }

-- of the update by the law that `new` makes of the arguments a
pub demand_by : {S R : Type 0} (ax : Axes S R) (a : RankineArguments) (u vt : List (List Float)) (st : S)
    → let v = updated_of ax.body st (update_by ax (law_of a) u vt st (arguments_floats a)) in
    (FairIn ax.count (law_of a) (softened_in ax (law_of a) st) → Strained ax (law_of a) (softened_in ax (law_of a) st)) → AssumedByIn ax a st v → Demand3In ax (law_of a) st v
demand_by ax a u vt st strained g =
    let s = softened_in ax (law_of a) st in
    let ran = runs ax (law_of a) u vt st (arguments_floats a) g.accepted in
    let fair = fair_by a s ran.1 (fine s g.s_finite (sub-fits binary64 _ _)) g.ranges in
    demand_over ax (law_of a) u vt st (arguments_floats a)
    (λ h. and_r (elastic_finite a) (finite a.tensile_strength) (and_l (elastic_finite a && finite a.tensile_strength) (finite a.softening_rate) h))
    strained (record { accepted = g.accepted; fair = fair; axes = g.axes; sigma = g.sigma; strains = g.strains })
