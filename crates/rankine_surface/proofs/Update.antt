-- Demand 3 over Rankine's update: what is accepted is untouched inside the surface, or stored upon it
use mathlib.Core.Path.{◌≡◌, refl, sym, ap, ◌∙◌, subst}
use mathlib.Core.List.{List}
use mathlib.Core.Bool.{Bool, true, false, not, cond, ◌&&◌}
use Prim.Native.Nat.{ℕ}
use lib.Dec.{T}
use lib.ListN.{length, get_or}
use lib.Ieee.{Float, nan}
use lib.Ieee.Fits.{and_l}
use Rattle.numbers.specs.Floats.{finite}
use Rattle.tensor.specs.Axes.{all_of}
use Rattle.tensor.proofs.Axes.{entries}
use Rattle.tensor.specs.Matrix.{three}
use Rattle.tensor.specs.Finite.{row_finite}
use Rattle.plasticity.specs.State as state
use Rattle.plasticity.specs.declared.State.{State}
use Rattle.plasticity.specs.declared.Updated.{Updated}
use Rattle.walk.specs.Expr.{num, values}
use Rattle.walk.specs.Walk.{◌then◌, Ended, given, refused, walk_result}
use Rattle.walk.specs.Exact.{and_then}
use Rattle.walk.proofs.Exact.{result_then}
use Rattle.walk.specs.Matrix.{values_nums}
use Rattle.plasticity_rankine.specs.declared.RankineArguments.{RankineArguments}
use Rattle.plasticity_rankine.specs.declared.RankinePlasticity.{RankinePlasticity}
use Rattle.plasticity_rankine.specs.Law.{law_of, parameters_of, elastic_finite, moduli_finite}
use Rattle.plasticity_rankine.specs.Projection.{Moved, project_walk, returned_walk, call_floats, call_over, project_call, strains_of, vector_of, project_of}
use Rattle.plasticity_rankine.specs.Over as over
use Rattle.plasticity_rankine.specs.Rankine.{rankine_update, arguments_update}
use Rattle.plasticity_rankine.proofs.Laws.{arguments_law}
use Rattle.plasticity_rankine.proofs.Reason.{vector_given}
use Rattle.rankine_surface.specs.Axes.{Each}
use Rattle.rankine_surface.specs.Surface.{Accepted, demanded, Below, Fair, Strain, Assumed, AssumedBy, first_test, OnSurface, three_axes, Demand3In, Demand3, Demand3By, Settled, Projects}
use Rattle.rankine_surface.proofs.Indexed.{Given, Returns, inside, outside, same}
use Rattle.rankine_surface.proofs.Hardening.{passed, by}
use Rattle.rankine_surface.proofs.Over.{Stays, Strained, demand_over, demand_by}

-- three axes
of_three : (P : List Float → Type 0) → ((x y z : Float) → P (three x y z)) → (e : List Float) → length e ≡ 3 → P e
of_three P f e h = subst P (entries nan e h) (f (get_or e 0 nan) (get_or e 1 nan) (get_or e 2 nan))

strained_three : {law : RankinePlasticity} {s : Float} → Fair law s → Strained three_axes law s
strained_three {law} {s} g =
    record {
      worth = λ q. refl;
      inside = λ e m. of_three (λ l. Each Strain l → T (first_test law l s) → Each (Below demanded law s l) l) (λ x y z i h. inside g x y z i h) e m;
      same = λ e m. of_three (λ l. T (first_test law l s) → Given (walk_result (project_walk law l (num s))) → Stays (walk_result (project_walk law l (num s)))) (λ x y z h k. by Stays (sym (same law s x y z h k)) tt) e m;
      outside = λ e m. of_three (λ l. Each Strain l → T (not (first_test law l s)) → Given (walk_result (project_walk law l (num s))) → Returns law s (walk_result (project_walk law l (num s)))) (λ x y z i h k. outside g x y z i h k) e m;
    }

-- ---- the theorem
pub demand_3 : {law : RankinePlasticity} (u vt : List (List Float)) {st : State} → Assumed law u vt st → Demand3 law u vt st
unfolding over.rankine_walk
demand_3 {law} u vt {st} g =
    demand_over three_axes law u vt st (parameters_of law) (λ h. and_l (finite law.tensile_strength) (finite law.softening_rate) h) strained_three g

-- the same of the law that `new` makes
pub arguments_3 : {a : RankineArguments} (u vt : List (List Float)) {st : State} → AssumedBy a u vt st → Demand3In three_axes (law_of a) st (arguments_update a u vt st)
unfolding over.arguments_walk
arguments_3 {a} u vt {st} g = demand_by three_axes a u vt st strained_three g

-- an accepted update by the arguments of `new` is the update by the law that they make
by_arguments : (a : RankineArguments) (u vt : List (List Float)) (st : State) → Accepted (arguments_update a u vt st).outcome
    → arguments_update a u vt st ≡ rankine_update (law_of a) u vt st
by_arguments a u vt st h =
    let F : Updated → Type 0 = λ v. Accepted v.outcome in
    let q = arguments_law a u vt st in
    q ∙ (passed F (elastic_finite a) (rankine_update (law_of a) u vt st) (state.refused 1 st) (λ x. x) (by F q h)).1

pub demand_3_by : {a : RankineArguments} (u vt : List (List Float)) {st : State} → AssumedBy a u vt st → Demand3By a u vt st
demand_3_by {a} u vt {st} g =
    let q = by_arguments a u vt st g.accepted in
    record { update = q; law = by (Demand3In three_axes (law_of a) st) q (arguments_3 u vt g) }

-- ---- the projection as a call by itself
abbrev Answered : Ended (List Float) → Type 0
Answered (given v) = Unit {0}
Answered (refused n) = ⊥

handed : (b : Bool) (v : List Float) → Answered (cond b (given v) (refused 3)) → (vector_of (cond b (given v) (refused 3))).vector ≡ v
handed true v h = refl
handed false v h = absurd h

abbrev returned : Ended Moved → Ended (List Float)
returned x = and_then x (λ q. walk_result (returned_walk q))

settled : (x : Ended Moved) → Answered (returned x) → Given x × ((vector_of (returned x)).vector ≡ strains_of x)
settled (given q) h = (tt, handed (row_finite (values q.strains)) (values q.strains) h)
settled (refused n) h = absurd h

upon : (law : RankinePlasticity) (s : Float) (x : Ended Moved) → Returns law s x → OnSurface demanded law s (strains_of x)
upon law s (given q) b = b.landed.on_surface
upon law s (refused n) b = absurd b

pub project_3 : {law : RankinePlasticity} {s : Float} → Fair law s → (x y z : Float) → Each Strain (three x y z)
    → Settled (project_of law (three x y z) s) → Projects law (three x y z) s
unfolding call_over
project_3 {law} {s} g x y z i h =
    let e = three x y z in
    let w = project_walk law e (num s) in
    let run = walk_result (w then returned_walk) in
    let h0 = by Answered (sym (vector_given (project_call law e s) h)) tt in
    let first = passed Answered (all_of finite (call_floats (parameters_of law) e s)) (cond (moduli_finite law) run (refused 3)) (refused 1) (λ q. q) h0 in
    let second = passed Answered (moduli_finite law) run (refused 3) (λ q. q) (by Answered first.1 h0) in
    let whole = first.1 ∙ second.1 ∙ result_then w returned_walk in
    let q = settled (walk_result w) (by Answered whole h0) in
    let is = ap (λ v. (vector_of v).vector) whole ∙ q.1 in
    record {
      holds = λ t. (is ∙ ap strains_of (same law s x y z t q.0) ∙ values_nums e, inside g x y z i t);
      fails = λ t. subst (OnSurface demanded law s) (sym is) (upon law s (walk_result w) (outside g x y z i t q.0));
    }
