-- Demand 3 over the flat update: what is accepted is untouched inside the surface, or stored upon it
use mathlib.Core.Path.{◌≡◌, refl, sym, subst}
use mathlib.Core.List.{List}
use mathlib.Core.Bool.{not}
use lib.Dec.{T}
use lib.ListN.{length, get_or}
use lib.Ieee.{Float, nan}
use Rattle.walk.specs.Expr.{num}
use Rattle.walk.specs.Walk.{walk_result}
use Rattle.plasticity_rankine.specs.declared.RankineArguments.{RankineArguments}
use Rattle.plasticity_rankine.specs.declared.RankinePlasticity.{RankinePlasticity}
use Rattle.plasticity_rankine.specs.Over as over
use Rattle.rankine_surface.specs.Axes.{Each}
use Rattle.rankine_surface.specs.Surface.{demanded, BelowIn, FairIn, Strain}
use Rattle.rankine_surface.proofs.Indexed.{Given, ReturnsIn}
use Rattle.rankine_surface.proofs.Over.{Stays, Strained, demand_by}
use Rattle.rankine_surface.proofs.Hardening.{by}
use Rattle.rankine_surface.proofs.Left.{archives}
use Rattle.flat.specs.declared.State.{State}
use Rattle.flat.proofs.Axes.{pair_entries}
use Rattle.flat_rankine.specs.Projection.{pair, project_walk}
use Rattle.flat_surface.specs.Surface.{two_axes, first_test, Assumed, Demand3, Archives}
use Rattle.flat_surface.proofs.Indexed.{inside, outside, same}

-- two axes
of_pair : (P : List Float → Type 0) → ((x y : Float) → P (pair x y)) → (e : List Float) → length e ≡ 2 → P e
of_pair P k e h = subst P (pair_entries nan e h) (k (get_or e 0 nan) (get_or e 1 nan))

strained_two : {law : RankinePlasticity} {s : Float} → FairIn 2 law s → Strained two_axes law s
strained_two {law} {s} g =
    record {
      worth = λ q. refl;
      inside = λ e m. of_pair (λ l. Each Strain l → T (first_test law l s) → Each (BelowIn 2 demanded law s l) l) (λ x y i h. inside g x y i h) e m;
      same = λ e m. of_pair (λ l. T (first_test law l s) → Given (walk_result (project_walk law l (num s))) → Stays (walk_result (project_walk law l (num s)))) (λ x y h k. by Stays (sym (same law s x y h k)) tt) e m;
      outside = λ e m. of_pair (λ l. Each Strain l → T (not (first_test law l s)) → Given (walk_result (project_walk law l (num s))) → ReturnsIn 2 law s (walk_result (project_walk law l (num s)))) (λ x y i h k. outside g x y i h k) e m;
    }

pub demand_3 : {a : RankineArguments} (u vt : List (List Float)) {st : State} → Assumed a u vt st → Demand3 a u vt st
unfolding over.arguments_walk
demand_3 {a} u vt {st} g = demand_by two_axes a u vt st strained_two g

pub update_archived : {a : RankineArguments} (u vt : List (List Float)) {st : State} → Assumed a u vt st → Archives a u vt st
update_archived u vt g = archives two_axes (demand_3 u vt g)
