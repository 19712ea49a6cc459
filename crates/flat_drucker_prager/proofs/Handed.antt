-- The projection as a call by itself, as the code hands it on: dq is 0 where the walk ends inside, so that what is untouched is finite where sigma is.
use mathlib.Core.Bool.{Bool, true, false, cond, ◌&&◌}
use mathlib.Core.List.{List}
use mathlib.Core.Path.{◌≡◌, refl, ap, ◌∙◌}
use lib.Ieee.{Float, of_bits}
use Rattle.numbers.specs.Floats.{finite}
use Rattle.tensor.specs.Matrix.{zero}
use Rattle.tensor.specs.Finite.{row_finite}
use Rattle.walk.specs.Expr.{Expr, value}
use Rattle.walk.specs.Walk as walk
use Rattle.walk.specs.Walk.{ln, exp, ◌then◌, Ended, given, refused, walk_result}
use Rattle.walk.specs.Exact.{and_then}
use Rattle.walk.proofs.Exact.{result_then}
use Rattle.walk.proofs.Ends.{Ends, Given, ends_given, ends_asks}
use Rattle.walk.specs.Matrix.{values_nums}
use Rattle.plasticity_drucker_prager.specs.declared.DruckerPragerPlasticity.{DruckerPragerPlasticity}
use Rattle.plasticity_drucker_prager.specs.Projection.{Way, isotropic, expanding, inside, surface, Returned, strain, tip_walk, surface_walk, yield_walk, strained_walk, project_walk, returned_walk}
use Rattle.plasticity_drucker_prager.specs.Over.{outcome_of}
use Rattle.flat_drucker_prager.specs.DruckerPrager.{dim, projected_of, refused_projection}
use Rattle.flat_drucker_prager.specs.Project.{returned_of}

-- ---- dq where the walk ends
abbrev Amount : Way → Float → Type 0
Amount (isotropic d) dq = Unit {0}
Amount (expanding x) dq = Unit {0}
Amount (inside x) dq = dq ≡ zero
Amount (surface x norm) dq = Unit {0}

abbrev Fair : Returned → Type 0
Fair q = Amount q.way q.dq

surface_ends : (g norm : Expr) (b : List Float) → Ends Fair (surface_walk g norm b)
unfolding surface_walk
surface_ends g norm b = ends_asks Fair 15 exp b (λ s. walk.end (record { way = surface (value g) (value norm); sigma = s; dq = value g })) (λ v. tt)

isotropic_ends : (d e : List Float) → Ends Fair (tip_walk (isotropic d) e)
unfolding tip_walk
isotropic_ends d e = λ norm. tt

expanding_ends : (x : Float) (e : List Float) → Ends Fair (tip_walk (expanding x) e)
unfolding tip_walk
expanding_ends x e = λ norm. tt

module _ (p : DruckerPragerPlasticity) (sigma : List Float) (alpha : Float) where
  yield_ends : (e d : List Float) (trace : Expr) → Ends Fair (yield_walk dim p sigma e d trace alpha)
  unfolding yield_walk
  yield_ends e d trace = λ norm l. (refl, λ b. surface_ends _ _ b)

  strained_ends : (e : List Float) → Ends Fair (strained_walk dim p sigma e alpha)
  unfolding strained_walk
  strained_ends e = λ l d. (isotropic_ends d e, (expanding_ends _ e, yield_ends e d _))

  project_ends : (gain : Float) → Ends Fair (project_walk dim p sigma gain alpha)
  unfolding project_walk
  project_ends gain = ends_asks Fair 6 ln sigma (λ logs. walk.works 7 (strain dim logs gain) (λ e. strained_walk dim p sigma e alpha)) (λ logs e. strained_ends e)

-- ---- it is returned
zero_finite : (b : Bool) → b && finite zero ≡ b
unfolding finite of_bits
zero_finite true = refl
zero_finite false = refl

handed : (b : Bool) (q : Returned) → projected_of (cond b (given q) (refused 3)) ≡ cond b (record { outcome = outcome_of q.way q.dq; sigma = q.sigma }) (refused_projection 3)
handed true q = refl
handed false q = refl

by_way_lem : (w : Way) (sigma : List Float) (dq : Float) → Amount w dq
    → cond (row_finite sigma && finite dq) (record { outcome = outcome_of w dq; sigma = sigma }) (refused_projection 3) ≡ returned_of (outcome_of w dq) sigma
by_way_lem (isotropic d) sigma dq h = refl
by_way_lem (expanding x) sigma dq h = refl
by_way_lem (inside x) sigma dq h = rw (h, zero_finite (row_finite sigma)) refl
by_way_lem (surface x norm) sigma dq h = refl

returns : (x : Ended Returned) → Given Fair x → projected_of (and_then x (λ q. walk_result (returned_walk q))) ≡ returned_of (projected_of x).outcome (projected_of x).sigma
unfolding returned_walk
returns (given q) h = simp values_nums (handed (row_finite q.sigma && finite q.dq) q ∙ by_way_lem q.way q.sigma q.dq h)
returns (refused n) h = refl

pub returned_law : (p : DruckerPragerPlasticity) (sigma : List Float) (gain alpha : Float) → let w = project_walk dim p sigma gain alpha in
    projected_of (walk_result (w then returned_walk)) ≡ returned_of (projected_of (walk_result w)).outcome (projected_of (walk_result w)).sigma
returned_law p sigma gain alpha =
    let w = project_walk dim p sigma gain alpha in
    ap projected_of (result_then w returned_walk) ∙ returns (walk_result w) (ends_given Fair w (project_ends p sigma alpha gain))
