-- The inputs are tested once, before the steps: no step of a law tests inputs. Assumes nothing.
use mathlib.Core.List.{List, [], ◌∷◌}
use lib.Ieee.{Float}
use Rattle.tensor.specs.declared.Rows.{Rows}
use Rattle.plasticity.specs.declared.State.{State}
use Rattle.walk.specs.Expr.{Expr, num, value, values}
use Rattle.walk.specs.Walk.{Walk, end, ◌then◌}
pub use Rattle.walk.proofs.Inner.{Inner, inner_then, inner_asks, inner_mosts, inner_leasts, inner_when}
use Rattle.plasticity_snow.specs.declared.SnowPlasticity.{SnowPlasticity}
use Rattle.plasticity_snow.specs.Over as snow
use Rattle.plasticity_rankine.specs.declared.RankinePlasticity.{RankinePlasticity}
use Rattle.plasticity_rankine.specs.Projection as rankine_projection
use Rattle.plasticity_rankine.specs.Rankine as rankine
use Rattle.plasticity_drucker_prager.specs.declared.DruckerPragerPlasticity.{DruckerPragerPlasticity}
use Rattle.plasticity_drucker_prager.specs.Alpha as drucker_alpha
use Rattle.plasticity_drucker_prager.specs.Projection as drucker_projection
use Rattle.plasticity_drucker_prager.specs.DruckerPrager as drucker_prager
use Rattle.plasticity_nacc.specs.declared.NaccPlasticity.{NaccPlasticity}
use Rattle.plasticity_nacc.specs.declared.Trial.{Trial}
use Rattle.plasticity_nacc.specs.Axes.{Axes, two_axes, three_axes, dim_of}
use Rattle.plasticity_nacc.specs.Projection as nacc
use Rattle.plasticity_nacc.specs.Over as nacc_over
use Rattle.plasticity_rankine.specs.Over as rankine_over
use Rattle.plasticity_drucker_prager.specs.Over as drucker_over
use Rattle.walk.specs.Body as body
use Rattle.walk.specs.Update.{in_three}
use Rattle.elasticity_corotated_linear.specs.declared.CorotatedLinearElasticity.{CorotatedLinearElasticity}
use Rattle.elasticity_corotated_linear.specs.Principal.{principal_walk}
use Rattle.model.specs.declared.Model.{Model}
use Rattle.model.specs.declared.Model.TheVariants.{Snow, Rankine, DruckerPrager, Nacc}
use Rattle.refusals.specs.Refusals.{steps_of}

module _ {A : Type 0} where
  inner_clamps : (p : SnowPlasticity) (l : List Float) (k : List Float → Walk A) → ((vs : List Float) → Inner (k vs)) → Inner (snow.clamps p l k)
  inner_clamps p [] k h = h []
  inner_clamps p (x ∷ l) k h = λ y z. inner_clamps p l (λ vs. k (value z ∷ vs)) (λ vs. h (value z ∷ vs))

module _ (u vt : List (List Float)) (s : State) where
  -- ---- Snow
  harden : (p : SnowPlasticity) (new : List Float) → Inner (snow.harden_walk in_three p new u vt s)
  unfolding snow.harden_walk body.store_walk
  harden p new = λ h. tt

  snow_inner : (p : SnowPlasticity) → Inner (snow.run_walk in_three p u vt s)
  unfolding snow.run_walk
  snow_inner p = inner_clamps p s.sigma (λ new. snow.harden_walk in_three p new u vt s) (harden p)

  -- ---- Rankine
  rankine_moved : (p : RankinePlasticity) (old : List Float) (new : List Expr) → Inner (rankine.moved_walk p old new u vt s)
  unfolding rankine_over.moved_walk rankine_over.harden_walk rankine_over.exps_walk body.store_walk
  rankine_moved p old new = λ norm l h. inner_asks 9 _ (values new) _ (λ sigma. tt)

  rankine_way : (p : RankinePlasticity) (w : rankine_projection.Way) (old : List Float) (new : List Expr) → Inner (rankine.way_walk p w old new u vt s)
  unfolding rankine_over.way_walk
  rankine_way p (rankine_projection.none_moves x y) old new = tt
  rankine_way p (rankine_projection.one_moves x y) old new = rankine_moved p old new
  rankine_way p (rankine_projection.two_move x y) old new = rankine_moved p old new
  rankine_way p (rankine_projection.all_move x y) old new = rankine_moved p old new

pub rankine_project : (p : RankinePlasticity) (e : List Float) (soft : Expr) → Inner (rankine_projection.project_walk p e soft)
unfolding rankine_projection.first_walk rankine_projection.second_walk rankine_projection.third_walk
rankine_project p e soft = (tt, (tt, (tt, tt)))

module _ (u vt : List (List Float)) (s : State) where
  rankine_strained : (p : RankinePlasticity) (e : List Float) → Inner (rankine.strained_walk p e u vt s)
  unfolding rankine_over.strained_walk
  rankine_strained p e = λ l. inner_then (rankine_projection.project_walk p e _) _ (rankine_project p e _) (λ q. rankine_way u vt s p q.way e q.strains)

  pub rankine_inner : (p : RankinePlasticity) → Inner (rankine.run_walk p s.sigma u vt s)
  unfolding rankine_over.run_walk
  rankine_inner p = inner_asks 2 _ s.sigma _ (rankine_strained p)

-- ---- Drucker-Prager
module _ (p : DruckerPragerPlasticity) where
  pub alpha_inner : (q : Float) → Inner (drucker_alpha.alpha_walk p q)
  unfolding drucker_alpha.alpha_walk
  alpha_inner q = λ a b c l. tt

  tip : (w : drucker_projection.Way) (e : List Float) → Inner (drucker_projection.tip_walk w e)
  unfolding drucker_projection.tip_walk
  tip w e = λ n. tt

  surface : (g norm : Expr) (b : List Float) → Inner (drucker_projection.surface_walk g norm b)
  unfolding drucker_projection.surface_walk
  surface g norm b = inner_asks 15 _ b _ (λ sigma. tt)

  module _ (dim : Expr) (sigma : List Float) (alpha : Float) where
    yields : (e d : List Float) (trace : Expr) → Inner (drucker_projection.yield_walk dim p sigma e d trace alpha)
    unfolding drucker_projection.yield_walk
    yields e d trace = λ norm l. (tt, λ b. surface (num _) norm b)

    strained : (e : List Float) → Inner (drucker_projection.strained_walk dim p sigma e alpha)
    unfolding drucker_projection.strained_walk
    strained e = λ l d. (tip _ e, (tip _ e, yields e d _))

    pub drucker_project : (gain : Float) → Inner (drucker_projection.project_walk dim p sigma gain alpha)
    unfolding drucker_projection.project_walk
    drucker_project gain = inner_asks 6 _ sigma _ (λ logs e. strained e)

  module _ (u vt : List (List Float)) (s : State) where
    drucker_moved : (sigma : List Float) (dq : Float) → Inner (drucker_prager.moved_walk p sigma dq u vt s)
    unfolding drucker_over.moved_walk body.store_walk
    drucker_moved sigma dq = λ a b c x y. tt

    drucker_way : (w : drucker_projection.Way) (sigma : List Float) (dq : Float) → Inner (drucker_prager.way_walk p w sigma dq u vt s)
    unfolding drucker_over.way_walk
    drucker_way (drucker_projection.isotropic x) sigma dq = drucker_moved sigma dq
    drucker_way (drucker_projection.expanding x) sigma dq = drucker_moved sigma dq
    drucker_way (drucker_projection.inside x) sigma dq = tt
    drucker_way (drucker_projection.surface x norm) sigma dq = drucker_moved sigma dq

    drucker_inner : Inner (drucker_prager.run_walk p u vt s)
    unfolding drucker_over.run_walk
    drucker_inner =
        let q = s.scalars.plastic_hardening in (
          tt,
          inner_then (drucker_alpha.alpha_walk p q) _ (alpha_inner q) (λ alpha.
              inner_then (drucker_projection.project_walk drucker_alpha.dim p s.sigma s.scalars.log_gain alpha) _ (drucker_project drucker_alpha.dim s.sigma alpha s.scalars.log_gain) (λ x.
              drucker_way x.way x.sigma x.dq)),
        )

-- ---- NACC
module _ (p : NaccPlasticity) where
  nacc_tip : (axes : Axes) (x : Expr) (j alpha : Float) → Inner (nacc.tip_walk axes p x j alpha)
  unfolding nacc.tip_walk nacc.raise_walk
  nacc_tip two_axes x j alpha = λ w e. (λ l. tt, tt)
  nacc_tip three_axes x j alpha = λ e. (λ l. tt, tt)

  grow : (x : Expr) (j alpha : Float) → Inner (nacc.grow_walk p x j alpha)
  unfolding nacc.grow_walk
  grow x j alpha = λ a b c. (λ l. tt, tt)

  cross : (t : Trial) (c : Expr) (d0 d1 alpha : Float) → Inner (nacc.cross_walk p t c d0 d1 alpha)
  unfolding nacc.cross_walk
  cross t c d0 d1 alpha = λ r l. (grow _ t.j alpha, grow _ t.j alpha)

  module _ (d : Expr) (t : Trial) (alpha : Float) where
    hardens : Inner (nacc.harden_walk d p t alpha)
    unfolding nacc.harden_walk
    hardens = λ l a b n d. cross t _ _ _ alpha

    hardened : Inner (nacc.hardened_walk d p t alpha)
    unfolding nacc.hardened_walk
    hardened = inner_when 13 (nacc.conditions p t) (nacc.harden_walk d p t alpha) (end alpha) hardens tt

  lands : (axes : Axes) (t : Trial) (s : List Float) (alpha : Float) → Inner (nacc.land_walk axes p t s alpha)
  unfolding nacc.land_walk nacc.roots_walk
  lands two_axes t s alpha = λ r w k norm e. inner_asks 29 _ e _ (λ sigma. tt)
  lands three_axes t s alpha = λ r w k norm e. inner_asks 29 _ e _ (λ sigma. tt)

  surfaces : (axes : Axes) (t : Trial) (s : List Float) (alpha : Float) → Inner (nacc.surface_walk axes p t s alpha)
  unfolding nacc.surface_walk
  surfaces axes t s alpha = inner_then (nacc.hardened_walk (dim_of axes) p t alpha) _ (hardened (dim_of axes) t alpha) (λ a. lands axes t s a)

  ended : (w : nacc.Way) (x : Walk nacc.Shape) → Inner x → Inner (x then nacc.ends w)
  ended w x h = inner_then x (nacc.ends w) h (λ q. tt)

  module _ (axes : Axes) (t : Trial) (s sigma : List Float) (alpha : Float) where
    nacc_yields : Inner (nacc.yield_walk axes p t s sigma alpha)
    unfolding nacc.yield_walk
    nacc_yields = λ l. (tt, ended _ (nacc.surface_walk axes p t s alpha) (surfaces axes t s alpha))

    lower : Inner (nacc.lower_walk axes p t s sigma alpha)
    unfolding nacc.lower_walk
    lower = λ l. (λ x. ended _ (nacc.tip_walk axes p x t.j alpha) (nacc_tip axes x t.j alpha), nacc_yields)

    branches : Inner (nacc.branch_walk axes p t s sigma alpha)
    unfolding nacc.branch_walk
    branches = (λ x. ended _ (nacc.tip_walk axes p x t.j alpha) (nacc_tip axes x t.j alpha), lower)

  pub nacc_steps : (axes : Axes) (sigma : List Float) (alpha : Float) → Inner (nacc.steps_walk axes p sigma alpha)
  unfolding nacc.steps_walk nacc.press_walk
  nacc_steps two_axes sigma alpha = λ m x l w k. branches two_axes _ _ sigma alpha
  nacc_steps three_axes sigma alpha = λ m x l w k. branches three_axes _ _ sigma alpha

  by_way_lem : {A : Type 0} (w : nacc.Way) (x y : Walk A) → Inner x → Inner y → Inner (nacc.by_way w x y)
  by_way_lem (nacc.upper p q) x y h i = i
  by_way_lem (nacc.lower p q) x y h i = i
  by_way_lem (nacc.inside p q) x y h i = h
  by_way_lem (nacc.surface p q) x y h i = i

  nacc_recomposes : (w : nacc.Way) (q : nacc.Shape) (f : Rows) (u vt : List (List Float)) → Inner (nacc.way_walk w q f u vt)
  unfolding nacc.way_walk nacc.recomposed_walk
  nacc_recomposes w q f u vt = by_way_lem w (end (record { way = w; f = f; shape = q })) (nacc.recomposed_walk w u q vt) tt tt

  nacc_stores : (w : nacc.Way) (q : nacc.Shape) (u vt : List (List Float)) (s : State) → Inner (nacc_over.way_walk in_three w q u vt s)
  unfolding nacc_over.way_walk nacc_over.stored_walk body.store_walk
  nacc_stores w q u vt s = by_way_lem w (end body.untouched) (nacc_over.stored_walk in_three q u vt s) tt tt

  pub nacc_project : (f : Rows) (u : List (List Float)) (sigma : List Float) (vt : List (List Float)) (alpha : Float) → Inner (nacc.project_walk p f u sigma vt alpha)
  unfolding nacc.project_walk
  nacc_project f u sigma vt alpha = inner_then (nacc.steps_walk three_axes p sigma alpha) _ (nacc_steps three_axes sigma alpha) (λ q. nacc_recomposes q.way q.shape f u vt)

  pub nacc_inner : (u vt : List (List Float)) (s : State) → Inner (nacc_over.run_walk in_three three_axes p u vt s)
  unfolding nacc_over.run_walk
  nacc_inner u vt s =
      inner_then (nacc.steps_walk three_axes p s.sigma s.scalars.alpha) _ (nacc_steps three_axes s.sigma s.scalars.alpha) (λ q. nacc_stores q.way q.shape u vt s)

-- ---- the principal stresses
pub principal_inner : (p : CorotatedLinearElasticity) (phase h : Float) (s : List Float) → Inner (principal_walk p phase h s)
unfolding principal_walk
principal_inner p phase h s = λ j e. (tt, inner_mosts 4 e _ _ (λ pos. inner_leasts 5 e _ _ (λ neg. (tt, tt))))

-- ---- the four models
pub steps_inner : (m : Model) (u vt : List (List Float)) (s : State) → Inner (steps_of m u vt s)
steps_inner (Snow p) u vt s = snow_inner u vt s p
steps_inner (Rankine a) u vt s = rankine_inner u vt s _
steps_inner (DruckerPrager p) u vt s = drucker_inner p u vt s
steps_inner (Nacc a) u vt s = nacc_inner _ u vt s
