-- What a law stores is finite: its walk ends in a test of the results, and the scalars that it leaves are those of a finite state. Assumes nothing.
use mathlib.Core.Path.{◌≡◌, refl, sym, subst}
use mathlib.Core.Bool.{Bool, true, false, ◌&&◌, true≢false}
use mathlib.Core.List.{List, [], ◌∷◌, ◌++◌, map}
use Prim.Native.Nat.{ℕ}
use native.Mathlib.Omega.{arith}
use lib.ListN.{get_or}
use lib.Ieee as Ieee
use lib.Ieee.{Float, nan, inf, fin}
use Rattle.numbers.specs.Floats.{finite}
use Rattle.numbers.proofs.Laws.{and_both}
use Rattle.tensor.specs.Axes.{all_of}
use Rattle.tensor.specs.Matrix.{add, recompose_of}
use Rattle.tensor.specs.Finite.{row_finite, mat_finite}
use Rattle.plasticity.specs.State.{scalars_finite, state_finite, inputs_finite}
use Rattle.plasticity.specs.declared.Outcome.TheVariants.{Stored}
use Rattle.plasticity.specs.declared.Scalars.{Scalars}
use Rattle.plasticity.specs.declared.State.{State}
use Rattle.plasticity.proofs.Parts.{state_parts, Scalars_finite, scalars_parts}
use Rattle.walk.specs.Expr.{Expr, num, ◌+ᵉ◌, value, values, nums}
use Rattle.walk.specs.Matrix.{product, value_entry, values_nums}
use Rattle.walk.specs.Walk.{Walk, exp, ln, ◌then◌, Ended, given, refused, walk_result}
use Rattle.walk.specs.Update.{in_three, Change, untouched, stored, updated_of, recomposed}
use Rattle.plasticity_snow.specs.declared.SnowPlasticity.{SnowPlasticity}
use Rattle.plasticity_snow.specs.Over as snow
use Rattle.plasticity_rankine.specs.declared.RankinePlasticity.{RankinePlasticity}
use Rattle.plasticity_rankine.specs.Projection as rankine_projection
use Rattle.plasticity_rankine.specs.Rankine as rankine
use Rattle.plasticity_drucker_prager.specs.declared.DruckerPragerPlasticity.{DruckerPragerPlasticity}
use Rattle.plasticity_drucker_prager.specs.Alpha.{dim, alpha_walk}
use Rattle.plasticity_drucker_prager.specs.Projection as drucker_projection
use Rattle.plasticity_drucker_prager.specs.DruckerPrager as drucker_prager
use Rattle.plasticity_nacc.specs.declared.NaccPlasticity.{NaccPlasticity}
use Rattle.plasticity_nacc.specs.Axes.{three_axes}
use Rattle.plasticity_nacc.specs.Projection as nacc
use Rattle.plasticity_nacc.specs.Over as nacc_over
use Rattle.plasticity_rankine.specs.Over as rankine_over
use Rattle.plasticity_drucker_prager.specs.Over as drucker_over
use Rattle.walk.specs.Body as body
use Rattle.model.specs.declared.Ready.{Ready}
use Rattle.model.specs.declared.Ready.TheVariants.{Snow, Rankine, DruckerPrager, Nacc, Refused}
use Rattle.model.specs.Ready.{ready_update}
use Rattle.walk.proofs.Ends.{Ends, Given, ends_given, ends_asks, ends_then, ends_after}

-- a new state is finite, and so is the amount
abbrev Finite : Change → Type 0
Finite untouched = Unit {0}
Finite (stored new amount) = (state_finite new ≡ true) × (finite amount ≡ true)

-- ---- the results as a law's last step tests them: F, sigma, and the scalars that are new
results_parts : (u : List (List Float)) (sigma : List Float) (vt : List (List Float)) (e : List Expr)
    → all_of (all_of finite) (map values (recomposed u sigma vt ++ nums sigma ∷ e ∷ [])) ≡ true
    → (mat_finite (recompose_of u sigma vt) ≡ true) × (row_finite sigma ≡ true) × (row_finite (values e) ≡ true)
results_parts u sigma vt e t =
    let f = mat_finite (recompose_of u sigma vt) in
    let q : (f && row_finite sigma) && row_finite (values e) ≡ true = simp (value_entry, values_nums) at t in
    let a = and_both (f && row_finite sigma) (row_finite (values e)) q in
    let b = and_both f (row_finite sigma) a.0 in
    (b.0, b.1, a.1)

-- ---- the scalars of a finite state
scalars_whole : (x : Scalars) → Scalars_finite x → scalars_finite x ≡ true
scalars_whole x q = rw (q.phase, q.determinant, q.hardening, q.elastic, q.gain, q.alpha) refl

three_whole : (f g x : Bool) → f ≡ true → g ≡ true → x ≡ true → f && g && x ≡ true
three_whole f g x a b c = rw (a, b, c) refl

-- ---- a finite sum has a finite second term
add_finite : (x y : Float) → finite (add x y) ≡ true → finite y ≡ true
unfolding finite Ieee.add
add_finite nan y h = absurd (true≢false (sym h))
add_finite (inf s) nan h = h
add_finite (inf true) (inf true) h = h
add_finite (inf true) (inf false) h = h
add_finite (inf false) (inf true) h = h
add_finite (inf false) (inf false) h = h
add_finite (inf s) (fin t n d) h = refl
add_finite (fin s m e) nan h = h
add_finite (fin s m e) (inf t) h = h
add_finite (fin s m e) (fin t n d) h = refl

module _ (u vt : List (List Float)) (s : State) (q : state_finite s ≡ true) where
  abbrev old : Scalars_finite s.scalars
  old = scalars_parts s.scalars (state_parts s q).2

  -- ---- Snow
  snow_store : (sigma : List Float) (d h : Expr) → Ends Finite (body.store_walk in_three 4 u sigma vt (d ∷ h ∷ []) (snow.scalars_of (value d) (value h) s.scalars) (value h))
  unfolding body.store_walk
  snow_store sigma d h =
      λ t. let r = results_parts u sigma vt (d ∷ h ∷ []) t in
      let new = and_both (finite (value d)) (finite (value h)) r.2 in
      let x = snow.scalars_of (value d) (value h) s.scalars in
      let scalars = scalars_whole x (record { phase = old.phase; determinant = new.0; hardening = old.hardening; elastic = new.1; gain = old.gain; alpha = old.alpha }) in
      (three_whole (mat_finite (recompose_of u sigma vt)) (row_finite sigma) (scalars_finite x) r.0 r.1 scalars, new.1)

  snow_clamps : (p : SnowPlasticity) (l : List Float) (k : List Float → Walk Change) → ((vs : List Float) → Ends Finite (k vs)) → Ends Finite (snow.clamps p l k)
  snow_clamps p [] k h = h []
  snow_clamps p (x ∷ l) k h = λ y z. snow_clamps p l (λ vs. k (value z ∷ vs)) (λ vs. h (value z ∷ vs))

  snow_ends : (p : SnowPlasticity) → Ends Finite (snow.snow_walk in_three p u vt s)
  unfolding snow.snow_walk snow.run_walk snow.harden_walk
  snow_ends p =
      snow_clamps p s.sigma (λ new. snow.harden_walk in_three p new u vt s)
      (λ new h. snow_store new (snow.determinant s.scalars.plastic_determinant s.sigma new) h)

  -- ---- Rankine
  rankine_store : (sigma : List Float) (h : Expr) → Ends Finite (rankine.store_walk u sigma vt h s)
  unfolding body.store_walk
  rankine_store sigma h =
      λ t. let r = results_parts u sigma vt (h ∷ []) t in
      let x = (rankine.state_of (recompose_of u sigma vt) sigma (value h) s).scalars in
      let scalars = scalars_whole x (record { phase = old.phase; determinant = old.determinant; hardening = r.2; elastic = old.elastic; gain = old.gain; alpha = old.alpha }) in
      (three_whole (mat_finite (recompose_of u sigma vt)) (row_finite sigma) (scalars_finite x) r.0 r.1 scalars, r.2)

  rankine_moved : (p : RankinePlasticity) (e : List Float) (new : List Expr) → Ends Finite (rankine.moved_walk p e new u vt s)
  unfolding rankine_over.moved_walk rankine_over.harden_walk rankine_over.exps_walk
  rankine_moved p e new =
      λ norm grown h. ends_asks Finite 9 exp (values new) (λ sigma. rankine.store_walk u sigma vt h s) (λ sigma. rankine_store sigma h)

  rankine_way : (p : RankinePlasticity) (w : rankine_projection.Way) (e : List Float) (new : List Expr) → Ends Finite (rankine.way_walk p w e new u vt s)
  unfolding rankine_over.way_walk
  rankine_way p (rankine_projection.none_moves x y) e new = tt
  rankine_way p (rankine_projection.one_moves x y) e new = rankine_moved p e new
  rankine_way p (rankine_projection.two_move x y) e new = rankine_moved p e new
  rankine_way p (rankine_projection.all_move x y) e new = rankine_moved p e new

  rankine_strained : (p : RankinePlasticity) (e : List Float) → Ends Finite (rankine.strained_walk p e u vt s)
  unfolding rankine_over.strained_walk
  rankine_strained p e =
      λ l. ends_after Finite (λ m. rankine.way_walk p m.way e m.strains u vt s) (λ m. rankine_way p m.way e m.strains)
      (rankine_projection.project_walk p e (num (get_or l 0 (value (rankine.soft_strength p s.scalars.plastic_hardening)))))

  rankine_ends : (p : RankinePlasticity) → Ends Finite (rankine.rankine_walk p u vt s)
  unfolding rankine_over.rankine_walk rankine_over.run_walk
  rankine_ends p = λ t. ends_asks Finite 2 ln s.sigma (λ e. rankine.strained_walk p e u vt s) (λ e. rankine_strained p e)

  -- ---- Drucker-Prager: the amount is a term of the hardening
  drucker_store : (sigma : List Float) (d h gain : Expr) (x dq : Float) → h ≡ num x +ᵉ num dq → Ends Finite (drucker_prager.store_walk u sigma vt d h gain dq s)
  unfolding body.store_walk
  drucker_store sigma d h gain x dq e =
      λ t. let r = results_parts u sigma vt (d ∷ h ∷ gain ∷ []) t in
      let a = and_both (finite (value d) && finite (value h)) (finite (value gain)) r.2 in
      let b = and_both (finite (value d)) (finite (value h)) a.0 in
      let y = (drucker_prager.state_of (recompose_of u sigma vt) sigma (value d) (value h) (value gain) s).scalars in
      let scalars = scalars_whole y (record { phase = old.phase; determinant = b.0; hardening = b.1; elastic = old.elastic; gain = a.1; alpha = old.alpha }) in
      (three_whole (mat_finite (recompose_of u sigma vt)) (row_finite sigma) (scalars_finite y) r.0 r.1 scalars, add_finite x dq (rw e at b.1))

  drucker_moved : (p : DruckerPragerPlasticity) (sigma : List Float) (dq : Float) → Ends Finite (drucker_prager.moved_walk p sigma dq u vt s)
  unfolding drucker_over.moved_walk
  drucker_moved p sigma dq =
      let x = s.scalars.plastic_hardening in
      ends_then (λ (m : drucker_prager.Measures). m.hardening ≡ num x +ᵉ num dq) Finite
      (λ m. drucker_prager.store_walk u sigma vt m.determinant m.hardening m.gain dq s)
      (λ m e. drucker_store sigma m.determinant m.hardening m.gain x dq e)
      (drucker_prager.measure_walk p (product s.sigma) (product sigma) dq s.scalars)
      (λ diff new d y z. refl)

  drucker_way : (p : DruckerPragerPlasticity) (w : drucker_projection.Way) (sigma : List Float) (dq : Float) → Ends Finite (drucker_prager.way_walk p w sigma dq u vt s)
  unfolding drucker_over.way_walk
  drucker_way p (drucker_projection.inside x) sigma dq = tt
  drucker_way p (drucker_projection.isotropic x) sigma dq = drucker_moved p sigma dq
  drucker_way p (drucker_projection.expanding x) sigma dq = drucker_moved p sigma dq
  drucker_way p (drucker_projection.surface x norm) sigma dq = drucker_moved p sigma dq

  drucker_ends : (p : DruckerPragerPlasticity) → Ends Finite (drucker_prager.drucker_walk p u vt s)
  unfolding drucker_over.drucker_walk drucker_over.run_walk
  drucker_ends p =
      let follows : drucker_projection.Returned → Walk Change = λ r. drucker_prager.way_walk p r.way r.sigma r.dq u vt s in
      let projects : Float → Walk drucker_projection.Returned = λ alpha. drucker_projection.project_walk dim p s.sigma s.scalars.log_gain alpha in (
        tt,
        ends_after Finite (λ alpha. projects alpha then follows)
            (λ alpha. ends_after Finite follows (λ r. drucker_way p r.way r.sigma r.dq) (projects alpha))
            (alpha_walk p s.scalars.plastic_hardening),
      )

  -- ---- NACC: inside the yield surface nothing is stored
  nacc_stored : (x : nacc.Shape) → Ends Finite (nacc_over.stored_walk in_three x u vt s)
  unfolding nacc_over.stored_walk body.store_walk
  nacc_stored x =
      λ t. let r = results_parts u x.sigma vt (num x.alpha ∷ []) t in
      let y = nacc_over.scalars_of x.alpha s.scalars in
      let scalars = scalars_whole y (record { phase = old.phase; determinant = old.determinant; hardening = old.hardening; elastic = old.elastic; gain = old.gain; alpha = r.2 }) in
      (three_whole (mat_finite (recompose_of u x.sigma vt)) (row_finite x.sigma) (scalars_finite y) r.0 r.1 scalars, r.2)

  nacc_way : (w : nacc.Way) (x : nacc.Shape) → Ends Finite (nacc_over.way_walk in_three w x u vt s)
  unfolding nacc_over.way_walk
  nacc_way (nacc.upper y z) x = nacc_stored x
  nacc_way (nacc.lower y z) x = nacc_stored x
  nacc_way (nacc.inside y z) x = tt
  nacc_way (nacc.surface y z) x = nacc_stored x

  nacc_ends : (p : NaccPlasticity) → Ends Finite (nacc_over.nacc_walk in_three three_axes p u vt s)
  unfolding nacc_over.nacc_walk nacc_over.run_walk
  nacc_ends p =
      λ t. ends_after Finite (λ x. nacc_over.way_walk in_three x.way x.shape u vt s) (λ x. nacc_way x.way x.shape) (nacc.steps_walk three_axes p s.sigma s.scalars.alpha)

given_finite : (s : State) (x : Ended Change) → Given Finite x → (a : Float) → (updated_of s x).outcome ≡ Stored a
    → (state_finite (updated_of s x).state ≡ true) × (finite a ≡ true)
given_finite s (given untouched) h a e = let z : ◌≡◌ {A = ℕ} 0 1 = cc in absurd (omega arith)
given_finite s (given (stored new b)) h a e = let same : b ≡ a = cc in (h.0, subst (λ x. finite x ≡ true) same h.1)
given_finite s (refused n) h a e = let z : ◌≡◌ {A = ℕ} 0 1 = cc in absurd (omega arith)

-- what an update of a finite record stores is finite, and so is the amount
module _ (u vt : List (List Float)) (s : State) (q : inputs_finite u vt s ≡ true) (a : Float) where
  state : state_finite s ≡ true
  state = (and_both (mat_finite u && mat_finite vt) (state_finite s) q).1

  walked : (w : Walk Change) → Ends Finite w → (updated_of s (walk_result w)).outcome ≡ Stored a
      → (state_finite (updated_of s (walk_result w)).state ≡ true) × (finite a ≡ true)
  walked w h = given_finite s (walk_result w) (ends_given Finite w h) a

  pub stored_finite : (m : Ready) → (ready_update m u vt s).outcome ≡ Stored a → (state_finite (ready_update m u vt s).state ≡ true) × (finite a ≡ true)
  stored_finite (Snow p) e = walked (snow.snow_walk in_three p u vt s) (snow_ends u vt s state p) e
  stored_finite (Rankine p) e = walked (rankine.rankine_walk p u vt s) (rankine_ends u vt s state p) e
  stored_finite (DruckerPrager p) e = walked (drucker_prager.drucker_walk p u vt s) (drucker_ends u vt s state p) e
  stored_finite (Nacc p) e = walked (nacc_over.nacc_walk in_three three_axes p u vt s) (nacc_ends u vt s state p) e
  stored_finite (Refused n) e = given_finite s (refused n) tt a e
