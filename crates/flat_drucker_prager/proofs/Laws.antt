-- What is handed from one piece of the walk to the next, as the code hands it on.
use mathlib.Core.List.{List, [], ◌∷◌}
use mathlib.Core.Path.{◌≡◌, refl, ap, ◌∙◌}
use native.Mathlib.Omega.{arith}
use lib.ListN.{length}
use lib.Ieee.{Float, nan}
use Rattle.answers.specs.declared.Answer.{Answer}
use Rattle.answers.specs.declared.Answer.TheVariants as answers
use Rattle.tensor.specs.Matrix.{one}
use Rattle.physics.specs.Norm.{norm_of}
use Rattle.walk.specs.Expr.{num}
use Rattle.walk.specs.Walk.{Walk, exp, asks, end, ◌then◌, Ended, given, refused, answer_of, asked, walk_result}
use Rattle.walk.proofs.Matrix.{value_dot}
use Rattle.plasticity_drucker_prager.specs.declared.DruckerPragerPlasticity.{DruckerPragerPlasticity}
use Rattle.plasticity_drucker_prager.specs.Projection.{Way, isotropic, expanding, surface, Returned, tip_walk, surface_walk}
use Rattle.plasticity_drucker_prager.specs.Over.{outcome_of}
use Rattle.plasticity_drucker_prager.proofs.Laws.{by_end, over_then}
use Rattle.flat.specs.Update.{in_two, updated_of}
use Rattle.flat.specs.declared.State.{State}
use Rattle.flat_drucker_prager.specs.DruckerPrager.{way_walk, projected_of, tip_of, surfaced_of, followed_of}

-- the tip, once the norm is known
module _ (w : Way) (stores : (dq : Float) → outcome_of w dq ≡ outcome_of (expanding nan) dq) where
  tipped : (x y : Float) (a : Answer) → projected_of (asked a (λ v. given (record { way = w; sigma = one ∷ one ∷ []; dq = v }))) ≡ tip_of a
  tipped x y (answers.Value v) = ap (λ o. record { outcome = o; sigma = one ∷ one ∷ [] }) (stores v)
  tipped x y (answers.Refused n) = refl

  two_tip : (x y : Float) → projected_of (walk_result (tip_walk w (x ∷ y ∷ []))) ≡ tip_of (norm_of (x ∷ y ∷ []))
  unfolding tip_walk
  two_tip x y = rw (value_dot (x ∷ y ∷ []) (x ∷ y ∷ [])) (tipped x y (norm_of (x ∷ y ∷ [])))

  tip_over : (e : List Float) → length e ≡ 2 → projected_of (walk_result (tip_walk w e)) ≡ tip_of (norm_of e)
  tip_over [] h = absurd (omega arith)
  tip_over (x ∷ []) h = absurd (omega arith)
  tip_over (x ∷ y ∷ []) h = two_tip x y
  tip_over (x ∷ y ∷ z ∷ e) h = absurd (omega arith)

pub isotropic_tip : (e : List Float) → length e ≡ 2 → (d : List Float) → projected_of (walk_result (tip_walk (isotropic d) e)) ≡ tip_of (norm_of e)
isotropic_tip e h d = tip_over (isotropic d) (λ dq. refl) e h

pub expanding_tip : (e : List Float) → length e ≡ 2 → (x : Float) → projected_of (walk_result (tip_walk (expanding x) e)) ≡ tip_of (norm_of e)
expanding_tip e h x = tip_over (expanding x) (λ dq. refl) e h

-- the surface, once the exponentials are known
module _ (g norm : Float) where
  by_answer : (a : Answer) (k : Float → Ended Returned) (l : Float → Ended (List Float)) → ((v : Float) → projected_of (k v) ≡ surfaced_of g (l v))
      → projected_of (asked a k) ≡ surfaced_of g (asked a l)
  by_answer (answers.Value v) k l h = h v
  by_answer (answers.Refused n) k l h = refl

  surfaced : (b : List Float) (before : List Float → List Float)
      → projected_of (walk_result (asks 15 exp b (λ new. end (record { way = surface g norm; sigma = before new; dq = g }))))
      ≡ surfaced_of g (walk_result (asks 15 exp b (λ new. end (before new))))
  surfaced [] before = refl
  surfaced (x ∷ b) before =
      by_answer (answer_of exp x)
      (λ v. walk_result (asks 15 exp b (λ new. end (record { way = surface g norm; sigma = before (v ∷ new); dq = g }))))
      (λ v. walk_result (asks 15 exp b (λ new. end (before (v ∷ new)))))
      (λ v. surfaced b (λ new. before (v ∷ new)))

pub surface_law : (g norm : Float) (b : List Float) → projected_of (walk_result (surface_walk (num g) (num norm) b)) ≡ surfaced_of g (walk_result (asks 15 exp b (λ new. end new)))
unfolding surface_walk
surface_law g norm b = surfaced g norm b (λ new. new)

-- the projection is followed by its branch
module _ (p : DruckerPragerPlasticity) (u vt : List (List Float)) (s : State) where
  handed : (x : Ended Returned) → by_end in_two p u vt s x ≡ followed_of (projected_of x).outcome p (projected_of x).sigma u vt s
  handed (given q) = refl
  handed (refused n) = refl

  pub way_then : (w : Walk Returned)
      → updated_of s (walk_result (w then (λ q. way_walk p q.way q.sigma q.dq u vt s)))
      ≡ followed_of (projected_of (walk_result w)).outcome p (projected_of (walk_result w)).sigma u vt s
  way_then w = over_then in_two p u vt s w ∙ handed (walk_result w)
