-- Ticket 8, "and that branch gives the stored record", of the number that a host gets: it is that of the way in which the law's projection ends, and
-- the record after the pass is what that way stores. Assumes nothing.
use mathlib.Core.Bool.{Bool, true, false, cond, ◌&&◌}
use mathlib.Core.List.{List, [], ◌∷◌}
use mathlib.Core.Logic.{◌↔◌}
use mathlib.Core.Option.{some, none}
use mathlib.Core.Path.{◌≡◌, refl, sym, ap, ◌∙◌}
use native.Mathlib.Omega.{arith}
use Prim.Native.Nat.{ℕ}
use lib.Dec.{eqb}
use borrow.Author.Tests.{eqb-true, eqb-false}
use lib.ListN.{length}
use lib.Ieee.{Float}
use Rattle.plasticity.specs.declared.Outcome.{Outcome}
use Rattle.plasticity.specs.declared.Outcome.TheVariants as outcome
use Rattle.plasticity.specs.declared.State.{State}
use Rattle.record.specs.Layout.{floats, u_at, vt_at, state_at}
use Rattle.walk.specs.Expr.{Expr, values}
use Rattle.walk.specs.Walk.{Walk, exp, given}
use Rattle.walk.specs.Exact.{final}
use Rattle.walk.specs.Update.{Change, untouched, stored, updated_of}
use Rattle.reason.specs.declared.Reason.{Reason}
use Rattle.reason.specs.Reason.{compared_as, last_or, last_as}
use Rattle.walk.specs.Body as body
use Rattle.walk.specs.Update.{in_three}
use Rattle.plasticity_snow.specs.Over as snow
use Rattle.plasticity_rankine.specs.Over as rankine_over
use Rattle.plasticity_drucker_prager.specs.Over as drucker_over
use Rattle.plasticity_snow.specs.declared.SnowPlasticity.{SnowPlasticity}
use Rattle.plasticity_snow.specs.Reason.{bounds_of}
use Rattle.plasticity_snow.proofs.Why.{snow_branchless}
use Rattle.walk.proofs.Reason.{quiet}
use Rattle.plasticity_rankine.specs.Law as rankine_law
use Rattle.plasticity_rankine.specs.Projection as rankine
use Rattle.plasticity_rankine.specs.Rankine as rankine_walks
use Rattle.plasticity_rankine.specs.declared.RankinePlasticity.{RankinePlasticity}
use Rattle.plasticity_rankine.specs.declared.RankineArguments.{RankineArguments}
use Rattle.plasticity_rankine.proofs.Reason as rankine_reason
use Rattle.plasticity_drucker_prager.specs.Projection as drucker_prager
use Rattle.plasticity_drucker_prager.specs.DruckerPrager as drucker_prager_walks
use Rattle.plasticity_drucker_prager.specs.DruckerPrager.{stays_of}
use Rattle.plasticity_drucker_prager.specs.declared.DruckerPragerPlasticity.{DruckerPragerPlasticity}
use Rattle.plasticity_drucker_prager.proofs.Reason as drucker_prager_reason
use Rattle.plasticity_nacc.specs.Law as nacc_law
use Rattle.plasticity_nacc.specs.Projection as nacc
use Rattle.plasticity_nacc.specs.Over as nacc_over
use Rattle.plasticity_nacc.specs.declared.NaccArguments.{NaccArguments}
use Rattle.plasticity_nacc.proofs.Reason as nacc_reason
use Rattle.model.specs.declared.Law.{Law}
use Rattle.model.specs.declared.Law.TheVariants as law
use Rattle.model.specs.declared.Model.{Model}
use Rattle.model.specs.declared.Model.TheVariants.{Snow, Rankine, DruckerPrager, Nacc}
use Rattle.model.specs.Model.{model_walk, model_last}
use Rattle.model.specs.Kinds.{law_of, parameters_fit, model_known}
use Rattle.model.specs.Fields.{by_law, model_of}
use Rattle.one_record.specs.RecordLaw.{law_at, kept_by, record_law}
use Rattle.record_why.specs.declared.Cause.{Cause}
use Rattle.record_why.specs.declared.Cause.TheVariants.{Told, Refused}
use Rattle.record_why.specs.Why.{told_of, why_of, number_of}
use Rattle.record_why.specs.Words.{branch_of, reason_words, words_of}
use Rattle.record_why.specs.Branch.{model_branch, model_stores, rankine_end, nacc_end, branch_word}
use Rattle.record_why.proofs.Laws.{last_gives}

-- ---- a test's word, by its number and whether it held
compared_word : (k : Law) (n : ℕ) (held : Bool) (l : List Float) → branch_word (reason_words k (compared_as n held l)) ≡ branch_of k n held
compared_word k n held [] = refl
compared_word k n held (a ∷ []) = refl
compared_word k n held (a ∷ b ∷ []) = refl
compared_word k n held (a ∷ b ∷ c ∷ l) = refl

-- of each way the number of its branch
rankine_word : (w : rankine.Way) → branch_word (reason_words law.Rankine (last_as (some (rankine_reason.reason_of w)))) ≡ rankine.way_number w
rankine_word (rankine.none_moves x y) = refl
rankine_word (rankine.one_moves x y) = refl
rankine_word (rankine.two_move x y) = refl
rankine_word (rankine.all_move x y) = refl

drucker_word : (w : drucker_prager.Way) → branch_word (reason_words law.DruckerPrager (last_as (some (drucker_prager_reason.reason_of w)))) ≡ drucker_prager.way_number w
drucker_word (drucker_prager.isotropic d) = compared_word law.DruckerPrager 8 true d
drucker_word (drucker_prager.expanding x) = refl
drucker_word (drucker_prager.inside x) = refl
drucker_word (drucker_prager.surface x norm) = refl

nacc_word : (w : nacc.Way) → branch_word (reason_words law.Nacc (last_as (some (nacc_reason.reason_of w)))) ≡ nacc.way_number w
nacc_word (nacc.upper x y) = refl
nacc_word (nacc.lower x y) = refl
nacc_word (nacc.inside x y) = refl
nacc_word (nacc.surface x y) = refl

-- ---- of each law: the word is that of the way in which its projection ends, and the path's end is what that way stores
module _ (u vt : List (List Float)) (s : State) where
  abbrev Named : Law → Model → Type 0
  Named k m = (branch_word (reason_words k (model_last m u vt s)) ≡ model_branch m u vt s) × (final (model_walk m u vt s) ≡ model_stores m u vt s)

  -- Snow makes no test
  snow_named : (k : Law) (p : SnowPlasticity) → Named k (Snow p)
  snow_named k p =
      let bounds = bounds_of p s.sigma in
      (ap (λ o. branch_word (reason_words k (last_or bounds o))) (quiet (model_walk (Snow p) u vt s) (snow_branchless p u vt s) none), refl)

  rankine_named : (a : RankineArguments) → Named law.Rankine (Rankine a)
  rankine_named a =
      let q = rankine_reason.arguments_reason a u vt s in
      (ap (λ o. branch_word (reason_words law.Rankine (last_as o))) q.0 ∙ rankine_word (rankine_end (rankine_law.law_of a) u vt s).way, q.1)

  nacc_named : (a : NaccArguments) → Named law.Nacc (Nacc a)
  nacc_named a =
      let q = nacc_reason.arguments_reason a u vt s in
      (ap (λ o. branch_word (reason_words law.Nacc (last_as o))) q.0 ∙ nacc_word (nacc_end (nacc_law.law_of a) s).way, q.1)

  drucker_named : (p : DruckerPragerPlasticity) → Named law.DruckerPrager (DruckerPrager p)
  drucker_named p = go (stays_of p s.scalars.phase) refl
    where
      go : (b : Bool) → stays_of p s.scalars.phase ≡ b
          → (branch_word (reason_words law.DruckerPrager (model_last (DruckerPrager p) u vt s)) ≡ cond b 0 (drucker_prager.way_number (drucker_prager_reason.projection_of p s).way))
          × (final (model_walk (DruckerPrager p) u vt s) ≡ cond b untouched (final (drucker_prager_reason.W p u vt s (drucker_prager_reason.projection_of p s))))
      go true e =
          let q = drucker_prager_reason.drucker_stays p u vt s e in
          (ap (λ o. branch_word (reason_words law.DruckerPrager (last_as o))) q.0, q.1)
      go false e =
          let q = drucker_prager_reason.drucker_reason p u vt s e in
          (ap (λ o. branch_word (reason_words law.DruckerPrager (last_as o))) q.0 ∙ drucker_word (drucker_prager_reason.projection_of p s).way, q.1)

  -- the law's row makes its model
  named : (k : Law) (p : List ℕ) → Named k (by_law k p)
  named law.Snow p = snow_named law.Snow _
  named law.Rankine p = rankine_named _
  named law.DruckerPrager p = drucker_named _
  named law.Nacc p = nacc_named _
  named law.Unknown p = snow_named law.Unknown _

  pub model_named : (number : ℕ) (p : List ℕ) → Named (law_of number) (model_of number p)
  unfolding model_of
  model_named number p = named (law_of number) p

-- ---- branch 0 is the one that stores nothing
abbrev stores_none : Change → Bool
stores_none untouched = true
stores_none (stored new amount) = false

clamps_stored : (p : SnowPlasticity) (l : List Float) (k : List Float → Walk Change) → ((v : List Float) → stores_none (final (k v)) ≡ false) → stores_none (final (snow.clamps p l k)) ≡ false
clamps_stored p [] k h = h []
clamps_stored p (x ∷ l) k h = clamps_stored p l _ (λ v. h _)

snow_stored : (p : SnowPlasticity) (u vt : List (List Float)) (s : State) → stores_none (final (snow.snow_walk in_three p u vt s)) ≡ false
unfolding snow.snow_walk snow.run_walk snow.harden_walk body.store_walk
snow_stored p u vt s = clamps_stored p s.sigma (λ new. snow.harden_walk in_three p new u vt s) (λ v. refl)

module _ (p : RankinePlasticity) (old : List Float) (new : List Expr) (u vt : List (List Float)) (s : State) where
  moved_stored : stores_none (final (rankine_walks.moved_walk p old new u vt s)) ≡ false
  unfolding rankine_over.moved_walk rankine_over.harden_walk rankine_over.exps_walk body.store_walk
  moved_stored = ap stores_none (rankine_reason.asks_final 9 exp (values new) (λ sigma. rankine_walks.store_walk u sigma vt _ s))

  rankine_none : (w : rankine.Way) → stores_none (final (rankine_walks.way_walk p w old new u vt s)) ≡ eqb (rankine.way_number w) 0
  unfolding rankine_over.way_walk
  rankine_none (rankine.none_moves x y) = refl
  rankine_none (rankine.one_moves x y) = moved_stored
  rankine_none (rankine.two_move x y) = moved_stored
  rankine_none (rankine.all_move x y) = moved_stored

drucker_none : (p : DruckerPragerPlasticity) (w : drucker_prager.Way) (sigma : List Float) (dq : Float) (u vt : List (List Float)) (s : State)
    → stores_none (final (drucker_prager_walks.way_walk p w sigma dq u vt s)) ≡ eqb (drucker_prager.way_number w) 0
unfolding drucker_over.way_walk drucker_over.moved_walk body.store_walk
drucker_none p (drucker_prager.isotropic d) sigma dq u vt s = refl
drucker_none p (drucker_prager.expanding x) sigma dq u vt s = refl
drucker_none p (drucker_prager.inside x) sigma dq u vt s = refl
drucker_none p (drucker_prager.surface x norm) sigma dq u vt s = refl

nacc_none : (w : nacc.Way) (q : nacc.Shape) (u vt : List (List Float)) (s : State) → stores_none (final (nacc_over.way_walk in_three w q u vt s)) ≡ eqb (nacc.way_number w) 0
unfolding nacc_over.way_walk nacc_over.stored_walk body.store_walk
nacc_none (nacc.upper x y) q u vt s = refl
nacc_none (nacc.lower x y) q u vt s = refl
nacc_none (nacc.inside x y) q u vt s = refl
nacc_none (nacc.surface x y) q u vt s = refl

module _ (u vt : List (List Float)) (s : State) where
  drucker_stays_none : (p : DruckerPragerPlasticity) (b : Bool) (n : ℕ) (c : Change) → stores_none c ≡ eqb n 0 → stores_none (cond b untouched c) ≡ eqb (cond b 0 n) 0
  drucker_stays_none p true n c h = refl
  drucker_stays_none p false n c h = h

  model_none : (m : Model) → stores_none (model_stores m u vt s) ≡ eqb (model_branch m u vt s) 0
  model_none (Snow p) = snow_stored p u vt s
  model_none (Rankine a) =
      let p = rankine_law.law_of a in
      let q = rankine_end p u vt s in
      rankine_none p (rankine_reason.strains p u vt s) q.strains u vt s q.way
  model_none (DruckerPrager p) =
      let q = drucker_prager_reason.projection_of p s in
      drucker_stays_none p (stays_of p s.scalars.phase) (drucker_prager.way_number q.way) (final (drucker_prager_reason.W p u vt s q))
      (drucker_none p q.way q.sigma q.dq u vt s)
  model_none (Nacc a) = let q = nacc_end (nacc_law.law_of a) s in nacc_none q.way q.shape u vt s

  none_untouched : (c : Change) (n : ℕ) → stores_none c ≡ eqb n 0 → (n ≡ 0) ↔ ((updated_of s (given c)).outcome ≡ outcome.Untouched)
  none_untouched untouched n h = (λ e. refl, λ e. eqb-true n 0 (sym h))
  none_untouched (stored new amount) n h = (
    λ e. absurd (let f : n ≡ 0 → ⊥ = eqb-false n 0 (sym h) in f e),
    λ e. absurd (let z : ◌≡◌ {A = ℕ} 0 1 = cc in omega arith),
  )

-- ---- the host's
module _ (number : ℕ) (p r : List ℕ) where
  abbrev m : Model
  m = model_of number p

  abbrev s : State
  s = state_at r

  opened : (a b : Bool) (w : Cause) → number_of (cond a (cond b w (Refused 6)) (Refused 8)) ≡ 0 → cond a (cond b w (Refused 6)) (Refused 8) ≡ w
  opened true true w h = refl
  opened true false w h = absurd (omega arith)
  opened false b w h = absurd (omega arith)

  told : number_of (why_of number p r) ≡ 0 → why_of number p r ≡ told_of m p r
  unfolding why_of
  told h = opened (parameters_fit number p && eqb (length r) floats) (model_known number p) (told_of m p r) h

  abbrev Ends : Type 0
  Ends = (why_of number p r ≡ Told (model_last m (u_at r) (vt_at r) s)) × (law_at m r ≡ updated_of s (given (model_stores m (u_at r) (vt_at r) s)))

  ends : number_of (why_of number p r) ≡ 0 → Ends
  ends h =
      let e = told h in
      let q = last_gives m p r (ap number_of (sym e) ∙ h) in
      (e ∙ q.0, q.1 ∙ ap (λ c. updated_of s (given c)) (model_named (u_at r) (vt_at r) s number p).1)

  -- word 7 is the number of the way in which the law's projection ends
  pub branch_named : number_of (why_of number p r) ≡ 0 → branch_word (words_of number (why_of number p r)) ≡ model_branch m (u_at r) (vt_at r) s
  branch_named h = ap (λ w. branch_word (words_of number w)) (ends h).0 ∙ (model_named (u_at r) (vt_at r) s number p).0

  -- "and that branch gives the stored record"
  pub branch_gives : number_of (why_of number p r) ≡ 0 → (record_law m r).after ≡ (kept_by m (updated_of s (given (model_stores m (u_at r) (vt_at r) s))) r).after
  unfolding record_law
  branch_gives h = ap (λ d. (kept_by m d r).after) (ends h).1

  -- for readers: word 7 is 0 exactly where the record is left untouched; of Snow it is 1, and a record is never left so
  pub branch_untouched : number_of (why_of number p r) ≡ 0 → (branch_word (words_of number (why_of number p r)) ≡ 0) ↔ ((record_law m r).outcome ≡ outcome.Untouched)
  unfolding record_law
  branch_untouched h =
      let c = model_stores m (u_at r) (vt_at r) s in
      let n = model_branch m (u_at r) (vt_at r) s in
      let q = none_untouched (u_at r) (vt_at r) s c n (model_none (u_at r) (vt_at r) s m) in (
        λ e. ap (λ d. d.outcome) (ends h).1 ∙ q.0 (sym (branch_named h) ∙ e),
        λ e. branch_named h ∙ q.1 (sym (ap (λ d. d.outcome) (ends h).1) ∙ e),
      )
