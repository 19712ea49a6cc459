-- Each lent tally as a plan has it, one after another: what is so at the head of a turn, and after the last; and what a plan comes to. Assumes nothing.
use mathlib.Core.Path.{◌≡◌, refl, sym, ap, ◌∙◌}
use mathlib.Core.Bool.{Bool, true, false, cond, ◌&&◌}
use mathlib.Core.List.{List}
use Prim.Native.Nat.{ℕ, ◌+◌, ◌≤◌, ◌<◌, zero-le}
use native.Mathlib.Omega.{arith}
use lib.Dec.{eqb, ltb}
use lib.ListN.{length, get_or, set}
use borrow.Author.Tests.{ltb-true, ltb-false, lt-ltb, le-ltb}
use Rattle.numbers.proofs.Laws.{and_both}
use Rattle.tallies.specs.declared.tally.Tally.{Tally}
use Rattle.tallies.specs.declared.plan.Plan.{Plan}
use Rattle.tallies.specs.Zones.{zones_fit, move_fits}
use Rattle.tallies.specs.Tallies.{none, with_particles, by_zone, recount, cleared_at, clear_tallies, move_zones, move_tallies}
use Rattle.tallies.specs.Plans.{Counts, Planned, planned, room_by}
use Rattle.tallies.proofs.ByZone.{get_by, length_by, is_by, set_by}
use Rattle.tallies.proofs.ZoneLaws.{fits_of}

-- the tallies below k are settled
abbrev pub settled_below : ℕ → List ℕ → ℕ → ℕ → Tally → Tally
settled_below w c k z t = cond (ltb z k) (planned w c z t) t

settled_here : (w : ℕ) (c : List ℕ) (k : ℕ) (t : Tally) → planned w c k t ≡ settled_below w c (k + 1) k t
settled_here w c k t = rw (lt-ltb k (k + 1) (omega arith)) refl

above : (k z : ℕ) → k ≤ z → (z ≡ k → ⊥) → k + 1 ≤ z
above k z h d = go (ltb k z) refl
  where
    go : (b : Bool) → ltb k z ≡ b → k + 1 ≤ z
    go true e = let q = ltb-true k z e in omega arith
    go false e = let q = ltb-false k z e in absurd (d (omega arith))

settled_other : (w : ℕ) (c : List ℕ) (k z : ℕ) (t : Tally) → (z ≡ k → ⊥) → settled_below w c k z t ≡ settled_below w c (k + 1) z t
settled_other w c k z t d = go (ltb z k) refl
  where
    go : (b : Bool) → ltb z k ≡ b → cond b (planned w c z t) t ≡ settled_below w c (k + 1) z t
    go true e = let q = ltb-true z k e in rw (lt-ltb z (k + 1) (omega arith)) refl
    go false e = let q = ltb-false z k e in rw (le-ltb z (k + 1) (above k z q d)) refl

-- before the first, after tally i and after the last
pub none_settled : (w : ℕ) (c : List ℕ) (ts : List Tally) → ts ≡ by_zone (settled_below w c 0) 0 ts
none_settled w c ts = is_by (settled_below w c 0) ts ts refl (λ z l. rw (le-ltb z 0 zero-le) refl)

module _ (w : ℕ) (c : List ℕ) (ts₀ ts : List Tally) (i : ℕ) (so_far : ts ≡ by_zone (settled_below w c i) 0 ts₀) (within : i < length ts₀) where
  pub as_it_came : get_or ts i none ≡ get_or ts₀ i none
  as_it_came = ap (λ (us : List Tally). get_or us i none) so_far ∙ get_by (settled_below w c i) ts₀ i within ∙ rw (le-ltb i i (omega arith)) refl

  pub settled_next : (r : Tally) → r ≡ planned w c i (get_or ts i none) → set ts i r ≡ by_zone (settled_below w c (i + 1)) 0 ts₀
  settled_next r e =
      set_by (settled_below w c i) (settled_below w c (i + 1)) ts ts₀ i r within so_far
      (e ∙ ap (planned w c i) as_it_came ∙ settled_here w c i (get_or ts₀ i none)) (λ y b d. settled_other w c i y (get_or ts₀ y none) d)

pub all_settled : (w : ℕ) (c : List ℕ) (ts : List Tally) → by_zone (settled_below w c (length ts)) 0 ts ≡ by_zone (planned w c) 0 ts
all_settled w c ts =
    is_by (planned w c) (by_zone (settled_below w c (length ts)) 0 ts) ts (length_by (settled_below w c (length ts)) ts)
    (λ z l. get_by (settled_below w c (length ts)) ts z l ∙ rw (lt-ltb z (length ts) l) refl)

-- what the call ensures
abbrev pub SettledBy : ℕ → List ℕ → List Tally → Bool → List Tally → Type 0
SettledBy w c ts ok us = (ok ≡ room_by c ts (length ts)) × (us ≡ by_zone (planned w c) 0 ts)

abbrev pub Settled : Plan → List Tally → Bool → List Tally → Type 0
Settled p ts ok us = SettledBy p.what p.counts ts ok us

-- a plan that leaves, one that counts afresh and one that clears
pub leaves : (p : Plan) (ts : List Tally) → p.what ≡ 0 → by_zone (planned p.what p.counts) 0 ts ≡ ts
leaves p ts e = sym (is_by (planned p.what p.counts) ts ts refl (λ z l. go p.what e (get_or ts z none) z))
  where
    go : (w : ℕ) → w ≡ 0 → (t : Tally) (z : ℕ) → t ≡ cond (eqb w 1) (with_particles (get_or p.counts z 0) t) (cond (eqb w 2) (with_particles (get_or p.counts z 0) none) t)
    go w e t z = rw e refl

pub recounts : (p : Plan) (zones : List ℕ) (ts : List Tally) → length ts ≤ 256 → p.what ≡ 1 → Counts zones p.counts → by_zone (planned p.what p.counts) 0 ts ≡ by_zone (recount zones) 0 ts
recounts p zones ts h e c =
    is_by (recount zones) (by_zone (planned p.what p.counts) 0 ts) ts (length_by (planned p.what p.counts) ts)
    (λ z l. get_by (planned p.what p.counts) ts z l ∙ go p.what e (get_or ts z none) z ∙ ap (λ (k : ℕ). with_particles k (get_or ts z none)) (c z (omega (arith, l, h))))
  where
    go : (w : ℕ) → w ≡ 1 → (t : Tally) (z : ℕ) → cond (eqb w 1) (with_particles (get_or p.counts z 0) t) (cond (eqb w 2) (with_particles (get_or p.counts z 0) none) t) ≡ with_particles (get_or p.counts z 0) t
    go w e t z = rw e refl

clears : (p : Plan) (zones : List ℕ) (ts : List Tally) → length ts ≤ 256 → p.what ≡ 2 → Counts zones p.counts → by_zone (planned p.what p.counts) 0 ts ≡ by_zone (cleared_at zones) 0 ts
clears p zones ts h e c =
    is_by (cleared_at zones) (by_zone (planned p.what p.counts) 0 ts) ts (length_by (planned p.what p.counts) ts)
    (λ z l. get_by (planned p.what p.counts) ts z l ∙ go p.what e (get_or ts z none) z ∙ ap (λ (k : ℕ). with_particles k none) (c z (omega (arith, l, h))))
  where
    go : (w : ℕ) → w ≡ 2 → (t : Tally) (z : ℕ) → cond (eqb w 1) (with_particles (get_or p.counts z 0) t) (cond (eqb w 2) (with_particles (get_or p.counts z 0) none) t) ≡ with_particles (get_or p.counts z 0) none
    go w e t z = rw e refl

-- a clear
pub clear_settled : (p : Plan) (particles : ℕ) (zones : List ℕ) (ts us : List Tally) → Planned 2 (zones_fit particles zones (length ts)) zones p → us ≡ by_zone (planned p.what p.counts) 0 ts → us ≡ clear_tallies particles zones (length ts) ts
clear_settled p particles zones ts us q e = e ∙ go (zones_fit particles zones (length ts)) refl q.0 q.1
  where
    go : (b : Bool) → zones_fit particles zones (length ts) ≡ b → p.what ≡ cond b 2 0 → (b ≡ true → Counts zones p.counts) → by_zone (planned p.what p.counts) 0 ts ≡ cond b (by_zone (cleared_at zones) 0 ts) ts
    go true f w c = clears p zones ts (fits_of particles zones (length ts) f).most w (c refl)
    go false f w c = leaves p ts w

-- a move
pub move_settled : (q : Plan) (particles p z : ℕ) (zones zones' : List ℕ) (ts us : List Tally) → zones' ≡ move_zones particles p z zones (length ts) → Planned 1 (move_fits particles p z zones (length ts)) zones' q → us ≡ by_zone (planned q.what q.counts) 0 ts
    → us ≡ move_tallies particles p z zones (length ts) ts
move_settled q particles p z zones zones' ts us w pl e = e ∙ go (move_fits particles p z zones (length ts)) refl w pl.0 pl.1
  where
    go : (b : Bool) → move_fits particles p z zones (length ts) ≡ b → zones' ≡ cond b (set zones p z) zones → q.what ≡ cond b 1 0 → (b ≡ true → Counts zones' q.counts) → by_zone (planned q.what q.counts) 0 ts ≡ cond b (by_zone (recount (set zones p z)) 0 ts) ts
    go true f w k c =
        let h = (fits_of particles zones (length ts) (and_both (zones_fit particles zones (length ts)) (ltb p particles && ltb z (length ts)) f).0).most in
        recounts q zones' ts h k (c refl) ∙ ap (λ (l : List ℕ). by_zone (recount l) 0 ts) w
    go false f w k c = leaves q ts k
