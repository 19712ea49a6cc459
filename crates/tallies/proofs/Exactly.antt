-- A call with tallies is refused by 12 and by 13 exactly when RULES, section 6, says. Assumes nothing.
use mathlib.Core.Path.{◌≡◌, refl, sym, ap, ◌∙◌}
use mathlib.Core.Logic.{◌⊎◌, inl, inr, ◌↔◌}
use mathlib.Core.Bool.{Bool, true, false, cond, ◌&&◌, false≢true}
use mathlib.Core.List.{List}
use Prim.Native.Nat.{ℕ, zero, suc, ◌+◌, ◌/◌, ◌≤◌, ◌<◌}
use native.Mathlib.Omega.{arith}
use lib.Dec.{eqb, leb, ltb}
use lib.ListN.{length, get_or}
use borrow.Author.Tests.{leb-false, ltb-true, ltb-false, eqb-false}
use Rattle.numbers.proofs.Laws.{and_both}
use Rattle.answers.specs.Refusals.{wrong_length, bad_zone, tally_full}
use Rattle.record.specs.Layout.{floats}
use Rattle.particles.specs.Pass.{well_sized}
use Rattle.tallies.specs.declared.tally.Tally.{Tally}
use Rattle.tallies.specs.Zones.{listed, below_in, zones_fit, move_fits}
use Rattle.tallies.specs.Tallies.{none, recount, recounted, last_tally, fits, has_room, room_in, clear_refusal, move_refusal, pass_room, pass_refusal}
use Rattle.tallies.specs.Exactly.{Stray, OutOfRange, Full}
use Rattle.tallies.proofs.ByZone.{get_by}
use Rattle.tallies.proofs.ZoneLaws.{Room, below_at, room_at, room_of, fits_of}

no_both : (b : Bool) → b ≡ true → b ≡ false → ⊥
no_both b e f = false≢true (sym f ∙ e)

-- ---- 12
stray_in : (n : ℕ) (zones : List ℕ) (k : ℕ) → k ≤ length zones → below_in n zones k ≡ false → Stray zones n
unfolding below_in
stray_in n zones zero h e = absurd (no_both true refl e)
stray_in n zones (suc k) h e = go (below_in n zones k) refl e (λ q. stray_in n zones k (omega arith) q)
  where
    go : (b : Bool) → below_in n zones k ≡ b → b && ltb (get_or zones k 0) n ≡ false → (below_in n zones k ≡ false → Stray zones n) → Stray zones n
    go true q f ih = record { particle = k; is = h; beyond = ltb-false _ _ f }
    go false q f ih = ih q

pub out_of : (particles : ℕ) (zones : List ℕ) (n : ℕ) → zones_fit particles zones n ≡ false → OutOfRange particles zones n
out_of particles zones n e = go (leb n 256) refl (eqb (length zones) particles) refl e
  where
    go : (a : Bool) → leb n 256 ≡ a → (b : Bool) → eqb (length zones) particles ≡ b → a && (b && below_in n zones (length zones)) ≡ false → OutOfRange particles zones n
    go false p b q f = inl (leb-false n 256 p)
    go true p false q f = inr (inl (eqb-false (length zones) particles q))
    go true p true q f = inr (inr (stray_in n zones (length zones) (omega arith) f))

pub not_fitting : (particles : ℕ) (zones : List ℕ) (n : ℕ) → OutOfRange particles zones n → zones_fit particles zones n ≡ true → ⊥
not_fitting particles zones n (inl h) e = let q = (fits_of particles zones n e).most in omega (arith, q, h)
not_fitting particles zones n (inr (inl d)) e = d (fits_of particles zones n e).each
not_fitting particles zones n (inr (inr s)) e = let q = below_at n zones (length zones) s.particle (fits_of particles zones n e).below s.is in let b = s.beyond in omega (arith, q, b)

false_of : (b : Bool) → (b ≡ true → ⊥) → b ≡ false
false_of true h = absurd (h refl)
false_of false h = refl

twelve : (b : Bool) → ◌≡◌ {A = ℕ} (cond b 0 bad_zone) bad_zone ↔ (b ≡ false)
twelve true = (λ e. absurd (omega (arith, e)), λ e. absurd (no_both true refl e))
twelve false = (λ e. refl, λ e. refl)

pub clear_twelve : (particles : ℕ) (zones : List ℕ) (n : ℕ) → (clear_refusal particles zones n ≡ bad_zone) ↔ OutOfRange particles zones n
clear_twelve particles zones n = (
  λ e. out_of particles zones n ((twelve (zones_fit particles zones n)).0 e),
  λ o. (twelve (zones_fit particles zones n)).1 (false_of (zones_fit particles zones n) (not_fitting particles zones n o)),
)

-- a move also where the particle or the zone is out of range
pub move_twelve : (particles p z : ℕ) (zones : List ℕ) (n : ℕ)
    → (move_refusal particles p z zones n ≡ bad_zone) ↔ (OutOfRange particles zones n ⊎ ((particles ≤ p) ⊎ (n ≤ z)))
move_twelve particles p z zones n = (λ e. there (zones_fit particles zones n) refl (ltb p particles) refl ((twelve (move_fits particles p z zones n)).0 e), λ o. (twelve (move_fits particles p z zones n)).1 (false_of (move_fits particles p z zones n) (λ t. back o t)))
  where
    there : (a : Bool) → zones_fit particles zones n ≡ a → (b : Bool) → ltb p particles ≡ b → a && (b && ltb z n) ≡ false → OutOfRange particles zones n ⊎ ((particles ≤ p) ⊎ (n ≤ z))
    there false q b r e = inl (out_of particles zones n q)
    there true q false r e = inr (inl (ltb-false p particles r))
    there true q true r e = inr (inr (ltb-false z n e))

    back : OutOfRange particles zones n ⊎ ((particles ≤ p) ⊎ (n ≤ z)) → move_fits particles p z zones n ≡ true → ⊥
    back o t =
        let a = and_both (zones_fit particles zones n) (ltb p particles && ltb z n) t in
        let b = and_both (ltb p particles) (ltb z n) a.1 in
        by o a.0 (ltb-true p particles b.0) (ltb-true z n b.1)
      where
        by : OutOfRange particles zones n ⊎ ((particles ≤ p) ⊎ (n ≤ z)) → zones_fit particles zones n ≡ true → p < particles → z < n → ⊥
        by (inl o) f h l = not_fitting particles zones n o f
        by (inr (inl g)) f h l = omega (arith, g, h)
        by (inr (inr g)) f h l = omega (arith, g, l)

pass_number : (a b c : Bool) (k : ℕ) → cond a (cond b (cond c 0 tally_full) bad_zone) wrong_length ≡ k → ((k ≡ bad_zone) ↔ ((a ≡ true) × (b ≡ false))) × ((k ≡ tally_full) ↔ ((a ≡ true) × ((b ≡ true) × (c ≡ false))))
pass_number true true true k q = ((λ e. absurd (omega (arith, q, e)), λ h. absurd (no_both true refl h.1)), (λ e. absurd (omega (arith, q, e)), λ h. absurd (no_both true refl h.1.1)))
pass_number true true false k q = ((λ e. absurd (omega (arith, q, e)), λ h. absurd (no_both true refl h.1)), (λ e. (refl, (refl, refl)), λ h. sym q))
pass_number true false c k q = ((λ e. (refl, refl), λ h. sym q), (λ e. absurd (omega (arith, q, e)), λ h. absurd (no_both false h.1.0 refl)))
pass_number false b c k q = ((λ e. absurd (omega (arith, q, e)), λ h. absurd (no_both false h.0 refl)), (λ e. absurd (omega (arith, q, e)), λ h. absurd (no_both false h.0 refl)))

-- a pass, where 8 doesn't come first
pub pass_twelve : (xs out zones : List ℕ) (ts : List Tally)
    → (pass_refusal xs out zones (length ts) ts ≡ bad_zone) ↔ ((well_sized xs out ≡ true) × OutOfRange (length xs / floats) zones (length ts))
pass_twelve xs out zones ts =
    let n = length ts in
    let q = (pass_number (well_sized xs out) (zones_fit (length xs / floats) zones n) (pass_room zones n ts) (pass_refusal xs out zones n ts) refl).0 in (
      λ e. let h = q.0 e in (h.0, out_of (length xs / floats) zones n h.1),
      λ h. q.1 (h.0, false_of (zones_fit (length xs / floats) zones n) (not_fitting (length xs / floats) zones n h.1)),
    )

-- ---- 13
full_in : (zones : List ℕ) (ts : List Tally) (n : ℕ) → n ≤ length ts → room_in (recounted zones ts) n ≡ false → Full zones ts
unfolding room_in
full_in zones ts zero h e = absurd (no_both true refl e)
full_in zones ts (suc n) h e = go (room_in (recounted zones ts) n) refl e (λ q. full_in zones ts n (omega arith) q)
  where
    k : ℕ
    k = listed zones n

    t : Tally
    t = get_or ts n none

    over : (a : Bool) → fits t.untouched k ≡ a → (b : Bool) → fits t.stored k ≡ b → (c : Bool) → fits t.refused k ≡ c → (a && b) && (c && fits t.failed k) ≡ false
        → (last_tally < t.untouched + k) ⊎ ((last_tally < t.stored + k) ⊎ ((last_tally < t.refused + k) ⊎ (last_tally < t.failed + k)))
    over false p b q c r f = inl (leb-false _ _ p)
    over true p false q c r f = inr (inl (leb-false _ _ q))
    over true p true q false r f = inr (inr (inl (leb-false _ _ r)))
    over true p true q true r f = inr (inr (inr (leb-false _ _ f)))

    go : (b : Bool) → room_in (recounted zones ts) n ≡ b → b && has_room (get_or (recounted zones ts) n none) ≡ false → (room_in (recounted zones ts) n ≡ false → Full zones ts) → Full zones ts
    go true q f ih = record { zone = n; is = h; over = over (fits t.untouched k) refl (fits t.stored k) refl (fits t.refused k) refl (sym (ap has_room (get_by (recount zones) ts n h)) ∙ f) }
    go false q f ih = ih q

not_room : (zones : List ℕ) (ts : List Tally) → Full zones ts → pass_room zones (length ts) ts ≡ true → ⊥
not_room zones ts f e = by f.over
  where
    z : ℕ
    z = f.zone

    r : Room (recount zones z (get_or ts z none))
    r = room_of (recount zones z (get_or ts z none)) (sym (ap has_room (get_by (recount zones) ts z f.is)) ∙ room_at (recounted zones ts) (length ts) z e f.is)

    by : (last_tally < (get_or ts z none).untouched + listed zones z) ⊎ ((last_tally < (get_or ts z none).stored + listed zones z) ⊎ ((last_tally < (get_or ts z none).refused + listed zones z) ⊎ (last_tally < (get_or ts z none).failed + listed zones z))) → ⊥
    by (inl h) = let q = r.untouched in omega (arith, q, h)
    by (inr (inl h)) = let q = r.stored in omega (arith, q, h)
    by (inr (inr (inl h))) = let q = r.refused in omega (arith, q, h)
    by (inr (inr (inr h))) = let q = r.failed in omega (arith, q, h)

pub pass_thirteen : (xs out zones : List ℕ) (ts : List Tally)
    → (pass_refusal xs out zones (length ts) ts ≡ tally_full) ↔ ((well_sized xs out ≡ true) × ((zones_fit (length xs / floats) zones (length ts) ≡ true) × Full zones ts))
pass_thirteen xs out zones ts =
    let n = length ts in
    let q = (pass_number (well_sized xs out) (zones_fit (length xs / floats) zones n) (pass_room zones n ts) (pass_refusal xs out zones n ts) refl).1 in (
      λ e. let h = q.0 e in (h.0, (h.1.0, full_in zones ts n (omega arith) h.1.1)),
      λ h. q.1 (h.0, (h.1.0, false_of (pass_room zones n ts) (not_room zones ts h.1.1))),
    )
