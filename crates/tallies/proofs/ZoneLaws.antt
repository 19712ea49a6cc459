-- Laws of a zone list, particle by particle: what the next one adds, and how far the numbers reach. Assumes nothing.
use mathlib.Core.Path.{◌≡◌, refl, sym, ap, ◌∙◌}
use mathlib.Core.Logic.{◌⊎◌, inl, inr}
use mathlib.Core.Bool.{Bool, true, false, cond, ◌&&◌}
use mathlib.Core.List.{List}
use Prim.Native.Nat.{ℕ, zero, suc, ◌+◌, ◌*◌, ◌/◌, ◌≤◌, ◌<◌}
use native.Mathlib.Omega.{arith}
use native.Mathlib.Numerals.{add-one}
use lib.Dec.{eqb, leb, ltb}
use lib.ListN.{length, get_or, set, take, length-set}
use lib.Seq.{take-length, get_or-set_same, get_or-set_other}
use borrow.Author.Tests.{eqb-true, eqb-false, leb-true, ltb-true, ltb-false, lt-ltb, eq-eqb, ne_eqb}
use Rattle.std.specs.List.{list_all}
use Rattle.std.proofs.lemmas.List.Folds.{list_all_more}
use Rattle.numbers.proofs.Laws.{and_both}
use Rattle.plasticity.specs.declared.Outcome.{Outcome}
use Rattle.plasticity.specs.declared.Outcome.TheVariants.{Untouched, Stored, Refused}
use Rattle.record.specs.Layout.{floats}
use Rattle.particles.specs.Pass.{Worked, record_at, counted_if, well_sized}
use Rattle.tallies.specs.declared.tally.Tally.{Tally}
use Rattle.tallies.specs.Zones.{listed_in, below_in, zones_fit, move_fits}
use Rattle.tallies.specs.Tallies.{none, tallied, tallied_in, fits, last_tally, has_room, room_in}

-- i of the first k stands below n, or is k itself
pub last_or : (i k : ℕ) → i < suc k → (i < k) ⊎ (i ≡ k)
last_or i k h = go (ltb i k) refl
  where
    go : (b : Bool) → ltb i k ≡ b → (i < k) ⊎ (i ≡ k)
    go true e = inl (ltb-true i k e)
    go false e = inr (omega (arith, h, ltb-false i k e))

pub below_at : (n : ℕ) (zones : List ℕ) (k i : ℕ) → below_in n zones k ≡ true → i < k → get_or zones i 0 < n
unfolding below_in
below_at n zones zero i e h = absurd (omega (arith, h))
below_at n zones (suc k) i e h = let b = and_both (below_in n zones k) (ltb (get_or zones k 0) n) e in go b.1 (λ l. below_at n zones k i b.0 l) (last_or i k h)
  where
    go : ltb (get_or zones k 0) n ≡ true → (i < k → get_or zones i 0 < n) → (i < k) ⊎ (i ≡ k) → get_or zones i 0 < n
    go b ih (inl l) = ih l
    go b ih (inr q) = rw q (ltb-true _ _ b)

pub below_all : (n : ℕ) (zones : List ℕ) (k : ℕ) → ((i : ℕ) → i < k → get_or zones i 0 < n) → below_in n zones k ≡ true
unfolding below_in
below_all n zones zero h = refl
below_all n zones (suc k) h = rw (below_all n zones k (λ i l. h i (omega arith)), lt-ltb _ _ (h k (omega arith))) refl

-- the zones of all particles, as a list's `all` tests them
below_first : (n : ℕ) (zones : List ℕ) (k : ℕ) → k ≤ length zones → below_in n zones k ≡ list_all (λ z. ltb z n) (take k zones)
unfolding below_in
below_first n zones zero h = refl
below_first n zones (suc k) h = rw (below_first n zones k (omega arith), ← add-one k) (sym (list_all_more (λ z. ltb z n) zones k 0 h))

pub below_listed : (n : ℕ) (zones : List ℕ) → below_in n zones (length zones) ≡ list_all (λ z. ltb z n) zones
below_listed n zones = below_first n zones (length zones) (omega arith) ∙ ap (list_all (λ z. ltb z n)) (take-length zones)

pub below_wider : (n m : ℕ) (zones : List ℕ) (k : ℕ) → n ≤ m → below_in n zones k ≡ true → below_in m zones k ≡ true
below_wider n m zones k h e = below_all m zones k (λ i l. let q = below_at n zones k i e l in omega arith)

-- ---- how many are listed in zone z
module _ (zones : List ℕ) where
  pub listed_here : (i z : ℕ) → z ≡ get_or zones i 0 → listed_in zones z (i + 1) ≡ listed_in zones z i + 1
  unfolding listed_in
  listed_here i z e = rw (add-one i, eq-eqb (get_or zones i 0) z (sym e)) refl

  pub listed_other : (i z : ℕ) → (z ≡ get_or zones i 0 → ⊥) → listed_in zones z (i + 1) ≡ listed_in zones z i
  unfolding listed_in
  listed_other i z d = rw (add-one i, ne_eqb (get_or zones i 0) z (λ e. d (sym e))) refl

  listed_or : (i z : ℕ) → (listed_in zones z (suc i) ≡ listed_in zones z i + 1) ⊎ (listed_in zones z (suc i) ≡ listed_in zones z i)
  unfolding listed_in
  listed_or i z = go (eqb (get_or zones i 0) z)
    where
      go : (b : Bool) → (cond b (listed_in zones z i + 1) (listed_in zones z i) ≡ listed_in zones z i + 1) ⊎ (cond b (listed_in zones z i + 1) (listed_in zones z i) ≡ listed_in zones z i)
      go true = inl refl
      go false = inr refl

  pub listed_most : (i z : ℕ) → listed_in zones z i ≤ i
  unfolding listed_in
  listed_most zero z = omega arith
  listed_most (suc i) z = go (listed_most i z) (listed_or i z)
    where
      go : listed_in zones z i ≤ i → (listed_in zones z (suc i) ≡ listed_in zones z i + 1) ⊎ (listed_in zones z (suc i) ≡ listed_in zones z i) → listed_in zones z (suc i) ≤ suc i
      go q (inl e) = omega (arith, e, q)
      go q (inr e) = omega (arith, e, q)

  pub listed_grows : (z i k : ℕ) → i ≤ k → listed_in zones z i ≤ listed_in zones z k
  listed_grows z i zero h = let e : i ≡ 0 = omega arith in rw e (omega arith)
  listed_grows z i (suc k) h = go (λ l. listed_grows z i k l) (last_or i (suc k) (omega arith)) (listed_or k z)
    where
      go : (i ≤ k → listed_in zones z i ≤ listed_in zones z k) → (i < suc k) ⊎ (i ≡ suc k) → (listed_in zones z (suc k) ≡ listed_in zones z k + 1) ⊎ (listed_in zones z (suc k) ≡ listed_in zones z k) → listed_in zones z i ≤ listed_in zones z (suc k)
      go ih (inl l) (inl e) = let q = ih (omega arith) in omega (arith, e, q)
      go ih (inl l) (inr e) = let q = ih (omega arith) in omega (arith, e, q)
      go ih (inr e) o = rw e (omega arith)

-- ---- zone z's tally in a pass
module _ (law : List ℕ → Worked) (xs zones : List ℕ) where
  pub tallied_here : (i z : ℕ) (t u : Tally) (o : Outcome) (f : Bool) → z ≡ get_or zones i 0 → u ≡ tallied_in law xs zones i z t
      → o ≡ (law (record_at xs i)).outcome → f ≡ (law (record_at xs i)).failed → tallied u o f ≡ tallied_in law xs zones (i + 1) z t
  unfolding tallied_in
  tallied_here i z t u o f e a b c = rw (add-one i, eq-eqb (get_or zones i 0) z (sym e), a, b, c) refl

  pub tallied_other : (i z : ℕ) (t : Tally) → (z ≡ get_or zones i 0 → ⊥) → tallied_in law xs zones i z t ≡ tallied_in law xs zones (i + 1) z t
  unfolding tallied_in
  tallied_other i z t d = rw (add-one i, ne_eqb (get_or zones i 0) z (λ e. d (sym e))) refl

-- four numbers that grew by no more than n
pub record Within (u t : Tally) (n : ℕ) : Type 0 where
  pub untouched : u.untouched ≤ t.untouched + n
  pub stored : u.stored ≤ t.stored + n
  pub refused : u.refused ≤ t.refused + n
  pub failed : u.failed ≤ t.failed + n

counted_if_within : (a b n : ℕ) (f : Bool) → a ≤ b + n → counted_if a f ≤ b + (n + 1)
counted_if_within a b n true h = omega arith
counted_if_within a b n false h = omega arith

one_within : (u t : Tally) (o : Outcome) (f : Bool) (n : ℕ) → Within u t n → Within (tallied u o f) t (n + 1)
one_within u t Untouched f n h =
    let a = h.untouched in let b = h.stored in let c = h.refused in
    record { untouched = omega arith; stored = omega arith; refused = omega arith; failed = counted_if_within u.failed t.failed n f h.failed }
one_within u t (Stored x) f n h =
    let a = h.untouched in let b = h.stored in let c = h.refused in
    record { untouched = omega arith; stored = omega arith; refused = omega arith; failed = counted_if_within u.failed t.failed n f h.failed }
one_within u t (Refused x) f n h =
    let a = h.untouched in let b = h.stored in let c = h.refused in
    record { untouched = omega arith; stored = omega arith; refused = omega arith; failed = counted_if_within u.failed t.failed n f h.failed }

pub tallied_within : (law : List ℕ → Worked) (xs zones : List ℕ) (i z : ℕ) (t : Tally) → Within (tallied_in law xs zones i z t) t (listed_in zones z i)
unfolding tallied_in listed_in
tallied_within law xs zones zero z t = record { untouched = omega arith; stored = omega arith; refused = omega arith; failed = omega arith }
tallied_within law xs zones (suc i) z t = go (tallied_within law xs zones i z t) (eqb (get_or zones i 0) z)
  where
    u : Tally
    u = tallied_in law xs zones i z t

    v : Tally
    v = tallied u (law (record_at xs i)).outcome (law (record_at xs i)).failed

    go : Within u t (listed_in zones z i) → (b : Bool) → Within (cond b v u) t (cond b (listed_in zones z i + 1) (listed_in zones z i))
    go h true = one_within u t (law (record_at xs i)).outcome (law (record_at xs i)).failed (listed_in zones z i) h
    go h false = h

-- ---- room
pub room_at : (ts : List Tally) (n z : ℕ) → room_in ts n ≡ true → z < n → has_room (get_or ts z none) ≡ true
unfolding room_in
room_at ts zero z e h = absurd (omega (arith, h))
room_at ts (suc n) z e h = let b = and_both (room_in ts n) (has_room (get_or ts n none)) e in go b.1 (λ l. room_at ts n z b.0 l) (last_or z n h)
  where
    go : has_room (get_or ts n none) ≡ true → (z < n → has_room (get_or ts z none) ≡ true) → (z < n) ⊎ (z ≡ n) → has_room (get_or ts z none) ≡ true
    go b ih (inl l) = ih l
    go b ih (inr q) = rw q b

pub record Room (t : Tally) : Type 0 where
  pub untouched : t.untouched + t.particles ≤ last_tally
  pub stored : t.stored + t.particles ≤ last_tally
  pub refused : t.refused + t.particles ≤ last_tally
  pub failed : t.failed + t.particles ≤ last_tally

pub room_of : (t : Tally) → has_room t ≡ true → Room t
room_of t e =
    let a = and_both (fits t.untouched t.particles && fits t.stored t.particles) (fits t.refused t.particles && fits t.failed t.particles) e in
    let b = and_both (fits t.untouched t.particles) (fits t.stored t.particles) a.0 in
    let c = and_both (fits t.refused t.particles) (fits t.failed t.particles) a.1 in
    record { untouched = leb-true _ _ b.0; stored = leb-true _ _ b.1; refused = leb-true _ _ c.0; failed = leb-true _ _ c.1 }

-- ---- what fits
pub record Fits (particles : ℕ) (zones : List ℕ) (n : ℕ) : Type 0 where
  pub most : n ≤ 256
  pub each : length zones ≡ particles
  pub below : below_in n zones (length zones) ≡ true

pub fits_of : (particles : ℕ) (zones : List ℕ) (n : ℕ) → zones_fit particles zones n ≡ true → Fits particles zones n
fits_of particles zones n e =
    let a = and_both (leb n 256) (eqb (length zones) particles && below_in n zones (length zones)) e in
    let b = and_both (eqb (length zones) particles) (below_in n zones (length zones)) a.1 in
    record { most = leb-true _ _ a.0; each = eqb-true _ _ b.0; below = b.1 }

-- every zone has a place in the array
pub fits_all : (particles : ℕ) (zones : List ℕ) (n : ℕ) → zones_fit particles zones n ≡ true → below_in 256 zones (length zones) ≡ true
fits_all particles zones n e = let f = fits_of particles zones n e in below_wider n 256 zones (length zones) f.most f.below

pub below_set : (n : ℕ) (zones : List ℕ) (p z : ℕ) → p < length zones → z < n → below_in n zones (length zones) ≡ true → below_in n (set zones p z) (length (set zones p z)) ≡ true
below_set n zones p z h l e = below_all n (set zones p z) (length (set zones p z)) (λ i k. go i (omega (arith, k, length-set zones p z)) (eqb i p) refl)
  where
    go : (i : ℕ) → i < length zones → (b : Bool) → eqb i p ≡ b → get_or (set zones p z) i 0 < n
    go i k true q = rw (eqb-true i p q, get_or-set_same zones p z 0 h) l
    go i k false q = rw (get_or-set_other zones p i z 0 (eqb-false i p q)) (below_at n zones (length zones) i e k)

-- the particle has a zone, and every zone afterwards a place in the array
module _ (particles p z : ℕ) (zones : List ℕ) (n : ℕ) (e : move_fits particles p z zones n ≡ true) where
  pub listed_there : p < length zones
  listed_there =
      let a = and_both (zones_fit particles zones n) (ltb p particles && ltb z n) e in
      let b = and_both (ltb p particles) (ltb z n) a.1 in
      let h = ltb-true p particles b.0 in
      let q = (fits_of particles zones n a.0).each in
      omega (arith, h, q)

  pub below_after : below_in 256 (set zones p z) (length (set zones p z)) ≡ true
  below_after =
      let a = and_both (zones_fit particles zones n) (ltb p particles && ltb z n) e in
      let b = and_both (ltb p particles) (ltb z n) a.1 in
      let f = fits_of particles zones n a.0 in
      below_wider n 256 (set zones p z) (length (set zones p z)) f.most (below_set n zones p z listed_there (ltb-true _ _ b.1) f.below)

-- of a pass: as many zones as records
pub record Sized (xs out zones : List ℕ) : Type 0 where
  pub particles : length zones ≡ length xs / floats
  pub records : length xs ≡ length zones * floats
  pub answers : length out ≡ length zones * 2

pub sized_of : (xs out zones : List ℕ) (n : ℕ) → well_sized xs out ≡ true → zones_fit (length xs / floats) zones n ≡ true → Sized xs out zones
sized_of xs out zones n w e =
    let f = (fits_of (length xs / floats) zones n e).each in
    let a = and_both (eqb (length xs / floats * floats) (length xs)) (eqb (length xs / floats * 2) (length out)) w in
    record { particles = f; records = sym (eqb-true _ _ a.0) ∙ ap (λ (k : ℕ). k * floats) (sym f); answers = sym (eqb-true _ _ a.1) ∙ ap (λ (k : ℕ). k * 2) (sym f) }
