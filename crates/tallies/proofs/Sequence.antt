-- Over any sequence of calls from cleared tallies, each so-far number is the count of what happened in that zone since. Assumes nothing.
use mathlib.Core.Path.{◌≡◌, refl, sym, ap, ◌∙◌}
use mathlib.Core.Bool.{Bool, true, false, cond, ◌&&◌}
use mathlib.Core.List.{List, [], ◌∷◌, ◌++◌, append_assoc, append-nil}
use Prim.Native.Nat.{ℕ, zero, suc, ◌+◌, ◌/◌, ◌<◌}
use native.Mathlib.Omega.{arith}
use lib.Dec.{eqb}
use lib.ListN.{length, get_or, set}
use Rattle.answers.specs.Refusals.{wrong_length, bad_zone, tally_full}
use Rattle.plasticity.specs.declared.Outcome.{Outcome}
use Rattle.plasticity.specs.declared.Outcome.TheVariants.{Untouched, Stored, Refused}
use Rattle.record.specs.Layout.{floats}
use Rattle.particles.specs.Pass.{Worked, record_at, counted_if, well_sized}
use Rattle.particles.specs.Step.{step_law}
use Rattle.tallies.specs.declared.tally.Tally.{Tally}
use Rattle.tallies.specs.Zones.{listed, zones_fit, move_fits}
use Rattle.tallies.specs.Tallies.{none, with_particles, tallied, by_zone, recount, recounted, cleared_at, tallied_in, clear_refusal, move_refusal, pass_room, pass_refusal, pass_goes}
use Rattle.tallies.specs.Sequence.{Call, clear, move, pass, Kept, after, Event, happens, log, after_all, log_all, count, is_untouched, is_stored, is_refused, here, Counted}
use Rattle.tallies.proofs.ByZone.{get_by, length_by}

-- ---- one event more
count_snoc : (p : Event → Bool) (es : List Event) (e : Event) → count p (es ++ (e ∷ [])) ≡ cond (p e) (count p es + 1) (count p es)
unfolding count
count_snoc p [] e = go (p e)
  where
    go : (b : Bool) → cond b (suc 0) 0 ≡ cond b (0 + 1) 0
    go true = refl
    go false = refl
count_snoc p (d ∷ es) e = go (p d) (p e) (count_snoc p es e)
  where
    go : (b c : Bool) → count p (es ++ (e ∷ [])) ≡ cond c (count p es + 1) (count p es)
        → cond b (suc (count p (es ++ (e ∷ [])))) (count p (es ++ (e ∷ []))) ≡ cond c (cond b (suc (count p es)) (count p es) + 1) (cond b (suc (count p es)) (count p es))
    go true true h = ap suc h ∙ (let q : suc (count p es + 1) ≡ suc (count p es) + 1 = omega arith in q)
    go true false h = ap suc h
    go false true h = h
    go false false h = h

module _ (z : ℕ) (es : List Event) (e : Event) (k : Event → Bool) where
  elsewhere : here z e ≡ false → count (λ d. here z d && k d) es ≡ count (λ d. here z d && k d) (es ++ (e ∷ []))
  elsewhere h = sym (count_snoc (λ d. here z d && k d) es e ∙ ap (λ (b : Bool). cond (b && k e) (count (λ d. here z d && k d) es + 1) (count (λ d. here z d && k d) es)) h)

  once : here z e ≡ true → cond (k e) (count (λ d. here z d && k d) es + 1) (count (λ d. here z d && k d) es) ≡ count (λ d. here z d && k d) (es ++ (e ∷ []))
  once h = sym (count_snoc (λ d. here z d && k d) es e ∙ ap (λ (b : Bool). cond (b && k e) (count (λ d. here z d && k d) es + 1) (count (λ d. here z d && k d) es)) h)

abbrev event : ℕ → Outcome → Bool → Event
event y o f = record { zone = y; outcome = o; failed = f }

counted_elsewhere : (t : Tally) (z : ℕ) (es : List Event) (e : Event) → here z e ≡ false → Counted t z es → Counted t z (es ++ (e ∷ []))
counted_elsewhere t z es e h c = record {
  untouched = c.untouched ∙ elsewhere z es e (λ d. is_untouched d.outcome) h;
  stored = c.stored ∙ elsewhere z es e (λ d. is_stored d.outcome) h;
  refused = c.refused ∙ elsewhere z es e (λ d. is_refused d.outcome) h;
  failed = c.failed ∙ elsewhere z es e (λ d. d.failed) h;
}

module _ (t : Tally) (z : ℕ) (es : List Event) (y : ℕ) (f : Bool) (c : Counted t z es) where
  failed_once : (o : Outcome) → here z (event y o f) ≡ true → counted_if t.failed f ≡ count (λ d. here z d && d.failed) (es ++ (event y o f ∷ []))
  failed_once o h = ap (λ (n : ℕ). counted_if n f) c.failed ∙ once z es (event y o f) (λ d. d.failed) h

  counted_once : (o : Outcome) → here z (event y o f) ≡ true → Counted (tallied t o f) z (es ++ (event y o f ∷ []))
  counted_once Untouched h = record {
    untouched = ap (λ (n : ℕ). n + 1) c.untouched ∙ once z es (event y Untouched f) (λ d. is_untouched d.outcome) h;
    stored = c.stored ∙ once z es (event y Untouched f) (λ d. is_stored d.outcome) h;
    refused = c.refused ∙ once z es (event y Untouched f) (λ d. is_refused d.outcome) h;
    failed = failed_once Untouched h;
  }
  counted_once (Stored a) h = record {
    untouched = c.untouched ∙ once z es (event y (Stored a) f) (λ d. is_untouched d.outcome) h;
    stored = ap (λ (n : ℕ). n + 1) c.stored ∙ once z es (event y (Stored a) f) (λ d. is_stored d.outcome) h;
    refused = c.refused ∙ once z es (event y (Stored a) f) (λ d. is_refused d.outcome) h;
    failed = failed_once (Stored a) h;
  }
  counted_once (Refused n) h = record {
    untouched = c.untouched ∙ once z es (event y (Refused n) f) (λ d. is_untouched d.outcome) h;
    stored = c.stored ∙ once z es (event y (Refused n) f) (λ d. is_stored d.outcome) h;
    refused = ap (λ (n : ℕ). n + 1) c.refused ∙ once z es (event y (Refused n) f) (λ d. is_refused d.outcome) h;
    failed = failed_once (Refused n) h;
  }

  one_counted : (o : Outcome) (b : Bool) → here z (event y o f) ≡ b → Counted (cond b (tallied t o f) t) z (es ++ (event y o f ∷ []))
  one_counted o true h = counted_once o h
  one_counted o false h = counted_elsewhere t z es (event y o f) h c

-- ---- the first i particles of a pass
pass_counted : (law : List ℕ → Worked) (xs zones : List ℕ) (t : Tally) (z : ℕ) (es : List Event) → Counted t z es → (i : ℕ)
    → Counted (tallied_in law xs zones i z t) z (es ++ happens law xs zones i)
unfolding tallied_in happens
pass_counted law xs zones t z es c zero = rw (append-nil es) c
pass_counted law xs zones t z es c (suc i) =
    let w = law (record_at xs i) in
    rw (← append_assoc es (happens law xs zones i) (event (get_or zones i 0) w.outcome w.failed ∷ []))
    (one_counted (tallied_in law xs zones i z t) z (es ++ happens law xs zones i) (get_or zones i 0) w.failed (pass_counted law xs zones t z es c i) w.outcome (eqb (get_or zones i 0) z) refl)

-- the first number plays no part
recount_counted : (n : ℕ) (t : Tally) (z : ℕ) (es : List Event) → Counted t z es → Counted (with_particles n t) z es
recount_counted n t z es c = record { untouched = c.untouched; stored = c.stored; refused = c.refused; failed = c.failed }

none_counted : (n z : ℕ) → Counted (with_particles n none) z []
unfolding count
none_counted n z = record { untouched = refl; stored = refl; refused = refl; failed = refl }

-- ---- one call
abbrev pub AllCounted : List Tally → List Event → Type 0
AllCounted ts es = (z : ℕ) → z < length ts → Counted (get_or ts z none) z es

by_counted : (f : ℕ → Tally → Tally) (ts : List Tally) (es : List Event) → ((z : ℕ) → z < length ts → Counted (f z (get_or ts z none)) z es) → AllCounted (by_zone f 0 ts) es
by_counted f ts es h z l = let k : z < length ts = omega (arith, l, length_by f ts) in rw (get_by f ts z k) (h z k)

recounted_counted : (zones : List ℕ) (ts : List Tally) (es : List Event) → AllCounted ts es → AllCounted (recounted zones ts) es
recounted_counted zones ts es h = by_counted (recount zones) ts es (λ z l. recount_counted (listed zones z) (get_or ts z none) z es (h z l))

cleared_counted : (zones : List ℕ) (ts : List Tally) → AllCounted (by_zone (cleared_at zones) 0 ts) []
cleared_counted zones ts = by_counted (cleared_at zones) ts [] (λ z l. none_counted (listed zones z) z)

passed_counted : (law : List ℕ → Worked) (xs zones : List ℕ) (ts : List Tally) (es : List Event) (n : ℕ) → AllCounted ts es
    → AllCounted (by_zone (tallied_in law xs zones n) 0 (recounted zones ts)) (es ++ happens law xs zones n)
passed_counted law xs zones ts es n h =
    by_counted (tallied_in law xs zones n) (recounted zones ts) (es ++ happens law xs zones n)
    (λ z l. pass_counted law xs zones (get_or (recounted zones ts) z none) z es (recounted_counted zones ts es h z l) n)

-- done or refused
either : (b : Bool) (us ts : List Tally) (fs es : List Event) → AllCounted us fs → AllCounted ts es → AllCounted (cond b us ts) (cond b fs es)
either true us ts fs es g h = g
either false us ts fs es g h = h

same_log : (b : Bool) (us ts : List Tally) (es : List Event) → AllCounted us es → AllCounted ts es → AllCounted (cond b us ts) es
same_log true us ts es g h = g
same_log false us ts es g h = h

pub call_counted : (c : Call) (k : Kept) (es : List Event) → AllCounted k.tallies es → AllCounted (after c k).tallies (log c k es)
call_counted (clear n) k es h = either (zones_fit n k.zones (length k.tallies)) _ k.tallies [] es (cleared_counted k.zones k.tallies) h
call_counted (move n p z) k es h = same_log (move_fits n p z k.zones (length k.tallies)) _ k.tallies es (recounted_counted (set k.zones p z) k.tallies es h) h
call_counted (pass s xs out) k es h =
    either (pass_goes xs out k.zones (length k.tallies) k.tallies) _ k.tallies (es ++ happens (step_law s) xs k.zones (length xs / floats)) es
    (passed_counted (step_law s) xs k.zones k.tallies es (length xs / floats) h) h

-- ---- any sequence
pub all_counted : (cs : List Call) (k : Kept) (es : List Event) → AllCounted k.tallies es → AllCounted (after_all cs k).tallies (log_all cs k es)
unfolding after_all log_all
all_counted [] k es h = h
all_counted (c ∷ cs) k es h = all_counted cs (after c k) (log c k es) (call_counted c k es h)

-- a clear that isn't refused, and then any calls, refused ones too
pub since_cleared : (n : ℕ) (k : Kept) → clear_refusal n k.zones (length k.tallies) ≡ 0 → (cs : List Call)
    → AllCounted (after_all cs (after (clear n) k)).tallies (log_all cs (after (clear n) k) [])
since_cleared n k e cs = all_counted cs (after (clear n) k) [] (go (zones_fit n k.zones (length k.tallies)) e)
  where
    go : (b : Bool) → ◌≡◌ {A = ℕ} (cond b 0 bad_zone) 0 → AllCounted (cond b (by_zone (cleared_at k.zones) 0 k.tallies) k.tallies) []
    go true q = cleared_counted k.zones k.tallies
    go false q = absurd (omega (arith, q))

-- ---- particles now
tallied_particles : (t : Tally) (o : Outcome) (f : Bool) → (tallied t o f).particles ≡ t.particles
tallied_particles t Untouched f = refl
tallied_particles t (Stored a) f = refl
tallied_particles t (Refused n) f = refl

pass_particles : (law : List ℕ → Worked) (xs zones : List ℕ) (i z : ℕ) (t : Tally) → (tallied_in law xs zones i z t).particles ≡ t.particles
unfolding tallied_in
pass_particles law xs zones zero z t = refl
pass_particles law xs zones (suc i) z t = go (eqb (get_or zones i 0) z) (pass_particles law xs zones i z t)
  where
    u : Tally
    u = tallied_in law xs zones i z t

    go : (b : Bool) → u.particles ≡ t.particles → (cond b (tallied u (law (record_at xs i)).outcome (law (record_at xs i)).failed) u).particles ≡ t.particles
    go true h = tallied_particles u (law (record_at xs i)).outcome (law (record_at xs i)).failed ∙ h
    go false h = h

-- 0, or the number that refuses a call
abbrev pub refusal_of : Call → Kept → ℕ
refusal_of (clear n) k = clear_refusal n k.zones (length k.tallies)
refusal_of (move n p z) k = move_refusal n p z k.zones (length k.tallies)
refusal_of (pass s xs out) k = pass_refusal xs out k.zones (length k.tallies) k.tallies

abbrev pub AllNow : List ℕ → List Tally → Type 0
AllNow zones ts = (z : ℕ) → z < length ts → (get_or ts z none).particles ≡ listed zones z

by_now : (zones : List ℕ) (f : ℕ → Tally → Tally) (ts : List Tally) → ((z : ℕ) → z < length ts → (f z (get_or ts z none)).particles ≡ listed zones z) → AllNow zones (by_zone f 0 ts)
by_now zones f ts h z l = let k : z < length ts = omega (arith, l, length_by f ts) in ap (λ (t : Tally). t.particles) (get_by f ts z k) ∙ h z k

recounted_now : (zones : List ℕ) (ts : List Tally) → AllNow zones (recounted zones ts)
recounted_now zones ts = by_now zones (recount zones) ts (λ z l. refl)

-- each call that isn't refused counts it afresh
pub now_counted : (c : Call) (k : Kept) → refusal_of c k ≡ 0 → AllNow (after c k).zones (after c k).tallies
now_counted (clear n) k e = go (zones_fit n k.zones (length k.tallies)) e
  where
    go : (b : Bool) → ◌≡◌ {A = ℕ} (cond b 0 bad_zone) 0 → AllNow k.zones (cond b (by_zone (cleared_at k.zones) 0 k.tallies) k.tallies)
    go true q = by_now k.zones (cleared_at k.zones) k.tallies (λ z l. refl)
    go false q = absurd (omega (arith, q))
now_counted (move n p z) k e = go (move_fits n p z k.zones (length k.tallies)) e
  where
    go : (b : Bool) → ◌≡◌ {A = ℕ} (cond b 0 bad_zone) 0 → AllNow (cond b (set k.zones p z) k.zones) (cond b (recounted (set k.zones p z) k.tallies) k.tallies)
    go true q = recounted_now (set k.zones p z) k.tallies
    go false q = absurd (omega (arith, q))
now_counted (pass s xs out) k e = go (well_sized xs out) (zones_fit (length xs / floats) k.zones (length k.tallies)) (pass_room k.zones (length k.tallies) k.tallies) e
  where
    done : AllNow k.zones (by_zone (tallied_in (step_law s) xs k.zones (length xs / floats)) 0 (recounted k.zones k.tallies))
    done = by_now k.zones (tallied_in (step_law s) xs k.zones (length xs / floats)) (recounted k.zones k.tallies)
        (λ z l. pass_particles (step_law s) xs k.zones (length xs / floats) z (get_or (recounted k.zones k.tallies) z none) ∙ recounted_now k.zones k.tallies z l)

    go : (a b c : Bool) → ◌≡◌ {A = ℕ} (cond a (cond b (cond c 0 tally_full) bad_zone) wrong_length) 0
        → AllNow k.zones (cond (a && (b && c)) (by_zone (tallied_in (step_law s) xs k.zones (length xs / floats)) 0 (recounted k.zones k.tallies)) k.tallies)
    go true true true q = done
    go true true false q = absurd (omega (arith, q))
    go true false c q = absurd (omega (arith, q))
    go false b c q = absurd (omega (arith, q))
