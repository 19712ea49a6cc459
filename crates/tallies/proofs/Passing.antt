-- A pass over lent tallies, record by record: what is so at the head of a turn, what the turn asks of the step, and what stands after the last. Assumes nothing.
use mathlib.Core.Path.{◌≡◌, refl, ap, subst, ◌∙◌}
use mathlib.Core.Bool.{Bool, true}
use mathlib.Core.List.{List, ◌++◌}
use Prim.Native.Nat.{ℕ, ◌+◌, ◌*◌, ◌≤◌, ◌<◌}
use native.Mathlib.Omega.{arith}
use lib.ListN.{length, get_or, set, drop}
use Rattle.plasticity.specs.declared.Outcome.{Outcome}
use Rattle.plasticity.specs.declared.Outcome.TheVariants.{Untouched, Stored, Refused}
use Rattle.record.specs.Layout.{floats}
use Rattle.particles.specs.declared.step.Step.{Step}
use Rattle.particles.specs.Step.{step_law, taken_of, taken_finite, taken_law}
use Rattle.particles.specs.Pass.{Worked, record_at, replaced, answered, worked, answers, worked_over, answers_over}
use Rattle.particles.proofs.JudgedLaws.{step_keeps}
use Rattle.particles.proofs.ReadiedLaws.{taken_finite_lem, taken_law_lem}
use Rattle.particles.proofs.PassLaws.{worked_step, answers_step, records_length, record_same, answers_long}
use Rattle.tallies.specs.declared.tally.Tally.{Tally}
use Rattle.tallies.specs.declared.tally.Told.{Told}
use Rattle.tallies.specs.Zones.{below_in}
use Rattle.tallies.specs.Tallies.{none, tallied, told_of, grown, Small, by_zone, recount, recounted, tallied_in, room_in}
use Rattle.tallies.proofs.ByZone.{get_by, length_by, is_by, set_by}
use Rattle.tallies.proofs.ZoneLaws.{below_at, listed_grows, tallied_here, tallied_other, tallied_within, room_at, room_of}

-- what the pass requires of its lists
abbrev pub Ready : List ℕ → List ℕ → List ℕ → List Tally → ℕ → Type 0
Ready xs out zones ts n =
    (length xs ≡ length zones * floats) × (length out ≡ length zones * 2) × (n ≤ length ts) × (below_in n zones (length zones) ≡ true) × (room_in (recounted zones ts) n ≡ true)

-- a tally with room stays far below what a word holds
small : (law : List ℕ → Worked) (xs zones : List ℕ) (ts : List Tally) (n i z : ℕ) → i ≤ length zones → z < n → z < length ts → room_in (recounted zones ts) n ≡ true
    → Small (get_or (by_zone (tallied_in law xs zones i) 0 ts) z none)
small law xs zones ts n i z h l k e =
    let w = tallied_within law xs zones i z (get_or ts z none) in
    let g = listed_grows zones z i (length zones) h in
    let r = room_of (recount zones z (get_or ts z none)) ((rw (get_by (recount zones) ts z k) at (room_at (recounted zones ts) n z e l))) in
    let a = w.untouched in let b = w.stored in let c = w.refused in let d = w.failed in
    let a2 = r.untouched in let b2 = r.stored in let c2 = r.refused in let d2 = r.failed in
    rw (get_by (tallied_in law xs zones i) ts z k) (omega arith, omega arith, omega arith, omega arith)

-- at the head of a turn: the first i records are worked, and their outcomes counted
pub record State (s : Step) (xs₀ out₀ zones : List ℕ) (ts₀ : List Tally) (i : ℕ) (xs out : List ℕ) (ts : List Tally) : Type 0 where
  pub counted : ts ≡ by_zone (tallied_in (step_law s) xs₀ zones i) 0 ts₀
  pub records : xs ≡ worked (step_law s) xs₀ i ++ drop (i * floats) xs₀
  pub answered_so : out ≡ answers (step_law s) xs₀ i ++ drop (i * 2) out₀

-- what the step ensures of record i, by its law
abbrev pub Stepped : (List ℕ → Worked) → ℕ → List ℕ → List ℕ → Told → List ℕ → List ℕ → Type 0
Stepped law i xs out d xs' out' =
    (d ≡ told_of (law (record_at xs i)).outcome (law (record_at xs i)).failed) × (xs' ≡ replaced xs i (law (record_at xs i)).after) × (out' ≡ answered out i (law (record_at xs i)).outcome)

-- a step made ready works as the step does
pub as_the_step : (s : Step) (i : ℕ) (xs out : List ℕ) (d : Told) (xs' out' : List ℕ) → Stepped (taken_law (taken_of s)) i xs out d xs' out' → Stepped (step_law s) i xs out d xs' out'
as_the_step s i xs out d xs' out' = subst (λ (law : List ℕ → Worked). Stepped law i xs out d xs' out') (taken_law_lem s)

-- and what the pass ensures
abbrev pub Passed : Step → List ℕ → List ℕ → List Tally → List Tally → List ℕ → List ℕ → Type 0
Passed s xs zones ts ts' xs' out' =
    (ts' ≡ by_zone (tallied_in (step_law s) xs zones (length zones)) 0 ts) × (xs' ≡ worked (step_law s) xs (length zones)) × (out' ≡ answers (step_law s) xs (length zones))

-- what the step tells grows as a pass counts
pub grown_tallied : (t : Tally) (o : Outcome) (f : Bool) → grown t (told_of o f) ≡ tallied t o f
grown_tallied t Untouched f = refl
grown_tallied t (Stored a) f = refl
grown_tallied t (Refused n) f = refl

-- before the first record
pub start : {s : Step} {xs out zones : List ℕ} {ts : List Tally} → State s xs out zones ts 0 xs out ts
unfolding tallied_in worked_over answers_over
start {s} {xs} {out} {zones} {ts} = record { counted = is_by (tallied_in (step_law s) xs zones 0) ts ts refl (λ z l. refl); records = refl; answered_so = refl }

module _ {s : Step} {xs₀ out₀ zones : List ℕ} {ts₀ : List Tally} {i : ℕ} {xs out : List ℕ} {ts : List Tally} (n : ℕ) (ready : Ready xs₀ out₀ zones ts₀ n) (st : State s xs₀ out₀ zones ts₀ i xs out ts) (within : i < length zones) where
  abbrev law : List ℕ → Worked
  law = step_law s

  abbrev zone : ℕ
  zone = get_or zones i 0

  abbrev told : Tally
  told = get_or ts zone none

  zone_below : zone < n
  zone_below = below_at n zones (length zones) i ready.3 within

  inside : zone < length ts₀
  inside = omega (arith, zone_below, ready.2)

  -- of the step, and of the store
  pub asks : (i * floats + floats ≤ length xs) × (i * 2 + 2 ≤ length out) × (taken_finite (taken_of s) ≡ true)
  asks =
      let xs_long = records_length floats law (step_keeps s) xs₀ i xs st.records (omega (arith, within, ready.0)) in
      let out_long = answers_long floats law xs₀ out₀ i out st.answered_so (omega (arith, within, ready.1)) in
      (omega (arith, within, xs_long, ready.0), omega (arith, within, out_long, ready.1), taken_finite_lem s)

  pub asks_too : (zone < length ts) × Small told
  asks_too =
      let ts_long : length ts ≡ length ts₀ = ap length st.counted ∙ length_by (tallied_in law xs₀ zones i) ts₀ in
      (omega (arith, inside, ts_long), rw st.counted (small law xs₀ zones ts₀ n i zone (omega arith) zone_below inside ready.4))

  module _ (d : Told) (xs' out' : List ℕ) (ts' : List Tally) (e : Stepped law i xs out d xs' out') (w : ts' ≡ set ts zone (grown told d)) where
    same : record_at xs i ≡ record_at xs₀ i
    same = record_same floats law (step_keeps s) xs₀ i xs st.records (omega (arith, within, ready.0))

    next_counted : ts' ≡ by_zone (tallied_in law xs₀ zones (i + 1)) 0 ts₀
    next_counted =
        let f = ap (λ (l : List ℕ). (law l).outcome) same in
        let g = ap (λ (l : List ℕ). (law l).failed) same in
        let old = ap (λ (us : List Tally). get_or us zone none) st.counted ∙ get_by (tallied_in law xs₀ zones i) ts₀ zone inside in
        w ∙ set_by (tallied_in law xs₀ zones i) (tallied_in law xs₀ zones (i + 1)) ts ts₀ zone (grown told d) inside st.counted
        (ap (grown told) e.0 ∙ grown_tallied told (law (record_at xs i)).outcome (law (record_at xs i)).failed ∙ tallied_here law xs₀ zones i zone (get_or ts₀ zone none) told (law (record_at xs i)).outcome (law (record_at xs i)).failed refl old f g)
        (λ y b d. tallied_other law xs₀ zones i y (get_or ts₀ y none) d)

    pub next : State s xs₀ out₀ zones ts₀ (i + 1) xs' out' ts'
    next = record {
      counted = next_counted;
      records = e.1 ∙ worked_step floats law (step_keeps s) xs₀ i (omega (arith, within, ready.0)) xs st.records;
      answered_so = e.2 ∙ answers_step floats law xs₀ i out₀ (omega (arith, within, ready.1)) out st.answered_so (law (record_at xs i)).outcome (ap (λ (l : List ℕ). (law l).outcome) same);
    }
