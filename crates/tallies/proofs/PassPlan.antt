-- A pass over lent tallies by its plans: the look for room, then particles counted afresh, then the records. Assumes nothing.
use mathlib.Core.Path.{◌≡◌, refl, sym, ap, ◌∙◌}
use mathlib.Core.Bool.{Bool, true, false, cond, ◌&&◌}
use mathlib.Core.List.{List}
use Prim.Native.Nat.{ℕ, zero, suc, ◌/◌, ◌≤◌, ◌<◌}
use native.Mathlib.Omega.{arith}
use lib.Dec.{eqb}
use lib.ListN.{length}
use Rattle.numbers.proofs.Laws.{and_both}
use Rattle.answers.specs.Refusals.{wrong_length, bad_zone, tally_full}
use Rattle.record.specs.Layout.{floats}
use Rattle.particles.specs.declared.step.Step.{Step}
use Rattle.particles.specs.Step.{step_law}
use Rattle.particles.specs.Pass.{Worked, worked, answers, well_sized}
use Rattle.tallies.specs.declared.tally.Tally.{Tally}
use Rattle.tallies.specs.declared.plan.Plan.{Plan}
use Rattle.tallies.specs.Zones.{zones_fit}
use Rattle.tallies.specs.Tallies.{by_zone, recount, recounted, tallied_in, room_in, clear_refusal, pass_zones_fit, pass_room, pass_refusal, pass_goes, records_after, answers_after, pass_tallies}
use Rattle.tallies.specs.Plans.{Counts, Planned, planned, room_by}
use Rattle.tallies.proofs.ByZone.{get_by, length_by, recounted_twice}
use Rattle.tallies.proofs.ZoneLaws.{fits_of, sized_of}
use Rattle.tallies.proofs.Passing.{Ready, Passed}
use Rattle.tallies.proofs.Settling.{Settled, leaves, recounts}

-- what the first plan and the second ensure
abbrev pub Looked : List ℕ → List ℕ → List ℕ → ℕ → Plan → Type 0
Looked xs out zones n p =
    (p.refusal ≡ cond (well_sized xs out) (clear_refusal (length xs / floats) zones n) wrong_length) × Planned 0 (well_sized xs out && zones_fit (length xs / floats) zones n) zones p

abbrev pub Turned : Plan → Bool → Plan → Type 0
Turned p ok q = (q.refusal ≡ cond (eqb p.refusal 0) (cond ok 0 tally_full) p.refusal) × (q.what ≡ cond (eqb p.refusal 0 && ok) 1 p.what) × (q.counts ≡ p.counts)

-- the look finds room where the tallies, counted afresh, have it
pub room_found : (p : Plan) (zones : List ℕ) (ts : List Tally) → length ts ≤ 256 → Counts zones p.counts → (n : ℕ) → n ≤ length ts → room_by p.counts ts n ≡ room_in (recounted zones ts) n
unfolding room_by room_in
room_found p zones ts h c zero l = refl
room_found p zones ts h c (suc n) l =
    let k : n < length ts = l in
    let e = c n (omega (arith, l, h)) in
    let g = get_by (recount zones) ts n k in
    rw (room_found p zones ts h c n (omega arith), g, e) refl

-- either it goes, and the tallies stand counted afresh, ready for the records; or it is refused, and they stand as they came
pub record Goes (xs out zones : List ℕ) (ts us : List Tally) : Type 0 where
  pub fits : pass_goes xs out zones (length ts) ts ≡ true
  pub counted : us ≡ recounted zones ts
  pub ready : Ready xs out zones us (length us)

module _ (xs out zones : List ℕ) (ts : List Tally) where
  abbrev n : ℕ
  n = length ts

  abbrev a : Bool
  a = well_sized xs out

  abbrev b : Bool
  b = zones_fit (length xs / floats) zones n

  module _ (p q : Plan) (ok : Bool) (looked : Looked xs out zones n p) (rs us : List Tally) (first : Settled p ts ok rs) (turned : Turned p ok q) (y : Bool) (second : Settled q rs y us) where
    -- the look leaves all as it came
    idle : (c : Bool) → ◌≡◌ {A = ℕ} (cond c 0 0) 0
    idle true = refl
    idle false = refl

    same : rs ≡ ts
    same = first.1 ∙ leaves p ts (looked.1.0 ∙ idle (a && b))

    abbrev Result : ℕ → Type 0
    Result r = (r ≡ pass_refusal xs out zones n ts) × ((r ≡ 0 → Goes xs out zones ts us) × ((r ≡ 0 → ⊥) → (pass_goes xs out zones n ts ≡ false) × (us ≡ ts)))

    still : q.what ≡ 0 → us ≡ ts
    still e = second.1 ∙ leaves q rs e ∙ same

    pub both : Result q.refusal
    both = go a refl b refl ok refl looked.0 looked.1 turned.0 turned.1
      where
        idle_what : (g : Bool) → p.what ≡ cond g 0 0 → p.what ≡ 0
        idle_what g e = e ∙ idle g

        room : a ≡ true → b ≡ true → Counts zones p.counts → ok ≡ pass_room zones n ts
        room ea eb c = first.0 ∙ room_found p zones ts (fits_of (length xs / floats) zones n eb).most c n (omega arith)

        go : (a' : Bool) → a ≡ a' → (b' : Bool) → b ≡ b' → (ok' : Bool) → ok ≡ ok' → p.refusal ≡ cond a' (cond b' 0 bad_zone) wrong_length → Planned 0 (a' && b') zones p
            → q.refusal ≡ cond (eqb p.refusal 0) (cond ok' 0 tally_full) p.refusal → q.what ≡ cond (eqb p.refusal 0 && ok') 1 p.what → Result q.refusal
        go true ea true eb true eo r pl qr qw =
            let c = pl.1 refl in
            let zero_code : eqb p.refusal 0 ≡ true = rw r refl in
            let done : q.refusal ≡ 0 = qr ∙ rw zero_code refl in
            let works : q.what ≡ 1 = qw ∙ rw zero_code refl in
            let has : pass_room zones n ts ≡ true = sym (room ea eb c) ∙ eo in
            let f = fits_of (length xs / floats) zones n eb in
            let new : us ≡ recounted zones ts = second.1 ∙ ap (by_zone (planned q.what q.counts) 0) same ∙ recounts q zones ts f.most works (rw turned.2 c) in
            let long : length us ≡ n = ap length new ∙ length_by (recount zones) ts in
            let z = sized_of xs out zones n ea eb in (
              done ∙ rw (ea, eb, has) refl,
              (
                λ e. record {
                  fits = rw (ea, eb, has) refl;
                  counted = new;
                  ready = (z.records, z.answers, omega arith, (rw long f.below), (rw (long, new, recounted_twice zones ts) has));
                },
                λ d. absurd (d done),
              ),
            )
        go true ea true eb false eo r pl qr qw =
            let c = pl.1 refl in
            let zero_code : eqb p.refusal 0 ≡ true = rw r refl in
            let full : q.refusal ≡ tally_full = qr ∙ rw zero_code refl in
            let idles : q.what ≡ 0 = qw ∙ rw zero_code (idle_what (true && true) pl.0) in
            let has : pass_room zones n ts ≡ false = sym (room ea eb c) ∙ eo in
            (full ∙ rw (ea, eb, has) refl, (λ e. absurd (omega (arith, e, full)), λ d. (rw (ea, eb, has) refl, still idles)))
        go true ea false eb ok' eo r pl qr qw =
            let code : eqb p.refusal 0 ≡ false = rw r refl in
            let out_of : q.refusal ≡ bad_zone = qr ∙ rw code r in
            let idles : q.what ≡ 0 = qw ∙ rw code (idle_what (true && false) pl.0) in
            (out_of ∙ rw (ea, eb) refl, (λ e. absurd (omega (arith, e, out_of)), λ d. (rw (ea, eb) refl, still idles)))
        go false ea b' eb ok' eo r pl qr qw =
            let code : eqb p.refusal 0 ≡ false = rw r refl in
            let wrong : q.refusal ≡ wrong_length = qr ∙ rw code r in
            let idles : q.what ≡ 0 = qw ∙ rw code (idle_what (false && b') pl.0) in
            (wrong ∙ rw ea refl, (λ e. absurd (omega (arith, e, wrong)), λ d. (rw ea refl, still idles)))

-- what the call ensures
abbrev pub PassedBy : (List ℕ → Worked) → List ℕ → List ℕ → List ℕ → List Tally → ℕ → List ℕ → List ℕ → List Tally → Type 0
PassedBy law xs out zones ts r xs' out' ts' =
    (r ≡ pass_refusal xs out zones (length ts) ts) × (xs' ≡ records_after law xs out zones (length ts) ts) × (out' ≡ answers_after law xs out zones (length ts) ts) × (ts' ≡ pass_tallies law xs out zones (length ts) ts)

pub went : (s : Step) (xs out zones : List ℕ) (ts us : List Tally) (r : ℕ) (xs' out' : List ℕ) (ts' : List Tally) → r ≡ pass_refusal xs out zones (length ts) ts → Goes xs out zones ts us → Passed s xs zones us ts' xs' out' → PassedBy (step_law s) xs out zones ts r xs' out' ts'
went s xs out zones ts us r xs' out' ts' e g d =
    let parts = and_both (well_sized xs out) (pass_zones_fit xs zones (length ts) && pass_room zones (length ts) ts) g.fits in
    let more = and_both (pass_zones_fit xs zones (length ts)) (pass_room zones (length ts) ts) parts.1 in
    let z = (sized_of xs out zones (length ts) parts.0 more.0).particles in
    let f = g.fits in (
      e,
      rw f (d.1 ∙ ap (worked (step_law s) xs) z),
      rw f (d.2 ∙ ap (answers (step_law s) xs) z),
      rw f (d.0 ∙ ap (by_zone (tallied_in (step_law s) xs zones (length zones)) 0) g.counted ∙ ap (λ (k : ℕ). by_zone (tallied_in (step_law s) xs zones k) 0 (recounted zones ts)) z),
    )

pub refused : (law : List ℕ → Worked) (xs out zones : List ℕ) (ts us : List Tally) (r : ℕ) → r ≡ pass_refusal xs out zones (length ts) ts → (pass_goes xs out zones (length ts) ts ≡ false) × (us ≡ ts) → PassedBy law xs out zones ts r xs out us
refused law xs out zones ts us r e h = let f = h.0 in (e, rw f refl, rw f refl, h.1 ∙ rw f refl)
