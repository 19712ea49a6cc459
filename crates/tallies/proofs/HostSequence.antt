-- The calls on words, one after another: what stands in a zone's words since they were cleared is the count of what happened there; and when each call is refused. Assumes nothing.
use mathlib.Core.Path.{◌≡◌, refl, sym, ap, ◌∙◌}
use mathlib.Core.Logic.{◌⊎◌, ◌↔◌}
use mathlib.Core.Bool.{Bool, true, false, cond, ◌&&◌, false≢true}
use mathlib.Core.List.{List, [], ◌∷◌}
use Prim.Native.Nat.{ℕ, ◌/◌, ◌≤◌, ◌<◌}
use native.Mathlib.Omega.{arith}
use lib.ListN.{length, get_or}
use Rattle.answers.specs.Refusals.{wrong_length, bad_zone, tally_full}
use Rattle.record.specs.Layout.{floats}
use Rattle.particles.specs.Pass.{Worked, well_sized}
use Rattle.particles.specs.Step.{step_law}
use Rattle.tallies.specs.declared.tally.Tally.{Tally}
use Rattle.tallies.specs.Zones.{listed, zones_fit, move_fits}
use Rattle.tallies.specs.Tallies.{none, clear_refusal, clear_tallies, move_refusal, move_zones, move_tallies, pass_zones_fit, pass_room, pass_refusal, pass_goes, pass_tallies}
use Rattle.tallies.specs.Words.{zones_of, whole, all_tallies, written, cleared, cleared_words, moved, moved_zones, moved_words, passed, passed_records, passed_answers, passed_words}
use Rattle.tallies.specs.Exactly.{OutOfRange, Full}
use Rattle.tallies.specs.Sequence.{Call, clear, move, pass, Kept, after, Event, log, after_all, log_all}
use Rattle.tallies.specs.HostSequence.{KeptWords, kept_of, answer_of, after_words, after_all_words, log_all_words, AllCountedWords, AllNowWords, Asked, after_all_asked, going}
use Rattle.tallies.proofs.ByZone.{clear_length, move_length, pass_length}
use Rattle.tallies.proofs.WordLaws.{tallies_length}
use Rattle.tallies.proofs.WordsBack.{tally_read, written_whole, written_back}
use Rattle.tallies.proofs.Exactly.{clear_twelve, move_twelve, pass_twelve, pass_thirteen}
use Rattle.tallies.proofs.Sequence.{AllCounted, AllNow, refusal_of, since_cleared, now_counted}

-- ---- one call on words is the call on the tallies that they are
kept_is : (z z' : List ℕ) (ts ts' : List Tally) → z ≡ z' → ts ≡ ts' → ◌≡◌ {A = Kept} (record { zones = z; tallies = ts }) (record { zones = z'; tallies = ts' })
kept_is z z' ts ts' e q = rw (e, q) refl

twice : (w b : Bool) (us ts : List Tally) → w ≡ true → cond (w && b) (cond b us ts) ts ≡ cond b us ts
twice true true us ts e = refl
twice true false us ts e = refl
twice false b us ts e = absurd (false≢true e)

module _ (ws : List ℕ) (w : whole ws ≡ true) where
  abbrev n : ℕ
  n = zones_of ws

  abbrev ts : List Tally
  ts = all_tallies ws

  many : length ts ≡ n
  many = tallies_length ws n

  -- what a call makes of them where it goes, it makes of the words
  went : (b : Bool) (us : List Tally) → length (cond b us ts) ≡ length ts → all_tallies (written (whole ws && b) (cond b us ts) ws) ≡ cond b us ts
  went b us e = written_back ws w (whole ws && b) (cond b us ts) (e ∙ many) ∙ twice (whole ws) b us ts w

  as_cleared : (m : ℕ) (zones : List ℕ) → all_tallies (cleared_words m zones ws) ≡ clear_tallies m zones (length ts) ts
  as_cleared m zones = went (zones_fit m zones n) _ (clear_length m zones n ts) ∙ ap (λ (k : ℕ). clear_tallies m zones k ts) (sym many)

  as_moved : (m p z : ℕ) (zones : List ℕ) → all_tallies (moved_words m p z zones ws) ≡ move_tallies m p z zones (length ts) ts
  as_moved m p z zones = went (move_fits m p z zones n) _ (move_length m p z zones n ts) ∙ ap (λ (k : ℕ). move_tallies m p z zones k ts) (sym many)

  as_moved_zones : (m p z : ℕ) (zones : List ℕ) → moved_zones m p z zones ws ≡ move_zones m p z zones (length ts)
  as_moved_zones m p z zones = ap (λ (b : Bool). cond b (move_zones m p z zones n) zones) w ∙ ap (move_zones m p z zones) (sym many)

  as_passed : (law : List ℕ → Worked) (xs out zones : List ℕ) → all_tallies (passed_words law xs out zones ws) ≡ pass_tallies law xs out zones (length ts) ts
  as_passed law xs out zones = went (pass_goes xs out zones n ts) _ (pass_length law xs out zones n ts) ∙ ap (λ (k : ℕ). pass_tallies law xs out zones k ts) (sym many)

pub as_tallies : (c : Call) (k : KeptWords) → whole k.words ≡ true → kept_of (after_words c k) ≡ after c (kept_of k)
as_tallies (clear m) k w = kept_is _ _ _ _ refl (as_cleared k.words w m k.zones)
as_tallies (move m p z) k w = kept_is _ _ _ _ (as_moved_zones k.words w m p z k.zones) (as_moved k.words w m p z k.zones)
as_tallies (pass s xs out) k w = kept_is _ _ _ _ refl (as_passed k.words w (step_law s) xs out k.zones)

-- and its number is that call's
pub answer_is : (c : Call) (k : KeptWords) → whole k.words ≡ true → answer_of c k ≡ refusal_of c (kept_of k)
answer_is (clear m) k w = ap (λ (b : Bool). cond b (clear_refusal m k.zones (zones_of k.words)) wrong_length) w ∙ ap (clear_refusal m k.zones) (sym (many k.words w))
answer_is (move m p z) k w = ap (λ (b : Bool). cond b (move_refusal m p z k.zones (zones_of k.words)) wrong_length) w ∙ ap (move_refusal m p z k.zones) (sym (many k.words w))
answer_is (pass s xs out) k w =
    ap (λ (b : Bool). cond b (pass_refusal xs out k.zones (zones_of k.words) (all_tallies k.words)) wrong_length) w
    ∙ ap (λ (m : ℕ). pass_refusal xs out k.zones m (all_tallies k.words)) (sym (many k.words w))

pub still_whole : (c : Call) (k : KeptWords) → whole k.words ≡ true → whole (after_words c k).words ≡ true
still_whole (clear m) k w = written_whole k.words w (whole k.words && zones_fit m k.zones (zones_of k.words)) (clear_tallies m k.zones (zones_of k.words) (all_tallies k.words))
still_whole (move m p z) k w = written_whole k.words w (whole k.words && move_fits m p z k.zones (zones_of k.words)) (move_tallies m p z k.zones (zones_of k.words) (all_tallies k.words))
still_whole (pass s xs out) k w =
    written_whole k.words w (whole k.words && pass_goes xs out k.zones (zones_of k.words) (all_tallies k.words)) (pass_tallies (step_law s) xs out k.zones (zones_of k.words) (all_tallies k.words))

-- words that are no whole number of tallies: 8
no_zero : (w : Bool) (r : ℕ) → cond w r wrong_length ≡ 0 → w ≡ true
no_zero true r e = refl
no_zero false r e = absurd (omega (arith, e))

pub whole_of : (c : Call) (k : KeptWords) → answer_of c k ≡ 0 → whole k.words ≡ true
whole_of (clear m) k e = no_zero (whole k.words) _ e
whole_of (move m p z) k e = no_zero (whole k.words) _ e
whole_of (pass s xs out) k e = no_zero (whole k.words) _ e

-- ---- any sequence
pub all_as_tallies : (cs : List Call) (k : KeptWords) (es : List Event) → whole k.words ≡ true
    → (kept_of (after_all_words cs k) ≡ after_all cs (kept_of k)) × (log_all_words cs k es ≡ log_all cs (kept_of k) es)
unfolding after_all_words log_all_words after_all log_all
all_as_tallies [] k es w = (refl, refl)
all_as_tallies (c ∷ cs) k es w =
    let ih = all_as_tallies cs (after_words c k) (log c (kept_of k) es) (still_whole c k w) in
    let e = as_tallies c k w in
    (ih.0 ∙ ap (after_all cs) e, ih.1 ∙ ap (λ (j : Kept). log_all cs j (log c (kept_of k) es)) e)

-- what the tallies say, the words say
in_words : (ws : List ℕ) (es : List Event) → AllCounted (all_tallies ws) es → AllCountedWords ws es
in_words ws es h z l = rw (tally_read ws (zones_of ws) z l) at (h z (omega (arith, l, tallies_length ws (zones_of ws))))

-- a clear that isn't refused, and then any calls, refused ones too
pub since_cleared_words : (m : ℕ) (k : KeptWords) → cleared m k.zones k.words ≡ 0 → (cs : List Call)
    → AllCountedWords (after_all_words cs (after_words (clear m) k)).words (log_all_words cs (after_words (clear m) k) [])
since_cleared_words m k e cs =
    let w = whole_of (clear m) k e in
    let j = after_words (clear m) k in
    let all = all_as_tallies cs j [] (still_whole (clear m) k w) in
    let one = as_tallies (clear m) k w in
    let done = since_cleared m (kept_of k) (sym (answer_is (clear m) k w) ∙ e) cs in
    in_words (after_all_words cs j).words (log_all_words cs j []) (moved_on (after_all_words cs j).words (after_all cs (after (clear m) (kept_of k))) (log_all_words cs j []) (log_all cs (after (clear m) (kept_of k)) [])
    (ap (λ (i : Kept). i.tallies) all.0 ∙ ap (λ (i : Kept). (after_all cs i).tallies) one) (all.1 ∙ ap (λ (i : Kept). log_all cs i []) one) done)
  where
    moved_on : (ws : List ℕ) (i : Kept) (es fs : List Event) → all_tallies ws ≡ i.tallies → es ≡ fs → AllCounted i.tallies fs → AllCounted (all_tallies ws) es
    moved_on ws i es fs p q h = rw (p, q) h

-- each call that isn't refused counts particles now afresh
pub now_counted_words : (c : Call) (k : KeptWords) → answer_of c k ≡ 0 → AllNowWords (after_words c k).zones (after_words c k).words
now_counted_words c k e =
    let w = whole_of c k e in
    said (after_words c k).zones (after_words c k).words (after c (kept_of k)) (as_tallies c k w) (now_counted c (kept_of k) (sym (answer_is c k w) ∙ e))
  where
    said : (zones ws : List ℕ) (i : Kept) → ◌≡◌ {A = Kept} (record { zones = zones; tallies = all_tallies ws }) i → AllNow i.zones i.tallies → AllNowWords zones ws
    said zones ws i q h z l =
        let ts = ap (λ (j : Kept). j.tallies) q in
        let zs = ap (λ (j : Kept). j.zones) q in
        let b : z < length i.tallies = omega (arith, l, tallies_length ws (zones_of ws), ap length ts) in
        ap (λ (t : Tally). t.particles) (sym (tally_read ws (zones_of ws) z l)) ∙ ap (λ (l : List Tally). (get_or l z none).particles) ts ∙ h z b ∙ ap (λ (l : List ℕ). listed l z) (sym zs)

-- ---- a refused call changes nothing: zones and words, and a pass's records and answers
module _ (w b : Bool) (A : Type 0) (x y : A) where
  stays : (cond w (cond b 0 bad_zone) wrong_length ≡ 0 → ⊥) → cond (w && b) x y ≡ y
  stays h = go w b h
    where
      go : (w b : Bool) → (◌≡◌ {A = ℕ} (cond w (cond b 0 bad_zone) wrong_length) 0 → ⊥) → cond (w && b) x y ≡ y
      go true true h = absurd (h refl)
      go true false h = refl
      go false b h = refl

  stays_too : (cond w (cond b 0 bad_zone) wrong_length ≡ 0 → ⊥) → cond w (cond b x y) y ≡ y
  stays_too h = go w b h
    where
      go : (w b : Bool) → (◌≡◌ {A = ℕ} (cond w (cond b 0 bad_zone) wrong_length) 0 → ⊥) → cond w (cond b x y) y ≡ y
      go true true h = absurd (h refl)
      go true false h = refl
      go false b h = refl

module _ (w a b c : Bool) (A : Type 0) (x y : A) where
  kept : (cond w (cond a (cond b (cond c 0 tally_full) bad_zone) wrong_length) wrong_length ≡ 0 → ⊥) → (cond (w && (a && (b && c))) x y ≡ y) × (cond w (cond (a && (b && c)) x y) y ≡ y)
  kept h = go w a b c h
    where
      go : (w a b c : Bool) → (◌≡◌ {A = ℕ} (cond w (cond a (cond b (cond c 0 tally_full) bad_zone) wrong_length) wrong_length) 0 → ⊥) → (cond (w && (a && (b && c))) x y ≡ y) × (cond w (cond (a && (b && c)) x y) y ≡ y)
      go true true true true h = absurd (h refl)
      go true true true false h = (refl, refl)
      go true true false c h = (refl, refl)
      go true false b c h = (refl, refl)
      go false a b c h = (refl, refl)

kept_words : (z z' ws ws' : List ℕ) → z ≡ z' → ws ≡ ws' → ◌≡◌ {A = KeptWords} (record { zones = z; words = ws }) (record { zones = z'; words = ws' })
kept_words z z' ws ws' e q = rw (e, q) refl

pub refused_keeps : (c : Call) (k : KeptWords) → (answer_of c k ≡ 0 → ⊥) → after_words c k ≡ k
refused_keeps (clear m) k h = kept_words _ _ _ _ refl (stays (whole k.words) (zones_fit m k.zones (zones_of k.words)) (List ℕ) _ k.words h)
refused_keeps (move m p z) k h =
    let b = move_fits m p z k.zones (zones_of k.words) in
    kept_words _ _ _ _ (stays_too (whole k.words) b (List ℕ) _ k.zones h) (stays (whole k.words) b (List ℕ) _ k.words h)
refused_keeps (pass s xs out) k h =
    kept_words _ _ _ _ refl (kept (whole k.words) (well_sized xs out) (pass_zones_fit xs k.zones (zones_of k.words)) (pass_room k.zones (zones_of k.words) (all_tallies k.words)) (List ℕ) _ k.words h).0

pub refused_pass_keeps : (law : List ℕ → Worked) (xs out zones ws : List ℕ) → (passed xs out zones ws ≡ 0 → ⊥) → (passed_records law xs out zones ws ≡ xs) × (passed_answers law xs out zones ws ≡ out) × (passed_words law xs out zones ws ≡ ws)
refused_pass_keeps law xs out zones ws h =
    let b = pass_zones_fit xs zones (zones_of ws) in
    let c = pass_room zones (zones_of ws) (all_tallies ws) in
    ((kept (whole ws) (well_sized xs out) b c (List ℕ) _ xs h).1, (kept (whole ws) (well_sized xs out) b c (List ℕ) _ out h).1, (kept (whole ws) (well_sized xs out) b c (List ℕ) _ ws h).0)

-- ---- 12 and 13, of the calls on words: exactly when, after 8
after_eight : (w : Bool) (r k : ℕ) → (wrong_length ≡ k → ⊥) → (cond w r wrong_length ≡ k) ↔ ((w ≡ true) × (r ≡ k))
after_eight true r k d = (λ e. (refl, e), λ h. h.1)
after_eight false r k d = (λ e. absurd (d e), λ h. absurd (false≢true h.0))

not_twelve : ◌≡◌ {A = ℕ} wrong_length bad_zone → ⊥
not_twelve e = omega (arith, e)

not_thirteen : ◌≡◌ {A = ℕ} wrong_length tally_full → ⊥
not_thirteen e = omega (arith, e)

pub clear_words_twelve : (particles : ℕ) (zones ws : List ℕ) → (cleared particles zones ws ≡ bad_zone) ↔ ((whole ws ≡ true) × OutOfRange particles zones (zones_of ws))
clear_words_twelve particles zones ws =
    let q = after_eight (whole ws) (clear_refusal particles zones (zones_of ws)) bad_zone not_twelve in
    let t = clear_twelve particles zones (zones_of ws) in
    (λ e. let h = q.0 e in (h.0, t.0 h.1), λ h. q.1 (h.0, t.1 h.1))

pub move_words_twelve : (particles p z : ℕ) (zones ws : List ℕ)
    → (moved particles p z zones ws ≡ bad_zone) ↔ ((whole ws ≡ true) × (OutOfRange particles zones (zones_of ws) ⊎ ((particles ≤ p) ⊎ (zones_of ws ≤ z))))
move_words_twelve particles p z zones ws =
    let q = after_eight (whole ws) (move_refusal particles p z zones (zones_of ws)) bad_zone not_twelve in
    let t = move_twelve particles p z zones (zones_of ws) in
    (λ e. let h = q.0 e in (h.0, t.0 h.1), λ h. q.1 (h.0, t.1 h.1))

module _ (xs out zones ws : List ℕ) where
  same_number : pass_refusal xs out zones (length (all_tallies ws)) (all_tallies ws) ≡ pass_refusal xs out zones (zones_of ws) (all_tallies ws)
  same_number = ap (λ (m : ℕ). pass_refusal xs out zones m (all_tallies ws)) (tallies_length ws (zones_of ws))

  pub pass_words_twelve : (passed xs out zones ws ≡ bad_zone) ↔ ((whole ws ≡ true) × ((well_sized xs out ≡ true) × OutOfRange (length xs / floats) zones (zones_of ws)))
  pass_words_twelve =
      let q = after_eight (whole ws) (pass_refusal xs out zones (zones_of ws) (all_tallies ws)) bad_zone not_twelve in
      let t = pass_twelve xs out zones (all_tallies ws) in (
        λ e. let h = q.0 e in let r = t.0 (same_number ∙ h.1) in (h.0, (r.0, (rw (tallies_length ws (zones_of ws)) at r.1))),
        λ h. q.1 (h.0, sym same_number ∙ t.1 (h.1.0, (rw (tallies_length ws (zones_of ws)) h.1.1))),
      )

  pub pass_words_thirteen : (passed xs out zones ws ≡ tally_full) ↔ ((whole ws ≡ true) × ((well_sized xs out ≡ true) × ((zones_fit (length xs / floats) zones (zones_of ws) ≡ true) × Full zones (all_tallies ws))))
  pass_words_thirteen =
      let q = after_eight (whole ws) (pass_refusal xs out zones (zones_of ws) (all_tallies ws)) tally_full not_thirteen in
      let t = pass_thirteen xs out zones (all_tallies ws) in (
        λ e. let h = q.0 e in let r = t.0 (same_number ∙ h.1) in (h.0, (r.0, ((rw (tallies_length ws (zones_of ws)) at r.1.0), r.1.1))),
        λ h. q.1 (h.0, sym same_number ∙ t.1 (h.1.0, ((rw (tallies_length ws (zones_of ws)) h.1.1.0), h.1.1.1))),
      )

-- ---- what a host asks for: the calls that its own 8 and 6 refuse change nothing
pub as_going : (rest : List Asked) (k : KeptWords) → after_all_asked rest k ≡ after_all_words (going rest k) k
unfolding after_all_asked after_all_words going
as_going [] k = refl
as_going (a ∷ rest) k = go (a.goes k) (λ j. as_going rest j)
  where
    go : (b : Bool) → ((j : KeptWords) → after_all_asked rest j ≡ after_all_words (going rest j) j)
        → after_all_asked rest (cond b (after_words a.call k) k) ≡ after_all_words (cond b (a.call ∷ going rest (cond b (after_words a.call k) k)) (going rest (cond b (after_words a.call k) k))) k
    go true ih = ih (after_words a.call k)
    go false ih = ih k

pub since_cleared_host : (m : ℕ) (k : KeptWords) → cleared m k.zones k.words ≡ 0 → (asked : List Asked)
    → AllCountedWords (after_all_asked asked (after_words (clear m) k)).words (log_all_words (going asked (after_words (clear m) k)) (after_words (clear m) k) [])
since_cleared_host m k e asked =
    let j = after_words (clear m) k in
    rw (as_going asked j) (since_cleared_words m k e (going asked j))
