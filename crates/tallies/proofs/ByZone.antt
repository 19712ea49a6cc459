-- Tallies by zone, one changed at a time. Assumes nothing.
use mathlib.Core.Path.{◌≡◌, refl, sym, ap, ◌∙◌}
use mathlib.Core.Bool.{Bool, true, false, cond}
use mathlib.Core.List.{List, [], ◌∷◌}
use Prim.Native.Nat.{ℕ, zero, suc, ◌+◌, ◌/◌, ◌<◌}
use native.Mathlib.Nat.{not-suc-le-zero, le_of_suc-le-suc}
use native.Mathlib.Omega.{arith}
use lib.Dec.{eqb}
use lib.ListN.{length, get_or, set, length-set, length-replicate}
use lib.Seq.{ext_get_or, get_or-set_same, get_or-set_other}
use borrow.Author.Tests.{eqb-true, eqb-false}
use Rattle.record.specs.Layout.{floats}
use Rattle.particles.specs.Pass.{Worked}
use Rattle.tallies.specs.declared.tally.Tally.{Tally}
use Rattle.tallies.specs.Zones.{zones_fit, move_fits}
use Rattle.tallies.specs.Tallies.{none, spare, by_zone, recount, recounted, cleared_at, tallied_in, clear_tallies, move_tallies, pass_goes, pass_tallies}

get_from : (f : ℕ → Tally → Tally) (k : ℕ) (ts : List Tally) (z j : ℕ) → j ≡ k + z → z < length ts → get_or (by_zone f k ts) z none ≡ f j (get_or ts z none)
unfolding by_zone
get_from f k [] z j e h = absurd (not-suc-le-zero h)
get_from f k (t ∷ ts) zero j e h = let q : j ≡ k = omega arith in ap (λ (n : ℕ). f n t) (sym q)
get_from f k (t ∷ ts) (suc z) j e h = get_from f (suc k) ts z j (omega arith) (le_of_suc-le-suc h)

length_from : (f : ℕ → Tally → Tally) (k : ℕ) (ts : List Tally) → length (by_zone f k ts) ≡ length ts
unfolding by_zone
length_from f k [] = refl
length_from f k (t ∷ ts) = ap suc (length_from f (suc k) ts)

-- zone z's tally
pub get_by : (f : ℕ → Tally → Tally) (ts : List Tally) (z : ℕ) → z < length ts → get_or (by_zone f 0 ts) z none ≡ f z (get_or ts z none)
get_by f ts z h = get_from f 0 ts z z (omega arith) h

pub length_by : (f : ℕ → Tally → Tally) (ts : List Tally) → length (by_zone f 0 ts) ≡ length ts
length_by f ts = length_from f 0 ts

-- a list is by zone what each of its tallies is
pub is_by : (f : ℕ → Tally → Tally) (us ts : List Tally) → length us ≡ length ts → ((z : ℕ) → z < length ts → get_or us z none ≡ f z (get_or ts z none)) → us ≡ by_zone f 0 ts
is_by f us ts n h = ext_get_or none us (by_zone f 0 ts) (n ∙ sym (length_by f ts)) (λ z l. let b : z < length ts = omega (arith, n, l) in h z b ∙ sym (get_by f ts z b))

-- one tally is changed, and the others were so already
pub set_by : (f g : ℕ → Tally → Tally) (us ts : List Tally) (z : ℕ) (r : Tally) → z < length ts → us ≡ by_zone f 0 ts → r ≡ g z (get_or ts z none)
    → ((y : ℕ) → y < length ts → (y ≡ z → ⊥) → f y (get_or ts y none) ≡ g y (get_or ts y none)) → set us z r ≡ by_zone g 0 ts
set_by f g us ts z r h e k others = is_by g (set us z r) ts (length-set us z r ∙ n) (λ y l. go y l (eqb y z) refl)
  where
    n : length us ≡ length ts
    n = ap length e ∙ length_by f ts

    go : (y : ℕ) → y < length ts → (b : Bool) → eqb y z ≡ b → get_or (set us z r) y none ≡ g y (get_or ts y none)
    go y l true q = rw (eqb-true y z q) (get_or-set_same us z r none (omega (arith, n, h)) ∙ k)
    go y l false q = let d = eqb-false y z q in get_or-set_other us z y r none d ∙ ap (λ (v : List Tally). get_or v y none) e ∙ get_by f ts y l ∙ others y l d

-- one change after another
pub by_by : (f g : ℕ → Tally → Tally) (ts : List Tally) → by_zone g 0 (by_zone f 0 ts) ≡ by_zone (λ z t. g z (f z t)) 0 ts
by_by f g ts = is_by (λ z t. g z (f z t)) (by_zone g 0 (by_zone f 0 ts)) ts (length_by g (by_zone f 0 ts) ∙ length_by f ts)
    (λ z h. get_by g (by_zone f 0 ts) z (rw (length_by f ts) h) ∙ ap (g z) (get_by f ts z h))

-- counted afresh twice is counted afresh
pub recounted_twice : (zones : List ℕ) (ts : List Tally) → recounted zones (recounted zones ts) ≡ recounted zones ts
recounted_twice zones ts = by_by (recount zones) (recount zones) ts

-- as many after a call as before it
pub either_length : (b : Bool) (us ts : List Tally) → length us ≡ length ts → length (cond b us ts) ≡ length ts
either_length true us ts e = e
either_length false us ts e = refl

pub clear_length : (particles : ℕ) (zones : List ℕ) (n : ℕ) (ts : List Tally) → length (clear_tallies particles zones n ts) ≡ length ts
clear_length particles zones n ts = either_length (zones_fit particles zones n) _ ts (length_by (cleared_at zones) ts)

pub move_length : (particles p z : ℕ) (zones : List ℕ) (n : ℕ) (ts : List Tally) → length (move_tallies particles p z zones n ts) ≡ length ts
move_length particles p z zones n ts = either_length (move_fits particles p z zones n) _ ts (length_by (recount (set zones p z)) ts)

pub pass_length : (law : List ℕ → Worked) (xs out zones : List ℕ) (n : ℕ) (ts : List Tally) → length (pass_tallies law xs out zones n ts) ≡ length ts
pass_length law xs out zones n ts =
    either_length (pass_goes xs out zones n ts) _ ts (length_by (tallied_in law xs zones (length xs / floats)) (recounted zones ts) ∙ length_by (recount zones) ts)

pub spare_length : length spare ≡ 256
unfolding spare
spare_length = length-replicate 256 none
