-- The sigma that an update stores, by its logarithms: each strain comes back within 2^-43, so the stresses stay near s
use mathlib.Core.Path.{◌≡◌, refl, sym, ap, ◌∙◌, subst}
use mathlib.Core.Logic.{inl, inr}
use mathlib.Core.List.{List, [], ◌∷◌, map}
use Prim.Native.Nat.{ℕ, suc, ◌+◌, ◌*◌, ◌^◌, ◌≤◌}
use native.Mathlib.Nat.{mul-le-mul_left}
use native.Mathlib.Omega.{arith}
use lib.ListN.{length, length-map}
use lib.IntN.{ℤ, pos, ◌+ℤ◌, ◌*ℤ◌, ◌-ℤ◌}
use lib.Ieee.{Float}
use Rattle.exact.specs.Units.{L, mag, Fin64}
use Rattle.exact.specs.Integers.{abs}
use Rattle.exact.proofs.Integers.{abs-+, abs-*, abs_pos}
use Rattle.exact.proofs.Ring.{ring, var, con, ◌:+◌, ◌:-◌, ◌:*◌}
use Rattle.exact.specs.Value.{val}
use Rattle.elementary.specs.RoundTrip.{Back, InBoth}
use Rattle.elementary.proofs.RoundTrip.{round_trip}
use Rattle.answers.specs.declared.Answer.TheVariants.{Value}
use Rattle.walk.specs.Walk.{exp, ln, at, answer_of, given}
use Rattle.plasticity_rankine.specs.declared.RankinePlasticity.{RankinePlasticity}
use Rattle.rankine_surface.specs.Axes.{Each, Some, total}
use Rattle.rankine_surface.specs.Surface.{stress_of, modulus_in, demanded, archived, Under, BelowIn, ReachesIn, FairIn, OnSurfaceIn, ArchivedIn, numbers_of, logs_of, exps_of}
use Rattle.rankine_surface.proofs.Bounds.{apart, larger, chained}
use Rattle.rankine_surface.proofs.Branches.{Bounded, mu_is, la_is}
use Rattle.rankine_surface.proofs.Indexed.{LandedIn}
use Rattle.rankine_surface.proofs.Strains.{answers, logs_answered, exps_answered, of_each}

-- ---- of each entry, and of some, of a list that is mapped
each_map : (F : Float → Type 0) (g : Float → Float) (l : List Float) → Each (λ x. F (g x)) l → Each F (map g l)
each_map F g [] h = tt
each_map F g (x ∷ l) h = (h.0, each_map F g l h.1)

some_map : (F : Float → Type 0) (g : Float → Float) (l : List Float) → Some (λ x. F (g x)) l → Some F (map g l)
some_map F g [] h = h
some_map F g (x ∷ l) (inl h) = inl h
some_map F g (x ∷ l) (inr h) = inr (some_map F g l h)

each_both : (F G H : Float → Type 0) → ((x : Float) → F x → G x → H x) → (l : List Float) → Each F l → Each G l → Each H l
each_both F G H f [] h k = tt
each_both F G H f (x ∷ l) h k = (f x h.0 k.0, each_both F G H f l h.1 k.1)

some_both : (F G H : Float → Type 0) → ((x : Float) → F x → G x → H x) → (l : List Float) → Each F l → Some G l → Some H l
some_both F G H f [] h k = k
some_both F G H f (x ∷ l) h (inl k) = inl (f x h.0 k)
some_both F G H f (x ∷ l) h (inr k) = inr (some_both F G H f l h.1 k)

-- ---- how far the sum and a stress move
module _ (g : Float → Float) where
  abbrev Moved : Float → Type 0
  Moved x = Back x (g x)

  sum_moves : (e : List Float) → Each Moved e → abs (total (map g e) -ℤ total e) * 2 ^ 43 ≤ length e * L
  sum_moves [] h = rw (abs_pos 0) (omega arith)
  sum_moves (x ∷ e) h =
      go (val (g x)) (val x) (total (map g e)) (total e) h.0.near (sum_moves e h.1)
    where
      go : (a b c d : ℤ) → abs (a -ℤ b) * 2 ^ 43 ≤ L → abs (c -ℤ d) * 2 ^ 43 ≤ length e * L → abs (a +ℤ c -ℤ (b +ℤ d)) * 2 ^ 43 ≤ suc (length e) * L
      go a b c d h k =
          rw (ring 4 (a, (b, (c, (d, tt)))) (var 0 :+ var 2 :- (var 1 :+ var 3)) (var 0 :- var 1 :+ (var 2 :- var 3)) tt)
          (omega (arith, abs-+ (a -ℤ b) (c -ℤ d)))

stress_moves : (d l m k : ℕ) (t u v w : ℤ) → abs (u -ℤ t) * 2 ^ 43 ≤ d * k → abs (w -ℤ v) * 2 ^ 43 ≤ k
    → abs (pos l *ℤ u +ℤ pos 2 *ℤ pos m *ℤ w -ℤ (pos l *ℤ t +ℤ pos 2 *ℤ pos m *ℤ v)) * 2 ^ 43 ≤ (2 * m + d * l) * k
stress_moves d l m k t u v w h i =
    rw (ring 6 (pos l, (pos m, (t, (u, (v, (w, tt)))))) (var 0 :* var 3 :+ con (pos 2) :* var 1 :* var 5 :- (var 0 :* var 2 :+ con (pos 2) :* var 1 :* var 4))
    (var 0 :* (var 3 :- var 2) :+ con (pos 2) :* var 1 :* (var 5 :- var 4)) tt)
    (plain (abs (u -ℤ t)) (abs (w -ℤ v)) h i
    (rw (abs-* (pos l) (u -ℤ t), abs-* (pos (2 * m)) (w -ℤ v), abs_pos l, abs_pos (2 * m)) at (abs-+ (pos l *ℤ (u -ℤ t)) (pos (2 * m) *ℤ (w -ℤ v)))))
  where
    plain : (a b : ℕ) {x : ℕ} → a * 2 ^ 43 ≤ d * k → b * 2 ^ 43 ≤ k → x ≤ l * a + 2 * m * b → x * 2 ^ 43 ≤ (2 * m + d * l) * k
    plain a b h i j = omega (arith, mul-le-mul_left l h, mul-le-mul_left (2 * m) i)

-- ---- on the surface, a little further off
module _ {d : ℕ} {law : RankinePlasticity} {s : Float} (f : FairIn d law s) (g : Float → Float) (e : List Float) (axes : length e ≡ d) (moved : Each (Moved g) e) where
  abbrev K : ℕ
  K = modulus_in d law * L

  moves : (x : Float) → Moved g x → Under 43 (stress_of law (map g e) (g x)) (stress_of law e x) K × Under 43 (stress_of law e x) (stress_of law (map g e) (g x)) K
  moves x b =
      apart 43 (stress_of law (map g e) (g x)) (stress_of law e x) K
      (rw (mu_is f, la_is f) (stress_moves d (mag law.lambda) (mag law.mu) L (total e) (total (map g e)) (val x) (val (g x))
      (subst (λ k. abs (total (map g e) -ℤ total e) * 2 ^ 43 ≤ k * L) axes (sum_moves g e moved)) b.near))

  still : OnSurfaceIn d demanded law s e → OnSurfaceIn d archived law s (map g e)
  still o =
      record {
        fine = each_map Fin64 g e (of_each (Moved g) (λ x. Fin64 (g x)) (λ x b. b.fine) e moved);
        below = each_map (BelowIn d archived law s (map g e)) g e
            (each_both (Moved g) (BelowIn d demanded law s e) (λ x. BelowIn d archived law s (map g e) (g x))
            (λ x b h. chained (stress_of law (map g e) (g x)) (stress_of law e x) (val s *ℤ pos L) K (moves x b).0 (larger (stress_of law e x) (val s *ℤ pos L) K h))
            e moved o.below);
        reaches = some_map (ReachesIn d archived law s (map g e)) g e
            (some_both (Moved g) (ReachesIn d demanded law s e) (λ x. ReachesIn d archived law s (map g e) (g x))
            (λ x b h. chained (val s *ℤ pos L) (stress_of law e x) (stress_of law (map g e) (g x)) K (larger (val s *ℤ pos L) (stress_of law e x) K h) (moves x b).1)
            e moved o.reaches);
      }

-- ---- our logarithms of our exponentials
abbrev again : Float → Float
again x = at ln (at exp x)

map_twice : (e : List Float) → map (at ln) (map (at exp) e) ≡ map again e
map_twice [] = refl
map_twice (x ∷ e) = ap (λ l. again x ∷ l) (map_twice e)

takes : (x : Float) → Bounded x → InBoth x
takes x b = round_trip.in_both x b.fine b.size

back : (x : Float) → Bounded x → Back x (again x)
back x b = let t = takes x b in round_trip.ours x b.fine.1 t.by_exp t.by_ln

exps : (e : List Float) → Each Bounded e → exps_of e ≡ given (map (at exp) e)
exps e h = exps_answered e (of_each Bounded (λ x. answer_of exp x ≡ Value (at exp x)) (λ x b. answers exp x (takes x b).by_exp) e h)

logs : (e : List Float) → Each Bounded e → logs_of (map (at exp) e) ≡ given (map again e)
logs e h =
    logs_answered (map (at exp) e)
    (each_map (λ x. answer_of ln x ≡ Value (at ln x)) (at exp) e
    (of_each Bounded (λ x. answer_of ln (at exp x) ≡ Value (again x)) (λ x b. answers ln (at exp x) (takes x b).by_ln) e h))
    ∙ ap given (map_twice e)

pub archive : {d : ℕ} {law : RankinePlasticity} {s : Float} → FairIn d law s → (e : List Float) → LandedIn d law s e → ArchivedIn d law s (numbers_of (exps_of e))
archive {d} {law} {s} f e h =
    subst (ArchivedIn d law s) (ap numbers_of (sym (exps e h.bounded)))
    (record {
      strains = map again e;
      answered = logs e h.bounded;
      axes = length-map e again ∙ h.axes;
      on_surface = still f again e h.axes (of_each Bounded (Moved again) back e h.bounded) h.on_surface;
    })
