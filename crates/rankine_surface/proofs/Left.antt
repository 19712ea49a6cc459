-- Demand 3 of the record that Rankine's law leaves, in any number of axes: what is promised of the state handed back is found in the record's
-- bits and in its two answers
use mathlib.Core.Path.{◌≡◌, refl, sym, ap, ◌∙◌, subst}
use mathlib.Core.Bool.{Bool, true, false, not}
use mathlib.Core.List.{List, [], ◌∷◌, map}
use Prim.Native.Nat.{ℕ}
use native.Mathlib.Omega.{arith}
use lib.Dec.{T}
use lib.ListN.{length}
use lib.Ieee as Ieee
use lib.Ieee.{Float, binary64}
use lib.Ieee.Bits.{of_bits-fits}
use Rattle.plasticity.specs.declared.Outcome.{Outcome}
use Rattle.plasticity.specs.declared.Outcome.TheVariants as outcome
use Rattle.plasticity_rankine.specs.declared.RankineArguments.{RankineArguments}
use Rattle.plasticity_rankine.specs.declared.RankinePlasticity.{RankinePlasticity}
use Rattle.plasticity_rankine.specs.Law.{law_of}
use Rattle.record.specs.Layout.{float_at}
use Rattle.one_record.specs.Kept.{by_outcome}
use Rattle.particles.specs.Pass.{code_of}
use Rattle.rankine_surface.specs.Axes.{Each}
use Rattle.rankine_surface.specs.Surface.{F64, ArchivedIn, Axes, log_strains_in, softened_in, first_test_in, InsideIn, ReturnedIn, Demand3In, ArchivesIn}
use Rattle.rankine_surface.specs.Record.{Records, softened_at_in, first_test_at_in, projected_at_in, sigma_at_in, hardening_at_in, Found, found_of, InsideAtIn, ReturnedAtIn, Demand3AtIn, ArchivesAtIn}
use Rattle.rankine_surface.proofs.Strains.{exps_f64}

-- what the law puts into a record r of a state s is read back from it
pub record Puts {S R : Type 0} (k : Records S R) (put : List ℕ → S → List ℕ) : Type 0 where
  pub sigma : (r : List ℕ) (s : S) → length r ≡ k.floats → length (k.axes.body.sigma s) ≡ k.axes.count → Each F64 (k.axes.body.sigma s)
      → sigma_at_in k (put r s) ≡ k.axes.body.sigma s
  pub hardening : (r : List ℕ) (s : S) → length r ≡ k.floats → F64 (k.axes.body.scalars s).plastic_hardening
      → hardening_at_in k (put r s) ≡ (k.axes.body.scalars s).plastic_hardening

-- what is read of a record's bits are f64
pub read_f64 : (r places : List ℕ) → Each F64 (map (float_at r) places)
read_f64 r [] = tt
read_f64 r (i ∷ l) = (of_bits-fits binary64 _, read_f64 r l)

-- the record r at an outcome, where q is what is stored
abbrev left_by : Outcome → List ℕ → List ℕ → Found
left_by o r q = found_of (record { outcome = o; failed = false; after = by_outcome o r q })

module _ {S R : Type 0} (k : Records S R) {put : List ℕ → S → List ℕ} (back : Puts k put) (a : RankineArguments) (r : List ℕ) (v : R) where
  -- the record that the update leaves which hands back v
  abbrev pub left : Found
  left = left_by (k.axes.body.outcome_in v) r (put r (k.axes.body.state_in v))

  inside_at : InsideIn k.axes (law_of a) (k.at r) v → InsideAtIn k a r left
  inside_at d =
      let b = k.axes.body in
      let e = ap b.outcome_in d.untouched ∙ b.outcome_in_lem (k.at r) outcome.Untouched in
      subst (λ o. InsideAtIn k a r (left_by o r (put r (k.axes.body.state_in v)))) (sym e) (record { answer = (refl, refl); bits = refl; below = d.below })

  returned_at : length r ≡ k.floats → F64 a.tensile_strength → ReturnedIn k.axes (law_of a) (k.at r) v → ReturnedAtIn k a r left
  returned_at n f d =
      let s = k.axes.body.state_in v in
      let kept = back.hardening r s n (subst F64 (sym d.written) (d.f64 f)) ∙ d.written in
      let g = subst (Each F64) (sym d.sigma) (exps_f64 (projected_at_in k a r)) in
      let shape = back.sigma r s n (ap length d.sigma ∙ d.axes) g in
      subst (λ o. ReturnedAtIn k a r (left_by o r (put r s))) (sym d.stored)
      (record {
        answer = (refl, ap (λ (x : Float). Ieee.to_bits binary64 x) (sym kept));
        capped = subst (λ (x : Float). T (Ieee.le x a.tensile_strength)) (sym kept) d.capped;
        sigma = shape ∙ d.sigma;
        on_surface = d.on_surface;
        archive = subst (ArchivedIn k.axes.count (law_of a) (softened_at_in k a r)) (sym shape) d.archive;
      })

  pub left_3 : length r ≡ k.floats → F64 a.tensile_strength → Demand3In k.axes (law_of a) (k.at r) v → Demand3AtIn k a r left
  left_3 n f d = record { holds = λ h. inside_at (d.holds h); fails = λ h. returned_at n f (d.fails h) }

-- untouched is not stored
pub by_test : (b : Bool) (c : ℕ) {G : Type 0} → c ≡ 1 → (T b → c ≡ 0) → (T (not b) → G) → G
by_test true c h f g = absurd (let z = f tt in omega arith)
by_test false c h f g = g tt

-- where the update stores, the archive is on the surface
pub archives : {S R : Type 0} (ax : Axes S R) {p : RankinePlasticity} {st : S} {v : R} → Demand3In ax p st v → ArchivesIn ax p st v
archives ax {p} {st} {v} d h q =
    by_test (first_test_in ax p (log_strains_in ax st) (softened_in ax p st)) (code_of (ax.body.outcome_in v)) (ap code_of q)
    (λ t. ap code_of (ap ax.body.outcome_in (d.holds t).untouched ∙ ax.body.outcome_in_lem st outcome.Untouched)) (λ t. (d.fails t).archive)

-- and where a record's answer says that it does
pub archives_at : {S R : Type 0} (k : Records S R) {a : RankineArguments} {r : List ℕ} {f : Found} → Demand3AtIn k a r f → ArchivesAtIn k a r f
archives_at k {a} {r} {f} d q = by_test (first_test_at_in k a r) f.code q (λ t. (d.holds t).answer.0) (λ t. (d.fails t).archive)
