-- RULES, section 6, of flat records, both ways: a law refuses exactly where the path of its walk stops, and then, or where it leaves a record
-- untouched, every bit stays; a record or a list is refused by 8 exactly where its length is wrong.
use mathlib.Core.Bool.{Bool, true, false, cond, ◌&&◌, true≢false}
use mathlib.Core.List.{List}
use mathlib.Core.Logic.{◌↔◌, inl, inr}
use mathlib.Core.Option.{none}
use mathlib.Core.Path.{◌≡◌, refl, sym, ap}
use native.Mathlib.Omega.{arith}
use Prim.Native.Nat.{ℕ, ◌*◌, ◌/◌}
use borrow.Author.Tests.{eqb-true, eqb-false}
use lib.Dec.{eqb}
use lib.ListN.{length}
use Rattle.answers.specs.Refusals.{wrong_length}
use Rattle.plasticity.specs.declared.Outcome.TheVariants.{Untouched, Refused}
use Rattle.walk.specs.Exact.{path}
use Rattle.walk.specs.Update.{refusal_of}
use Rattle.walk.specs.Numbers.{Stops, Clear}
use Rattle.walk.proofs.Numbers.{refused_when, accepted_when}
use Rattle.model.specs.declared.Model.{Model}
use Rattle.particles.specs.declared.list.Counts.{Counts}
use Rattle.particles.specs.declared.list.Passed.{Passed}
use Rattle.particles.specs.declared.list.Passed.TheVariants as passed_variants
use Rattle.particles.specs.Pass.{Worked, code_of}
use Rattle.particles.proofs.PassLaws.{outcome_same}
use Rattle.flat.specs.Update.{in_two}
use Rattle.flat_particles.specs.Layout.{floats, u_at, vt_at, state_at}
use Rattle.flat_particles.specs.Law.{walk_of, put_state, updated_at, flat_law}
use Rattle.flat_particles.specs.Pass.{WrongLengths, three_of, well_sized_over, counts_over, passed_over}

-- ---- one record
module _ (m : Model) (r : List ℕ) where
  pub record_refused : (n : ℕ) → ((flat_law m r).outcome ≡ Refused n) ↔ Stops n (path (walk_of m (u_at r) (vt_at r) (state_at r)))
  unfolding flat_law updated_at
  record_refused n = refused_when in_two (state_at r) (walk_of m (u_at r) (vt_at r) (state_at r)) n

  pub record_accepted : (refusal_of (flat_law m r).outcome ≡ none) ↔ Clear (path (walk_of m (u_at r) (vt_at r) (state_at r)))
  unfolding flat_law updated_at
  record_accepted = accepted_when in_two (state_at r) (walk_of m (u_at r) (vt_at r) (state_at r))

pub refused_bits : (m : Model) (r : List ℕ) (n : ℕ) → (flat_law m r).outcome ≡ Refused n → (flat_law m r).after ≡ r
unfolding flat_law
refused_bits m r n e = outcome_same (updated_at m r).outcome r (put_state m r (updated_at m r).state) (λ c. let z = ap code_of e in omega arith)

pub untouched_bits : (m : Model) (r : List ℕ) → (flat_law m r).outcome ≡ Untouched → (flat_law m r).after ≡ r
unfolding flat_law
untouched_bits m r e = outcome_same (updated_at m r).outcome r (put_state m r (updated_at m r).state) (λ c. let z = ap code_of e in omega arith)

-- ---- a list
eight : (b : Bool) (c : Counts) → (cond b (passed_variants.Done c) (passed_variants.Refused wrong_length) ≡ passed_variants.Refused wrong_length) ↔ (b ≡ false)
eight true c = (λ e. absurd (let z : ◌≡◌ {A = ℕ} 0 1 = cc in omega arith), λ e. absurd (true≢false e))
eight false c = (λ e. refl, λ e. refl)

-- by the lengths
wrong : (s t : Bool) (xs out : List ℕ) → eqb (length xs / floats * floats) (length xs) ≡ s → eqb (length xs / floats * 2) (length out) ≡ t → (s && t ≡ false) ↔ WrongLengths xs out
wrong true true xs out e f =
    let whole = eqb-true (length xs / floats * floats) (length xs) e in
    let places = eqb-true (length xs / floats * 2) (length out) f in
    (λ q. absurd (true≢false q), λ n. absurd (fits whole places n))
  where
    fits : length xs / floats * floats ≡ length xs → length xs / floats * 2 ≡ length out → WrongLengths xs out → ⊥
    fits whole places (inl n) = n whole
    fits whole places (inr n) = n (sym places)
wrong true false xs out e f = (λ q. inr (λ p. eqb-false (length xs / floats * 2) (length out) f (sym p)), λ n. refl)
wrong false t xs out e f = (λ q. inl (eqb-false (length xs / floats * floats) (length xs) e), λ n. refl)

pub pass_refused : (step : List ℕ → Worked) (xs out : List ℕ) → (passed_over floats step xs out ≡ passed_variants.Refused 8) ↔ WrongLengths xs out
pass_refused step xs out =
    let b = eight (well_sized_over floats xs out) (three_of (counts_over floats step xs (length xs / floats))) in
    let l = wrong (eqb (length xs / floats * floats) (length xs)) (eqb (length xs / floats * 2) (length out)) xs out refl refl in
    (λ e. l.0 (b.0 e), λ n. b.1 (l.1 n))
