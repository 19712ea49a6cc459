-- The first float that isn't finite is at the definition's place: `First` fixes it.
use Rattle.std.proofs.Common.{ℕ, Bool, not, length, ap, rules, tests, arith}
use Rattle.std.proofs.lemmas.Iterator.{YieldsList-from_slice}
use Rattle.std.proofs.lemmas.Iterator.Search.{position_from_yields_List}
use Rattle.std.proofs.lemmas.List.Sums.{position_or_len_is}
use Rattle.std.specs.Float.{binary64}
use Rattle.std.specs.Float.Ieee as Ieee
use Rattle.numbers.specs.Floats.{finite}
use Rattle.record_why.proofs.First.{first_place}
use Rattle.record_why.proofs.places.place.Goals as goal

abbrev not_finite : ℕ → Bool
not_finite x = not (finite (Ieee.of_bits binary64 x))

pub returns : goal.returns
returns c =
    let w = c.args.w.now in
    let f = first_place w (length w) in
    let e = position_from_yields_List not_finite _ _ c.position.result c.position.ensures.ran (YieldsList-from_slice w cc) (λ x b q k. search (rules, tests)) in
    let g = position_or_len_is not_finite w _ 0 f.0 (λ k h. ap not (f.1.0 k h)) (λ h. ap not (f.1.1 h)) in
    rw (c.unwrap_or.ensures, e, g) (grind arith)
