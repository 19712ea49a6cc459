-- Refusal 4 once more, by what could follow: a sheet ends early exactly where it is not good and some bytes after it would
-- change its answer.
use mathlib.Core.Path.{◌≡◌, refl, ap, ◌∙◌}
use mathlib.Core.Logic.{◌↔◌, inl, inr}
use mathlib.Core.Bool.{Bool, true, false, cond}
use mathlib.Core.List.{List, [], ◌∷◌, ◌++◌, append-nil}
use Prim.Native.Nat.{ℕ, zero, suc, ◌+◌, ◌*◌, ◌/◌, ◌%◌, ◌≤◌, ◌<◌}
use native.Mathlib.Omega.{arith}
use native.Mathlib.Nat.{mul-le-mul}
use lib.ListN.{length, replicate, length-append, length-replicate}
use lib.Dec.{ltb}
use borrow.Author.Tests.{lt-ltb}
use Rattle.model.specs.Kinds.{kinds_of}
use Rattle.record.specs.Layout.{floats}
use Rattle.sheet.specs.Records.{sheet_floats}
use Rattle.sheet.specs.Sheet.{most, header_of}
use Rattle.sheet.specs.Spelling.{spell_number, spell_words, spell, Below}
use Rattle.sheet.specs.Refused.{Good, AtCount, AtParameter, AtNumber, at_model, at_count, Reason, no_number, half_number, short_parameter, short_records, not_shortest, third_group, unknown_model, other_flag, count_over, bytes_after}
use Rattle.model.proofs.KindLaws.{kinds_most}
use Rattle.sheet.proofs.RecordLaws.{floats_most}
use Rattle.sheet.proofs.Pieces.{below_append, fits_length, spelled_length}
use Rattle.sheet.proofs.Refusals.{Later, later}
use Rattle.sheet.proofs.Reasons.{good_exactly, refused_exactly}

number_length : (v : ℕ) → length (spell_number v) ≤ 2
unfolding spell_number
number_length v = by_size (ltb v 128)
  where
    by_size : (b : Bool) → length (cond b (v ∷ []) ((v % 128 + 128) ∷ v / 128 ∷ [])) ≤ 2
    by_size true = omega arith
    by_size false = omega arith

front_length : (s : List ℕ) (model : ℕ) (ws l : List ℕ) → length ws ≤ 8 → s ≡ spell_number model ++ (spell_words ws ++ l) → length s ≤ 66 + length l
front_length s model ws l h e =
    let a = ap length e in
    let b = length-append (spell_number model) (spell_words ws ++ l) in
    let c = length-append (spell_words ws) l in
    let d = number_length model in
    let f = spelled_length ws in
    omega arith

count_length : (s l : List ℕ) → AtCount s l → length s ≤ 66 + length l
count_length s l p =
    let n = fits_length (kinds_of p.model) p.parameters p.fits in
    let m = kinds_most p.model in
    front_length s p.model p.parameters l (omega arith) p.spelled

pub parameter_length : (s : List ℕ) (flag : Bool) (l : List ℕ) → AtParameter s flag l → length s ≤ 66 + length l
parameter_length s flag l p =
    let n = fits_length p.earlier p.parameters p.fits in
    let m = kinds_most p.model in
    let k = ap length p.kinds in
    let a = length-append p.earlier (flag ∷ p.others) in
    front_length s p.model p.parameters l (omega arith) p.spelled

pub at_length : (s l : List ℕ) → AtNumber s l → length s ≤ 66 + length l
at_length s l (at_model e) = let a = ap length e in omega arith
at_length s l (at_count p) = count_length s l p

-- the longest sheet
abbrev pub longest : ℕ
longest = 65 + 2 + most * floats * 8

one_byte : (v : ℕ) → v < 128 → length (spell_number v) ≡ 1
unfolding spell_number
one_byte v h = rw (lt-ltb v 128 h)

pieces_length : (model : ℕ) (ps : List ℕ) (count : ℕ) (ws : List ℕ) → length (spell model ps count ws) ≡ length (spell_number model) + (length (spell_words ps) + (length (spell_number count) + length (spell_words ws)))
unfolding spell
pieces_length model ps count ws =
    length-append (spell_number model) (spell_words ps ++ (spell_number count ++ spell_words ws))
    ∙ ap (λ (n : ℕ). length (spell_number model) + n) (length-append (spell_words ps) (spell_number count ++ spell_words ws))
    ∙ ap (λ (n : ℕ). length (spell_number model) + (length (spell_words ps) + n)) (length-append (spell_number count) (spell_words ws))

pub good_length : (s : List ℕ) → Good s → length s ≤ longest
good_length s g =
    let w = g.writable in
    let k = w.known in
    let a = ap length g.spelled ∙ pieces_length g.model g.parameters g.count g.words in
    let b = one_byte g.model (omega arith) in
    let c = number_length g.count in
    let d = spelled_length g.parameters in
    let e = fits_length (kinds_of g.model) g.parameters w.fits in
    let f = kinds_most g.model in
    let h = spelled_length g.words in
    let i = w.whole in
    let j = mul-le-mul w.few (floats_most g.model) in
    omega arith

-- and one that ends early is no longer

ended_length : (s : List ℕ) (n : ℕ) → n ≡ 4 → Reason s n → length s ≤ longest
ended_length s n e (no_number p) = let a = at_length s [] p in omega arith
ended_length s n e (half_number low h p) = let a = at_length s (low ∷ []) p in omega arith
ended_length s n e (short_parameter flag l h p) = let a = parameter_length s flag l p in omega arith
ended_length s n e (short_records count l h p k) =
    let a = count_length s (spell_number count ++ l) p in
    let b = length-append (spell_number count) l in
    let c = number_length count in
    let m = mul-le-mul h (floats_most p.model) in
    omega arith
ended_length s n e (not_shortest low l h p) = absurd (omega arith)
ended_length s n e (third_group low high l h k p) = absurd (omega arith)
ended_length s n e (unknown_model model l k h f) = absurd (omega arith)
ended_length s n e (other_flag w l h z o p) = absurd (omega arith)
ended_length s n e (count_over count l k h p) = absurd (omega arith)
ended_length s n e (bytes_after t l g h f) = absurd (omega arith)

zeros_below : (n : ℕ) → Below 256 (replicate n 0)
zeros_below zero = tt
zeros_below (suc n) = (omega arith, zeros_below n)

-- bytes after a sheet that change its answer
pub record Changes (s r : List ℕ) : Type 0 where
  pub bytes : Below 256 r
  pub other : (header_of (s ++ r)).refusal ≡ (header_of s).refusal → ⊥

module _ (s : List ℕ) (b : Below 256 s) where
  filled_up : (n : ℕ) → longest < n → (header_of s).refusal ≡ 4 → Changes s (replicate n 0)
  filled_up n h e =
      record {
        bytes = zeros_below n;
        other = λ q.
            let r = (refused_exactly (s ++ replicate n 0) (below_append 256 s (replicate n 0) b (zeros_below n)) 4 (λ z. omega arith)).0 (q ∙ e) in
            let l = ended_length (s ++ replicate n 0) 4 refl r in
            let m = length-append s (replicate n 0) in
            let k = length-replicate {A = ℕ} n 0 in
            omega arith;
      }

  ended_by : (r : List ℕ) → Changes s r → (Good s → ⊥) → (header_of s).refusal ≡ 4
  ended_by [] c g = absurd (c.other (ap (λ (l : List ℕ). (header_of l).refusal) (append-nil s)))
  ended_by (x ∷ r) c g = by_case (later s (x ∷ r) (omega arith))
    where
      by_case : Later (header_of s) (header_of (s ++ (x ∷ r))) → (header_of s).refusal ≡ 4
      by_case (inl e) = e
      by_case (inr (inl e)) = absurd (g ((good_exactly s b).0 e.0))
      by_case (inr (inr e)) = absurd (c.other e.1)

  pub ended_exactly : ((header_of s).refusal ≡ 4) ↔ ((Good s → ⊥) × ((r : List ℕ) × Changes s r))
  ended_exactly = (
    λ e. (λ g. let z = (good_exactly s b).1 g in omega arith, (replicate (suc longest) 0, filled_up (suc longest) (omega arith) e)),
    λ c. ended_by c.1.0 c.1.1 c.0,
  )

-- MORE BYTES THAN THE LONGEST SHEET HAS are refused, not by 4, and what follows them changes nothing
module _ (p : List ℕ) (b : Below 256 p) (h : longest < length p) where
  not_ended : (header_of p).refusal ≡ 4 → ⊥
  not_ended e = let l = ended_length p 4 refl ((refused_exactly p b 4 (λ z. omega arith)).0 e) in omega arith

  not_good : (header_of p).refusal ≡ 0 → ⊥
  not_good e = let l = good_length p ((good_exactly p b).0 e) in omega arith

  follows_nothing : (r : List ℕ) → (header_of (p ++ r)).refusal ≡ (header_of p).refusal
  follows_nothing [] = ap (λ (l : List ℕ). (header_of l).refusal) (append-nil p)
  follows_nothing (x ∷ r) = by_case (later p (x ∷ r) (omega arith))
    where
      by_case : Later (header_of p) (header_of (p ++ (x ∷ r))) → (header_of (p ++ (x ∷ r))).refusal ≡ (header_of p).refusal
      by_case (inl e) = absurd (not_ended e)
      by_case (inr (inl e)) = absurd (not_good e.0)
      by_case (inr (inr e)) = e.1

  pub over_longest : ((header_of p).refusal ≡ 0 → ⊥) × ((header_of p).refusal ≡ 4 → ⊥) × ((r : List ℕ) → (header_of (p ++ r)).refusal ≡ (header_of p).refusal)
  over_longest = (not_good, not_ended, follows_nothing)
