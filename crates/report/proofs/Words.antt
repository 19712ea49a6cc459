-- Whole numbers as words in two's complement: the sum modulo 2^64, and the order of those below 2^62 in size. Assumes nothing.
use Rattle.std.proofs.Common.{◌≡◌, ℕ, zero, suc, ◌+◌, ◌-◌, ◌%◌, ◌^◌, ◌<◌, ◌≤◌, Bool, true, false, cond, not, T, eqb, ltb, ℤ, pos, negsuc, ◌+ℤ◌, sym, refl, ap, ◌∙◌, add_comm, arith, ltb-false, ltb-true, le-ltb, lt-ltb}
use lib.IntN.{sub_ℕ}
use Rattle.exact.specs.Integers.{p, n}
use Rattle.exact.proofs.Integers.{+-parts}
use Rattle.report.specs.Column.{word, whole_at, below, above}
use Rattle.report.specs.Joined.{lifted, word_below, word_above}

pub word_lt : (k : ℤ) → word k < 2 ^ 64
unfolding word
word_lt (pos k) = omega arith
word_lt (negsuc k) = omega arith

both_plus : (a b : ℕ) → (a + b) % 2 ^ 64 ≡ (a % 2 ^ 64 + b % 2 ^ 64) % 2 ^ 64
both_plus a b = omega arith

both_minus : (a b : ℕ) → 2 ^ 64 - 1 - suc (a + b) % 2 ^ 64 ≡ (2 ^ 64 - 1 - a % 2 ^ 64 + (2 ^ 64 - 1 - b % 2 ^ 64)) % 2 ^ 64
both_minus a b = omega arith

unlike_minus : (a b : ℕ) → a < suc b → 2 ^ 64 - 1 - (suc b - suc a) % 2 ^ 64 ≡ (a % 2 ^ 64 + (2 ^ 64 - 1 - b % 2 ^ 64)) % 2 ^ 64
unlike_minus a b h = omega arith

unlike_plus : (a b : ℕ) → suc b ≤ a → (a - suc b) % 2 ^ 64 ≡ (a % 2 ^ 64 + (2 ^ 64 - 1 - b % 2 ^ 64)) % 2 ^ 64
unlike_plus a b h = omega arith

unlike : (a b : ℕ) → word (sub_ℕ a (suc b)) ≡ (a % 2 ^ 64 + (2 ^ 64 - 1 - b % 2 ^ 64)) % 2 ^ 64
unfolding word
unlike a b = go (ltb a (suc b)) refl
  where
    go : (t : Bool) → ltb a (suc b) ≡ t → word (cond t (negsuc (suc b - suc a)) (pos (a - suc b))) ≡ (a % 2 ^ 64 + (2 ^ 64 - 1 - b % 2 ^ 64)) % 2 ^ 64
    go true h = unlike_minus a b (ltb-true a (suc b) h)
    go false h = unlike_plus a b (ltb-false a (suc b) h)

pub word_sum : (j k : ℤ) → word (j +ℤ k) ≡ (word j + word k) % 2 ^ 64
unfolding word
word_sum (pos a) (pos b) = both_plus a b
word_sum (pos a) (negsuc b) = unlike a b
word_sum (negsuc a) (pos b) = unlike b a ∙ ap (λ v. v % 2 ^ 64) (add_comm (b % 2 ^ 64) (2 ^ 64 - 1 - a % 2 ^ 64))
word_sum (negsuc a) (negsuc b) = both_minus a b

-- ---- the order
abbrev pub Small : ℤ → Type 0
Small k = (p k < 2 ^ 62) × (n k < 2 ^ 62)

lifted_parts : (k : ℤ) → Small k → lifted (word k) + n k ≡ p k + 2 ^ 63
unfolding word
lifted_parts (pos k) h = omega arith
lifted_parts (negsuc k) h = omega arith

same_order : (a b pa na pb nb : ℕ) → a + na ≡ pa + 2 ^ 63 → b + nb ≡ pb + 2 ^ 63 → ltb a b ≡ ltb (pa + nb) (pb + na)
same_order a b pa na pb nb e f = go (ltb a b) refl
  where
    go : (t : Bool) → ltb a b ≡ t → t ≡ ltb (pa + nb) (pb + na)
    go true h = let l = ltb-true a b h in sym (lt-ltb (pa + nb) (pb + na) (omega arith))
    go false h = let l = ltb-false a b h in sym (le-ltb (pa + nb) (pb + na) (omega arith))

pub word_below_lem : (j k : ℤ) → Small j → Small k → word_below (word j) (word k) ≡ below j k
word_below_lem j k s t = same_order (lifted (word j)) (lifted (word k)) (p j) (n j) (p k) (n k) (lifted_parts j s) (lifted_parts k t)

pub word_above_lem : (j k : ℤ) → Small j → Small k → word_above (word j) (word k) ≡ above j k
word_above_lem j k s t = word_below_lem k j t s

-- ---- read back
pub reads_back : (k : ℤ) → p k < 2 ^ 63 → n k < 2 ^ 63 → whole_at (word k) ≡ k
unfolding word
reads_back (pos k) h l =
    let e : k % 2 ^ 64 ≡ k = omega arith in
    rw (e, lt-ltb k (2 ^ 63) h) refl
reads_back (negsuc k) h l =
    let w = 2 ^ 64 - 1 - k % 2 ^ 64 in
    let e : 2 ^ 64 - 1 - w ≡ k = omega arith in
    rw (le-ltb w (2 ^ 63) (omega arith)) (ap negsuc e)
