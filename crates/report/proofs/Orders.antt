-- The first of a list by an order, and the first of two lists one after the other. Assumes nothing.
use Rattle.std.proofs.Common.{◌≡◌, ℕ, zero, suc, ◌+◌, ◌<◌, ◌≤◌, Bool, true, false, cond, not, ltb, List, [], ◌∷◌, ◌++◌, ℤ, pos, negsuc, sym, refl, ap, ◌∙◌, arith, ltb-false, ltb-true, le-ltb, lt-ltb}
use Rattle.exact.specs.Integers.{p, n}
use Rattle.report.specs.Column.{below, above, first, first_from, first_of}
use Rattle.report.specs.Joined.{lifted, word_below, word_above}

-- an order is given by its steps: two of them in a row are one, and so are two that are not made
pub record Order {A : Type 0} (before : A → A → Bool) : Type 0 where
  pub steps : (t : Bool) (a b c : A) → before a b ≡ t → before b c ≡ t → before a c ≡ t

-- of three the first, whichever two are compared first
module _ {A : Type 0} (before : A → A → Bool) (o : Order before) (a b c : A) where
  go : (s t : Bool) → before b a ≡ s → before c b ≡ t → first before (cond s b a) c ≡ first before a (cond t c b)
  go true true e f = ap (λ (v : Bool). cond v c b) f ∙ ap (λ (v : Bool). cond v c a) (sym (o.steps true c b a f e))
  go true false e f = ap (λ (v : Bool). cond v c b) f ∙ ap (λ (v : Bool). cond v b a) (sym e)
  go false true e f = refl
  go false false e f = ap (λ (v : Bool). cond v c a) (o.steps false c b a f e) ∙ ap (λ (v : Bool). cond v b a) (sym e)

  pub first_assoc : first before (first before a b) c ≡ first before a (first before b c)
  first_assoc = go (before b a) (before c b) refl refl

-- ---- the orders by numbers

pub below_order : Order below
below_order = record { steps = go }
  where
    go : (t : Bool) (a b c : ℤ) → below a b ≡ t → below b c ≡ t → below a c ≡ t
    go true a b c e f =
        let h = ltb-true (p a + n b) (p b + n a) e in
        let k = ltb-true (p b + n c) (p c + n b) f in
        lt-ltb (p a + n c) (p c + n a) (omega arith)
    go false a b c e f =
        let h = ltb-false (p a + n b) (p b + n a) e in
        let k = ltb-false (p b + n c) (p c + n b) f in
        le-ltb (p a + n c) (p c + n a) (omega arith)

pub word_below_order : Order word_below
word_below_order = record { steps = go }
  where
    go : (t : Bool) (a b c : ℕ) → word_below a b ≡ t → word_below b c ≡ t → word_below a c ≡ t
    go true a b c e f =
        let h = ltb-true (lifted a) (lifted b) e in
        let k = ltb-true (lifted b) (lifted c) f in
        lt-ltb (lifted a) (lifted c) (omega arith)
    go false a b c e f =
        let h = ltb-false (lifted a) (lifted b) e in
        let k = ltb-false (lifted b) (lifted c) f in
        le-ltb (lifted a) (lifted c) (omega arith)

-- an order turned round
turned : {A : Type 0} (before : A → A → Bool) → Order before → Order (λ (a b : A). before b a)
turned before o = record { steps = λ t a b c e f. o.steps t c b a f e }

pub above_order : Order above
above_order = turned below below_order

pub word_above_order : Order word_above
word_above_order = turned word_below word_below_order

-- ---- lists
module _ (before : ℤ → ℤ → Bool) (o : Order before) where
  from_first : (a k : ℤ) (ks : List ℤ) → first_from before (first before a k) ks ≡ first before a (first_from before k ks)
  unfolding first_from
  from_first a k [] = refl
  from_first a k (j ∷ ks) =
      ap (λ (v : ℤ). first_from before v ks) (first_assoc before o a k j) ∙ from_first a (first before k j) ks

  from_append : (a : ℤ) (js : List ℤ) (k : ℤ) (ks : List ℤ) → first_from before a (js ++ (k ∷ ks)) ≡ first before (first_from before a js) (first_from before k ks)
  unfolding first_from
  from_append a [] k ks = from_first a k ks
  from_append a (j ∷ js) k ks = from_append (first before a j) js k ks

  pub first_append : (j : ℤ) (js : List ℤ) (k : ℤ) (ks : List ℤ) → first_of before ((j ∷ js) ++ (k ∷ ks)) ≡ first before (first_of before (j ∷ js)) (first_of before (k ∷ ks))
  first_append j js k ks = from_append j js k ks

-- ---- what holds of each holds of the first
pub first_keeps : (P : ℤ → Type 0) (before : ℤ → ℤ → Bool) (j k : ℤ) → P j → P k → P (first before j k)
first_keeps P before j k a b = go (before k j)
  where
    go : (t : Bool) → P (cond t k j)
    go true = b
    go false = a
