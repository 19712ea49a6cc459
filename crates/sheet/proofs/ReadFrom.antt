-- What a header without refusal was read from, step by step.
use mathlib.Core.Path.{◌≡◌, refl, sym, ap, ◌∙◌}
use mathlib.Core.Bool.{Bool, true, false, cond}
use mathlib.Core.List.{List}
use Prim.Native.Nat.{ℕ, ◌+◌, ◌*◌, ◌-◌, ◌≤◌, ◌<◌}
use native.Mathlib.Omega.{arith}
use lib.ListN.{length}
use lib.Dec.{ltb}
use borrow.Author.Tests.{ltb-false}
use Rattle.model.specs.Kinds.{last, kinds_of}
use Rattle.sheet.specs.Records.{sheet_floats}
use Rattle.sheet.specs.Sheet.{most, number_at, Fields, Got, Stopped, parameters_at, padded, refused_by, after_count, after_parameters, after_model, preamble_of, records_end, closed, header_of}
use Rattle.sheet.specs.declared.Number.{Number}
use Rattle.sheet.specs.declared.Number.TheVariants.{Read as Number_as_Read, Refused as Number_as_Refused}
use Rattle.sheet.specs.declared.Header.{Header}
use Rattle.sheet.proofs.Bounds.{number_inside, number_refused, stopped_not_0}

pub record ReadFrom (s : List ℕ) (h : Header) : Type 0 where
  pub model : ℕ
  pub after_model_lem : ℕ
  pub words : List ℕ
  pub after_words : ℕ
  pub count : ℕ
  pub at : ℕ
  pub is_model : number_at s 0 ≡ Number_as_Read model after_model_lem
  pub known : model ≤ last
  pub are_words : parameters_at (kinds_of model) s after_model_lem ≡ Got words after_words
  pub is_count : number_at s after_words ≡ Number_as_Read count at
  pub few : count ≤ most
  pub ends : at + count * sheet_floats model * 8 ≡ length s
  pub is : record { refusal = 0; model = model; parameters = padded words; count = count; at = at } ≡ h

-- the two ways of a test
pub either : {A R : Type 0} (b : Bool) (x y z : A) → cond b x y ≡ z → (b ≡ true → x ≡ z → R) → (b ≡ false → y ≡ z → R) → R
either true x y z e f g = f refl e
either false x y z e f g = g refl e

-- and of a test inside a function
pub either_of : {A B R : Type 0} (k : A → B) (b : Bool) (x y : A) (z : B) → k (cond b x y) ≡ z → (b ≡ true → k x ≡ z → R) → (b ≡ false → k y ≡ z → R) → R
either_of k true x y z e f g = f refl e
either_of k false x y z e f g = g refl e

module _ (s : List ℕ) (h : Header) (z : h.refusal ≡ 0) where
  refusal_0 : (n : ℕ) → refused_by n ≡ h → n ≡ 0
  refusal_0 n e = ap (λ (x : Header). x.refusal) e ∙ z

  clash : {R : Type 0} (n : ℕ) → refused_by n ≡ h → 0 < n → R
  clash n e p = let q : n ≡ 0 = refusal_0 n e in absurd (omega arith)

  module _ (model after_model_lem : ℕ) (is_model : number_at s 0 ≡ Number_as_Read model after_model_lem) (known : model ≤ last) where
    module _ (words : List ℕ) (after_words : ℕ) (are_words : parameters_at (kinds_of model) s after_model_lem ≡ Got words after_words) where
      from_end : (count at : ℕ) → number_at s after_words ≡ Number_as_Read count at → count ≤ most → records_end s model (padded words) count at ≡ h → ReadFrom s h
      unfolding records_end
      from_end count at is_count few e =
          either (ltb (length s - at) (count * sheet_floats model * 8)) _ _ _ e (λ t p. clash 4 p (omega arith)) (λ t p.
          either (ltb (count * sheet_floats model * 8) (length s - at)) _ _ _ p (λ u q. clash 7 q (omega arith)) (λ u q.
          let a = ltb-false (length s - at) (count * sheet_floats model * 8) t in
          let b = ltb-false (count * sheet_floats model * 8) (length s - at) u in
          let i = number_inside s after_words count at is_count in
          record {
            model = model;
            after_model_lem = after_model_lem;
            words = words;
            after_words = after_words;
            count = count;
            at = at;
            is_model = is_model;
            known = known;
            are_words = are_words;
            is_count = is_count;
            few = few;
            ends = omega arith;
            is = q;
          }))

      from_count : (n : Number) → number_at s after_words ≡ n → closed s (after_count model (padded words) n) ≡ h → ReadFrom s h
      from_count (Number_as_Refused n) e p = absurd (number_refused s after_words n e (refusal_0 n p))
      from_count (Number_as_Read count at) e p =
          either_of (closed s) (ltb most count) _ _ _ p (λ t q. clash 7 q (omega arith)) (λ t q. from_end count at e (ltb-false most count t) q)

    from_words : (f : Fields) → parameters_at (kinds_of model) s after_model_lem ≡ f → closed s (after_parameters s model f) ≡ h → ReadFrom s h
    from_words (Stopped n) e p = absurd (stopped_not_0 (kinds_of model) s after_model_lem n e (refusal_0 n p))
    from_words (Got words at) e p = from_count words at e (number_at s at) refl p

  from_model : (n : Number) → number_at s 0 ≡ n → closed s (after_model s n) ≡ h → ReadFrom s h
  from_model (Number_as_Refused n) e p = absurd (number_refused s 0 n e (refusal_0 n p))
  from_model (Number_as_Read model at) e p =
      either_of (closed s) (ltb last model) _ _ _ p (λ t q. clash 6 q (omega arith)) (λ t q.
      from_words model at e (ltb-false last model t) (parameters_at (kinds_of model) s at) refl q)

pub read_from : (s : List ℕ) → (header_of s).refusal ≡ 0 → ReadFrom s (header_of s)
unfolding header_of preamble_of
read_from s z = from_model s (header_of s) z (number_at s 0) refl refl

-- a header that was read has its records within the sheet
pub few : (s : List ℕ) (h : Header) → h ≡ header_of s → h.refusal ≡ 0 → h.count ≤ most
few s h e z =
    let t = read_from s (ap (λ (x : Header). x.refusal) (sym e) ∙ z) in
    let c : t.count ≡ h.count = ap (λ (x : Header). x.count) (t.is ∙ sym e) in
    omega (arith, t.few)

pub named_model : (s : List ℕ) (h : Header) → h ≡ header_of s → h.refusal ≡ 0 → h.model ≤ last
named_model s h e z =
    let t = read_from s (ap (λ (x : Header). x.refusal) (sym e) ∙ z) in
    let m : t.model ≡ h.model = ap (λ (x : Header). x.model) (t.is ∙ sym e) in
    omega (arith, t.known)

pub within : (s : List ℕ) (h : Header) → h ≡ header_of s → h.refusal ≡ 0 → h.at + h.count * sheet_floats h.model * 8 ≤ length s
within s h e z =
    let t = read_from s (ap (λ (x : Header). x.refusal) (sym e) ∙ z) in
    let c : t.count ≡ h.count = ap (λ (x : Header). x.count) (t.is ∙ sym e) in
    let a : t.at ≡ h.at = ap (λ (x : Header). x.at) (t.is ∙ sym e) in
    let m : t.model ≡ h.model = ap (λ (x : Header). x.model) (t.is ∙ sym e) in
    omega (arith, rw (c, m) at t.ends)
