-- What stands before the records, as bytes come: what more bytes change, and where it ends. Assumes nothing.
use mathlib.Core.Path.{◌≡◌, refl, sym, ap, ◌∙◌}
use mathlib.Core.Logic.{◌⊎◌, inl, inr}
use mathlib.Core.Bool.{Bool, true, false, cond}
use mathlib.Core.List.{List, [], ◌∷◌, ◌++◌, append_assoc, append_cancel_right}
use Prim.Native.Nat.{ℕ, ◌+◌, ◌≤◌, ◌<◌}
use native.Mathlib.Omega.{arith}
use lib.ListN.{length, drop}
use lib.Seq.{drop-append-le}
use lib.Dec.{ltb, leb}
use borrow.Author.Tests.{ltb-false, leb-true, leb-false, le-ltb}
use Rattle.model.specs.Kinds.{last, kinds_of}
use Rattle.sheet.specs.Sheet.{most, number_at, Fields, Got, Stopped, parameters_at, padded, Preamble, Open, Shut, after_count, after_parameters, after_model, preamble_of}
use Rattle.sheet.specs.Spelling.{spell_number, spell_words, Below, Fits}
use Rattle.sheet.specs.declared.Number.{Number}
use Rattle.sheet.specs.declared.Number.TheVariants.{Read as Number_as_Read, Refused as Number_as_Refused}
use Rattle.sheet.proofs.ReadFrom.{either}
use Rattle.sheet.proofs.Refusals.{number_stable, parameters_stable}
use Rattle.sheet.proofs.Pieces.{after, number_spelled, number_read, parameters_spelled, parameters_read}

-- ---- more bytes: what stands before the records ends early, or they do not change it
module _ (s r : List ℕ) where
  count_stable : (model : ℕ) (bits : List ℕ) (x y : Number) → (x ≡ Number_as_Refused 4) ⊎ (y ≡ x) → (after_count model bits x ≡ Shut 4) ⊎ (after_count model bits y ≡ after_count model bits x)
  count_stable model bits x y (inl e) = inl (rw e)
  count_stable model bits x y (inr e) = inr (rw e)

  fields_stable : (model : ℕ) (f g : Fields) → (f ≡ Stopped 4) ⊎ (g ≡ f) → (after_parameters s model f ≡ Shut 4) ⊎ (after_parameters (s ++ r) model g ≡ after_parameters s model f)
  fields_stable model f g (inl e) = inl (rw e)
  fields_stable model (Stopped n) g (inr e) = inr (rw e)
  fields_stable model (Got ws at) g (inr e) = rw e (count_stable model (padded ws) (number_at s at) (number_at (s ++ r) at) (number_stable s r at))

  model_stable : (x y : Number) → (x ≡ Number_as_Refused 4) ⊎ (y ≡ x) → (after_model s x ≡ Shut 4) ⊎ (after_model (s ++ r) y ≡ after_model s x)
  model_stable x y (inl e) = inl (rw e)
  model_stable (Number_as_Refused n) y (inr e) = inr (rw e)
  model_stable (Number_as_Read model at) y (inr e) = rw e (tested (ltb last model))
    where
      tested : (b : Bool) → (cond b (Shut 6) (after_parameters s model (parameters_at (kinds_of model) s at)) ≡ Shut 4) ⊎ (cond b (Shut 6) (after_parameters (s ++ r) model (parameters_at (kinds_of model) (s ++ r) at)) ≡ cond b (Shut 6) (after_parameters s model (parameters_at (kinds_of model) s at)))
      tested true = inr refl
      tested false = fields_stable model _ _ (parameters_stable (kinds_of model) s r at)

  pub preamble_stable : (preamble_of s ≡ Shut 4) ⊎ (preamble_of (s ++ r) ≡ preamble_of s)
  unfolding preamble_of
  preamble_stable = model_stable (number_at s 0) (number_at (s ++ r) 0) (number_stable s r 0)

-- ---- and it ends no later than it has to. One that is open, as it is spelled
pub record Spelled (s : List ℕ) (model : ℕ) (bits : List ℕ) (count at : ℕ) : Type 0 where
  pub parameters : List ℕ
  pub known : model ≤ last
  pub fits : Fits (kinds_of model) parameters
  pub few : count ≤ most
  pub padded_are : padded parameters ≡ bits
  pub spelled : s ≡ spell_number model ++ (spell_words parameters ++ (spell_number count ++ drop at s))

module _ (s : List ℕ) (b : Below 256 s) (model : ℕ) (bits : List ℕ) (count at : ℕ) where
  clash : {R : Type 0} (n : ℕ) → Shut n ≡ Open model bits count at → R
  clash n e = let z : ◌≡◌ {A = ℕ} 0 1 = cc in absurd (omega arith)

  spelled_out_count : (v to : ℕ) (ws : List ℕ) (next : ℕ) → number_at s 0 ≡ Number_as_Read v to → v ≤ last → parameters_at (kinds_of v) s to ≡ Got ws next
      → (x : Number) → number_at s next ≡ x → after_count v (padded ws) x ≡ Open model bits count at → Spelled s model bits count at
  spelled_out_count v to ws next m k p (Number_as_Refused n) c e = clash n e
  spelled_out_count v to ws next m k p (Number_as_Read d end) c e =
      either (ltb most d) _ _ _ e (λ t q. clash 7 q) (λ t q.
      let v_is : v ≡ model = cc in
      let bits_are : padded ws ≡ bits = cc in
      let d_is : d ≡ count = cc in
      let end_is : end ≡ at = cc in
      let g = parameters_spelled s b (kinds_of v) to ws next p in
      let l = number_spelled s 0 v to b m ∙ ap (λ (l : List ℕ). spell_number v ++ l) (g.spelled ∙ ap (λ (l : List ℕ). spell_words ws ++ l) (number_spelled s next d end b c)) in
      record {
        parameters = ws;
        known = rw (← v_is) k;
        fits = rw (← v_is) g.fits;
        few = rw (← d_is) (ltb-false most d t);
        padded_are = bits_are;
        spelled = rw (← v_is, ← d_is, ← end_is) l;
      })

  spelled_out_fields : (v to : ℕ) → number_at s 0 ≡ Number_as_Read v to → v ≤ last → (f : Fields) → parameters_at (kinds_of v) s to ≡ f → after_parameters s v f ≡ Open model bits count at → Spelled s model bits count at
  spelled_out_fields v to m k (Stopped n) p e = clash n e
  spelled_out_fields v to m k (Got ws next) p e = spelled_out_count v to ws next m k p (number_at s next) refl e

  spelled_out_model : (x : Number) → number_at s 0 ≡ x → after_model s x ≡ Open model bits count at → Spelled s model bits count at
  spelled_out_model (Number_as_Refused n) m e = clash n e
  spelled_out_model (Number_as_Read v to) m e =
      either (ltb last v) _ _ _ e (λ t q. clash 6 q) (λ t q. spelled_out_fields v to m (ltb-false last v t) (parameters_at (kinds_of v) s to) refl q)

  pub spelled_out : preamble_of s ≡ Open model bits count at → Spelled s model bits count at
  unfolding preamble_of
  spelled_out e = spelled_out_model (number_at s 0) refl e

-- one that is spelled is open, whatever follows
module _ (s : List ℕ) (model : ℕ) (ws : List ℕ) (count : ℕ) (l : List ℕ) (known : model ≤ last) (fits : Fits (kinds_of model) ws) (few : count ≤ most)
    (e : s ≡ spell_number model ++ (spell_words ws ++ (spell_number count ++ l))) where
  pub opened : preamble_of s ≡ Open model (padded ws) count (0 + length (spell_number model) + length (spell_words ws) + length (spell_number count))
  unfolding preamble_of
  opened =
      let a = after s 0 (spell_number model) _ (length (spell_number model)) e refl in
      let b = after s (0 + length (spell_number model)) (spell_words ws) _ (length (spell_words ws)) a refl in
      let m = number_read s 0 model _ (omega arith) e in
      let p = parameters_read s (kinds_of model) (0 + length (spell_number model)) ws _ fits a in
      let c = number_read s (0 + length (spell_number model) + length (spell_words ws)) count _ (omega arith) b in
      rw (m, le-ltb last model known, p, c, le-ltb most count few)

-- so one that ends within s is open in s
module _ (s r : List ℕ) (b : Below 256 (s ++ r)) (model : ℕ) (bits : List ℕ) (count at : ℕ) (e : preamble_of (s ++ r) ≡ Open model bits count at) where
  pub ends_late : preamble_of s ≡ Shut 4 → length s < at
  ends_late z = by_place (leb at (length s)) refl
    where
      by_place : (c : Bool) → leb at (length s) ≡ c → length s < at
      by_place false t = leb-false at (length s) t
      by_place true t =
          let g = spelled_out (s ++ r) b model bits count at e in
          let d = drop-append-le at s r (leb-true at (length s) t) in
          let q : (spell_number model ++ (spell_words g.parameters ++ (spell_number count ++ drop at s))) ++ r ≡ s ++ r = simp append_assoc (sym (rw d at g.spelled)) in
          let o = opened s model g.parameters count (drop at s) g.known g.fits g.few (sym (append_cancel_right _ _ r q)) in
          let x : ◌≡◌ {A = ℕ} 0 1 = cc in
          absurd (omega arith)
