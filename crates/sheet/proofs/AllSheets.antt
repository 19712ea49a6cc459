-- Every sheet of bytes is good or has a reason of specs/Refused, as it is taken apart from the front.
use mathlib.Core.Path.{◌≡◌, refl, sym, ap, ◌∙◌, subst}
use mathlib.Core.Bool.{Bool, true, false, ◌||◌}
use mathlib.Core.List.{List, [], ◌∷◌, ◌++◌, append_assoc, append-nil}
use Prim.Native.Nat.{ℕ, zero, suc, ◌+◌, ◌*◌, ◌-◌, ◌^◌, ◌≤◌, ◌<◌}
use native.Mathlib.Omega.{arith}
use lib.ListN.{length, take, drop, length-take, take-append-drop}
use lib.Dec.{ltb, leb, eqb}
use borrow.Author.Tests.{ltb-true, ltb-false, leb-true, leb-false, eqb-false}
use Rattle.model.specs.Kinds.{last, one, allowed, kinds_of}
use Rattle.sheet.specs.Records.{sheet_floats}
use Rattle.sheet.specs.Sheet.{most, word_of, words_of}
use Rattle.sheet.specs.Spelling.{spell_number, spell_bytes, spell_words, spell, Below, Fits}
use Rattle.sheet.specs.Refused.{Good, AtCount, AtParameter, AtNumber, at_model, at_count, Reason, no_number, half_number, short_parameter, short_records, not_shortest, third_group, unknown_model, other_flag, count_over, bytes_after}
use Rattle.sheet.proofs.Steps.{words_length}
use Rattle.sheet.proofs.Pieces.{below_take, below_drop, one_spelled, two_spelled, front_bytes, front_below, words_spelled, words_below}

pub data Told (s : List ℕ) : Type 0 where
  good : Good s → Told s
  bad : {n : ℕ} → Reason s n → Told s

below_rest : (b : ℕ) (p l : List ℕ) → Below b (p ++ l) → Below b l
below_rest b [] l h = h
below_rest b (x ∷ p) l h = below_rest b p l h.1

pub by_test : {R : Type 0} (b : Bool) → (b ≡ true → R) → (b ≡ false → R) → R
by_test true f g = f refl
by_test false f g = g refl

clash : {R : Type 0} → true ≡ false → R
clash e = let z : ◌≡◌ {A = ℕ} 0 1 = cc in absurd (omega arith)

-- a number
module _ (s : List ℕ) where
  after_low : (low : ℕ) (l : List ℕ) → 128 ≤ low → low < 256 → AtNumber s (low ∷ l) → ((v : ℕ) (rest : List ℕ) → v < 2 ^ 14 → low ∷ l ≡ spell_number v ++ rest → Told s) → Told s
  after_low low [] h k p next = bad (half_number low h p)
  after_low low (zero ∷ l) h k p next = bad (not_shortest low l h p)
  after_low low (suc high ∷ l) h k p next =
      by_test (leb 128 (suc high)) (λ t. bad (third_group low (suc high) l h (leb-true 128 (suc high) t) p)) (λ t.
      let m = leb-false 128 (suc high) t in
      next (low - 128 + suc high * 128) l (omega arith) (rw (← two_spelled low (suc high) h k (λ e. omega arith))))

  told_number : (l : List ℕ) → Below 256 l → AtNumber s l → ((v : ℕ) (rest : List ℕ) → v < 2 ^ 14 → l ≡ spell_number v ++ rest → Told s) → Told s
  told_number [] b p next = bad (no_number p)
  told_number (low ∷ l) b p next =
      by_test (ltb low 128)
      (λ t. let h = ltb-true low 128 t in next low l (omega arith) (rw (← one_spelled low h)))
      (λ t. after_low low l (ltb-false low 128 t) b.0 p next)

  -- parameters
  other : (w : ℕ) → allowed true w ≡ false → (w ≡ 0 → ⊥) × (w ≡ one → ⊥)
  other w t = by_tests (eqb w 0) (eqb w one) refl refl t
    where
      by_tests : (b c : Bool) → eqb w 0 ≡ b → eqb w one ≡ c → (b || c) ≡ false → (w ≡ 0 → ⊥) × (w ≡ one → ⊥)
      by_tests false false e f t = (eqb-false w 0 e, eqb-false w one f)
      by_tests false true e f t = clash t
      by_tests true c e f t = clash t

  not_allowed : (flag : Bool) (w : ℕ) (l : List ℕ) → w < 2 ^ 64 → allowed flag w ≡ false → AtParameter s flag (spell_bytes 8 w ++ l) → Told s
  not_allowed true w l h t p = let o = other w t in bad (other_flag w l h o.0 o.1 p)
  not_allowed false w l h t p = clash t

  told_parameters : (flags : List Bool) (l : List ℕ) → Below 256 l
      → ((ws rest : List ℕ) → Fits flags ws → l ≡ spell_words ws ++ rest → Told s)
      → ((earlier : List Bool) (flag : Bool) (others : List Bool) (ws rest : List ℕ) → flags ≡ earlier ++ (flag ∷ others) → Fits earlier ws → l ≡ spell_words ws ++ rest → (AtParameter s flag rest → Told s) → Told s)
      → Told s
  unfolding spell_words
  told_parameters [] l b all stop = all [] l tt refl
  told_parameters (flag ∷ flags) l b all stop =
      by_test (ltb (length l) 8) (λ t. stop [] flag flags [] l refl tt refl (λ p. bad (short_parameter flag l (ltb-true (length l) 8 t) p))) (λ t.
      let h = ltb-false (length l) 8 t in
      let w = word_of (take 8 l) in
      let k : w < 2 ^ 64 = front_below l b h in
      let e : l ≡ spell_bytes 8 w ++ drop 8 l = front_bytes l b h in
      let more : (ws rest : List ℕ) → drop 8 l ≡ spell_words ws ++ rest → l ≡ (spell_bytes 8 w ++ spell_words ws) ++ rest =
      λ ws rest f. e ∙ ap (λ (m : List ℕ). spell_bytes 8 w ++ m) f ∙ sym (append_assoc (spell_bytes 8 w) (spell_words ws) rest) in
      by_test (allowed flag w)
      (λ u. told_parameters flags (drop 8 l) (below_drop 256 8 l b)
      (λ ws rest f d. all (w ∷ ws) rest (k, u, f) (more ws rest d))
      (λ earlier other others ws rest i f d. stop (flag ∷ earlier) other others (w ∷ ws) rest (ap (λ (m : List Bool). flag ∷ m) i) (k, u, f) (more ws rest d)))
      (λ u. stop [] flag flags [] (spell_bytes 8 w ++ drop 8 l) refl tt e (not_allowed flag w (drop 8 l) k u)))

  -- records
  module _ (count : ℕ) (l : List ℕ) (b : Below 256 l) (few : count ≤ most) (p : AtCount s (spell_number count ++ l)) where
    front : List ℕ
    front = take (count * sheet_floats p.model * 8) l

    words : List ℕ
    words = words_of (count * sheet_floats p.model) front

    sheet : List ℕ
    sheet = spell p.model p.parameters count words

    module _ (h : count * sheet_floats p.model * 8 ≤ length l) where
      front_length : length front ≡ count * sheet_floats p.model * 8
      unfolding front
      front_length = simp length-take (omega arith)

      sheet_good : Good sheet
      unfolding sheet words front
      sheet_good =
          let c = below_take 256 (count * sheet_floats p.model * 8) l b in
          record {
            model = p.model;
            parameters = p.parameters;
            count = count;
            words = words;
            writable = record {
              known = p.known;
              fits = p.fits;
              few = few;
              whole = words_length (count * sheet_floats p.model) front;
              bits = words_below (count * sheet_floats p.model) front c front_length;
            };
            spelled = refl;
          }

      sheet_front : s ≡ sheet ++ drop (count * sheet_floats p.model * 8) l
      unfolding sheet words spell front
      sheet_front =
          let c = below_take 256 (count * sheet_floats p.model * 8) l b in
          p.spelled ∙ rw (words_spelled (count * sheet_floats p.model) front c front_length) (simp (append_assoc, take-append-drop))

      told_rest : (r : List ℕ) → s ≡ sheet ++ r → Told s
      told_rest [] e = let f = e ∙ append-nil sheet in good (subst Good (sym f) sheet_good)
      told_rest (x ∷ r) e = bad (bytes_after sheet (x ∷ r) sheet_good (omega arith) e)

    told_records : Told s
    told_records =
        by_test (ltb (length l) (count * sheet_floats p.model * 8))
        (λ t. bad (short_records count l few p (ltb-true (length l) (count * sheet_floats p.model * 8) t)))
        (λ t. let h = ltb-false (length l) (count * sheet_floats p.model * 8) t in told_rest h (drop (count * sheet_floats p.model * 8) l) (sheet_front h))

  told_count : (l : List ℕ) → Below 256 l → AtCount s l → Told s
  told_count l b p =
      told_number l b (at_count p) (λ count rest h e.
      let q : AtCount s (spell_number count ++ rest) = subst (AtCount s) e p in
      by_test (ltb most count) (λ t. bad (count_over count rest (ltb-true most count t) h q))
      (λ t. told_records count rest (below_rest 256 (spell_number count) rest (subst (Below 256) e b)) (ltb-false most count t) q))

  told_model : (model : ℕ) (l : List ℕ) → Below 256 l → model ≤ last → s ≡ spell_number model ++ l → Told s
  told_model model l b h e =
      told_parameters (kinds_of model) l b
      (λ ws rest f d. told_count rest (below_rest 256 (spell_words ws) rest (subst (Below 256) d b)) (record {
        model = model;
        parameters = ws;
        known = h;
        fits = f;
        spelled = e ∙ ap (λ (m : List ℕ). spell_number model ++ m) d;
      }))
      (λ earlier flag others ws rest i f d stop. stop (record {
        model = model;
        parameters = ws;
        earlier = earlier;
        others = others;
        known = h;
        kinds = i;
        fits = f;
        spelled = e ∙ ap (λ (m : List ℕ). spell_number model ++ m) d;
      }))

pub told : (s : List ℕ) → Below 256 s → Told s
told s b =
    told_number s s b (at_model refl) (λ model l h e.
    by_test (ltb last model) (λ t. bad (unknown_model model l (ltb-true last model t) h e))
    (λ t. told_model s model l (below_rest 256 (spell_number model) l (subst (Below 256) e b)) (ltb-false last model t) e))
