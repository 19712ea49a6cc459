-- Every state that the calls give has the types that the code has, and names a model. Assumes nothing.
use mathlib.Core.Path.{◌≡◌, refl, sym, ap, ◌∙◌, subst}
use mathlib.Core.Bool.{Bool, true, false, cond}
use mathlib.Core.List.{List, [], ◌∷◌, ◌++◌}
use Prim.Native.Nat.{ℕ, zero, suc, ◌+◌, ◌-◌, ◌<◌, ◌≤◌}
use native.Mathlib.Omega.{arith}
use lib.ListN.{length, take, set, replicate, length-append, length-set, length-replicate}
use lib.Dec.{ltb, eqb}
use Rattle.model.specs.Kinds.{places, kinds_of}
use Rattle.model.proofs.KindLaws.{kinds_most}
use Rattle.sheet.specs.Sheet.{padded, refused_by, Preamble, Open, Shut, preamble_of, as_header}
use Rattle.sheet.specs.Spelling.{Below}
use Rattle.sheet.specs.declared.Header.{Header}
use Rattle.sheet.proofs.Bounds.{Refusal}
use Rattle.sheet.proofs.Known.{refused_known, preamble_known}
use Rattle.sheet.proofs.Pieces.{below_take, fits_length}
use Rattle.sheet.proofs.Preambles.{Closes, closes}
use Rattle.parts.specs.declared.Arrival.{Arrival}
use Rattle.parts.specs.declared.Told.{Told}
use Rattle.parts.specs.Parts.{Work, room, held_with, stopped, headed, headed_by, recorded, wanted, short, named, next, after, begun, lent, parted, missing, ended, end_answer}
use Rattle.parts.proofs.MoreBytes.{spelled_out}
use Rattle.parts_words.specs.Words.{Typed}

-- ---- bytes
below_zeros : (n : ℕ) → Below 256 (replicate n 0)
below_zeros zero = tt
below_zeros (suc n) = (omega arith, below_zeros n)

below_set : (l : List ℕ) (i x : ℕ) → Below 256 l → x < 256 → Below 256 (set l i x)
below_set [] i x b h = tt
below_set (y ∷ l) zero x b h = (h, b.1)
below_set (y ∷ l) (suc i) x b h = (b.0, below_set l i x b.1 h)

-- ---- what stands before the records
abbrev Header·Typed : Header → Type 0
Header·Typed h = (h.refusal < 256) × (length h.parameters ≡ places) × (named h ≡ true)

padded_length : (ws : List ℕ) → length ws ≤ places → length (padded ws) ≡ places
padded_length ws h = omega (arith, h, length-append ws (replicate (places - length ws) 0), length-replicate {A = ℕ} (places - length ws) 0)

module _ (s : List ℕ) (b : Below 256 s) where
  by_preamble : (f : Preamble) → preamble_of s ≡ f → Closes (length s) f → ((as_header f).refusal < 256) × (length (as_header f).parameters ≡ places)
  by_preamble (Open model bits count at) e c =
      let g = spelled_out s b model bits count at e in
      let k = kinds_most model in
      let n = fits_length (kinds_of model) g.parameters g.fits in
      (omega arith, ap length (sym g.padded_are) ∙ padded_length g.parameters (omega arith))
  by_preamble (Shut n) e c = (omega (arith, c.1), padded_length [] (omega arith))

  header_typed : Header·Typed (as_header (preamble_of s))
  header_typed = let p = by_preamble (preamble_of s) refl (closes s) in (p.0, p.1, preamble_known s)

-- ---- the calls
pub typed_begun : Typed begun
typed_begun =
    record {
      refusal = omega arith;
      stopped = omega arith;
      parameters = padded_length [] (omega arith);
      held = length-replicate {A = ℕ} room 0;
      bytes = below_zeros room;
      known = refused_known 4;
    }

module _ (a : Arrival) (t : Typed a) where
  typed_stopped : (n : ℕ) → n < 256 → Typed (stopped a n)
  typed_stopped n h = record { refusal = h; stopped = t.stopped; parameters = t.parameters; held = t.held; bytes = t.bytes; known = t.known }

  module _ (x : ℕ) (small : x < 256) where
    held_typed : (n : ℕ) (h : Header) (k at : ℕ) → n < 256 → Header·Typed h → Typed (record { refusal = n; header = h; complete = k; kept = at; held = held_with a x })
    held_typed n h k at l p =
        record {
          refusal = l;
          stopped = p.0;
          parameters = p.1;
          held = length-set a.held a.kept x ∙ t.held;
          bytes = below_set a.held a.kept x t.bytes small;
          known = p.2;
        }

    chosen : (c : Bool) (p q : Arrival) → Typed p → Typed q → Typed (cond c p q)
    chosen true p q h k = h
    chosen false p q h k = k

    typed_headed : Typed (headed a x)
    unfolding headed
    typed_headed =
        let l = take (a.kept + 1) (held_with a x) in
        let h = as_header (preamble_of l) in
        let p = header_typed l (below_take 256 (a.kept + 1) (held_with a x) (below_set a.held a.kept x t.bytes small)) in
        chosen (eqb h.refusal 4) _ _ (held_typed 0 h 0 (a.kept + 1) (omega arith) p) (held_typed h.refusal h 0 0 p.0 p)

    typed_recorded : Typed (recorded a x)
    unfolding recorded
    typed_recorded =
        let p : Header·Typed a.header = (t.stopped, t.parameters, t.known) in
        chosen (wanted a) _ _
        (chosen (short a) _ _ (held_typed 0 a.header a.complete (a.kept + 1) (omega arith) p) (chosen (named a.header) _ _ (held_typed 0 a.header (a.complete + 1) 0 (omega arith) p) (typed_stopped 6 (omega arith))))
        (typed_stopped 7 (omega arith))

choose : (c : Bool) (p q : Work) → Typed p.arrival → Typed q.arrival → Typed (cond c p q).arrival
choose true p q h k = h
choose false p q h k = k

pub typed_next : (w : Work) → Typed w.arrival → (x : ℕ) → x < 256 → Typed (next w x).arrival
unfolding next
typed_next w t x h =
    let a = w.arrival in
    choose (eqb a.refusal 0) _ _
    (choose (ltb a.kept room) _ _ (choose (eqb a.header.refusal 0) _ _ (typed_recorded a t x h) (typed_headed a t x h)) (typed_stopped a t 7 (omega arith)))
    t

pub typed_after : (w : Work) → Typed w.arrival → (l : List ℕ) → Below 256 l → Typed (after w l).arrival
unfolding after
typed_after w t [] b = t
typed_after w t (x ∷ l) b = typed_after (next w x) (typed_next w t x b.0) l b.1

pub typed_parted : (w : Work) → Typed w.arrival → (l : List ℕ) → Below 256 l → Typed (parted w l).arrival
unfolding parted
typed_parted w t l b = choose (lent w.records w.answers) _ _ (typed_after w t l b) t

tell : (c : Bool) (p q : Told) → Typed p.arrival → Typed q.arrival → Typed (cond c p q).arrival
tell true p q h k = h
tell false p q h k = k

pub typed_ended : (a : Arrival) → Typed a → (xs out : List ℕ) → Typed (end_answer a xs out).arrival
typed_ended a t xs out =
    tell (lent xs out) _ _
    (tell (eqb a.refusal 0) _ _ (tell (missing a) _ _ (typed_stopped a t 4 (omega arith)) (typed_stopped a t 15 (omega arith))) t)
    t
