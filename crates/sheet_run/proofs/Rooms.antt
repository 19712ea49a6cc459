-- A sheet that was read fits its room, and reading leaves the room's length. Assumes nothing.
use mathlib.Core.Path.{◌≡◌, refl, sym, ap, ◌∙◌}
use mathlib.Core.Bool.{Bool, true, false, not, cond}
use mathlib.Core.List.{List, ◌++◌}
use Prim.Native.Nat.{ℕ, ◌+◌, ◌*◌, ◌-◌, ◌%◌, ◌≤◌, ◌<◌}
use native.Mathlib.Omega.{arith}
use lib.Dec.{T, eqb, ltb, nltb→le}
use lib.ListN.{length, drop, length-append, length-drop}
use borrow.Author.Tests.{eq-eqb, eqb-true}
use Rattle.record.specs.Layout.{floats}
use Rattle.sheet.specs.declared.Header.{Header}
use Rattle.sheet.specs.Records.{sheet_floats}
use Rattle.sheet.specs.Sheet.{header_of, read_of, room_of, refused_by, fitted, words_in, records_of}
use Rattle.sheet.proofs.Steps.{words_length}
use Rattle.sheet.proofs.RecordLaws.{list_length}

short : (l : Bool) (h : Header) (room : ℕ) → (T (not l) → h.count * floats ≤ room)
    → (cond l (refused_by 8) h).refusal ≡ 0 → (cond l (refused_by 8) h).count * floats ≤ room
short true h room f e = omega arith
short false h room f e = f tt

good : (z : Bool) (h x : Header) (room : ℕ) → eqb h.refusal 0 ≡ z → (x.refusal ≡ 0 → x.count * floats ≤ room)
    → (cond z x h).refusal ≡ 0 → (cond z x h).count * floats ≤ room
good true h x room g f e = f e
good false h x room g f e = absurd (never (sym (eq-eqb h.refusal 0 e) ∙ g))
  where
    never : true ≡ false → ⊥
    never p = let q : ◌≡◌ {A = ℕ} 0 1 = cc in omega arith

whole : (b : Bool) (x : Header) (room : ℕ) → (x.refusal ≡ 0 → x.count * floats ≤ room)
    → (cond b x (refused_by 8)).refusal ≡ 0 → (cond b x (refused_by 8)).count * floats ≤ room
whole true x room f e = f e
whole false x room f e = omega arith

pub read_fits : (s : List ℕ) (room : ℕ) → (read_of s room).refusal ≡ 0 → (read_of s room).count * floats ≤ room
unfolding read_of
read_fits s room =
    let h = header_of s in
    whole (eqb (room % floats) 0) (fitted h room) room
    (good (eqb h.refusal 0) h (cond (ltb room (h.count * floats)) (refused_by 8) h) room refl
    (short (ltb room (h.count * floats)) h room (nltb→le room (h.count * floats))))

filled_length : (z : Bool) (ws room : List ℕ) (n : ℕ) → (z ≡ true → n ≤ length room) → length ws ≡ n → length (cond z (ws ++ drop n room) room) ≡ length room
filled_length true ws room n f e =
    let l = f refl in
    simp (length-append, length-drop) (omega arith)
filled_length false ws room n f e = refl

-- the records that a header speaks of, as they are delivered
pub records_length : (s : List ℕ) (h : Header) → length (records_of s h) ≡ h.count * floats
records_length s h = list_length h.model h.count (words_in s h) (words_length (h.count * sheet_floats h.model) (drop h.at s))

pub room_length : (s room : List ℕ) → length (room_of s room) ≡ length room
unfolding room_of
room_length s room =
    let h = read_of s (length room) in
    filled_length (eqb h.refusal 0) (records_of s h) room (h.count * floats)
    (λ e. read_fits s (length room) (eqb-true h.refusal 0 e)) (records_length s h)
