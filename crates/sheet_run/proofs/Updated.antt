-- A sheet that was run is written again to as many bytes as it had, and these read back its model, its parameters, its count and
-- every bit of every record as the pass left it: with the determinant too, which the reading fills in where the sheet has none.
use mathlib.Core.Path.{◌≡◌, refl, sym, ap, ◌∙◌, subst}
use mathlib.Core.Logic.{◌⊎◌, inl, inr}
use mathlib.Core.Bool.{true}
use mathlib.Core.List.{List, ◌++◌}
use Prim.Native.Nat.{ℕ, zero, suc, ◌+◌, ◌*◌, ◌/◌, ◌^◌, ◌≤◌, ◌<◌}
use native.Mathlib.Omega.{arith}
use lib.ListN.{length, take, drop, length-take, length-drop}
use lib.Seq.{length-take-le, take_at}
use borrow.Author.Tests.{eq-eqb}
use Rattle.plasticity.specs.declared.Updated.{Updated}
use Rattle.record.specs.Layout.{floats, determinant_right}
use Rattle.model.specs.declared.Model.{Model}
use Rattle.particles.specs.Pass.{Worked, record_at, worked, well_sized, pass_records, worked_over}
use Rattle.one_record.specs.RecordLaw.{updated_at, kept, record_law}
use Rattle.particles.proofs.PassLaws.{record_keeps, worked_length}
use Rattle.particles.proofs.Written.{kept_right}
use Rattle.particles.proofs.Determinants.{by_law}
use Rattle.sheet.specs.declared.Header.{Header}
use Rattle.sheet.specs.Records.{each, sheet_words, Right, AllRight}
use Rattle.sheet.specs.Sheet.{header_of, read_of, room_of, words_in, records_of}
use Rattle.sheet.specs.Spelling.{Below, parameters_of}
use Rattle.sheet.proofs.Format.{accepted, ReadBack}
use Rattle.sheet.proofs.RecordLaws.{each_at, list_right}
use Rattle.sheet_run.specs.Run.{law_of, records_in, answers_in, front_records, ran_of, ran_records}
use Rattle.sheet_run.proofs.Rooms.{records_length}
use Rattle.sheet_run.proofs.Parts.{not_refused, header_own, records_read, parts, well, quotient}
use Rattle.sheet_run.proofs.Parts as ran
use Rattle.writer.specs.declared.Written.TheVariants.{Length}
use Rattle.writer.specs.Writer.{count_of, sheet_of, refusal_of}
use Rattle.writer.proofs.Stages.{sheet_length}
use Rattle.writer.proofs.Reasons.{fine, written}
use Rattle.writer.proofs.Back.{Room, in_room, same_bytes, rewritten, reads_back, same_records}
use Rattle.sheet_run.specs.Out.{front_written, front_room, out_of, out_room}
use Rattle.sheet_run.proofs.Fits.{records_fit, header_read, ran_length}

-- other records of the same number take the same place
module _ (model : ℕ) (p v w : List ℕ) (n : length v ≡ length w) where
  pub same_length : length (sheet_of model p v) ≡ length (sheet_of model p w)
  same_length = rw (sheet_length model p v, sheet_length model p w, n)

  pub as_well : (room : ℕ) → refusal_of model p w room ≡ 0 → refusal_of model p v room ≡ 0
  as_well room e =
      let f = fine model p w room e in
      let l = f.named.listed in
      written model p v room
      (record {
        named = record { listed = record { even = rw n l.even; known = l.known; many = l.many }; flags = f.named.flags };
        few = rw n f.few;
        place = rw same_length f.place;
      })

-- ---- a pass, record by record, leaves determinants right
worked_each : (law : List ℕ → Worked) (l : List ℕ) (n : ℕ) → worked law l n ≡ each (λ r. (law r).after) floats n l
unfolding worked_over each
worked_each law l zero = refl
worked_each law l (suc n) = ap (λ (t : List ℕ). t ++ (law (record_at l n)).after) (worked_each law l n)

law_right : (m : Model) (r : List ℕ) → length r ≡ floats → determinant_right r ≡ true → determinant_right (record_law m r).after ≡ true
unfolding record_law
law_right m r n e =
    by_law m r (λ (d : Updated). determinant_right (kept m d.outcome r d.state) ≡ true) (λ k st. e)
    (λ p q u. kept_right m (updated_at m r).outcome r (updated_at m r).state n u.right)

record_right : (m : Model) (model : ℕ) (r : List ℕ) → length r ≡ floats → Right model r → Right model (record_law m r).after
record_right m model r n (inl e) = inl e
record_right m model r n (inr e) = inr (law_right m r n e)

module _ (s xs out : List ℕ) (b : Below 256 s) (e : (ran_of s xs out).refusal ≡ 0) where
  abbrev h : Header
  h = header_of s

  -- the records as the pass left them
  abbrev after : List ℕ
  after = records_in h (ran_records s xs out)

  read : (header_of s).refusal ≡ 0
  read = header_read s xs out e

  after_length : length after ≡ h.count * floats
  after_length =
      let f = records_fit s xs out e in
      simp (length-take, ran_length s xs out e) (omega (arith, f))

  as_many : length after ≡ length (records_of s h)
  as_many = after_length ∙ sym (records_length s h)

  not_refused_again : (room : ℕ) → length s ≤ room → refusal_of h.model (parameters_of h) after room ≡ 0
  not_refused_again room r = as_well h.model (parameters_of h) after (records_of s h) as_many room (rewritten s b read room r)

  as_long : length (sheet_of h.model (parameters_of h) after) ≡ length s
  as_long = same_length h.model (parameters_of h) after (records_of s h) as_many ∙ ap length (same_bytes s b read)

  pub updated : (room : List ℕ) → length s ≤ length room
      → (out_of s xs out (length room) ≡ Length (length s)) × Room h.model (parameters_of h) after room (out_room s xs out room)
  unfolding front_written front_room
  updated room r =
      let w = in_room h.model (parameters_of h) after room (not_refused_again (length room) r) in
      rw (eq-eqb _ 0 e) (w.0 ∙ ap Length as_long, w.1)

  counted : count_of after ≡ h.count
  counted = omega (arith, after_length)

  -- the sheet that is written
  abbrev again : List ℕ
  again = sheet_of h.model (parameters_of h) after

  pub updated_reads_back : Below (2 ^ 64) (parameters_of h) → Below (2 ^ 64) after
      → ReadBack h.model (parameters_of h) h.count (sheet_words h.model h.count after) again (header_of again)
  updated_reads_back bp bw =
      subst (λ (n : ℕ). ReadBack h.model (parameters_of h) n (sheet_words h.model n after) again (header_of again)) counted
      (reads_back h.model (parameters_of h) after (length s) bp bw (not_refused_again (length s) (omega arith)))

  -- the pass over what was delivered
  front_is : let g = read_of s (length xs) in records_in g (ran_records s xs out) ≡ worked (law_of g) (records_of s h) g.count
  unfolding front_records
  front_is =
      let n = not_refused s xs out e in
      let g = read_of s (length xs) in
      let a = records_in g (room_of s xs) in
      let o = answers_in g out in
      let q = parts s xs out n.0 n.1 in
      let p : pass_records (law_of g) a o ≡ worked (law_of g) a g.count =
      ran.taken (well_sized a o) (worked (law_of g) a (length a / floats)) a (well a o g.count q) ∙ ap (worked (law_of g) a) (quotient a o g.count q.0) in
      let m : length (pass_records (law_of g) a o) ≡ g.count * floats = ap length p ∙ worked_length floats (law_of g) (record_keeps _) a g.count (omega (arith, q.0)) in
      rw (n.0, eq-eqb g.refusal 0 n.1) (take_at (pass_records (law_of g) a o) (drop (g.count * floats) (room_of s xs)) (g.count * floats) m)
      ∙ p ∙ ap (λ (l : List ℕ). worked (law_of g) l g.count) (records_read s xs n.1)

  after_is : after ≡ each (λ r. (law_of h r).after) floats h.count (records_of s h)
  after_is =
      subst (λ (g : Header). records_in g (ran_records s xs out) ≡ worked (law_of g) (records_of s h) g.count) (header_own s (length xs) (not_refused s xs out e).1) front_is
      ∙ worked_each (law_of h) (records_of s h) h.count

  after_right : AllRight h.model h.count after
  after_right i l =
      let r = record_at (records_of s h) i in
      let n = records_length s h in
      let k = length-take-le floats (drop (i * floats) (records_of s h)) (rw (length-drop (i * floats) (records_of s h)) (omega (arith, n, l))) in
      rw (after_is, each_at (λ r. (law_of h r).after) floats floats (λ w z. record_keeps _ w ∙ z) (records_of s h) i h.count l (omega (arith, n)))
      (record_right _ h.model r k (list_right h.model h.count (words_in s h) (accepted s b read).writable.whole i l))

  -- the determinant too
  pub updated_records : Below (2 ^ 64) (parameters_of h) → Below (2 ^ 64) after → records_of again (header_of again) ≡ after
  updated_records bp bw =
      same_records h.model (parameters_of h) after (length s) bp bw (not_refused_again (length s) (omega arith)) (λ i l. after_right i (rw counted at l))
