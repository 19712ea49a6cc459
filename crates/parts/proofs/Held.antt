-- Before the records fewer bytes are held than the longest record has. Assumes nothing.
use mathlib.Core.Path.{◌≡◌, refl, sym}
use mathlib.Core.List.{List, [], ◌∷◌}
use Prim.Native.Nat.{ℕ, ◌<◌}
use native.Mathlib.Omega.{arith}
use lib.ListN.{length}
use Rattle.sheet.specs.Sheet.{Open, Shut, preamble_of, header_of}
use Rattle.sheet.specs.Spelling.{Below}
use Rattle.sheet.specs.Refused.{Reason, no_number, half_number, short_parameter, short_records, not_shortest, third_group, unknown_model, other_flag, count_over, bytes_after}
use Rattle.sheet.proofs.Ended.{at_length, parameter_length}
use Rattle.sheet.proofs.Reasons.{refused_exactly}
use Rattle.parts.specs.Parts.{room}
use Rattle.parts.proofs.MoreBytes.{opened}

pub shut_refusal : (s : List ℕ) (n : ℕ) → preamble_of s ≡ Shut n → n ≡ (header_of s).refusal
unfolding header_of
shut_refusal s n e = rw e

module _ (s : List ℕ) (z : preamble_of s ≡ Shut 4) where
  by_reason : (n : ℕ) → n ≡ 4 → Reason s n → length s < room
  by_reason n e (no_number p) = let a = at_length s [] p in omega arith
  by_reason n e (half_number low h p) = let a = at_length s (low ∷ []) p in omega arith
  by_reason n e (short_parameter flag l h p) = let a = parameter_length s flag l p in omega arith
  by_reason n e (short_records count l h p m) =
      let o = opened s p.model p.parameters count l p.known p.fits h p.spelled in
      let x : ◌≡◌ {A = ℕ} 0 1 = cc in
      absurd (omega arith)
  by_reason n e (not_shortest low l h p) = absurd (omega arith)
  by_reason n e (third_group low high l h k p) = absurd (omega arith)
  by_reason n e (unknown_model model l k h f) = absurd (omega arith)
  by_reason n e (other_flag w l h y o p) = absurd (omega arith)
  by_reason n e (count_over count l k h p) = absurd (omega arith)
  by_reason n e (bytes_after t l g h f) = absurd (omega arith)

  pub header_short : Below 256 s → length s < room
  header_short b = by_reason 4 refl ((refused_exactly s b 4 (λ y. omega arith)).0 (sym (shut_refusal s 4 z)))
