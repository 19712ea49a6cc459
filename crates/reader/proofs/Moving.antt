-- One record read through the place, and the place after it. Assumes nothing.
use mathlib.Core.Path.{◌≡◌, refl, sym}
use mathlib.Core.List.{List}
use Prim.Native.Nat.{ℕ, ◌+◌, ◌*◌, ◌≤◌}
use native.Mathlib.Omega.{arith}
use lib.ListN.{length, drop}
use Rattle.record.specs.Layout.{floats}
use Rattle.model.specs.Kinds.{last}
use Rattle.sheet.specs.Records.{sheet_floats, completed}
use Rattle.sheet.specs.Sheet.{words_of, record_at, room_at}
use Rattle.sheet.specs.declared.Place.{Place}
use Rattle.sheet.specs.declared.Place.TheVariants.{Next as Place_as_Next}
use Rattle.sheet.proofs.Rooms.{record_read}

pub one_record_lem : (model : ℕ) (s room : List ℕ) (at : ℕ) → model ≤ last → length room ≡ floats → at + sheet_floats model * 8 ≤ length s
    → (record_at model s at (length room) ≡ Place_as_Next (at + sheet_floats model * 8)) × (room_at model s at room ≡ completed model (words_of (sheet_floats model) (drop at s)))
one_record_lem model s room at known size there =
    let r = record_read model s at room size known (completed model (words_of (sheet_floats model) (drop at s))) (omega arith) refl in
    (sym r.0, sym r.1)
