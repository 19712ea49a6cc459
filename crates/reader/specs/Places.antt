-- The place that a reader moves on to.
use Rattle.std.specs.Prelude.{ℕ}
use Rattle.sheet.specs.declared.Place.{Place}
use Rattle.sheet.specs.declared.Place.TheVariants.{Next as Place_as_Next, Refused as Place_as_Refused}

abbrev pub moved_to : Place → ℕ → ℕ
moved_to (Place_as_Next next) at = next
moved_to (Place_as_Refused n) at = at
