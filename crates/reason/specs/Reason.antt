-- Why a law answered as it did (ticket 8), read off the path of its walk: the first refusal there, else the last test of section 5's branches
-- with the numbers that it compared.
use Rattle.std.specs.Prelude.{List, [], ◌∷◌, Bool, ℕ, Float}
use Rattle.std.proofs.Math.Option.{Option, some, none}
use Rattle.walk.specs.Walk.{Walk}
use Rattle.walk.specs.Exact as walk
use Rattle.walk.specs.Exact.{Refusal, path, first, last, ended_by}
use Rattle.walk.specs.Update.{Change}
use Rattle.reason.specs.declared.Reason.{Reason}
use Rattle.reason.specs.declared.Reason.TheVariants.{Tested, Zeros, Flagged, Refused}

-- by how many numbers the test compared: none is a flag's, two are a comparison's, three the zero test's
abbrev pub compared_as : ℕ → Bool → List Float → Reason
compared_as n held [] = Flagged n held
compared_as n held (a ∷ []) = Flagged n held
compared_as n held (a ∷ b ∷ []) = Tested n held a b
compared_as n held (a ∷ b ∷ c ∷ l) = Zeros n held a b c

abbrev pub test_as : walk.Reason → Reason
test_as t = compared_as t.test t.held t.compares

-- the last test, or r where none was made
abbrev pub last_or : Reason → Option walk.Reason → Reason
last_or r none = r
last_or r (some t) = test_as t

-- the first refusal with its step, or r
abbrev pub refused_or : Option Refusal → Reason → Reason
refused_or o r = ended_by Refused o r

-- r where the path has neither a refusal nor a test
unfoldable pub reason_from : {A : Type 0} → Reason → Walk A → Reason
reason_from r w = refused_or (first (path w)) (last_or r (last (path w)))

-- of a law that makes a test on every path: there `untold` is never met
abbrev pub untold : Reason
untold = Refused 0 0

abbrev pub last_as : Option walk.Reason → Reason
last_as o = last_or untold o

unfoldable pub reason_of : Walk Change → Reason
reason_of w = refused_or (first (path w)) (last_as (last (path w)))
