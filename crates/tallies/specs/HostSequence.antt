-- Calls one after another on tallies that a host keeps as words, by what the public calls promise of each (RULES, section 7).
use Rattle.std.specs.Prelude.{◌≡◌, Bool, cond, List, [], ◌∷◌, ℕ, ◌<◌}
use Rattle.particles.specs.Step.{step_law}
use Rattle.tallies.specs.Zones.{listed}
use Rattle.tallies.specs.Words.{zones_of, tally_at, all_tallies, cleared, cleared_words, moved, moved_zones, moved_words, passed, passed_words}
use Rattle.tallies.specs.Sequence.{Call, clear, move, pass, Kept, Event, log, Counted}

pub record KeptWords : Type 0 where
  pub zones : List ℕ
  pub words : List ℕ

-- the tallies that the words are
abbrev pub kept_of : KeptWords → Kept
kept_of k = record { zones = k.zones; tallies = all_tallies k.words }

-- 0, or the number that refuses a call
abbrev pub answer_of : Call → KeptWords → ℕ
answer_of (clear n) k = cleared n k.zones k.words
answer_of (move n p z) k = moved n p z k.zones k.words
answer_of (pass s xs out) k = passed xs out k.zones k.words

-- zones and words after a call, refused or not
abbrev pub after_words : Call → KeptWords → KeptWords
after_words (clear n) k = record { zones = k.zones; words = cleared_words n k.zones k.words }
after_words (move n p z) k = record { zones = moved_zones n p z k.zones k.words; words = moved_words n p z k.zones k.words }
after_words (pass s xs out) k = record { zones = k.zones; words = passed_words (step_law s) xs out k.zones k.words }

unfoldable pub after_all_words : List Call → KeptWords → KeptWords
after_all_words [] k = k
after_all_words (c ∷ cs) k = after_all_words cs (after_words c k)

unfoldable pub log_all_words : List Call → KeptWords → List Event → List Event
log_all_words [] k es = es
log_all_words (c ∷ cs) k es = log_all_words cs (after_words c k) (log c (kept_of k) es)

-- each zone's words: the four so far, and the first
abbrev pub AllCountedWords : List ℕ → List Event → Type 0
AllCountedWords ws es = (z : ℕ) → z < zones_of ws → Counted (tally_at ws z) z es

abbrev pub AllNowWords : List ℕ → List ℕ → Type 0
AllNowWords zones ws = (z : ℕ) → z < zones_of ws → (tally_at ws z).particles ≡ listed zones z

-- a call that a host asks for, and whether it gets so far: a host's own 8 and 6 come before it, and change nothing
pub record Asked : Type 0 where
  pub goes : KeptWords → Bool
  pub call : Call

abbrev pub after_asked : Asked → KeptWords → KeptWords
after_asked a k = cond (a.goes k) (after_words a.call k) k

unfoldable pub after_all_asked : List Asked → KeptWords → KeptWords
after_all_asked [] k = k
after_all_asked (a ∷ rest) k = after_all_asked rest (after_asked a k)

-- those that get so far
unfoldable pub going : List Asked → KeptWords → List Call
going [] k = []
going (a ∷ rest) k = cond (a.goes k) (a.call ∷ going rest (after_asked a k)) (going rest (after_asked a k))
