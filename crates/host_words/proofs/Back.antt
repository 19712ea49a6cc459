-- What a host reads at the named places is what was told: an exchange of two words in the calls and their definitions alike is refused here. Assumes nothing.
use mathlib.Core.Path.{◌≡◌, refl}
use mathlib.Core.List.{List, [], ◌∷◌}
use Prim.Native.Nat.{ℕ}
use Rattle.particles.specs.declared.list.Counts.{Counts}
use Rattle.particles.specs.declared.failure.FailureCounts.{FailureCounts}
use Rattle.sheet.specs.declared.Header.{Header}
use Rattle.sheet_run.specs.declared.Ran.{Ran}
use Rattle.report.specs.declared.Report.{Report}
use Rattle.parts.specs.declared.Told.{Told}
use Rattle.parts_words.specs.Calls.{progress_of}
use Rattle.host_passes.specs.Passes.{counts_of, failure_counts_of}
use Rattle.host_sheets.specs.Sheets.{header_room, ran_counts}
use Rattle.host_sheets.specs.Reports.{report_words, report_at}
use Rattle.host_words.specs.Places.{counts_read, failure_counts_read, ran_read, header_read, report_read, complete_read, said_read}

pub counts_back : (c : Counts) → counts_read (counts_of c) ≡ c
counts_back c = refl

pub failure_counts_back : (c : FailureCounts) → failure_counts_read (failure_counts_of c) ≡ c
failure_counts_back c = refl

module _ (room : List ℕ) where
  abbrev ran : ℕ → Counts → Ran
  ran n c = record { refusal = 0; particles = n; counts = c }

  pub ran_back : (n : ℕ) (c : Counts) → ran_read (ran_counts (ran n c) room) ≡ ran n c
  ran_back n c = refl

  abbrev header : ℕ → List ℕ → ℕ → ℕ → Header
  header m p n k = record { refusal = 0; model = m; parameters = p; count = n; at = k }

  -- the code's headers have eight parameters
  pub header_back :
      (m n k a b c d e f g h : ℕ) →
      let p = a ∷ b ∷ c ∷ d ∷ e ∷ f ∷ g ∷ h ∷ [] in
      header_read (header_room (header m p n k) room) ≡ header m p n k
  header_back m n k a b c d e f g h = refl

pub report_back : (r : Report) → report_read (report_words r) ≡ r
report_back r = refl

-- two reports that are put together are read likewise
pub report_read_lem : (l : List ℕ) → report_at l ≡ report_read l
report_read_lem l = refl

pub complete_back : (t : Told) → complete_read (progress_of t) ≡ t.complete
complete_back t = refl

pub said_back : (t : Told) → said_read (progress_of t) ≡ t.arrival.header.count
said_back t = refl
