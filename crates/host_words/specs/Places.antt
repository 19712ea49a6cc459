-- What a host reads in the lists that calls write: each number by the name of its place, as docs/RULES.md and the header have them.
use Rattle.std.specs.Prelude.{List, ℕ, ◌+◌, get_or, take, drop}
use Rattle.particles.specs.declared.list.Counts.{Counts}
use Rattle.particles.specs.declared.failure.FailureCounts.{FailureCounts}
use Rattle.sheet.specs.declared.Header.{Header}
use Rattle.sheet_run.specs.declared.Ran.{Ran}
use Rattle.report.specs.declared.column.Column.{Column}
use Rattle.report.specs.declared.Report.{Report}

-- ---- the counts of a pass, and of a pass with failure: untouched, stored, refused, failed
abbrev pub counts_read : List ℕ → Counts
counts_read l =
    let place_untouched : ℕ = 0 in
    let place_stored : ℕ = 1 in
    let place_refused : ℕ = 2 in
    record { untouched = get_or l place_untouched 0; stored = get_or l place_stored 0; refused = get_or l place_refused 0 }

abbrev pub failure_counts_read : List ℕ → FailureCounts
failure_counts_read l =
    let place_untouched : ℕ = 0 in
    let place_stored : ℕ = 1 in
    let place_refused : ℕ = 2 in
    let place_failed : ℕ = 3 in
    record {
      untouched = get_or l place_untouched 0;
      stored = get_or l place_stored 0;
      refused = get_or l place_refused 0;
      failed = get_or l place_failed 0;
    }

-- ---- the counts of a sheet's run: particles, untouched, stored, refused
abbrev pub ran_read : List ℕ → Ran
ran_read l =
    let place_particles : ℕ = 0 in
    let place_untouched : ℕ = 1 in
    let place_stored : ℕ = 2 in
    let place_refused : ℕ = 3 in
    record {
      refusal = 0;
      particles = get_or l place_particles 0;
      counts = record { untouched = get_or l place_untouched 0; stored = get_or l place_stored 0; refused = get_or l place_refused 0 };
    }

-- ---- a sheet's header: model, eight parameters, how many particles, where the first stands
abbrev pub header_read : List ℕ → Header
header_read l =
    let place_model : ℕ = 0 in
    let place_parameters : ℕ = 1 in
    let place_count : ℕ = 9 in
    let place_first : ℕ = 10 in
    record {
      refusal = 0;
      model = get_or l place_model 0;
      parameters = take 8 (drop place_parameters l);
      count = get_or l place_count 0;
      at = get_or l place_first 0;
    }

-- ---- a report: plastic hardening, elastic hardening, plastic determinant, six numbers each
abbrev pub column_read : List ℕ → ℕ → Column
column_read l at =
    let place_count : ℕ = 0 in
    let place_least : ℕ = 1 in
    let place_greatest : ℕ = 2 in
    let place_total : ℕ = 3 in
    let place_outside : ℕ = 4 in
    let place_not_finite : ℕ = 5 in
    record {
      count = get_or l (at + place_count) 0;
      least = get_or l (at + place_least) 0;
      greatest = get_or l (at + place_greatest) 0;
      total = get_or l (at + place_total) 0;
      outside = get_or l (at + place_outside) 0;
      not_finite = get_or l (at + place_not_finite) 0;
    }

abbrev pub report_read : List ℕ → Report
report_read l =
    let place_plastic_hardening : ℕ = 0 in
    let place_elastic_hardening : ℕ = 6 in
    let place_plastic_determinant : ℕ = 12 in
    record {
      plastic_hardening = column_read l place_plastic_hardening;
      elastic_hardening = column_read l place_elastic_hardening;
      plastic_determinant = column_read l place_plastic_determinant;
    }

-- ---- the progress of a sheet in parts: records complete, and records that the sheet says it has
abbrev pub complete_read : List ℕ → ℕ
complete_read l = get_or l 0 0

abbrev pub said_read : List ℕ → ℕ
said_read l = get_or l 1 0
