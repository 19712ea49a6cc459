-- What inner calls name: a pass's answer before its counts are written.
use Rattle.std.specs.Prelude.{List, ℕ}
use Rattle.particles.specs.declared.list.Passed.{Passed}
use Rattle.particles.specs.declared.list.Passed.TheVariants.{Done, Refused}
use Rattle.particles.specs.declared.failure.PassedWithFailure.{PassedWithFailure}
use Rattle.particles.specs.declared.failure.PassedWithFailure.TheVariants as failure
use Rattle.host_passes.specs.Passes.{counts_of, failure_counts_of}

abbrev pub passed_code : Passed → ℕ
passed_code (Done c) = 0
passed_code (Refused n) = n

abbrev pub passed_counts : Passed → List ℕ → List ℕ
passed_counts (Done c) counts = counts_of c
passed_counts (Refused n) counts = counts

abbrev pub failure_code : PassedWithFailure → ℕ
failure_code (failure.Done c) = 0
failure_code (failure.Refused n) = n

abbrev pub failure_counts : PassedWithFailure → List ℕ → List ℕ
failure_counts (failure.Done c) counts = failure_counts_of c
failure_counts (failure.Refused n) counts = counts
