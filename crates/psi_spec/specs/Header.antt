-- Converts the version number in a header to a version of the trace format.
use Rattle.std.specs.Prelude.{◌≡◌, ◌⊎◌, ℕ, ◌==◌, if◌then◌else◌}
use Rattle.psi_spec.specs.Grammar.{Version, One, Two, Header}

-- `number` is the number of a version of the trace format.
abbrev pub IsVersion : ℕ → Type 0
IsVersion number = (number ≡ 1) ⊎ (number ≡ 2)

-- The version of the trace format with this number, or version 1 for any other number.
abbrev pub version_of : ℕ → Version
version_of number = if number == 2 then Two else One

-- The header with this version number and number of processors.
abbrev pub header_with : ℕ → ℕ → Header
header_with number cpus = record { version = version_of number; cpus = cpus }
