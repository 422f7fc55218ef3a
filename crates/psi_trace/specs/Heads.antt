-- Defines the start of a header line: all bytes up to the number of processors. A header is the
-- first line of a trace.
use Rattle.std.specs.Prelude.{ℕ, List, ◌++◌, codes, decimal}

-- Returns the bytes before the number of processors, in a header of this version.
abbrev pub before_cpus : ℕ → List ℕ
before_cpus version = codes "psitrace " ++ decimal version ++ codes " cpus="
