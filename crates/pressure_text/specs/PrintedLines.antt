-- Defines which bytes are a pressure file, and which numbers the file has. States that writing and
-- then parsing a file returns the same numbers.
use Rattle.std.specs.Prelude.{◌≡◌, ℕ, ◌/◌, ◌^◌, ◌<◌, List, [], ◌∷◌, ◌++◌, All}
use Rattle.std.specs.Prelude.{slice_index, slice_index_or, ◌&&◌, Bool, if◌then◌else◌}
use Rattle.psi_base.specs.declared.event.Res.{Res}
use Rattle.psi_base.specs.declared.event.Level.{Level}
use Rattle.psi_base.specs.declared.event.Level.TheVariants.{SomeStalled, FullStalled}
use Rattle.psi_spec.specs.Stall.{state_number}
use Rattle.pressure_spec.specs.Within.{IsRow}
use Rattle.pressure_spec.specs.File.{file_text, irq_text, is_cpu}
use Rattle.pressure_spec.specs.Printed.{CanShow, in_hundredths, known_line}
use Rattle.pressure_spec.specs.Samples.{state_of}
use Rattle.pressure_text.specs.declared.read.PressureLine.{PressureLine}
use Rattle.pressure_text.specs.declared.read.PressureFile.{PressureFile}

-- The bytes of the line with this level and these numbers.
abbrev pub spelled_line : Level → PressureLine → List ℕ
spelled_line level line = known_line level line.hundredths line.total_us

-- The numbers of the line are in range: the averages are at most 100.00 percent, and the total (us)
-- is below 2^64.
abbrev pub IsTellable : PressureLine → Type 0
IsTellable line = CanShow line.hundredths line.total_us

-- `Shows bytes file`: `bytes` are the pressure file with the numbers in `file`: the `some` line,
-- the `full` line, and no further bytes.
pub record Shows (bytes : List ℕ) (file : PressureFile) : Type 0 where
  pub some_line : IsTellable file.some_line
  pub full_line : IsTellable file.full_line
  pub spelled : bytes ≡ spelled_line SomeStalled file.some_line ++ spelled_line FullStalled file.full_line

-- `ShowsIrq bytes line`: `bytes` are the pressure file of interrupts with the numbers in `line`:
-- the `full` line and no further bytes.
pub record ShowsIrq (bytes : List ℕ) (line : PressureLine) : Type 0 where
  pub full_line : IsTellable line
  pub spelled : bytes ≡ spelled_line FullStalled line

-- Converts three fixed-point averages to hundredths of a percent.
abbrev pub three_hundredths : List ℕ → List ℕ
three_hundredths averages =
    in_hundredths (slice_index averages 0) ∷ in_hundredths (slice_index averages 1)
    ∷ in_hundredths (slice_index averages 2) ∷ []

-- The numbers of the line for three fixed-point averages and a total (ns). The averages are
-- converted to hundredths of a percent, and the total to whole microseconds.
abbrev pub numbers_known : List ℕ → ℕ → PressureLine
numbers_known averages total = record { hundredths = three_hundredths averages; total_us = total / 1000 }

-- The numbers of the line of a resource at a level. `totals` (ns) and `averages` are ordered by
-- state.
abbrev pub known_by_line : Res → Level → List ℕ → List (List ℕ) → PressureLine
known_by_line res level totals averages =
    numbers_known (slice_index_or averages (state_number (state_of res level)) [])
    (slice_index totals (state_number (state_of res level)))

-- The numbers of the pressure file of a resource. At the root, the numbers of the `full` line of
-- CPU are zeros.
abbrev pub known_file : Res → Bool → List ℕ → List (List ℕ) → PressureFile
known_file res is_root totals averages = record {
  some_line = known_by_line res SomeStalled totals averages;
  full_line = if is_root && is_cpu res then numbers_known [] 0 else known_by_line res FullStalled totals averages;
}

-- Round trip. Totals (ns) must be below 2^64, and averages at most 100 percent. Then the written
-- pressure file has the totals in whole microseconds, and the averages in hundredths of a percent.
abbrev pub ReadsAgain : Type 0
ReadsAgain = (res : Res) (is_root : Bool) (totals : List ℕ) (averages : List (List ℕ)) →
    All (λ total. total < 2 ^ 64) totals → All (λ row. IsRow row) averages →
    Shows (file_text res is_root totals averages) (known_file res is_root totals averages)

-- Round trip for the pressure file of interrupts. The total (ns) must be below 2^64, and the
-- averages at most 100 percent. Then the written file has the total in whole microseconds, and the
-- averages in hundredths of a percent.
abbrev pub IrqReadsAgain : Type 0
IrqReadsAgain = (averages : List ℕ) (total : ℕ) → total < 2 ^ 64 → IsRow averages →
    ShowsIrq (irq_text averages total) (numbers_known averages total)
