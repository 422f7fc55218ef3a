-- The text of a group's pressure files io.pressure, memory.pressure, cpu.pressure and irq.pressure,
-- as in the kernel's Documentation/accounting/psi.rst.
use Rattle.std.specs.Prelude.{ℕ, ◌+◌, ◌*◌, ◌/◌, ◌%◌, List, [], ◌++◌, slice_index, slice_index_or, codes, decimal, ◌&&◌, Bool, true, false, if◌then◌else◌}
use Rattle.psi_base.specs.declared.event.Res.{Res}
use Rattle.psi_base.specs.declared.event.Res.TheVariants.{Io, Memory, Cpu}
use Rattle.psi_base.specs.declared.event.Level.{Level}
use Rattle.psi_base.specs.declared.event.Level.TheVariants.{SomeStalled, FullStalled}
use Rattle.psi_spec.specs.Fields.{level_word}
use Rattle.psi_spec.specs.Stall.{state_number}
use Rattle.pressure_spec.specs.Samples.{state_of}

-- The text of a number below 100 as two decimal digits.
abbrev pub two_digits : ℕ → List ℕ
two_digits n = decimal (n / 10) ++ decimal (n % 10)

-- The fractional part of an average (2,048 is 1 percent) in hundredths of a percent, rounded down.
abbrev pub hundredths : ℕ → ℕ
hundredths average = (average % 2048) * 100 / 2048

-- The text of an average in percent with two decimals, as the kernel's LOAD_INT and LOAD_FRAC print
-- it.
abbrev pub percent_text : ℕ → List ℕ
percent_text average = decimal (average / 2048) ++ codes "." ++ two_digits (hundredths average)

-- A line of a pressure file: the averages over 10, 60 and 300 s in percent, and the total in whole
-- microseconds. The argument `total` is in ns.
abbrev pub file_line : Level → List ℕ → ℕ → List ℕ
file_line level averages total =
    level_word level ++ codes " avg10=" ++ percent_text (slice_index averages 0)
    ++ codes " avg60=" ++ percent_text (slice_index averages 1)
    ++ codes " avg300=" ++ percent_text (slice_index averages 2)
    ++ codes " total=" ++ decimal (total / 1000) ++ codes "\n"

-- `state_line res level totals averages`: the line of the resource `res` at level `some` or `full`.
-- `totals` and `averages` have the totals (ns) and averages of all pressure quantities.
abbrev pub state_line : Res → Level → List ℕ → List (List ℕ) → List ℕ
state_line res level totals averages =
    file_line level (slice_index_or averages (state_number (state_of res level)) [])
    (slice_index totals (state_number (state_of res level)))

-- Whether the resource is CPU.
abbrev pub is_cpu : Res → Bool
is_cpu Io = false
is_cpu Memory = false
is_cpu Cpu = true

-- `full_line res is_root totals averages`: the `full` line of the resource `res`, from the totals
-- (ns) and averages of all pressure quantities. For the CPU of the root group, all numbers are
-- zero, as in the kernel.
abbrev pub full_line : Res → Bool → List ℕ → List (List ℕ) → List ℕ
full_line res is_root totals averages =
    if is_root && is_cpu res then file_line FullStalled [] 0 else state_line res FullStalled totals averages

-- `file_text res is_root totals averages`: the text of the pressure file of the resource `res`: the
-- `some` line and the `full` line. `is_root` is whether the group is the root. `totals` and
-- `averages` have the totals (ns) and averages of all pressure quantities.
unfoldable pub file_text : Res → Bool → List ℕ → List (List ℕ) → List ℕ
file_text res is_root totals averages = state_line res SomeStalled totals averages ++ full_line res is_root totals averages

-- `irq_text averages total`: the text of irq.pressure, with the averages and the total (ns) of
-- interrupt time. The file has only the `full` line, because no task runs on a processor during an
-- interrupt.
abbrev pub irq_text : List ℕ → ℕ → List ℕ
irq_text averages total = file_line FullStalled averages total
