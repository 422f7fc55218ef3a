-- Relates the results of calls that parse parts of a table to the definitions in `Table`.
use Rattle.std.specs.Prelude.{◌≡◌, ℕ, Option, None, Some, Result, Ok, Err, ⊤}
use Rattle.psi_base.specs.declared.event.Fault.{Fault}
use Rattle.psi_base.specs.declared.event.Fault.TheVariants.{Refused, NoMemory}
use Rattle.convert_table.specs.declared.fault.TableCause.{TableCause}
use Rattle.convert_table.specs.declared.fault.TableFault.{TableFault}
use Rattle.convert_table.specs.Table.{table_fault}

-- `GivesSome result read`: `result`, the result of a call that parses a part of a table, agrees
-- with the specified result `read`. Both are the same value, or the call failed and `read` is
-- `None`. If memory ran out, nothing is known.
abbrev pub GivesSome : {A E : Type 0} → Result A (Fault E) → Option A → Type 0
GivesSome (Ok x) read = read ≡ Some x
GivesSome (Err (Refused why)) read = read ≡ None
GivesSome (Err (NoMemory _)) read = ⊤

-- The error `why` in line number `line` (from 1), wrapped in `Fault` as calls return it.
abbrev pub refused_at : ℕ → TableCause → Fault TableFault
refused_at line why = Refused (table_fault line why)
